-- What rows come to that are written one after the other, where memory may be wanting at any of them.
use Rattle.std.proofs.Common.{◌≡◌, ℕ, ◌+◌, ◌-◌, ◌^◌, ◌<◌, ◌≤◌, ◌++◌, [], List, length, get_or, map, drop, Result, Ok, Err, refl, arith, inr, add-one, drop-cons}
use Rattle.std.specs.List.{flat_map}
use Rattle.std.specs.Result.{IsErrAnd}
use Rattle.std.proofs.lemmas.List.{drop_all}
use Rattle.lab_io.specs.declared.PutErr.{PutErr}
use Rattle.lab_io.specs.declared.PutErr.TheVariants as put
use Rattle.lab_io.specs.Sink.{Text, Seen, Puts}
use Rattle.lab_io.proofs.Puts.{puts_failed, puts_more, puts_none}
use Rattle.abrlab_top.specs.declared.ending.Ending.TheVariants as ending
use Rattle.abrlab_top.specs.Answer.{Outcome, printed}
use Rattle.abrlab_top.specs.Ending.{after_put}
use Rattle.abrlab_top.specs.Stages.{Writes, WritesRows, row_by_row}

-- the sink with its count of wants at its last value, from which each value has risen
blind : Seen → Seen
blind s = record { written = s.written; faults = s.faults; wants = 2 ^ 64 - 1; sure = s.sure }

-- rows are what is put, where wants do not count
as_puts : (a b : Seen) (t : Text) (r : Result (Unit {0}) PutErr) → WritesRows a t r b → Puts (blind a) t (blind b) r
unfolding blind
as_puts a b t (Ok done) h = record { faults = h.faults; wants = omega arith; sure = h.sure; steady = h.steady; answered = h.written }
as_puts a b t (Err put.Failed) h = record { faults = h.faults; wants = omega arith; sure = h.sure; steady = h.steady; answered = h.written }
as_puts a b t (Err put.Memory) h = record { faults = h.faults; wants = omega arith; sure = h.sure; steady = h.steady; answered = (h.written, inr refl) }

from_puts : (a b : Seen) (t : Text) (r : Result (Unit {0}) PutErr) → Puts (blind a) t (blind b) r → WritesRows a t r b
unfolding blind
from_puts a b t (Ok done) h = record { faults = h.faults; sure = h.sure; steady = h.steady; written = h.answered }
from_puts a b t (Err put.Failed) h = record { faults = h.faults; sure = h.sure; steady = h.steady; written = h.answered }
from_puts a b t (Err put.Memory) h = record { faults = h.faults; sure = h.sure; steady = h.steady; written = h.answered.0 }

-- what was put is a row
pub rows_put : (a b : Seen) (t : Text) (r : Result (Unit {0}) PutErr) → Puts a t b r → WritesRows a t r b
rows_put a b t (Ok done) h = record { faults = h.faults; sure = h.sure; steady = h.steady; written = h.answered }
rows_put a b t (Err put.Failed) h = record { faults = h.faults; sure = h.sure; steady = h.steady; written = h.answered }
rows_put a b t (Err put.Memory) h = record { faults = h.faults; sure = h.sure; steady = h.steady; written = h.answered.0 }

-- rows that went out, and what the next ones did
pub rows_more : (a b c : Seen) (t s : Text) (r q : Result (Unit {0}) PutErr) (u : Unit {0}) → r ≡ Ok u → WritesRows a t r b → WritesRows b s q c → WritesRows a (t ++ s) q c
rows_more a b c t s r q u e x y = from_puts a c (t ++ s) q (puts_more (blind a) (blind b) (blind c) t s r q u e (as_puts a b t r x) (as_puts b c s q y))

-- rows that failed, where more were to come: at the exit of a `?`
pub rows_failed : (a b : Seen) (t s : Text) (r q : Result (Unit {0}) PutErr) (e : PutErr) → r ≡ Err e → IsErrAnd q (λ y. y ≡ e) → WritesRows a t r b → WritesRows a (t ++ s) q b
rows_failed a b t s r q e h k x = from_puts a b (t ++ s) q (puts_failed (blind a) (blind b) t s r q e h k (as_puts a b t r x))

-- no row was to be written
pub rows_none : (a : Seen) (q : Result (Unit {0}) PutErr) → q ≡ Ok tt → WritesRows a [] q a
rows_none a q e = rows_put a a [] q (puts_none a q e)

-- memory was wanting before a row
pub rows_wanting : (a : Seen) (t : Text) (q : Result (Unit {0}) PutErr) → q ≡ Err put.Memory → WritesRows a t q a
rows_wanting a t q e =
    let none = puts_none a (Ok tt) refl in
    rw e (record { faults = omega arith; sure = refl; steady = λ h. refl; written = ([], t, refl, none.answered) })

-- the same rows in another form
pub rows_as : (a b : Seen) (t s : Text) (r : Result (Unit {0}) PutErr) → t ≡ s → WritesRows a t r b → WritesRows a s r b
rows_as a b t s r e x = rw e at x

-- the row of an element, and those behind it
pub rows_from : {A B : Type 0} (f : B → Text) (seen : A → B) (xs : List A) (i : ℕ) (x : A) → i < length xs → x ≡ get_or xs i x
    → flat_map f (map seen (drop i xs)) ≡ f (seen x) ++ flat_map f (map seen (drop (i + 1) xs))
rows_from f seen xs i x lt e = rw (add-one, drop-cons xs i x, ← e) refl

-- behind the last element there is no row
pub rows_end : {A B : Type 0} (f : B → Text) (seen : A → B) (xs : List A) (i : ℕ) → length xs ≤ i → flat_map f (map seen (drop i xs)) ≡ []
rows_end f seen xs i h = rw (drop_all i xs h) refl

-- all rows were written
pub rows_done : (meant : Outcome) (text : Text) (old new : Seen) (r : Result (Unit {0}) PutErr) (u : Unit {0}) → meant ≡ Ok (printed text) → r ≡ Ok u → WritesRows old text r new → Writes row_by_row meant old ending.Done new
rows_done meant text old new r u e k h = let x : WritesRows old text (Ok u) new = rw k at h in (printed text, e, (refl, x.written))

-- they were not
pub rows_ended : (meant : Outcome) (text : Text) (old new : Seen) (r : Result (Unit {0}) PutErr) (e : PutErr) → meant ≡ Ok (printed text) → r ≡ Err e → WritesRows old text r new → Writes row_by_row meant old (after_put e) new
rows_ended meant text old new r put.Failed is k h = let x : WritesRows old text (Err put.Failed) new = rw k at h in (record { rose = x.written.1; steady = x.steady }, (printed text, is, (tt, x.written.0)))
rows_ended meant text old new r put.Memory is k h = let x : WritesRows old text (Err put.Memory) new = rw k at h in (λ n. cc, rw is x.written)
