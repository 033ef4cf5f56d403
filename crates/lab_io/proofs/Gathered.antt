-- What several pieces that are put into a batch in turn come to.
use Rattle.std.proofs.Common.{◌≡◌, ◌∙◌, [], ◌++◌, Result, Ok, Err, refl, sym, ap, append_assoc, append-nil}
use Rattle.std.specs.Result.{IsErrAnd}
use Rattle.std.proofs.lemmas.Result.{err_from_is_err_and}
use Rattle.lab_io.specs.declared.PutErr.{PutErr}
use Rattle.lab_io.specs.Sink.{Text, Seen, Puts}
use Rattle.lab_io.specs.Batch.{Gathers, Waited}
use Rattle.lab_io.proofs.Puts.{puts_as, puts_cut, puts_more, puts_none}

-- what waited, a text and the next: as they were before and as they are then
seam : (waiting t gone left s : Text) → waiting ++ t ≡ gone ++ left → waiting ++ (t ++ s) ≡ gone ++ (left ++ s)
seam waiting t gone left s e = sym (append_assoc waiting t s) ∙ (ap (λ (v : Text). v ++ s) e ∙ append_assoc gone left s)

waited_more : (a b c : Seen) (before between after t s : Text) (q : Result (Unit {0}) PutErr) (u : Unit {0})
    → Waited a before t b between (Ok u) → Waited b between s c after q → Waited a before (t ++ s) c after q
waited_more a b c before between after t s (Ok v) u x y =
    (x.0 ++ y.0, seam before t x.0 between s x.1 ∙ (ap (λ (w : Text). x.0 ++ w) y.1 ∙ sym (append_assoc x.0 y.0 after)), puts_more a b c x.0 y.0 _ (Ok v) _ refl x.2 y.2)
waited_more a b c before between after t s (Err why) u x y =
    puts_as a c _ _ (Err why) (sym (seam before t x.0 between s x.1)) (puts_more a b c x.0 (between ++ s) _ (Err why) _ refl x.2 y)

-- a text that was put, and what the next one did
pub gathers_more : (a b c : Seen) (before between after t s : Text) (r q : Result (Unit {0}) PutErr) (u : Unit {0}) → r ≡ Ok u
    → Gathers a before t b between r → Gathers b between s c after q → Gathers a before (t ++ s) c after q
gathers_more a b c before between after t s r q u e x y = let xx = rw e at x in record { waited = waited_more a b c before between after t s q u xx.waited y.waited }

-- a text that failed, where more was to come
pub gathers_failed : (a b : Seen) (before between after t s : Text) (r q : Result (Unit {0}) PutErr) (e : PutErr) → r ≡ Err e → IsErrAnd q (λ y. y ≡ e)
    → Gathers a before t b between r → Gathers a before (t ++ s) b after q
gathers_failed a b before between after t s r q e h k x =
    let xx = rw h at x in
    let p = err_from_is_err_and q k in
    rw p.1 (record { waited = puts_as a b ((before ++ t) ++ s) (before ++ (t ++ s)) _ (append_assoc before t s) (puts_cut a b (before ++ t) s (Err e) _ e refl (ap Err p.2) xx.waited) })

-- nothing was put
pub gathers_none : (a : Seen) (before : Text) (q : Result (Unit {0}) PutErr) → q ≡ Ok tt → Gathers a before [] a before q
gathers_none a before q e = rw e (record { waited = ([], append-nil before, puts_none a (Ok tt) refl) })

-- the same text in another form
pub gathers_as : (a b : Seen) (before after t s : Text) (r : Result (Unit {0}) PutErr) → t ≡ s → Gathers a before t b after r → Gathers a before s b after r
gathers_as a b before after t s r e x = rw e at x

-- a text that was put into a batch in which nothing waited, and then what still waits
pub gathers_all : (a b c : Seen) (t left : Text) (r q : Result (Unit {0}) PutErr) (u : Unit {0}) → r ≡ Ok u → Gathers a [] t b left r → Puts b left c q → Puts a t c q
gathers_all a b c t left r q u e x y =
    let xx = rw e at x in
    puts_as a c _ t q (sym xx.waited.1) (puts_more a b c xx.waited.0 left _ q _ refl xx.waited.2 y)

-- a text that failed so
pub gathers_nothing_more : (a b : Seen) (t left : Text) (r q : Result (Unit {0}) PutErr) (e : PutErr) → r ≡ Err e → IsErrAnd q (λ y. y ≡ e) → Gathers a [] t b left r → Puts a t b q
gathers_nothing_more a b t left r q e h k x =
    let xx = rw h at x in
    let p = err_from_is_err_and q k in
    rw (p.1, p.2) xx.waited

-- what waited failed to go out
pub gathers_stopped : (a b : Seen) (before after t : Text) (r q : Result (Unit {0}) PutErr) (e : PutErr) → r ≡ Err e → IsErrAnd q (λ y. y ≡ e) → Puts a before b r → Gathers a before t b after q
gathers_stopped a b before after t r q e h k x =
    let p = err_from_is_err_and q k in
    rw p.1 (record { waited = puts_cut a b before t r (Err p.0) e h (ap Err p.2) x })

waited_through : (a b c : Seen) (before after t : Text) (r q : Result (Unit {0}) PutErr) (u : Unit {0}) → r ≡ Ok u → after ≡ [] → Puts a before b r → Puts b t c q → Waited a before t c after q
waited_through a b c before after t r (Ok v) u e n x y = (before ++ t, rw n (sym (append-nil (before ++ t))), puts_more a b c before t r (Ok v) u e x y)
waited_through a b c before after t r (Err why) u e n x y = puts_more a b c before t r (Err why) u e x y

-- what waited went out, and then a text did, so that nothing waits
pub gathers_through : (a b c : Seen) (before after t : Text) (r q : Result (Unit {0}) PutErr) (u : Unit {0}) → r ≡ Ok u → after ≡ [] → Puts a before b r → Puts b t c q → Gathers a before t c after q
gathers_through a b c before after t r q u e n x y = record { waited = waited_through a b c before after t r q u e n x y }
