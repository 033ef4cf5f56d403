-- What several pieces in turn come to: the texts of one answer are those of the pieces, one after the other.
use Rattle.std.proofs.Common.{refl, [], ◌≡◌, ℕ, ◌≤◌, ◌++◌, Option, Some, None, Result, Ok, Err, sym, ap, ◌∙◌, inl, inr, arith, append_assoc, append-nil}
use Rattle.std.specs.Result.{IsErrAnd}
use Rattle.std.proofs.lemmas.Result.{err_from_is_err_and}
use Rattle.lab_io.specs.declared.PutErr.{PutErr}
use Rattle.lab_io.specs.declared.PutErr.TheVariants as put
use Rattle.lab_io.specs.Sink.{Text, Seen, Puts, Grew, GrewPart, Rose, Answered}

grew_more : (x y z : Option Text) (t s : Text) → Grew x t y → Grew y s z → Grew x (t ++ s) z
grew_more None y z t s p q = rw p at q
grew_more (Some w) y z t s p q = rw p at q ∙ ap Some (append_assoc w t s)

part_more : (x y z : Option Text) (t s : Text) → Grew x t y → GrewPart y s z → GrewPart x (t ++ s) z
part_more x y z t s p q = (t ++ q.0, q.1, rw q.2 (sym (append_assoc t q.0 q.1)), grew_more x y z t q.0 p q.3)

part_cut : (x z : Option Text) (t s : Text) → GrewPart x t z → GrewPart x (t ++ s) z
part_cut x z t s q = (q.0, q.1 ++ s, ap (λ v. v ++ s) q.2 ∙ append_assoc q.0 q.1 s, q.3)

rose_later : (a b c : ℕ) → a ≤ b → Rose b c → Rose a c
rose_later a b c h (inl x) = inl (omega arith)
rose_later a b c h (inr x) = inr x

answered_more : (a b c : Seen) (t s : Text) (r : Result (Unit {0}) PutErr) → a.faults ≤ b.faults → a.wants ≤ b.wants → Grew a.written t b.written → Answered b s c r → Answered a (t ++ s) c r
answered_more a b c t s (Ok u) f w p q = grew_more a.written b.written c.written t s p q
answered_more a b c t s (Err put.Failed) f w p q = (part_more a.written b.written c.written t s p q.0, rose_later a.faults b.faults c.faults f q.1)
answered_more a b c t s (Err put.Memory) f w p q = (part_more a.written b.written c.written t s p q.0, rose_later a.wants b.wants c.wants w q.1)

answered_cut : (a b : Seen) (t s : Text) (e : PutErr) → Answered a t b (Err e) → Answered a (t ++ s) b (Err e)
answered_cut a b t s put.Failed q = (part_cut a.written b.written t s q.0, q.1)
answered_cut a b t s put.Memory q = (part_cut a.written b.written t s q.0, q.1)

-- a text that went out, and what the next one did
pub puts_more : (a b c : Seen) (t s : Text) (r q : Result (Unit {0}) PutErr) (u : Unit {0}) → r ≡ Ok u → Puts a t b r → Puts b s c q → Puts a (t ++ s) c q
puts_more a b c t s r q u e x y =
    let xx = rw e at x in
    record { faults = omega arith; wants = omega arith; sure = y.sure ∙ x.sure; steady = λ h. y.steady (x.sure ∙ h) ∙ x.steady h; answered = answered_more a b c t s q x.faults x.wants xx.answered y.answered }

-- a text that failed, where more was to come
pub puts_cut : (a b : Seen) (t s : Text) (r q : Result (Unit {0}) PutErr) (e : PutErr) → r ≡ Err e → q ≡ Err e → Puts a t b r → Puts a (t ++ s) b q
puts_cut a b t s r q e h k x =
    let xx = rw h at x in
    record { faults = x.faults; wants = x.wants; sure = x.sure; steady = x.steady; answered = rw k (answered_cut a b t s e xx.answered) }

-- the same, of an answer that is known by what it holds, as at the exit of a `?`
pub puts_failed : (a b : Seen) (t s : Text) (r q : Result (Unit {0}) PutErr) (e : PutErr) → r ≡ Err e → IsErrAnd q (λ y. y ≡ e) → Puts a t b r → Puts a (t ++ s) b q
puts_failed a b t s r q e h k x = let p = err_from_is_err_and q k in puts_cut a b t s r q e h (p.1 ∙ ap Err p.2) x

same_written : (x : Option Text) → Grew x [] x
same_written None = refl
same_written (Some w) = ap Some (sym (append-nil w))

-- nothing was put
pub puts_none : (a : Seen) (q : Result (Unit {0}) PutErr) → q ≡ Ok tt → Puts a [] a q
puts_none a q e = record { faults = omega arith; wants = omega arith; sure = refl; steady = λ h. refl; answered = rw e (same_written a.written) }

-- the same text in another form
pub puts_as : (a b : Seen) (t s : Text) (r : Result (Unit {0}) PutErr) → t ≡ s → Puts a t b r → Puts a s b r
puts_as a b t s r e x = rw e at x
