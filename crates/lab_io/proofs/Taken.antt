-- What a stream takes, write by write.
use Rattle.std.proofs.Common.{◌≡◌, ◌≤◌, ◌+◌, ◌-◌, ℕ, [], ◌++◌, subst, length, take, drop, Option, Some, None, Bool, true, false, refl, sym, ap, ◌∙◌, nat_eq, append_assoc, append-nil, arith}
use Rattle.std.proofs.Math.Seq.{take-add}
use Rattle.std.proofs.lemmas.List.{take-append-drop, take_all, length-drop}
use Rattle.std.proofs.lemmas.Bool.Decides.{nat_tests}
use Rattle.std.specs.Io.KnownBytes.{Appends, Keeps, append_known}
use Rattle.lab_io.specs.Sink.{Text}
use Rattle.lab_io.specs.Edge.{Stream, Takes, TakesAll, TakesPiece, WritesWaiting, all_taken}

-- one text and then another
pub appends_more : (a b c : Option Text) (t s : Text) → Appends a b t → Appends b c s → Appends a c (t ++ s)
appends_more None b c t s p q = tt
appends_more (Some x) None c t s p q = absurd p
appends_more (Some x) (Some y) None t s p q = absurd q
appends_more (Some x) (Some y) (Some z) t s p q = q ∙ (ap (λ v. v ++ s) p ∙ append_assoc x t s)

-- nothing more
pub appends_no_more : (a b c : Option Text) (t : Text) → Appends a b t → Keeps b c → Appends a c t
appends_no_more None b c t p q = tt
appends_no_more (Some x) None c t p q = absurd p
appends_no_more (Some x) (Some y) None t p q = absurd q
appends_no_more (Some x) (Some y) (Some z) t p q = q ∙ p

rest_is : (bytes : Text) (n : ℕ) → take (length bytes - n) (drop n bytes) ≡ drop n bytes
rest_is bytes n = take_all (length bytes - n) (drop n bytes) (omega (arith, length-drop n bytes))

-- the first bytes of a text, and then some of its rest
pub more_taken : (a b c : Option Text) (bytes : Text) (n m : ℕ) → Appends a b (take n bytes) → Appends b c (take m (take (length bytes - n) (drop n bytes))) → Appends a c (take (n + m) bytes)
more_taken a b c bytes n m p q = rw (take-add n m bytes) (appends_more a b c (take n bytes) (take m (drop n bytes)) p (rw (rest_is bytes n) at q))

-- so many bytes are no more than there are
pub within_rest : (bytes : Text) (n m : ℕ) → n ≤ length bytes → m ≤ length (take (length bytes - n) (drop n bytes)) → n + m ≤ length bytes
within_rest bytes n m h k = let l = rw (rest_is bytes n) at k in omega (arith, h, l, length-drop n bytes)

-- where nothing waits, the stream takes bytes behind all that was taken
pub behind_nothing : (a b : Option Text) (t waiting : Text) → waiting ≡ [] → Appends a b t → Appends (append_known a waiting) (append_known b waiting) t
behind_nothing None b t w e p = tt
behind_nothing (Some x) None t w e p = absurd p
behind_nothing (Some x) (Some y) t w e p = rw (e, append-nil x, append-nil y) p

whole_or_part : {W : Type 0} (contents : W → Option Text) (old new : Stream W) (piece : Text) (n : ℕ) (whole : Bool) → n ≤ length piece → nat_eq n (length piece) ≡ whole → TakesAll contents old (take n piece) new → TakesPiece contents old piece new whole
whole_or_part contents old new piece n true h e t =
    let same : length piece ≤ n = grind (arith, nat_tests) in
    rw (take_all n piece same) at t
whole_or_part contents old new piece n false h e t = (take n piece, drop n piece, sym (take-append-drop n piece), t)

-- a piece that the stream took so many bytes of, where nothing waited any more
pub through : {W : Type 0} (contents : W → Option Text) (old mid before : Stream W) (stream : W) (piece : Text) (n : ℕ) (done : Bool) → before ≡ mid → WritesWaiting contents old mid done → done ≡ true
    → n ≤ length piece → Appends (contents before.stream) (contents stream) (take n piece) → Takes contents old piece (record before { stream = stream }) (nat_eq n (length piece))
through contents old mid before stream piece n done same waits went h written =
    let w : WritesWaiting contents old before done = subst (λ s. WritesWaiting contents old s done) (sym same) waits in
    let none : before.waiting ≡ [] = w.nothing went in
    let behind = appends_more (all_taken contents old) (all_taken contents before) _ [] (take n piece) w.same (behind_nothing (contents before.stream) (contents stream) (take n piece) before.waiting none written) in
    record { taken = whole_or_part contents old (record before { stream = stream }) piece n (nat_eq n (length piece)) h refl behind; failures = w.failures }
