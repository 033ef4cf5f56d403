-- A search may begin with any score that some list passes.
use Rattle.std.proofs.Common.{◌≡◌, ◌∙◌, ℕ, zero, suc, ◌+◌, ◌<◌, ◌⊎◌, List, [], ◌∷◌, Option, Some, None, Bool, true, false, cond, refl, sym, ap, subst, arith, inl, inr}
use Rattle.std.specs.Prelude.{ℤ, ◌≤ℤ◌, ◌<ℤ◌, int_lt, fold}
use Rattle.std.specs.List.{All, Contains, flat_map}
use Rattle.std.proofs.lemmas.Int.{by_lt_z, ints}
use Rattle.std.proofs.lemmas.Grind.{fold-append}
use Rattle.std.proofs.lemmas.List.{flat_map_more}
use Rattle.std.proofs.lemmas.List.Elements.{All-head, All-tail, Contains-append_left, Contains-append_right}
use Rattle.std.proofs.lemmas.List.FromFn.{length-range_with_len, get_or-range_with_len}
use Rattle.lab_model.specs.Ladder.{rungs_below}
use Rattle.lab_model.proofs.Rungs.{rungs_more}
use Rattle.mpc_rule.specs.declared.forecast.Draft.{Draft}
use Rattle.mpc_rule.specs.Lookahead.{Lookahead, ladder_of}
use Rattle.mpc_rule.specs.Search.{best_after, better, completions, extended}
use Rattle.mpc_rule.specs.Relaxations.{IsUnder}

-- ---- the list that is kept of two

not_over : (a b : ℤ) → b ≤ℤ a → int_lt a b ≡ false
not_over a b h = grind (arith, ints)

over : (a b : ℤ) → a <ℤ b → int_lt a b ≡ true
over a b h = grind (arith, ints)

-- a list with a greater score is kept
pub beats : (best d : Draft) → best.score <ℤ d.score → better (Some best) d ≡ Some d
beats best d more = ap (λ (b : Bool). Some (cond b d best)) (over best.score d.score more)

-- one with no greater score isn't
pub stays : (best d : Draft) → d.score ≤ℤ best.score → better (Some best) d ≡ Some best
stays best d less = ap (λ (b : Bool). Some (cond b d best)) (not_over best.score d.score less)

-- lists of which none has a greater score change nothing
pub kept_under : (best : Draft) (ds : List Draft) → All (IsUnder best.score) ds → fold better (Some best) ds ≡ Some best
kept_under best [] all = refl
kept_under best (d ∷ ds) all =
    ap (λ (b : Option Draft). fold better b ds) (stays best d (All-head (IsUnder best.score) d ds all))
    ∙ kept_under best ds (All-tail (IsUnder best.score) d ds all)

-- ---- where the search begins

head_or : {X : Type 0} (x : X) (xs : List X) (d : X) → Contains (x ∷ xs) d → (x ≡ d) ⊎ Contains xs d
head_or x xs d (zero, low, e) = inl e
head_or x xs d (suc k, low, e) = inr (k, omega (arith, low), e)

-- a list that isn't over another isn't the one that is
later : (x d : Draft) (xs : List Draft) → Contains (x ∷ xs) d → x.score <ℤ d.score → Contains xs d
later x d xs is less = elim (head_or x xs d is) [ inl e ↦ absurd (let same = ap (λ (y : Draft). y.score) e in omega (arith, ints, same, less)) | inr h ↦ h ]

starts : (a b : Draft) (ds : List Draft) (d : Draft) → Contains ds d → a.score <ℤ d.score → b.score <ℤ d.score → fold better (Some a) ds ≡ fold better (Some b) ds
starts a b [] d (k, low, e) la lb = absurd (omega (arith, low))
starts a b (x ∷ xs) d is la lb =
    by_lt_z a.score x.score
    (λ xa. by_lt_z b.score x.score
    (λ xb. ap (λ (k : Option Draft). fold better k xs) (beats a x xa ∙ sym (beats b x xb)))
    (λ xb. let less : x.score <ℤ d.score = omega (arith, ints, xb, lb) in
    ap (λ (k : Option Draft). fold better k xs) (beats a x xa) ∙ starts x b xs d (later x d xs is less) less lb
    ∙ sym (ap (λ (k : Option Draft). fold better k xs) (stays b x xb))))
    (λ xa. let less : x.score <ℤ d.score = omega (arith, ints, xa, la) in
    by_lt_z b.score x.score
    (λ xb. ap (λ (k : Option Draft). fold better k xs) (stays a x xa) ∙ starts a x xs d (later x d xs is less) la less
    ∙ sym (ap (λ (k : Option Draft). fold better k xs) (beats b x xb)))
    (λ xb. ap (λ (k : Option Draft). fold better k xs) (stays a x xa) ∙ starts a b xs d (later x d xs is less) la lb
    ∙ sym (ap (λ (k : Option Draft). fold better k xs) (stays b x xb))))

-- to begin with less than some list has is to begin with nothing
pub floor_keeps : (f : Draft) (ds : List Draft) (d : Draft) → Contains ds d → f.score <ℤ d.score → fold better (Some f) ds ≡ fold better None ds
floor_keeps f [] d (k, low, e) less = absurd (omega (arith, low))
floor_keeps f (x ∷ xs) d is less =
    by_lt_z f.score x.score
    (λ xf. ap (λ (k : Option Draft). fold better k xs) (beats f x xf))
    (λ xf. let low : x.score <ℤ d.score = omega (arith, ints, xf, less) in
    ap (λ (k : Option Draft). fold better k xs) (stays f x xf) ∙ starts f x xs d (later x d xs is low) less low)

-- ---- the completions of a longer list are among those of the list

below_contains : (n r : ℕ) → r < n → Contains (rungs_below n) r
below_contains n r low =
    let long = length-range_with_len 0 n in
    (r, omega (arith, long, low), let e = get_or-range_with_len 0 n r r low in omega (arith, e))

flat_contains : {X : Type 0} (f : ℕ → List X) (rs : List ℕ) (r : ℕ) (x : X) → Contains rs r → Contains (f r) x → Contains (flat_map f rs) x
flat_contains f [] r x (k, low, e) here = absurd (omega (arith, low))
flat_contains {X} f (q ∷ qs) r x is here =
    elim (head_or q qs r is) [
      | inl e ↦ Contains-append_left (f q) (flat_map f qs) x (subst (λ (t : ℕ). Contains (f t) x) (sym e) here)
      | inr h ↦ Contains-append_right (f q) (flat_map f qs) x (flat_contains f qs r x h here)
    ]

-- a completion of a list with one more rung completes the list by one rung more
pub extended_whole : (o : Lookahead) (n : ℕ) (d e : Draft) (r : ℕ) → r < ladder_of o → Contains (completions o n (extended o d r)) e → Contains (completions o (suc n) d) e
unfolding completions
extended_whole o n d e r low is = flat_contains (λ q. completions o n (extended o d q)) (rungs_below (ladder_of o)) r e (below_contains (ladder_of o) r low) is

-- a list completes itself
pub whole_itself : (o : Lookahead) (d : Draft) → Contains (completions o 0 d) d
unfolding completions
whole_itself o d = (0, omega arith, refl)

-- ---- all lists, rung by rung

-- after a whole list
pub whole_best : (o : Lookahead) (d : Draft) (best : Option Draft) → best_after o 0 d best ≡ better best d
unfolding completions
whole_best o d best = refl

-- after all lists with a rung below the next one
pub rungs_best : (o : Lookahead) (n : ℕ) (d : Draft) (best now : Option Draft) (rung : ℕ)
    → now ≡ fold better best (flat_map (λ q. completions o n (extended o d q)) (rungs_below rung))
    → best_after o n (extended o d rung) now ≡ fold better best (flat_map (λ q. completions o n (extended o d q)) (rungs_below (rung + 1)))
rungs_best o n d best now rung h =
    let lists = λ (q : ℕ). completions o n (extended o d q) in
    ap (λ (b : Option Draft). fold better b (lists rung)) h
    ∙ sym (fold-append better best (flat_map lists (rungs_below rung)) (lists rung))
    ∙ ap (fold better best) (flat_map_more lists [] (rungs_below rung) rung)
    ∙ ap (λ (qs : List ℕ). fold better best (flat_map lists qs)) (sym (rungs_more rung))

-- after the lists with each rung next, all completions were considered
pub all_best : (o : Lookahead) (n : ℕ) (d : Draft) (best : Option Draft)
    → fold better best (flat_map (λ q. completions o n (extended o d q)) (rungs_below (ladder_of o))) ≡ best_after o (suc n) d best
unfolding completions
all_best o n d best = refl
