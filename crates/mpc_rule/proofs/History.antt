-- What RobustMPC keeps stays what its history says, and its choice is the history's.
use Rattle.std.proofs.Common.{◌≡◌, ◌∙◌, ℕ, ◌+◌, ◌-◌, ◌*◌, ◌/◌, ◌<◌, ◌≤◌, List, [], ◌∷◌, ◌++◌, length, sym, ap, arith, append_assoc, append-nil, length-drop, max}
use Rattle.std.specs.Prelude.{slice_index}
use Rattle.std.specs.Int.{abs_diff}
use Rattle.std.specs.List.{All, fold}
use Rattle.std.proofs.lemmas.List.Elements.{All-head, All-tail}
use Rattle.lab_model.specs.declared.setup.Setup.{Setup}
use Rattle.lab_model.specs.declared.context.Context.{Context}
use Rattle.lab_model.specs.Film.{Film, IsWithin}
use Rattle.lab_model.specs.Horizon.{horizon_score}
use Rattle.lab_model.specs.Mpc.{best_list, lists_ahead, mpc_choice}
use Rattle.lab_model.specs.Rates.{error_after, errors_from, errors_of, greatest, harmonic_of, last_of, robust_rate}
use Rattle.lab_model.proofs.Histories.{last_of_push}
use Rattle.mpc_rule.specs.Recall.{Recall, IsRecallOf, rate_ahead}

-- ---- the greatest of the errors

greatest_from_most : (high a : ℕ) (xs : List ℕ) → a ≤ high → All (IsWithin 0 high) xs → fold (λ x y. max x y) a xs ≤ high
greatest_from_most high a [] low all = low
greatest_from_most high a (x ∷ xs) low all =
    let here = All-head (IsWithin 0 high) x xs all in greatest_from_most high (max a x) xs (omega (arith, low, here.1)) (All-tail (IsWithin 0 high) x xs all)

-- the greatest of numbers within a limit is within it
pub greatest_most : (high : ℕ) (xs : List ℕ) → All (IsWithin 0 high) xs → greatest xs ≤ high
greatest_most high xs all = greatest_from_most high 0 xs (omega arith) all

-- ---- one more sample

errors_from_more : (before cs : List ℕ) (x : ℕ) → errors_from before (cs ++ x ∷ []) ≡ errors_from before cs ++ error_after (before ++ cs) x ∷ []
errors_from_more before [] x = ap (λ (h : List ℕ). error_after h x ∷ []) (sym (append-nil before))
errors_from_more before (c ∷ cs) x =
    ap (λ (es : List ℕ). error_after before c ∷ es) (errors_from_more (before ++ c ∷ []) cs x
    ∙ ap (λ (h : List ℕ). errors_from (before ++ c ∷ []) cs ++ error_after h x ∷ []) (append_assoc before (c ∷ []) cs))

-- the first sample, which has no error
pub stands_first : (old now : Recall) (history : List ℕ) (x : ℕ) → IsRecallOf old history → length old.rates ≡ 0
    → now.rates ≡ last_of 5 (old.rates ++ x ∷ []) → now.errors ≡ old.errors → IsRecallOf now (history ++ x ∷ [])
stands_first old now [] x s none rates errors = record {
  rates = rates ∙ ap (λ (r : List ℕ). last_of 5 (r ++ x ∷ [])) s.rates;
  errors = errors ∙ s.errors;
}
stands_first old now (c ∷ cs) x s none rates errors =
    let long = ap length s.rates in let cut = length-drop (length (c ∷ cs) - 5) (c ∷ cs) in absurd (omega (arith, none, long, cut))

-- a later sample, with its error
pub stands_more : (old now : Recall) (history : List ℕ) (x e : ℕ) → IsRecallOf old history → 0 < length old.rates
    → e ≡ 1000 * abs_diff (harmonic_of old.rates) x / x
    → now.rates ≡ last_of 5 (old.rates ++ x ∷ []) → now.errors ≡ last_of 5 (old.errors ++ e ∷ []) → IsRecallOf now (history ++ x ∷ [])
stands_more old now [] x e s some is rates errors = let long = ap length s.rates in absurd (omega (arith, some, long))
stands_more old now (c ∷ cs) x e s some is rates errors =
    let error : e ≡ error_after (c ∷ cs) x = is ∙ ap (λ (r : List ℕ). 1000 * abs_diff (harmonic_of r) x / x) s.rates in
    record {
      rates = rates ∙ ap (λ (r : List ℕ). last_of 5 (r ++ x ∷ [])) s.rates ∙ last_of_push 5 (c ∷ cs) x;
      errors = errors ∙ (λ i. last_of 5 (s.errors i ++ error i ∷ [])) ∙ last_of_push 5 (errors_of (c ∷ cs)) (error_after (c ∷ cs) x)
          ∙ ap (last_of 5) (sym (errors_from_more (c ∷ []) cs x));
    }

-- ---- the choice

-- where there are samples, the choice is by the rate that the rings give
pub choice_is : (r : Recall) (f : Film) (set : Setup) (c : Context) (history : List ℕ) → IsRecallOf r history → 0 < length r.rates
    → mpc_choice r.horizon f set c history ≡ slice_index (best_list (horizon_score f set (rate_ahead r) c.next c.level c.last) (lists_ahead r.horizon f c.next)) 0
choice_is r f set c [] s some = let long = ap length s.rates in absurd (omega (arith, some, long))
choice_is r f set c (x ∷ xs) s some =
    let rate : robust_rate (x ∷ xs) ≡ rate_ahead r = λ i. max 1 (1000 * harmonic_of (sym s.rates i) / (1000 + greatest (sym s.errors i))) in
    ap (λ (rate : ℕ). slice_index (best_list (horizon_score f set rate c.next c.level c.last) (lists_ahead r.horizon f c.next)) 0) rate
