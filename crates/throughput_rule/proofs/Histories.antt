-- What windows keep of a history.
use Rattle.std.proofs.Common.{◌≡◌, ◌∙◌, ℕ, ◌-◌, List, [], ◌∷◌, ◌++◌, map, sym, refl, ap}
use Rattle.std.proofs.Math.Seq.{drop-nil}
use Rattle.std.proofs.lemmas.List.Elements.{All-nil, All-cons, All-head, All-tail}
use Rattle.lab_model.specs.Rates.{last_of}
use Rattle.lab_model.proofs.Histories.{last_of_push}
use Rattle.throughput_rule.specs.Windows.{RateWindow, HoldLast, window_after, empty_window}

-- each window stands for the history
abbrev Keeps : List ℕ → RateWindow → Type 0
Keeps history k = k.rates ≡ last_of k.width history

-- windows without rates stand for the empty history
pub hold_none : (widths : List ℕ) → HoldLast (map empty_window widths) []
hold_none [] = All-nil (Keeps [])
hold_none (w ∷ ws) = All-cons (Keeps []) (empty_window w) (map empty_window ws) (sym (drop-nil (0 - w))) (hold_none ws)

-- windows that are told a rate stand for the history with it
pub hold_more : (ks : List RateWindow) (history : List ℕ) (rate : ℕ) → HoldLast ks history → HoldLast (map (window_after rate) ks) (history ++ rate ∷ [])
hold_more [] history rate all = All-nil (Keeps (history ++ rate ∷ []))
hold_more (k ∷ ks) history rate all =
    All-cons (Keeps (history ++ rate ∷ [])) (window_after rate k) (map (window_after rate) ks)
    (ap (λ (xs : List ℕ). last_of k.width (xs ++ rate ∷ [])) (All-head (Keeps history) k ks all) ∙ last_of_push k.width history rate)
    (hold_more ks history rate (All-tail (Keeps history) k ks all))

-- the widths are those that were given
pub widths_given : (widths : List ℕ) → map (λ k. k.width) (map empty_window widths) ≡ widths
widths_given [] = refl
widths_given (w ∷ ws) = ap (λ (xs : List ℕ). w ∷ xs) (widths_given ws)

-- and no rate changes them
pub widths_same : (rate : ℕ) (ks : List RateWindow) → map (λ k. k.width) (map (window_after rate) ks) ≡ map (λ k. k.width) ks
widths_same rate [] = refl
widths_same rate (k ∷ ks) = ap (λ (xs : List ℕ). k.width ∷ xs) (widths_same rate ks)
