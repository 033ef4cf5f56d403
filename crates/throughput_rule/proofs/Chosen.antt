-- The rung that the least mean of windows chooses is the model's choice after the history that they stand for.
use Rattle.std.proofs.Common.{◌≡◌, ◌∙◌, ℕ, zero, suc, ◌-◌, ◌*◌, ◌/◌, ◌≤◌, List, [], ◌∷◌, Bool, false, cond, length, map, nat_le, sym, refl, ap, add-one, arith}
use Rattle.std.specs.List.{fold, sum}
use Rattle.std.specs.Prelude.{min}
use Rattle.std.proofs.Math.Seq.{drop-nil}
use Rattle.std.proofs.lemmas.Bool.Decides.{nat_tests}
use Rattle.std.proofs.lemmas.List.Elements.{All-head, All-tail}
use Rattle.lab_model.specs.Film.{Film, IsFilm, bitrate_of, rungs_of}
use Rattle.lab_model.specs.Ladder.{greatest_rung}
use Rattle.lab_model.specs.Rates.{last_of}
use Rattle.lab_model.specs.Throughput.{least, least_mean, rung_within, throughput_choice, window_mean}
use Rattle.lab_model.proofs.Rungs.{greatest_more, greatest_none}
use Rattle.throughput_rule.specs.Windows.{RateWindow, HoldLast, mean_of}

Keeps : List ℕ → RateWindow → Type 0
Keeps history k = k.rates ≡ last_of k.width history

-- the means of windows are those of the history
means_are : (ks : List RateWindow) (history : List ℕ) → HoldLast ks history → map mean_of ks ≡ map (window_mean history) (map (λ k. k.width) ks)
means_are [] history all = refl
means_are (k ∷ ks) history all =
    let here : mean_of k ≡ window_mean history k.width = ap (λ (xs : List ℕ). sum xs / length xs) (All-head (λ (q : RateWindow). q.rates ≡ last_of q.width history) k ks all) in
    ap (λ (m : ℕ). m ∷ map mean_of ks) here
    ∙ ap (λ (ms : List ℕ). window_mean history k.width ∷ ms) (means_are ks history (All-tail (λ (q : RateWindow). q.rates ≡ last_of q.width history) k ks all))

-- without samples each mean is 0
none_mean : (w : ℕ) → window_mean [] w ≡ 0
none_mean w = ap (λ (xs : List ℕ). sum xs / length xs) (drop-nil (0 - w))

least_none : (ws : List ℕ) → fold (λ a b. min a b) 0 (map (window_mean []) ws) ≡ 0
least_none [] = refl
least_none (w ∷ ws) = ap (λ (m : ℕ). fold (λ a b. min a b) (min 0 m) (map (window_mean []) ws)) (none_mean w) ∙ least_none ws

least_of_none : (ws : List ℕ) → least_mean ws [] ≡ 0
least_of_none [] = refl
least_of_none (w ∷ ws) = ap (λ (m : ℕ). fold (λ a b. min a b) m (map (window_mean []) ws)) (none_mean w) ∙ least_none ws

-- and no bitrate is within it
none_within : (f : Film) (n : ℕ) → IsFilm f → n ≤ rungs_of f → greatest_rung (λ q. nat_le (1000 * bitrate_of f q) 0) n ≡ 0
none_within f zero is few = greatest_none (λ q. nat_le (1000 * bitrate_of f q) 0)
none_within f (suc n) is few =
    let passes = λ (q : ℕ). nat_le (1000 * bitrate_of f q) 0 in
    let some = is.bitrates n 0 (omega (arith, few)) in
    let fails : nat_le (1000 * bitrate_of f n) 0 ≡ false = grind (arith, nat_tests, some) in
    ap (greatest_rung passes) (sym (add-one n)) ∙ greatest_more passes n ∙ ap (λ (b : Bool). cond b n (greatest_rung passes n)) fails ∙ none_within f n is (omega (arith, few))

-- the choice
pub chosen : (ks : List RateWindow) (f : Film) (history : List ℕ) (mean rung : ℕ) → IsFilm f → HoldLast ks history
    → mean ≡ least (map mean_of ks) → rung ≡ greatest_rung (λ q. nat_le (1000 * bitrate_of f q) (9 * mean / 10)) (rungs_of f) → rung ≡ throughput_choice (map (λ k. k.width) ks) f history
chosen ks f [] mean rung is all m r =
    let none : mean ≡ 0 = m ∙ ap least (means_are ks [] all) ∙ least_of_none (map (λ k. k.width) ks) in
    r ∙ ap (λ (n : ℕ). rung_within f n) none ∙ none_within f (rungs_of f) is (omega arith)
chosen ks f (c ∷ cs) mean rung is all m r = r ∙ ap (λ (n : ℕ). rung_within f n) (m ∙ ap least (means_are ks (c ∷ cs) all))
