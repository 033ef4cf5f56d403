-- Each rule chooses a rung of the film that it is asked about.
use Rattle.std.proofs.Common.{ℕ, zero, suc, ◌-◌, ◌<◌, ◌≤◌, List, [], ◌∷◌, get_or, Bool, cond, Some, find, sym, ◌∙◌, ap, add-one, arith}
use Rattle.std.specs.List.{All, fold, flat_map}
use Rattle.std.specs.Option.{unwrap_or}
use Rattle.std.specs.Prelude.{ℤ, int_lt, min, map, slice_index}
use Rattle.std.proofs.lemmas.Bool.{cond_both}
use Rattle.std.proofs.lemmas.List.FromFn.{length-range_with_len, get_or-range_with_len}
use Rattle.std.proofs.lemmas.List.Elements.{All-nil, All-cons, All-head, All-tail, All-append, All-map}
use Rattle.lab_model.specs.declared.setup.Setup.{Setup}
use Rattle.lab_model.specs.declared.context.Context.{Context}
use Rattle.lab_model.specs.Film.{Film, IsFilm, rungs_of, segments_of}
use Rattle.lab_model.specs.Rules.{RuleKind, KindFits, fixed, listed, throughput, bola, mpc}
use Rattle.lab_model.specs.Rates.{robust_rate}
use Rattle.lab_model.specs.Horizon.{horizon_score}
use Rattle.lab_model.specs.Ladder.{greatest_rung, least_rung, rungs_below}
use Rattle.lab_model.specs.Throughput.{throughput_choice}
use Rattle.lab_model.specs.Mpc.{best_list, lists_of, mpc_choice}
use Rattle.lab_model.specs.Choice.{choice}
use Rattle.lab_model.proofs.Rungs.{greatest_none, greatest_more}

-- ---- the greatest and the least rung that pass a test

greatest_low : (passes : ℕ → Bool) (n : ℕ) → greatest_rung passes n ≤ n - 1
greatest_low passes zero = let e = greatest_none passes in omega (arith, e)
greatest_low passes (suc n) =
    let e = ap (greatest_rung passes) (sym (add-one n)) ∙ greatest_more passes n in
    let low = greatest_low passes n in
    let here = cond_both (passes n) n (greatest_rung passes n) (λ x. x ≤ n) (λ e. omega arith) (λ e. omega (arith, low)) in
    omega (arith, e, here)

-- the greatest rung that passes a test is one of the rungs
pub greatest_fits : (passes : ℕ → Bool) (rungs : ℕ) → 0 < rungs → greatest_rung passes rungs < rungs
greatest_fits passes rungs some = let low = greatest_low passes rungs in omega (arith, low)

-- the rungs below a number are below it
pub all_below : (n : ℕ) → All (λ q. q < n) (rungs_below n)
all_below n k d low =
    let few = length-range_with_len 0 n in
    let here : k < n = omega (arith, few, low) in
    let e = get_or-range_with_len 0 n k d here in
    omega (arith, e, here)

found_fits : (P : ℕ → Type 0) (passes : ℕ → Bool) (default : ℕ) (qs : List ℕ) → P default → All P qs → P (unwrap_or (find passes qs) default)
found_fits P passes default [] h all = h
found_fits P passes default (q ∷ qs) h all =
    cond_both (passes q) (Some q) (find passes qs) (λ o. P (unwrap_or o default)) (λ e. All-head P q qs all) (λ e. found_fits P passes default qs h (All-tail P q qs all))

-- the least rung that passes a test is one of the rungs
pub least_fits : (passes : ℕ → Bool) (count : ℕ) → 0 < count → least_rung passes count < count
least_fits passes count some = found_fits (λ q. q < count) passes 0 (rungs_below count) some (all_below count)

-- ---- the first list of the greatest score

-- what is so of each list is so of the best
pub best_keeps : (P : List ℕ → Type 0) (score : List ℕ → ℤ) (best : List ℕ) (lists : List (List ℕ)) → P best → All P lists → P (fold (λ best l. cond (int_lt (score best) (score l)) l best) best lists)
best_keeps P score best [] h all = h
best_keeps P score best (l ∷ ls) h all =
    best_keeps P score (cond (int_lt (score best) (score l)) l best) ls
    (cond_both (int_lt (score best) (score l)) l best P (λ e. All-head P l ls all) (λ e. h)) (All-tail P l ls all)

best_fits : (P : List ℕ → Type 0) (score : List ℕ → ℤ) (lists : List (List ℕ)) → P [] → All P lists → P (best_list score lists)
best_fits P score [] h all = h
best_fits P score (l ∷ ls) h all = best_keeps P score l ls (All-head P l ls all) (All-tail P l ls all)

-- ---- all lists of rungs

abbrev AreBelow : ℕ → List ℕ → Type 0
AreBelow rungs l = All (λ q. q < rungs) l

-- what is so of all that each item gives is so of all together
pub flat_fits : {X : Type 0} (P : X → Type 0) (f : ℕ → List X) (Q : ℕ → Type 0) (rs : List ℕ) → ((r : ℕ) → Q r → All P (f r)) → All Q rs → All P (flat_map f rs)
flat_fits P f Q [] each all = All-nil P
flat_fits P f Q (r ∷ rs) each all = All-append P (f r) (flat_map f rs) (each r (All-head Q r rs all)) (flat_fits P f Q rs each (All-tail Q r rs all))

lists_fit : (rungs n : ℕ) → All (AreBelow rungs) (lists_of rungs n)
unfolding lists_of
lists_fit rungs zero = All-cons (AreBelow rungs) [] [] (All-nil (λ q. q < rungs)) (All-nil (AreBelow rungs))
lists_fit rungs (suc n) =
    flat_fits (AreBelow rungs) (λ r. map (λ rs. r ∷ rs) (lists_of rungs n)) (λ q. q < rungs) (rungs_below rungs)
    (λ r low. All-map (AreBelow rungs) (λ rs. r ∷ rs) (lists_of rungs n) (λ k d h. All-cons (λ q. q < rungs) r (get_or (lists_of rungs n) k d) low (lists_fit rungs n k d h)))
    (all_below rungs)

first_fits : (rungs : ℕ) (l : List ℕ) → 0 < rungs → AreBelow rungs l → slice_index l 0 < rungs
first_fits rungs [] some all = some
first_fits rungs (q ∷ qs) some all = All-head (λ q. q < rungs) q qs all

-- ---- the choice

throughput_fits : (windows : List ℕ) (f : Film) (history : List ℕ) → 0 < rungs_of f → throughput_choice windows f history < rungs_of f
throughput_fits windows f [] some = some
throughput_fits windows f (c ∷ cs) some = greatest_fits _ (rungs_of f) some

-- the first rung of the best list is a rung of the ladder
pub best_list_fits : (score : List ℕ → ℤ) (count n : ℕ) → 0 < count → slice_index (best_list score (lists_of count n)) 0 < count
best_list_fits score count n some = first_fits count _ some (best_fits (AreBelow count) score (lists_of count n) (All-nil (λ q. q < count)) (lists_fit count n))

mpc_fits : (horizon : ℕ) (f : Film) (s : Setup) (x : Context) (history : List ℕ) → 0 < rungs_of f → mpc_choice horizon f s x history < rungs_of f
mpc_fits horizon f s x [] some = some
mpc_fits horizon f s x (c ∷ cs) some =
    best_list_fits (horizon_score f s (robust_rate (c ∷ cs)) x.next x.level x.last) (rungs_of f) (min horizon (segments_of f - x.next)) some

-- each rule chooses a rung of the film
pub choice_fits : (k : RuleKind) (f : Film) (s : Setup) (x : Context) (history : List ℕ) → IsFilm f → KindFits k f → x.next < segments_of f → choice k f s x history < rungs_of f
choice_fits (fixed q) f s x history is fits next = fits
choice_fits (listed rungs) f s x history is fits next = let l = fits.0 in fits.1 x.next 0 (omega (arith, l))
choice_fits (throughput windows) f s x history is fits next = throughput_fits windows f history (omega arith)
choice_fits (bola g) f s x history is fits next = least_fits _ (rungs_of f) (omega arith)
choice_fits (mpc horizon) f s x history is fits next = mpc_fits horizon f s x history (omega arith)
