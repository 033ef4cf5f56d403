-- How far values and bounds lie from 0: which of them can be spelled in a certificate.
use Rattle.std.proofs.Common.{◌≡◌, ◌∙◌, ℕ, suc, ◌+◌, ◌-◌, ◌*◌, ◌/◌, ◌^◌, ◌≤◌, ◌<◌, List, [], ◌∷◌, length, map, replicate, refl, sym, ap, subst, arith, mul-le-mul}
use Rattle.std.specs.Prelude.{ℤ, pos, negsuc, ◌+ℤ◌, ◌-ℤ◌, ◌<ℤ◌, ◌≤ℤ◌}
use Rattle.std.specs.List.{All, sum_by}
use Rattle.std.proofs.lemmas.Int.{ints}
use Rattle.std.proofs.lemmas.List.{length-replicate}
use Rattle.std.proofs.lemmas.List.Elements.{All-replicate}
use Rattle.lab_model.specs.declared.label.Label.{Label}
use Rattle.lab_model.specs.Film.{rungs_of, segments_of}
use Rattle.lab_model.specs.Number.{IsNear}
use Rattle.player_core.specs.Scene.{IsTask, Task}
use Rattle.labels.specs.Best.{task_value}
use Rattle.labels.specs.Form.{HasSignedDigits, score_digits}
use Rattle.labels.specs.Labels.{AreRungs, end_value, label_at}
use Rattle.labels.proofs.LabelsAreValues.{labels_are_values}
use Rattle.labels.proofs.Reached.{label_reach}
use Rattle.labels.proofs.Walks.{at_head}
use Rattle.price_bounds.specs.declared.window.Window.{Window}
use Rattle.price_bounds.specs.Bound.{bound_of, rounded_up}
use Rattle.price_bounds.specs.Cells.{least_delay}
use Rattle.price_bounds.specs.Greatest.{greatest_of}
use Rattle.price_bounds.specs.LinkPart.{cell_in, link_gain, link_part, rising_cells}
use Rattle.price_bounds.specs.Tables.{most_list_worth, most_plain_bound, most_start_worth}
use Rattle.price_bounds.specs.Windows.{AreWindows, price_unit}
use Rattle.price_bounds.proofs.Greatest.{greatest_reached}
use Rattle.price_bounds.proofs.Law.{no_list_passes}

near_end : (v : ℤ) (loss : ℕ) → IsNear 7000000000000000 v → loss ≤ 1000000000000000000 → HasSignedDigits score_digits (v -ℤ pos loss)
near_end v loss near few = let low = near.low in let high = near.high in (omega (arith, ints, low, few), omega (arith, ints, high, few))

wider : (far : ℕ) (v : ℤ) → far ≤ 7000000000000000 → IsNear far v → IsNear 7000000000000000 v
wider far v few near = let low = near.low in let high = near.high in record { low = omega (arith, ints, low, few); high = omega (arith, ints, high, few) }

-- the value of a rung list has no more digits than a score
pub value_short : (g : Task) → IsTask g → (rungs : List ℕ) → AreRungs g (segments_of g.film) rungs → HasSignedDigits score_digits (task_value g rungs)
value_short g is rungs fits =
    let n = segments_of g.film in
    let last = label_at g rungs (n - 1) in
    let some = is.film.segments.0 in
    let few = is.film.segments.1 in
    let reach = label_reach g is rungs fits (n - 1) (omega (arith, some)) in
    let delay = reach.delay in
    let near : last.p ≤ 1000000000000 = omega (arith, delay, some, few) in
    let loss : g.setup.weights.stall * last.p ≤ 1000000 * 1000000000000 = mul-le-mul is.weights.weights.stall_fits near in
    subst (HasSignedDigits score_digits) (sym (labels_are_values g is rungs fits))
    (near_end last.v (g.setup.weights.stall * last.p) (wider _ last.v (omega (arith, some, few)) reach.value) (omega (arith, loss)))

-- nor has the bound of windows, where it is negative: some list's value is no greater
pub bound_low : (g : Task) → IsTask g → (ws : List Window) → AreWindows (segments_of g.film) ws → (pos 0 -ℤ pos (10 ^ score_digits)) <ℤ bound_of g ws
bound_low g is ws windows =
    let n = segments_of g.film in
    let some = is.film.rungs.0 in
    let fits : AreRungs g n (replicate n 0) = (length-replicate n 0, All-replicate (λ (q : ℕ). q < rungs_of g.film) n 0 (omega (arith, some))) in
    let short = (value_short g is (replicate n 0) fits).0 in
    let law = no_list_passes g is ws windows (replicate n 0) fits in
    omega (arith, ints, short, law)

-- ---- without windows

-- what is nowhere above a number has no greatest above it
at_most : {X : Type 0} (f : X → ℤ) (most : ℤ) (xs : List X) → pos 0 ≤ℤ most → ((x : X) → f x ≤ℤ most) → greatest_of (map f xs) ≤ℤ most
at_most f most [] some each = some
at_most f most (y ∷ ys) some each = let top = greatest_reached f (y ∷ ys) y (at_head y ys) in subst (λ v. v ≤ℤ most) top.2 (each top.0)

less : (n : ℕ) → (pos 0 -ℤ pos n) ≤ℤ pos 0
less n = omega (arith, ints)

gains_none : (g : Task) (first : ℕ) (cells : List ℕ) → link_gain g [] first cells ≤ℤ pos 0
gains_none g first cells = less (0 + price_unit * (g.setup.weights.stall * (least_delay first (cell_in cells (segments_of g.film - 1)) - first)))

-- the link part is at most 0
pub link_none : (g : Task) (first : ℕ) → link_part g [] first ≤ℤ pos 0
unfolding link_part
link_none g first = at_most (link_gain g [] first) (pos 0) (rising_cells (segments_of g.film) first) (omega (arith, ints)) (λ cells. gains_none g first cells)

-- so the bound on a first rung isn't far above 0
pub plain_low : (start gain worth : ℤ) → IsNear most_start_worth start → IsNear most_list_worth gain → worth ≤ℤ pos 0 → ((start +ℤ gain) +ℤ worth) ≤ℤ pos most_plain_bound
plain_low start gain worth near far none = let high = near.high in let most = far.high in omega (arith, ints, high, most, none)

-- nor is it when it is rounded up
pub plain_short : (z : ℤ) → z ≤ℤ pos most_plain_bound → rounded_up z <ℤ pos (10 ^ score_digits)
plain_short (pos n) h = let low : n ≤ most_plain_bound = omega (arith, ints, h) in omega (arith, ints, low)
plain_short (negsuc n) h = omega (arith, ints)
