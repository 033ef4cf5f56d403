-- The values of the labels of a made case: a thousand for each unit of utility and 99 for each millisecond until the first segment came.
use Rattle.std.proofs.Common.{◌≡◌, ◌∙◌, ℕ, zero, suc, ◌+◌, ◌*◌, ◌<◌, ◌≤◌, [], ◌∷◌, slice_index, Some, refl, sym, ap, arith}
use Rattle.std.specs.Prelude.{ℤ, pos, ◌+ℤ◌, ◌-ℤ◌}
use Rattle.std.specs.List.{Contains}
use Rattle.std.proofs.lemmas.Int.{ints}
use Rattle.lab_model.specs.declared.label.Label.{Label}
use Rattle.lab_model.specs.Film.{rungs_of}
use Rattle.lab_model.specs.Weighing.{change_of, utility_of}
use Rattle.labels.specs.Labels.{next_label, start_label}
use Rattle.labels.specs.Grid.{exact}
use Rattle.labels.specs.Grown.{grown}
use Rattle.labels.proofs.Grown.{from_first, from_next}
use Rattle.labels.proofs.Rounds.{round_exact}
use Rattle.labels.proofs.Walks.{from_by_rung}
use Rattle.demo_case.specs.Case.{demo_setup, demo_task}

-- the value of so many units of utility after the start on a rung
abbrev pub value_of : ℕ → ℕ → ℕ → ℤ
value_of n q units = pos (1000 * units + 99 * (start_label (demo_task n) q).t)

-- a value of at most so many units, after the start on some rung
abbrev pub HasValue : ℕ → ℕ → ℤ → Type 0
HasValue n most v = (q : ℕ) × (units : ℕ) × (q < 4) × (units ≤ most) × (v ≡ value_of n q units)

-- a utility is at most 3
utility_few : (k : ℕ) → slice_index (0 ∷ 1 ∷ 2 ∷ 3 ∷ []) k ≤ 3
utility_few zero = omega arith
utility_few (suc zero) = omega arith
utility_few (suc (suc zero)) = omega arith
utility_few (suc (suc (suc zero))) = omega arith
utility_few (suc (suc (suc (suc k)))) = omega arith

start_value : (u t : ℕ) (v : ℤ) → v ≡ pos (1000 * u + 100 * t) -ℤ pos (1 * t) → v ≡ pos (1000 * u + 99 * t)
start_value u t v e = omega (arith, ints)

next_value : (units u t change : ℕ) (v : ℤ) → v ≡ pos (1000 * units + 99 * t) → (v +ℤ pos (1000 * u)) -ℤ pos (0 * change) ≡ pos (1000 * (units + u) + 99 * t)
next_value units u t change v e = omega (arith, ints)

-- each label that grows has such a value
pub grown_value : (n i q : ℕ) (l : Label) → q < 4 → Contains (grown exact (demo_task n) i q) l → HasValue n (3 * (i + 1)) l.v
grown_value n zero q l low h =
    let g = demo_task n in
    let u = utility_of demo_setup.weights 0 q in
    let few = utility_few (0 * 4 + q) in
    let t = (start_label g q).t in
    let is = ap (λ (m : Label). m.v) (sym (sym (round_exact (start_label g q)) ∙ from_first exact g q l h)) in
    (q, u, low, omega (arith, few), is ∙ start_value u t (start_label g q).v refl)
grown_value n (suc i) r l low h =
    let g = demo_task n in
    let from = from_next exact g i r l h in
    let there = from_by_rung (rungs_of g.film) (grown exact g i) from.0 from.1 in
    let before = grown_value n i from.0.0 from.0.1 there.0 there.1 in
    let u = utility_of demo_setup.weights (suc i) r in
    let few = utility_few (0 * 4 + r) in
    let most = before.3 in
    let next = next_label g (suc i) from.0.0 from.0.1 r in
    let is = ap (λ (m : Label). m.v) (sym (sym (round_exact next) ∙ from.2)) in
    let worth = next_value before.1 u (start_label g before.0).t (change_of demo_setup.weights (suc i) (Some from.0.0) r) from.0.1.v before.4 in
    (before.0, before.1 + u, before.2, omega (arith, most, few), is ∙ worth)
