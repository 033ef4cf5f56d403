-- Rows of delays: the row of a delay isn't longer, and a request isn't earlier than that of its row and column.
use Rattle.std.proofs.Common.{◌≡◌, ◌∙◌, ℕ, zero, suc, ◌+◌, ◌-◌, ◌*◌, ◌/◌, ◌≤◌, ⊎_elim, Bool, true, false, length, sym, ap, subst, arith, leb-true, le-leb, mul-le-mul_left}
use Rattle.std.specs.Prelude.{min, nat_le}
use Rattle.std.proofs.Math.Nat.{mul-div-le}
use Rattle.std.proofs.lemmas.Bool.{cases_Bool, cond-false, cond-true}
use Rattle.std.proofs.lemmas.Nat.{le-div}
use Rattle.lab_model.specs.declared.label.Label.{Label}
use Rattle.player_core.specs.Scene.{Task}
use Rattle.labels.specs.Labels.{request_at}
use Rattle.completion_bounds.specs.Gain.{column_at, cell_request}
use Rattle.completion_bounds.specs.Grid.{GridParts, IsTableGrid, last_passing, row_delay, delay_row, row_steps}

-- where 0 passes, the last that passes does
last_passes : (passes : ℕ → Bool) (n : ℕ) → passes 0 ≡ true → passes (last_passing passes n) ≡ true
unfolding last_passing
last_passes passes zero h = h
last_passes passes (suc n) h =
    ⊎_elim (λ (yes : passes n ≡ true). ap passes (cond-true (passes n) n (last_passing passes n) yes) ∙ yes)
    (λ (no : passes n ≡ false). ap passes (cond-false (passes n) n (last_passing passes n) no) ∙ last_passes passes n h) (cases_Bool (passes n))

-- the row of a delay isn't longer
pub row_not_longer : (d : GridParts) → IsTableGrid d → (delay : ℕ) → row_delay d (delay_row d delay) ≤ delay
row_not_longer d is delay =
    let first = is.first in
    let none : row_delay d 0 ≤ delay = subst (λ m. d.step * m ≤ delay) (sym first) (omega arith) in
    leb-true _ _ (last_passes (λ k. nat_le (row_delay d k) delay) (length d.rows) (le-leb _ _ none))

-- what a column takes off is no more than it was
led_back : (step m most delay lead buffer request : ℕ) → 1 ≤ step → step * m ≤ delay → (delay + lead) - buffer ≤ request
    → (step * (m + min most (((request + buffer) - lead) / step - m)) + lead) - buffer ≤ request
led_back step m most delay lead buffer request some low before =
    let back = (request + buffer) - lead in
    let q = back / step in
    let whole = mul-div-le back step in
    let below : m ≤ q = le-div m back step some (omega (arith, low, before)) in
    let x = m + min most (q - m) in
    let steps : x ≤ q = omega (arith, below) in
    let least = mul-le-mul_left step steps in
    omega (arith, whole, least, before, low)

-- the request after a row and a column isn't later than that of a label in them
pub request_not_later : (g : Task) (d : GridParts) → IsTableGrid d → (next : ℕ) (l : Label)
    → cell_request g d next (delay_row d l.p) (column_at g d next (delay_row d l.p) (request_at g next l)) ≤ request_at g next l
request_not_later g d is next l =
    let k = delay_row d l.p in
    let request = request_at g next l in
    let back = led_back d.step (row_steps d k) d.columns l.p ((next + 1) * g.film.seg_ms) g.setup.buffer_ms request is.step.0 (row_not_longer d is l.p) (omega arith) in
    omega (arith, back)
