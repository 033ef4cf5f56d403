-- What is drawn: one more number, one more segment, one more period, and how many there are.
use Rattle.std.proofs.Common.{◌≡◌, ◌∙◌, ℕ, zero, suc, ◌+◌, ◌*◌, ◌/◌, [], ◌∷◌, ◌++◌, length, refl, sym, ap, ap₂, arith, add-one, length-append}
use Rattle.std.specs.List.{flat_map}
use Rattle.std.proofs.lemmas.Grind.{flat_map-append}
use Rattle.std.proofs.lemmas.List.{append-nil}
use Rattle.std.proofs.lemmas.List.FromFn.{length-map-range_with_len, map-range_with_len_more}
use Rattle.demo_case.specs.Draws.{draw, draws_from, next_state, state_after}
use Rattle.demo_case.specs.Case.{period_drawn, periods_from, sizes_drawn, sizes_from}

-- the state after no draw
pub state_first : (x : ℕ) → state_after x 0 ≡ x
unfolding state_after
state_first x = refl

-- the state after one more
pub state_more : (x k : ℕ) → state_after x (k + 1) ≡ next_state (state_after x k)
unfolding state_after
state_more x k = ap (state_after x) (add-one k)

-- draws from a state that draws have reached go on as if from the first
state_on : (x j k : ℕ) → state_after (state_after x j) k ≡ state_after x (j + k)
unfolding state_after
state_on x j zero = ap (state_after x) (omega arith)
state_on x j (suc k) = ap next_state (state_on x j k) ∙ ap (state_after x) (let e : suc (j + k) ≡ j + suc k = omega arith in e)

draw_on : (x j k : ℕ) → draw (state_after x j) k ≡ draw x (j + k)
draw_on x j k = ap (λ s. s / 65536) (state_on x j (suc k) ∙ ap (state_after x) (let e : j + suc k ≡ suc (j + k) = omega arith in e))

-- the next number from the state after some draws
pub draw_more : (x k : ℕ) → draw (state_after x k) 0 ≡ draw x k
draw_more x k = draw_on x k 0 ∙ ap (draw x) (let e : k + 0 ≡ k = omega arith in e)

-- the sizes of no segment
pub sizes_first : (x : ℕ) → sizes_from x 0 ≡ []
unfolding sizes_from
sizes_first x = refl

-- the sizes of one segment more
pub sizes_more : (x i : ℕ) → sizes_from x (i + 1) ≡ sizes_from x i ++ sizes_drawn (draw x i)
unfolding sizes_from
sizes_more x i =
    ap (flat_map sizes_drawn) (map-range_with_len_more (draw x) 0 i i (omega arith)) ∙ flat_map-append sizes_drawn (draws_from x i) (draw x i ∷ [])
    ∙ ap (λ ys. sizes_from x i ++ ys) (append-nil (sizes_drawn (draw x i)))

-- a segment has four sizes
pub sizes_length : (x i : ℕ) → length (sizes_from x i) ≡ i * 4
sizes_length x zero = ap length (sizes_first x)
sizes_length x (suc i) =
    let more = ap (λ k. length (sizes_from x k)) (sym (add-one i)) ∙ ap length (sizes_more x i) ∙ length-append (sizes_from x i) (sizes_drawn (draw x i)) in
    let before = sizes_length x i in
    omega (arith, more, before)

-- the periods of no draw
pub periods_first : (x : ℕ) → periods_from x 0 ≡ []
unfolding periods_from
periods_first x = refl

-- the periods of two draws more
pub periods_more : (x j : ℕ) → periods_from x (j + 1) ≡ periods_from x j ++ period_drawn (draw x (2 * j)) (draw x (2 * j + 1)) ∷ []
unfolding periods_from
periods_more x j = map-range_with_len_more (λ k. period_drawn (draw x (2 * k)) (draw x (2 * k + 1))) 0 j j (omega arith)

-- so many periods are asked for, so many there are
pub periods_length : (x periods : ℕ) → length (periods_from x periods) ≡ periods
unfolding periods_from
periods_length x periods = length-map-range_with_len (λ k. period_drawn (draw x (2 * k)) (draw x (2 * k + 1))) 0 periods

-- the next period
pub period_next : (x j : ℕ) → period_drawn (draw (state_after x (2 * j)) 0) (draw (state_after x (2 * j)) 1) ≡ period_drawn (draw x (2 * j)) (draw x (2 * j + 1))
period_next x j = ap₂ period_drawn (draw_more x (2 * j)) (draw_on x (2 * j) 1)

-- the state after it
pub state_next : (x j : ℕ) → state_after (state_after x (2 * j)) 2 ≡ state_after x (2 * (j + 1))
state_next x j = state_on x (2 * j) 2 ∙ ap (state_after x) (let e : 2 * j + 2 ≡ 2 * (j + 1) = omega arith in e)

-- what the loops over draws need
pub ruleset draws = (state_first, state_more, state_next, draw_more, sizes_first, sizes_more, period_next, periods_first, periods_more)
