-- A made case lies within the limits: film, network, weights, and so the task.
use Rattle.std.proofs.Common.{◌≡◌, ◌∙◌, ℕ, zero, suc, ◌+◌, ◌*◌, ◌<◌, ◌≤◌, inl, [], ◌∷◌, slice_index, refl, sym, ap, subst, arith, add-one}
use Rattle.std.specs.List.{All}
use Rattle.std.proofs.lemmas.List.Elements.{All-append, All-cons, All-nil, All-push}
use Rattle.std.proofs.lemmas.List.Sums.{sum_by-append}
use Rattle.lab_model.specs.declared.setup.Setup.{Setup}
use Rattle.lab_model.specs.declared.trace.Period.{Period}
use Rattle.lab_model.specs.Cycle.{IsPeriod, IsTrace, cycle_bits, cycle_ms}
use Rattle.lab_model.specs.Film.{Film, IsFilm, IsWithin, segments_of}
use Rattle.lab_model.specs.Fit.{SetupFits}
use Rattle.lab_model.specs.Row.{IsRow}
use Rattle.lab_model.specs.Weighing.{IsWeighing}
use Rattle.lab_model.proofs.Rows.{weighing_within}
use Rattle.player_core.specs.Scene.{IsTask}
use Rattle.demo_case.specs.Draws.{draw, state_after}
use Rattle.demo_case.specs.Case.{demo_bitrates, demo_film, demo_setup, demo_task, period_drawn, periods_from, size_drawn, sizes_drawn, sizes_from}
use Rattle.demo_case.proofs.Drawn.{periods_first, periods_length, periods_more, sizes_first, sizes_length, sizes_more}

-- a list of four within limits
all_four : (P : ℕ → Type 0) (a b c d : ℕ) → P a → P b → P c → P d → All P (a ∷ b ∷ c ∷ d ∷ [])
all_four P a b c d one two three four =
    All-cons P a (b ∷ c ∷ d ∷ []) one (All-cons P b (c ∷ d ∷ []) two (All-cons P c (d ∷ []) three (All-cons P d [] four (All-nil P))))

-- ---- the film

sizes_of_draw : (drawn : ℕ) → All (IsWithin 1 200000000) (sizes_drawn drawn)
sizes_of_draw drawn =
    all_four (IsWithin 1 200000000) (size_drawn drawn 500) (size_drawn drawn 1000) (size_drawn drawn 2000) (size_drawn drawn 4000) (omega arith, omega arith) (omega arith, omega arith) (omega arith, omega arith) (omega arith, omega arith)

sizes_within : (x i : ℕ) → All (IsWithin 1 200000000) (sizes_from x i)
sizes_within x zero = subst (All (IsWithin 1 200000000)) (sym (sizes_first x)) (All-nil (IsWithin 1 200000000))
sizes_within x (suc i) =
    subst (All (IsWithin 1 200000000)) (sym (sizes_more x i) ∙ ap (sizes_from x) (add-one i))
    (All-append (IsWithin 1 200000000) (sizes_from x i) (sizes_drawn (draw x i)) (sizes_within x i) (sizes_of_draw (draw x i)))

bitrates_rise : (k : ℕ) → k + 1 < 4 → slice_index demo_bitrates k < slice_index demo_bitrates (k + 1)
bitrates_rise zero low = omega arith
bitrates_rise (suc zero) low = omega arith
bitrates_rise (suc (suc zero)) low = omega arith
bitrates_rise (suc (suc (suc k))) low = absurd (omega (arith, low))

bitrates_within : All (IsWithin 1 10000000) demo_bitrates
bitrates_within = all_four (IsWithin 1 10000000) 500 1000 2000 4000 (omega arith, omega arith) (omega arith, omega arith) (omega arith, omega arith) (omega arith, omega arith)

-- it has 40 segments
pub demo_segments : (n : ℕ) → segments_of (demo_film n) ≡ 40
demo_segments n = let long = sizes_length n 40 in omega (arith, long)

-- it is a film
pub demo_is_film : (n : ℕ) → IsFilm (demo_film n)
demo_is_film n =
    let long = sizes_length n 40 in
    let count = demo_segments n in
    record {
      seg_ms = (omega arith, omega arith);
      rungs = (omega arith, omega arith);
      rising = bitrates_rise;
      bitrates = bitrates_within;
      whole = omega (arith, long, count);
      segments = (omega (arith, count), omega (arith, count));
      sizes = sizes_within n 40;
    }

-- ---- the network

periods_within : (x j : ℕ) → All IsPeriod (periods_from x j)
periods_within x zero = subst (All IsPeriod) (sym (periods_first x)) (All-nil IsPeriod)
periods_within x (suc j) =
    let next = period_drawn (draw x (2 * j)) (draw x (2 * j + 1)) in
    subst (All IsPeriod) (sym (periods_more x j) ∙ ap (periods_from x) (add-one j))
    (All-push IsPeriod (periods_from x j) next (periods_within x j) (record { duration = (omega arith, omega arith); bandwidth = omega arith; latency = omega arith }))

-- the milliseconds and the carried thousandths of a bit of so many periods
cycles : (x j : ℕ) → (cycle_ms (periods_from x j) ≡ j * 5000) × (1000 * cycle_ms (periods_from x j) ≤ cycle_bits (periods_from x j))
cycles x zero = let none = periods_first x in (ap cycle_ms none, subst (λ ps. 1000 * cycle_ms ps ≤ cycle_bits ps) (sym none) (omega arith))
cycles x (suc j) =
    let next = period_drawn (draw x (2 * j)) (draw x (2 * j + 1)) in
    let more = ap (periods_from x) (sym (add-one j)) ∙ periods_more x j in
    let ms = ap cycle_ms more ∙ sum_by-append (λ (p : Period). p.duration_ms) (periods_from x j) (next ∷ []) in
    let bits = ap cycle_bits more ∙ sum_by-append (λ (p : Period). p.duration_ms * p.bandwidth) (periods_from x j) (next ∷ []) in
    let before = cycles x j in
    (omega (arith, ms, before.0), omega (arith, ms, bits, before.1))

-- 20 periods are a trace
pub periods_are_trace : (x : ℕ) → IsTrace (periods_from x 20)
periods_are_trace x =
    let count = periods_length x 20 in
    let cycle = cycles x 20 in
    record {
      count = (omega (arith, count), omega (arith, count));
      periods = periods_within x 20;
      cycle = omega (arith, cycle.0);
      carries = cycle.1;
    }

-- ---- the setup and the task

utilities_rise : (rung : ℕ) → rung + 1 < 4 → slice_index (0 ∷ 1 ∷ 2 ∷ 3 ∷ []) rung ≤ slice_index (0 ∷ 1 ∷ 2 ∷ 3 ∷ []) (rung + 1)
utilities_rise zero low = omega arith
utilities_rise (suc zero) low = omega arith
utilities_rise (suc (suc zero)) low = omega arith
utilities_rise (suc (suc (suc k))) low = absurd (omega (arith, low))

utilities_within : IsRow (0 ∷ 1 ∷ 2 ∷ 3 ∷ [])
utilities_within = record { limits = all_four (λ (u : ℕ). u ≤ 1000000) 0 1 2 3 (omega arith) (omega arith) (omega arith) (omega arith); rise = utilities_rise }

-- its weights are weights
pub demo_is_weighing : IsWeighing demo_setup.weights
demo_is_weighing =
    weighing_within (0 ∷ 1 ∷ 2 ∷ 3 ∷ []) 0 100 1 (omega arith, omega arith) utilities_within
    (record { switch_fits = omega arith; stall_fits = omega arith; startup_fits = omega arith })

-- the setup fits
pub demo_setup_fits : (n : ℕ) → SetupFits demo_setup (demo_film n)
demo_setup_fits n = record {
  buffer = (omega arith, omega arith);
  utilities = record { rungs = refl; rows = inl refl };
}

-- so it does where film and setup are those
pub parts_fit : (n : ℕ) (f : Film) (s : Setup) → f ≡ demo_film n → s ≡ demo_setup → SetupFits s f
parts_fit n f s film setup = subst (λ t. SetupFits t f) (sym setup) (subst (SetupFits demo_setup) (sym film) (demo_setup_fits n))

-- all of it is a task
pub demo_is_task : (n : ℕ) → IsTask (demo_task n)
demo_is_task n = record { film = demo_is_film n; trace = periods_are_trace (state_after n 40); setup = demo_setup_fits n; weights = demo_is_weighing; ahead = omega arith }
