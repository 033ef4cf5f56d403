-- The made case of a number: the film, the network, the setup, and the planner's task of the three.
use Rattle.std.specs.Prelude.{ℕ, ◌+◌, ◌*◌, ◌%◌, List, [], ◌∷◌, map, false}
use Rattle.lab_model.specs.Limits.{all_ahead}
use Rattle.std.specs.List.{flat_map}
use Rattle.lab_model.specs.declared.setup.Setup.{Setup}
use Rattle.lab_model.specs.declared.trace.Period.{Period}
use Rattle.lab_model.specs.Film.{Film, film}
use Rattle.lab_model.specs.Ladder.{rungs_below}
use Rattle.lab_model.specs.Weighing.{weighing}
use Rattle.player_core.specs.Scene.{Task, task_of}
use Rattle.demo_case.specs.Draws.{draw, draws_from, state_after}

-- the bitrates in kbps
abbrev pub demo_bitrates : List ℕ
demo_bitrates = 500 ∷ 1000 ∷ 2000 ∷ 4000 ∷ []

-- the size in bits of a segment on the rung of a bitrate: 75 to 125 hundredths of two seconds at the bitrate, by the segment's draw
abbrev pub size_drawn : ℕ → ℕ → ℕ
size_drawn drawn bitrate = bitrate * 20 * (75 + drawn % 51)

-- the sizes of a segment, rung by rung, all by one draw
abbrev pub sizes_drawn : ℕ → List ℕ
sizes_drawn drawn = map (size_drawn drawn) demo_bitrates

-- the sizes of so many segments, one draw a segment, from a state on
unfoldable pub sizes_from : ℕ → ℕ → List ℕ
sizes_from x segments = flat_map sizes_drawn (draws_from x segments)

-- the period of two draws: the first gives the bandwidth, 500 to 4000 kbps in thousandths, the second the latency, 20 to 100 ms
abbrev pub period_drawn : ℕ → ℕ → Period
period_drawn first second = record { duration_ms = 5000; bandwidth = 1000 * (500 + 100 * (first % 36)); latency = 20 + second % 81 }

-- so many periods, two draws a period, from a state on
unfoldable pub periods_from : ℕ → ℕ → List Period
periods_from x periods = map (λ j. period_drawn (draw x (2 * j)) (draw x (2 * j + 1))) (rungs_below periods)

-- the film of a number: 40 segments of 2000 ms
abbrev pub demo_film : ℕ → Film
demo_film n = film 2000 demo_bitrates (sizes_from n 40)

-- the network of a number: 20 periods, drawn from the state that the film's draws leave
abbrev pub demo_periods : ℕ → List Period
demo_periods n = periods_from (state_after n 40) 20

-- the setup, the same for each number: a buffer of two segments, utilities 0 to 3, a stall weighs 100 and the startup 1 a millisecond
abbrev pub demo_setup : Setup
demo_setup = record { buffer_ms = 4000; weights = weighing (0 ∷ 1 ∷ 2 ∷ 3 ∷ []) 0 100 1; abandon = false }

-- the planner's task of a number
abbrev pub demo_task : ℕ → Task
demo_task n = task_of (demo_film n) (demo_periods n) demo_setup all_ahead
