-- BOLA (INFOCOM 2016) in this project's whole numbers: what it chooses by the level of the buffer.
use Rattle.std.specs.Prelude.{ℕ, ◌+◌, ◌-◌, ◌*◌, Bool, ℤ, pos, ◌*ℤ◌, ◌-ℤ◌, int_le}
use Rattle.std.specs.List.{list_all}
use Rattle.lab_model.specs.declared.setup.Setup.{Setup}
use Rattle.lab_model.specs.declared.context.Context.{Context}
use Rattle.lab_model.specs.Film.{Film, rungs_of, bitrate_of}
use Rattle.lab_model.specs.Ladder.{least_rung, rungs_below}
use Rattle.lab_model.specs.Weighing.{utility_of}

-- the numerator of a rung's score, whose divisor is its bitrate; utilities are those of the segment that is asked for
abbrev pub bola_gain : ℕ → Film → Setup → Context → ℕ → ℤ
bola_gain g f s c q =
    pos ((s.buffer_ms - f.seg_ms) * (utility_of s.weights c.next q + g)) -ℤ pos (c.level * (utility_of s.weights c.next (rungs_of f - 1) + g))

-- the score of one rung is at most that of another: quotients compared by cross products
abbrev pub bola_at_most : ℕ → Film → Setup → Context → ℕ → ℕ → Bool
bola_at_most g f s c p q =
    int_le (bola_gain g f s c p *ℤ pos (bitrate_of f q)) (bola_gain g f s c q *ℤ pos (bitrate_of f p))

-- no rung's score exceeds that of this one
abbrev pub bola_is_best : ℕ → Film → Setup → Context → ℕ → Bool
bola_is_best g f s c q = list_all (λ p. bola_at_most g f s c p q) (rungs_below (rungs_of f))

-- BOLA: the least rung whose score no other exceeds
abbrev pub bola_choice : ℕ → Film → Setup → Context → ℕ
bola_choice g f s c = least_rung (bola_is_best g f s c) (rungs_of f)
