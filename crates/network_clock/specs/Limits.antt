-- The limits of what a clock is asked for.
use Rattle.std.specs.Prelude.{ℕ}

-- the latest instant of a request or an answer, in ms
abbrev pub latest_answer : ℕ
latest_answer = 2000000000000000

-- the most bits of a download
abbrev pub most_bits : ℕ
most_bits = 200000000

-- the most that a download can lack, in thousandths of a bit
abbrev pub most_left : ℕ
most_left = 200000000000
