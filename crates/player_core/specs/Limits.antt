-- The limits of a session that proofs keep.
use Rattle.std.specs.Prelude.{ℕ}

-- the delay of a download at its request
abbrev pub whole_credit : ℕ
whole_credit = 100000000

-- an instant before which every session within the limits ends
abbrev pub latest_ms : ℕ
latest_ms = 1000000000000000

-- the most segments that a session plays: all of them at its start and after each seek
abbrev pub most_played : ℕ
most_played = 34000

-- more stalls than any session has
abbrev pub most_stalls : ℕ
most_stalls = 2000000

-- more bits than seeks and abandoned downloads waste in any session
abbrev pub most_wasted : ℕ
most_wasted = 1000000000000000

-- the most bits of loaded segments, in the two halves in which they are kept
abbrev pub most_loaded : ℕ
most_loaded = 400000000000

-- the most bits that a seek wastes: those, and those of a download
abbrev pub most_sought : ℕ
most_sought = 400200000000
