-- How far a running download has come.
use Rattle.std.specs.Prelude.{ℕ, ◌*◌, ◌≤◌}

-- more milliseconds than any download takes
abbrev pub longest_elapsed : ℕ
longest_elapsed = 2000000000

-- the most bits that a millisecond brings
abbrev pub most_bits_in_ms : ℕ
most_bits_in_ms = 10000000

-- the milliseconds since the request of a download, those from the first one that was spent on bits, and the bits received
pub record Received : Type 0 where
  pub elapsed_ms : ℕ
  pub bit_ms : ℕ
  pub got : ℕ

-- no more milliseconds were spent on bits than have passed, no longer than a download takes, and no more bits came than they bring
pub record IsProgress (p : Received) : Type 0 where
  pub elapsed : p.elapsed_ms ≤ longest_elapsed
  pub bit_ms : p.bit_ms ≤ p.elapsed_ms
  pub pace : p.got ≤ most_bits_in_ms * p.bit_ms
