-- The limits of a seek script.
use Rattle.std.specs.Prelude.{ℕ, ◌+◌, ◌≤◌, ◌<◌, List, length, slice_index_or}
use Rattle.std.specs.List.{All}
use Rattle.lab_model.specs.declared.context.Seek.{Seek}
use Rattle.lab_model.specs.Limits.{latest_seek, most_seeks}

-- the seek at a place of a script
abbrev pub seek_no : List Seek → ℕ → Seek
seek_no seeks k = slice_index_or seeks k (record { at_ms = 0; to = 0 })

-- each seek comes before the next
abbrev pub AreRising : List Seek → Type 0
AreRising seeks = (k : ℕ) → k + 1 < length seeks → (seek_no seeks k).at_ms < (seek_no seeks (k + 1)).at_ms

-- at most 16 seeks, at strictly rising instants up to 1000000000 ms, each to one of so many segments
pub record SeeksFit (seeks : List Seek) (segments : ℕ) : Type 0 where
  pub count : length seeks ≤ most_seeks
  pub instants : All (λ s. s.at_ms ≤ latest_seek) seeks
  pub rising : AreRising seeks
  pub targets : All (λ s. s.to < segments) seeks
