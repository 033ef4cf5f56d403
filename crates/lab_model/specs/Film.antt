-- The film: what a manifest says, and its limits.
use Rattle.std.specs.Prelude.{◌≡◌, ℕ, ◌+◌, ◌*◌, ◌/◌, ◌≤◌, List, length, slice_index}
use Rattle.std.specs.List.{All}
use Rattle.std.specs.List.Sorted.{IsStrictlyIncreasing}

-- the number lies from low to high, both included
abbrev pub IsWithin : ℕ → ℕ → ℕ → Type 0
IsWithin low high n = (low ≤ n) × (n ≤ high)

-- the most segments of a film
abbrev pub most_segments : ℕ
most_segments = 2000

-- the most rungs of a ladder
abbrev pub most_rungs : ℕ
most_rungs = 16

-- a manifest: the segment duration in ms, the bitrate of each rung in kbps, the sizes in bits, segment by segment and in each rung by rung
pub record Film : Type 0 where
  pub seg_ms : ℕ
  pub bitrates : List ℕ
  pub sizes : List ℕ

-- the manifest of these parts
abbrev pub film : ℕ → List ℕ → List ℕ → Film
film seg_ms bitrates sizes = record { seg_ms = seg_ms; bitrates = bitrates; sizes = sizes }

-- the number of rungs of the ladder
abbrev pub rungs_of : Film → ℕ
rungs_of f = length f.bitrates

-- the number of segments
abbrev pub segments_of : Film → ℕ
segments_of f = length f.sizes / length f.bitrates

-- the bitrate of a rung in kbps
abbrev pub bitrate_of : Film → ℕ → ℕ
bitrate_of f rung = slice_index f.bitrates rung

-- the size in bits of a segment on a rung
abbrev pub size_of : Film → ℕ → ℕ → ℕ
size_of f segment rung = slice_index f.sizes (segment * rungs_of f + rung)

-- the limits of a manifest
pub record IsFilm (f : Film) : Type 0 where
  pub seg_ms : IsWithin 1 60000 f.seg_ms
  pub rungs : IsWithin 1 most_rungs (rungs_of f)
  pub rising : IsStrictlyIncreasing f.bitrates
  pub bitrates : All (IsWithin 1 10000000) f.bitrates
  pub whole : length f.sizes ≡ segments_of f * rungs_of f
  pub segments : IsWithin 1 most_segments (segments_of f)
  pub sizes : All (IsWithin 1 200000000) f.sizes
