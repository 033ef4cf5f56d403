-- When a setup fits a manifest, part by part, as a fact and as a test.
use Rattle.std.specs.Prelude.{◌≡◌, ◌⊎◌, ◌==◌, ◌&&◌, ◌||◌, Bool, nat_le}
use Rattle.lab_model.specs.declared.setup.Setup.{Setup}
use Rattle.lab_model.specs.Film.{Film, IsWithin, rungs_of, segments_of}
use Rattle.lab_model.specs.Limits.{most_buffer}

-- the buffer holds a segment, and is at most 10000000 ms
abbrev pub BufferFits : Setup → Film → Type 0
BufferFits s f = IsWithin f.seg_ms most_buffer s.buffer_ms

-- the same as a test
abbrev pub buffer_fits : Setup → Film → Bool
buffer_fits s f = nat_le f.seg_ms s.buffer_ms && nat_le s.buffer_ms most_buffer

-- each rung has a utility, and a table has a row for each segment
pub record UtilitiesFit (s : Setup) (f : Film) : Type 0 where
  pub rungs : s.weights.count ≡ rungs_of f
  pub rows : (s.weights.rows ≡ 0) ⊎ (s.weights.rows ≡ segments_of f)

-- the same as a test
abbrev pub utilities_fit : Setup → Film → Bool
utilities_fit s f = (s.weights.count == rungs_of f) && ((s.weights.rows == 0) || (s.weights.rows == segments_of f))

-- the buffer and the utilities fit
pub record SetupFits (s : Setup) (f : Film) : Type 0 where
  pub buffer : BufferFits s f
  pub utilities : UtilitiesFit s f
