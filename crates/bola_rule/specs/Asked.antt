-- Not part of the model: what the proofs keep.
-- What BOLA is asked.
use Rattle.std.specs.Prelude.{ℕ, ◌-◌, ◌<◌, ◌≤◌}
use Rattle.lab_model.specs.declared.setup.Setup.{Setup}
use Rattle.lab_model.specs.declared.context.Context.{Context}
use Rattle.lab_model.specs.Film.{Film, IsWithin, segments_of}
use Rattle.lab_model.specs.Fit.{SetupFits}

-- its `g`, and what the next rung is chosen from
pub record Asked : Type 0 where
  pub g : ℕ
  pub film : Film
  pub setup : Setup
  pub context : Context

-- these fit together
pub record IsAsked (a : Asked) : Type 0 where
  pub g : IsWithin 1 1000000 a.g
  pub setup : SetupFits a.setup a.film
  pub segment : a.context.next < segments_of a.film
  pub level : a.context.level ≤ a.setup.buffer_ms - a.film.seg_ms
