-- What a choice is made from.
use Rattle.std.specs.Prelude.{ℕ, ◌+◌, ◌-◌, ◌≤◌, ◌<◌, IfSome}
use Rattle.lab_model.specs.declared.setup.Setup.{Setup}
use Rattle.lab_model.specs.declared.context.Context.{Context}
use Rattle.lab_model.specs.Film.{Film, IsFilm, IsWithin, rungs_of, segments_of}
use Rattle.lab_model.specs.Fit.{SetupFits}
use Rattle.lab_model.specs.Weighing.{IsWeighing, Weighing}

-- film and setup, where the session stands, the rate in bits per second that is reckoned with, and how many segments are looked at
pub record Lookahead : Type 0 where
  pub film : Film
  pub setup : Setup
  pub context : Context
  pub rate : ℕ
  pub span : ℕ

-- what a choice is made from fits together: the segments that are looked at are 1 to 5, and the film's
pub record IsLookahead (o : Lookahead) : Type 0 where
  pub film : IsFilm o.film
  pub weights : IsWeighing o.setup.weights
  pub setup : SetupFits o.setup o.film
  pub some : 0 < o.span
  pub few : o.span ≤ 5
  pub segments : o.context.next + o.span ≤ segments_of o.film
  pub level : o.context.level ≤ o.setup.buffer_ms - o.film.seg_ms
  pub last : IfSome o.context.last (λ rung. rung < rungs_of o.film)
  pub rate : IsWithin 1 10000000000 o.rate

-- the number of rungs of the ladder
abbrev pub ladder_of : Lookahead → ℕ
ladder_of o = rungs_of o.film

-- the utilities and weights
abbrev pub weights_of : Lookahead → Weighing
weights_of o = o.setup.weights

-- the level to which a segment can fill the buffer
abbrev pub room_of : Lookahead → ℕ
room_of o = o.setup.buffer_ms - o.film.seg_ms
