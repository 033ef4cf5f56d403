-- Lists by segments that the search keeps, and what it answers.
use Rattle.std.specs.Prelude.{◌≡◌, ℕ, ◌+◌, ◌<◌, List, length}
use Rattle.lab_model.specs.Film.{rungs_of, segments_of}
use Rattle.player_core.specs.Scene.{Task}
use Rattle.near_best.specs.declared.course.Course.{Course}
use Rattle.near_best.specs.declared.delay.Priced.{Priced}
use Rattle.near_best.specs.declared.play.Look.{Look}
use Rattle.near_best.specs.declared.windows.Tariff.{Tariff}

-- a number for each segment
abbrev pub IsForEach : Task → List ℕ → Type 0
IsForEach g numbers = length numbers ≡ segments_of g.film

-- a number for each segment, and one more behind the last
abbrev pub IsForEachEdge : Task → List ℕ → Type 0
IsForEachEdge g numbers = length numbers ≡ segments_of g.film + 1

-- begins and ends of all segments
pub record IsCourse (g : Task) (c : Course) : Type 0 where
  pub begins : IsForEach g c.begins.items
  pub ends : IsForEach g c.ends.items

-- prices of all segments, with a course
pub record ArePriced (g : Task) (p : Priced) : Type 0 where
  pub course : IsCourse g p.course
  pub prices : IsForEach g p.prices.items

-- prices of all segments, with what windows carry over
pub record ArePricesOf (g : Task) (t : Tariff) : Type 0 where
  pub prices : IsForEach g t.prices.items
  pub shared : IsForEachEdge g t.shared.items

-- prices of all segments, with a first rung of the film
pub record IsLook (g : Task) (l : Look) : Type 0 where
  pub tariff : ArePricesOf g l.tariff
  pub rung : l.peak.rung < rungs_of g.film
