-- What a check of a certificate by prices says: the first clause that fails.
use Rattle.std.specs.Prelude.{◌≡◌, ℕ, ◌+◌, ◌==◌, ◌&&◌, ◌||◌, Bool, List, [], ◌∷◌, Option, Some, None, ℤ, int_le, ◌≤ℤ◌, nat_le, nat_lt, if◌then◌else◌}
use Rattle.lab_model.specs.Film.{rungs_of, segments_of}
use Rattle.player_core.specs.Scene.{Task}
use Rattle.labels.specs.Best.{task_value}
use Rattle.labels.specs.Labels.{AreRungs}
use Rattle.price_bounds.specs.declared.certificate.PriceCertificate.{PriceCertificate}
use Rattle.price_bounds.specs.declared.verdict.PriceVerdict.{PriceVerdict}
use Rattle.price_bounds.specs.declared.verdict.PriceVerdict.TheVariants.{BadRung, BadWindow, BoundAbove, OtherFilm, OtherScore, Yes}
use Rattle.price_bounds.specs.declared.window.Window.{Window}
use Rattle.price_bounds.specs.Bound.{bound_of}
use Rattle.price_bounds.specs.Windows.{CanBound, most_price}

-- a certificate without where its parts lie in memory
pub record PriceParts : Type 0 where
  pub segments : ℕ
  pub rungs : ℕ
  pub score : ℤ
  pub bound : ℤ
  pub plan : List ℕ
  pub windows : List Window

-- the parts of a certificate
abbrev pub price_parts : PriceCertificate → PriceParts
price_parts c = record { segments = c.segments; rungs = c.rungs; score = c.score; bound = c.bound; plan = c.plan.items; windows = c.windows.items }

-- the window is within the limits of a film of so many segments
abbrev pub is_window : ℕ → Window → Bool
is_window segments w = nat_le 1 w.first && (nat_le w.first w.last && (nat_lt w.last segments && (nat_le 1 w.price && nat_le w.price most_price)))

-- the window comes after one from `first` to `last`: by its first segment, then by its last
abbrev pub comes_after : ℕ → ℕ → Window → Bool
comes_after first last w = nat_lt first w.first || ((first == w.first) && nat_lt last w.last)

-- the first window, counted from a number on, that is out of range or doesn't come after the one before it; the first comes after one
-- from `first` to `last`
abbrev pub bad_window : ℕ → ℕ → ℕ → ℕ → List Window → Option ℕ
bad_window segments first last number [] = None
bad_window segments first last number (w ∷ ws) =
    if is_window segments w && comes_after first last w then bad_window segments w.first w.last (number + 1) ws else Some number

-- the first segment, counted from one on, whose rung isn't below the count
abbrev pub bad_rung : ℕ → ℕ → List ℕ → Option ℕ
bad_rung rungs segment [] = None
bad_rung rungs segment (q ∷ qs) = if nat_lt q rungs then bad_rung rungs (segment + 1) qs else Some segment

-- what is said of the first place that is bad, or else of the rest
abbrev pub of_place : (ℕ → PriceVerdict) → Option ℕ → PriceVerdict → PriceVerdict
of_place says (Some place) rest = says place
of_place says None rest = rest

-- P4: the value of the list is the score
abbrev pub score_verdict : Task → PriceParts → PriceVerdict
score_verdict g c =
    let value = task_value g c.plan in if int_le value c.score && int_le c.score value then Yes else OtherScore value

-- P3: the bound of the windows is at most the certificate's
abbrev pub bound_verdict : Task → PriceParts → PriceVerdict
bound_verdict g c = let bound = bound_of g c.windows in if int_le bound c.bound then score_verdict g c else BoundAbove bound

-- P2: the rungs of the list are the film's, and the windows are in range and in order
abbrev pub range_verdict : Task → PriceParts → PriceVerdict
range_verdict g c =
    of_place BadRung (bad_rung (rungs_of g.film) 0 c.plan)
    (of_place BadWindow (bad_window (segments_of g.film) 0 0 0 c.windows) (bound_verdict g c))

-- the certificate's counts are the film's
abbrev pub is_of_film : Task → PriceParts → Bool
is_of_film g c = (c.segments == segments_of g.film) && (c.rungs == rungs_of g.film)

-- P1: the counts are the film's
unfoldable pub verdict_of : Task → PriceParts → PriceVerdict
verdict_of g c = if is_of_film g c then range_verdict g c else OtherFilm

-- windows in range, not too many, and in order of their first segments, then of their last
pub record AreInOrder (segments : ℕ) (ws : List Window) : Type 0 where
  pub range : CanBound segments ws
  pub order : bad_window segments 0 0 0 ws ≡ None

-- what a certificate says is so: it is of the film, its list has the score, and the bound of its windows is at most its own
pub record IsValid (g : Task) (c : PriceParts) : Type 0 where
  pub segments : c.segments ≡ segments_of g.film
  pub rungs : c.rungs ≡ rungs_of g.film
  pub list : AreRungs g (segments_of g.film) c.plan
  pub windows : AreInOrder (segments_of g.film) c.windows
  pub bound : bound_of g c.windows ≤ℤ c.bound
  pub score : task_value g c.plan ≡ c.score
