-- Labels that wait for their requests, and those of them that are enough for the frontiers of the next segment.
use Rattle.std.specs.Prelude.{◌≡◌, ℕ, ◌<◌, ◌≤◌, ◌*◌, ◌⊎◌, List, Some, length, pos, slice_index_or, ◌+ℤ◌}
use Rattle.std.specs.List.{Contains}
use Rattle.lab_model.specs.declared.label.Label.{Label}
use Rattle.lab_model.specs.Film.{rungs_of}
use Rattle.lab_model.specs.Weighing.{change_of}
use Rattle.labels.specs.Grid.{Rounding}
use Rattle.labels.specs.Labels.{Dominates, next_label, request_at}
use Rattle.player_core.specs.Scene.{Task}
use Rattle.labels.specs.Near.{CanFollow}
use Rattle.labels.specs.Read.{no_label}
use Rattle.frontier_planner.specs.declared.thin.Followed.{Followed}

-- a label with its rung as it waits for a segment: with the instant of its request in place of its finish time
abbrev pub waiting : Task → ℕ → ℕ × Label → ℕ × Label
waiting g segment c = (c.0, record { t = request_at g segment c.1; p = c.1.p; v = c.1.v })

-- the label with so much more value
abbrev pub raised : ℕ → Label → Label
raised slack l = record { t = l.t; p = l.p; v = l.v +ℤ pos slack }

-- the first dominates the second even with so much more value
abbrev pub LeadsBy : ℕ → Label → Label → Type 0
LeadsBy slack a b = Dominates a (raised slack b)

-- what is followed where there is no label
abbrev pub no_followed : Followed
no_followed = record { rung = 0; label = no_label; place = 0 }

-- the label at a place as it waits for a segment
abbrev pub waiting_at : Task → ℕ → List (ℕ × Label) → ℕ → Followed
waiting_at g segment labels k =
    let c = waiting g segment (slice_index_or labels k (0, no_label)) in
    record { rung = c.0; label = c.1; place = k }

-- the labels as they wait for a segment, each with its place
pub record AreWaiting (g : Task) (segment : ℕ) (labels : List (ℕ × Label)) (waits : List Followed) : Type 0 where
  pub count : length waits ≡ length labels
  pub each : (k : ℕ) → k < length labels → slice_index_or waits k no_followed ≡ waiting_at g segment labels k

-- labels of a list by which each label of it that is left out is led by so much
pub record AreLeaders (slack : ℕ) (labels kept : List Followed) : Type 0 where
  pub within : (c : Followed) → Contains kept c → Contains labels c
  pub above : (c : Followed) → Contains labels c → (b : Followed) × Contains kept b × ((b ≡ c) ⊎ LeadsBy slack b.label c.label)

-- the successor of the first, to a segment on each rung, leads that of the second by a step of the grid
abbrev pub LeadsOn : Rounding → Task → ℕ → Followed → ℕ × Label → Type 0
LeadsOn d g segment c b = (r : ℕ) → r < rungs_of g.film → LeadsBy d.value (next_label g segment c.rung c.label r) (next_label g segment b.0 b.1 r)

-- for a segment it is enough to follow these instead of the labels before it: they can be followed as some of those are,
-- and the others have successors that are led by a step of the grid
pub record AreEnough (d : Rounding) (g : Task) (segment : ℕ) (labels : List (ℕ × Label)) (kept : List Followed) : Type 0 where
  pub follow : (c : Followed) → Contains kept c → (c.rung < rungs_of g.film) × CanFollow c.label
  pub inside : (c : Followed) → Contains kept c → c.place < length labels
  pub within : (c : Followed) → Contains kept c → (r : ℕ)
      → next_label g segment c.rung c.label r ≡ next_label g segment (slice_index_or labels c.place (0, no_label)).0 (slice_index_or labels c.place (0, no_label)).1 r
  pub above : (k : ℕ) → k < length labels → (c : Followed) × Contains kept c × ((c.place ≡ k) ⊎ LeadsOn d g segment c (slice_index_or labels k (0, no_label)))

-- what a change of rung costs at a segment
abbrev pub change_cost : Task → ℕ → ℕ → ℕ → ℕ
change_cost g segment q r = g.setup.weights.switch * change_of g.setup.weights segment (Some q) r

-- no change costs more than this
abbrev pub CoversChange : Task → ℕ → ℕ → Type 0
CoversChange g segment slack = (q r : ℕ) → q < rungs_of g.film → r < rungs_of g.film → change_cost g segment q r ≤ slack
