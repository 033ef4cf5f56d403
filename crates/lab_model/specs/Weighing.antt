-- How a session is weighed: utilities by segment and rung, and three weights.
use Rattle.std.specs.Prelude.{ℕ, ◌+◌, ◌*◌, ◌/◌, ◌<◌, ◌==◌, List, length, slice_index, Option, Some, None, if◌then◌else◌}
use Rattle.std.specs.Int.{abs_diff}
use Rattle.lab_model.specs.Row.{AreUtilities, AreWeights}

-- utilities row by row, the rungs of a row, the rows of a table (0 where one row is every segment's), and the weights
pub record Weighing : Type 0 where
  pub utilities : List ℕ
  pub count : ℕ
  pub rows : ℕ
  pub switch : ℕ
  pub stall : ℕ
  pub startup : ℕ

-- the weights whose one row of utilities serves every segment
abbrev pub weighing : List ℕ → ℕ → ℕ → ℕ → Weighing
weighing utilities switch stall startup =
    record { utilities = utilities; count = length utilities; rows = 0; switch = switch; stall = stall; startup = startup }

-- the weights whose table has a row of so many utilities for each segment
abbrev pub table_weighing : List ℕ → ℕ → ℕ → ℕ → ℕ → Weighing
table_weighing utilities count switch stall startup =
    record { utilities = utilities; count = count; rows = length utilities / count; switch = switch; stall = stall; startup = startup }

-- the row of a segment: the one row, or its own
abbrev pub row_no : Weighing → ℕ → ℕ
row_no w segment = if w.rows == 0 then 0 else segment

-- the utility of a rung at a segment
abbrev pub utility_of : Weighing → ℕ → ℕ → ℕ
utility_of w segment rung = slice_index w.utilities (row_no w segment * w.count + rung)

-- the segment has a row, and the rung is one of its rungs
abbrev pub HasUtility : Weighing → ℕ → ℕ → Type 0
HasUtility w segment rung = (rung < w.count) × (0 < w.rows → segment < w.rows)

-- how far the utility changes from the rung before, both taken at the later segment; 0 where there is no rung before
abbrev pub change_of : Weighing → ℕ → Option ℕ → ℕ → ℕ
change_of w segment None rung = 0
change_of w segment (Some before) rung = abs_diff (utility_of w segment rung) (utility_of w segment before)

-- the limits of weights: 1 to 16 utilities for each row, at most 2000 rows of a table, and each row and weight within its own
pub record IsWeighing (w : Weighing) : Type 0 where
  pub utilities : AreUtilities w.utilities w.count w.rows
  pub weights : AreWeights w.switch w.stall w.startup
