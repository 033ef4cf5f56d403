-- How a run ends: its status, its note, and what `err` is told.
use Rattle.std.specs.Prelude.{◌≡◌, ℕ, [], ◌∷◌, ◌++◌, Option, Some, None, Result, Ok, Err, codes}
use Rattle.std.specs.Fmt.{decimal}
use Rattle.lab_io.specs.declared.PutErr.{PutErr}
use Rattle.lab_io.specs.declared.PutErr.TheVariants as put
use Rattle.lab_io.specs.Piece.{fields_line}
use Rattle.lab_io.specs.Sink.{Text, Seen, Puts}
use Rattle.lab_inputs.specs.declared.stop.FileFault.{FileFault}
use Rattle.lab_inputs.specs.declared.stop.FileFault.TheVariants as fault
use Rattle.lab_inputs.specs.declared.stop.Halt.{Halt}
use Rattle.lab_inputs.specs.declared.stop.Halt.TheVariants as halt
use Rattle.lab_inputs.specs.declared.stop.Stop.{Stop}
use Rattle.lab_inputs.specs.declared.stop.Stop.TheVariants as stop
use Rattle.lab_inputs.specs.Notes.{stop_note}
use Rattle.frontier_planner.specs.declared.plans.PlanErr.{PlanErr}
use Rattle.frontier_planner.specs.declared.plans.PlanErr.TheVariants as planned
use Rattle.abrlab_top.specs.declared.ending.Ending.{Ending}
use Rattle.abrlab_top.specs.declared.ending.Ending.TheVariants as ending

-- ---- statuses

-- the status where something is wrong with a file
abbrev pub fault_status : FileFault → ℕ
fault_status fault.NotRead = 4
fault_status fault.TooLong = 3
fault_status (fault.Refused why) = 3

-- the status of a stop
abbrev pub stop_status : Stop → ℕ
stop_status (stop.File role why) = fault_status why
stop_status (stop.Settings setting) = 3

-- the status of an ending
abbrev pub status_of : Ending → ℕ
status_of ending.Done = 0
status_of ending.Invalid = 1
status_of ending.Usage = 2
status_of (ending.Stopped why) = stop_status why
status_of (ending.Spent trace segment) = 6
status_of ending.OutputFailed = 5
status_of ending.NoMemory = 9

-- the text went out whole
abbrev pub IsWhole : Ending → Type 0
IsWhole ending.Done = Unit {0}
IsWhole ending.Invalid = Unit {0}
IsWhole ending.Usage = ⊥
IsWhole (ending.Stopped why) = ⊥
IsWhole (ending.Spent trace segment) = ⊥
IsWhole ending.OutputFailed = ⊥
IsWhole ending.NoMemory = ⊥

-- ---- notes

-- whose budget it is about: that of the trace of a place, where each is planned
abbrev pub spender : Option ℕ → Text
spender None = codes "abrlab: "
spender (Some place) = codes "abrlab: trace " ++ (decimal place ++ codes ": ")

-- at the end of which segment a budget was spent
abbrev pub spending : ℕ → Text
spending segment = codes "budget spent at segment " ++ fields_line (decimal segment ∷ [])

-- the line on `err` of an ending, none where the text went out whole
abbrev pub note_of : Ending → Text
note_of ending.Done = []
note_of ending.Invalid = []
note_of ending.Usage = fields_line (codes "abrlab: usage: simulate, compare, plan, check, demo" ∷ [])
note_of (ending.Stopped why) = stop_note why
note_of (ending.Spent trace segment) = spender trace ++ spending segment
note_of ending.OutputFailed = fields_line (codes "abrlab: output failed" ∷ [])
note_of ending.NoMemory = fields_line (codes "abrlab: no memory" ∷ [])

-- a text was put, and went out whole or in part
abbrev pub Says : Seen → Text → Seen → Type 0
Says old said new = (answer : Result (Unit {0}) PutErr) × Puts old said new answer

-- `err` was told of the ending, and is as before where the text went out whole
abbrev pub Told : Seen → Ending → Seen → Type 0
Told old ending.Done new = new ≡ old
Told old ending.Invalid new = new ≡ old
Told old ending.Usage new = Says old (note_of ending.Usage) new
Told old (ending.Stopped why) new = Says old (note_of (ending.Stopped why)) new
Told old (ending.Spent trace segment) new = Says old (note_of (ending.Spent trace segment)) new
Told old ending.OutputFailed new = Says old (note_of ending.OutputFailed) new
Told old ending.NoMemory new = Says old (note_of ending.NoMemory) new

-- ---- how a stage that did not come to its end ends the run

-- reading
abbrev pub after_halt : Halt → Ending
after_halt (halt.Stopped why) = ending.Stopped why
after_halt halt.NoMemory = ending.NoMemory

-- writing
abbrev pub after_put : PutErr → Ending
after_put put.Failed = ending.OutputFailed
after_put put.Memory = ending.NoMemory

-- planning
abbrev pub after_plan : PlanErr → Ending
after_plan (planned.BudgetSpent segment) = ending.Spent None segment
after_plan planned.Memory = ending.NoMemory

-- how a command ends that came to this
abbrev pub ended : Result (Unit {0}) Ending → Ending
ended (Ok done) = ending.Done
ended (Err e) = e
