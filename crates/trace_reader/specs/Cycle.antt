-- The tests on the cycle of a trace, the same for each format.
use Rattle.std.specs.Prelude.{◌*◌, List, Result, Ok, Err, if◌then◌else◌, nat_lt}
use Rattle.lab_model.specs.Cycle.{cycle_bits, cycle_ms}
use Rattle.lab_model.specs.declared.trace.Period.{Period}
use Rattle.lab_model.specs.declared.fault.Refusal.{Refusal}
use Rattle.lab_model.specs.declared.fault.Kind.TheVariants as kind
use Rattle.lab_model.specs.declared.fault.Key.TheVariants as key
use Rattle.lab_model.specs.Reading.{refusal}

-- the periods, if their cycle is short enough and carries at least one bit a millisecond on the mean
abbrev pub good_cycle : List Period → Result (List Period) Refusal
good_cycle periods =
    if nat_lt 100000000 (cycle_ms periods) then Err (refusal kind.OutOfRange key.Cycle 0 0)
    else (if nat_lt (cycle_bits periods) (1000 * cycle_ms periods) then Err (refusal kind.TooSlow key.Cycle 0 0) else Ok periods)
