use Rattle.std.proofs.Common.{ℕ, List, Result, Ok, Err, Vec, Global, ◌∙◌, ap, subst}
use Rattle.std.specs.Result.{IfOk}
use Rattle.lab_model.specs.declared.context.Seek.{Seek}
use Rattle.lab_model.specs.declared.fault.InputFault.{InputFault}
use Rattle.lab_model.specs.Reading.{Gives}
use Rattle.seek_script.specs.Script.{seeks_in, seeks_of}
use Rattle.lab_model.specs.Seeks.{SeeksFit}
use Rattle.seek_script.proofs.Limits.{within}
use Rattle.seek_script.proofs.Within.{seeks_within}
use Rattle.seek_script.proofs.script.read_seeks.Goals as goal

gives : (c : goal.After-drop-records) → Gives {X = Vec Seek Global} {Y = List Seek} (λ v. v.items) c.seeks_in.result (seeks_of c.args.bytes.now c.args.segments)
gives c =
    subst (Gives {X = Vec Seek Global} {Y = List Seek} (λ v. v.items) c.seeks_in.result)
    (ap (seeks_in c.args.segments) c.in-Ok.ensures ∙ seeks_within c.args.bytes.now c.args.segments) c.seeks_in.ensures

limits : (bytes : List ℕ) (segments : ℕ) (r : Result (Vec Seek Global) InputFault) → Gives (λ v. v.items) r (seeks_of bytes segments) → IfOk r (λ v. SeeksFit v.items segments)
limits bytes segments (Ok v) h = within bytes segments v.items h
limits bytes segments (Err e) h = tt

pub returns-clause-seeks : goal.returns-clause-seeks
returns-clause-seeks c = gives c

pub returns-clause-within : goal.returns-clause-within
returns-clause-within c = limits c.args.bytes.now c.args.segments c.seeks_in.result (gives c)
