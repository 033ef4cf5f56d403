-- A refusal that is handed on.
use Rattle.std.proofs.Common.{◌≡◌, Result, Ok, Err}
use Rattle.std.specs.Result.{IsErrAnd}
use Rattle.lab_model.specs.declared.fault.Refusal.{Refusal}
use Rattle.lab_model.specs.declared.fault.InputFault.{InputFault}
use Rattle.lab_model.specs.declared.fault.InputFault.TheVariants.{Memory, Refused}
use Rattle.lab_model.specs.Reading.{Fails, Gives}

-- what a step's refusal means for the whole
pub fails_on : {X Y : Type 0} (e : InputFault) (step : Result X Refusal) (whole : Result Y Refusal) → Fails e step → ((y : Refusal) → step ≡ Err y → whole ≡ Err y) → Fails e whole
fails_on Memory step whole h on = tt
fails_on (Refused y) step whole h on = on y h

-- the exit of a `?`
pub gives_error : {X Y : Type 0} (seen : X → Y) (answer : Result X InputFault) (e : InputFault) (whole : Result Y Refusal) → IsErrAnd answer (λ y. y ≡ e) → Fails e whole → Gives seen answer whole
gives_error seen (Ok x) e whole k h = absurd k
gives_error seen (Err y) e whole k h = rw k h
