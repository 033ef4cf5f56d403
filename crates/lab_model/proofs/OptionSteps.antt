-- What a value says of the steps that led to it.
use Rattle.std.proofs.Common.{◌≡◌, Option, Some, None, refl}
use Rattle.lab_model.specs.OptionSteps.{◌>>=◌}

-- a step and what follows it gave a value
pub then_some : {A B : Type 0} (o : Option A) (f : A → Option B) (y : B) → (o >>= f) ≡ Some y → (x : A) × (o ≡ Some x) × (f x ≡ Some y)
then_some (Some x) f y h = (x, refl, h)
then_some None f y h = absurd cc
