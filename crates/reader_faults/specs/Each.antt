-- The members of a list or the records of a table, one after the other.
use Rattle.std.specs.Prelude.{ℕ, ◌+◌, List, [], ◌∷◌, Option, Some, None, Result, Ok}
use Rattle.lab_model.specs.Steps.{◌>>=◌}

-- what `f` makes of each, given what it made of the one before and its place; the first refusal, if there is one
unfoldable pub each_after : {X A E : Type 0} → (Option A → ℕ → X → Result A E) → Option A → ℕ → List X → Result (List A) E
each_after f before place [] = Ok []
each_after f before place (d ∷ ds) = do
  x ← f before place d
  xs ← each_after f (Some x) (place + 1) ds
  Ok (x ∷ xs)

-- what `f` makes of each, the first of which has this place; the first refusal, if there is one
abbrev pub each_from : {X A E : Type 0} → (ℕ → X → Result A E) → ℕ → List X → Result (List A) E
each_from f place ds = each_after (λ _. f) None place ds
