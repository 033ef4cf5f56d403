-- Steps that may give nothing, one after the other: where one gives nothing, so does the whole.
use Rattle.std.specs.Prelude.{Option, Some, None}

infixl 10 ◌>>=◌
-- what follows a step that gave a value
abbrev pub ◌>>=◌ : {A B : Type 0} → Option A → (A → Option B) → Option B
(Some x) >>= f = f x
None >>= f = None
