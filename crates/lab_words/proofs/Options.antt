-- Values that may be lacking.
use Rattle.std.proofs.Common.{◌≡◌, Option, Some, None, is_some, option_map, refl}

-- whether there is a value does not change where the value does
pub some_map : {X Y : Type 0} (f : X → Y) (o : Option X) → is_some (option_map f o) ≡ is_some o
some_map f None = refl
some_map f (Some x) = refl
