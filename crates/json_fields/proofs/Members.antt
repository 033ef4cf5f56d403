-- The members of a list, as data.
use Rattle.std.proofs.Common.{◌≡◌, List, [], ◌∷◌, map, refl, ap}
use Rattle.serde_json.specs.View.{view, items_view}
use Rattle.serde_json.specs.declared.value.Value.{Value}
use Rattle.json_fields.specs.Fields.{json_members}

-- the members of what a list of values stands for are what its values do
pub members_view : (vs : List Value) → json_members (items_view vs) ≡ map view vs
members_view [] = refl
members_view (v ∷ vs) = ap (λ ds. view v ∷ ds) (members_view vs)
