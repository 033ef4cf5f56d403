-- A list whose members each give a text, taken one by one.
use Rattle.std.proofs.Common.{refl, ◌≡◌, ℕ, ◌+◌, ◌<◌, ◌≤◌, [], List, ◌++◌, add-one, drop-cons, drop, get_or, length}
use Rattle.std.proofs.lemmas.List.{drop_all}
use Rattle.std.specs.List.{flat_map}

-- from a place on the text begins with that of the member there
pub texts_from : {X : Type 0} (f : X → List ℕ) (xs : List X) (i : ℕ) (d : X) → i < length xs → flat_map f (drop i xs) ≡ f (get_or xs i d) ++ flat_map f (drop (i + 1) xs)
texts_from f xs i d lt = rw (add-one, drop-cons xs i d) refl

-- behind the last member there is no text
pub texts_end : {X : Type 0} (f : X → List ℕ) (xs : List X) (i : ℕ) → length xs ≤ i → flat_map f (drop i xs) ≡ []
texts_end f xs i h = rw (drop_all i xs h) refl
