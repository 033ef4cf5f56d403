-- What holds of each element holds after one more is put among them, and the last are dropped.
use Rattle.std.proofs.Common.{ℕ, List, ◌∷◌, take, drop}
use Rattle.std.specs.List.{All, insert}
use Rattle.std.proofs.lemmas.List.Elements.{All-append, All-cons, All-drop, All-take}

module _ {X : Type 0} (P : X → Type 0) where
  -- one more among them
  pub All-insert : (xs : List X) (i : ℕ) (y : X) → All P xs → P y → All P (insert xs i y)
  All-insert xs i y h k = All-append P (take i xs) (y ∷ drop i xs) (All-take P i xs h) (All-cons P y (drop i xs) k (All-drop P i xs h))

  -- one more, and only so many of them
  pub All-insert_take : (n : ℕ) (xs : List X) (i : ℕ) (y : X) → All P xs → P y → All P (take n (insert xs i y))
  All-insert_take n xs i y h k = All-take P n (insert xs i y) (All-insert xs i y h k)
