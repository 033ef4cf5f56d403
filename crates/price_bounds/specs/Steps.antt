-- Not part of the model: what the proofs keep.
-- Lists of places, taken step by step, and the most that they come to.
use Rattle.std.specs.Prelude.{◌≡◌, ℕ, ◌+◌, ◌≤◌, ◌<◌, List, [], ◌∷◌, length, slice_index_or, ℤ, pos, ◌+ℤ◌, ◌≤ℤ◌}

-- how places may follow one another: below a count, and not before the least place that the one before allows
pub record Moves : Type 0 where
  pub least : ℕ → ℕ
  pub count : ℕ

-- a place may follow another
pub record CanFollow (m : Moves) (before next : ℕ) : Type 0 where
  pub from : m.least before ≤ next
  pub below : next < m.count

-- places that follow one another after a place
abbrev pub Follow : Moves → ℕ → List ℕ → Type 0
Follow m before [] = Unit {0}
Follow m before (c ∷ cs) = CanFollow m before c × Follow m c cs

-- so many of them
abbrev pub AreSteps : Moves → ℕ → ℕ → List ℕ → Type 0
AreSteps m n before cs = (length cs ≡ n) × Follow m before cs

-- what steps gain, each by its number, the place before and its own, and the last place at the end
pub record Gains : Type 0 where
  pub step : ℕ → ℕ → ℕ → ℤ
  pub end : ℕ → ℤ

-- what steps come to from a number on, after a place
abbrev pub gain_along : Gains → ℕ → ℕ → List ℕ → ℤ
gain_along f i before [] = f.end before
gain_along f i before (c ∷ cs) = f.step i before c +ℤ gain_along f (i + 1) c cs

-- some list with the property comes to the number, and none to more
pub record IsGreatest (P : List ℕ → Type 0) (f : List ℕ → ℤ) (most : ℤ) : Type 0 where
  pub list : List ℕ
  pub fits : P list
  pub reached : f list ≡ most
  pub bounds : (l : List ℕ) → P l → f l ≤ℤ most

-- the most that so many steps come to, from a number on, after a place
abbrev pub IsMost : Moves → Gains → ℕ → ℕ → ℕ → ℤ → Type 0
IsMost m f n i before most = IsGreatest (AreSteps m n before) (gain_along f i before) most

-- the most that a place which may follow comes to
pub record IsTop (m : Moves) (before : ℕ) (worth : ℕ → ℤ) (top : ℤ) : Type 0 where
  pub next : ℕ
  pub follows : CanFollow m before next
  pub reached : top ≡ worth next
  pub bounds : (c : ℕ) → CanFollow m before c → worth c ≤ℤ top

-- the table says, for each place, the most that so many steps come to after it, from a number on
pub record IsTable (m : Moves) (f : Gains) (n i : ℕ) (table : List ℤ) : Type 0 where
  pub count : length table ≡ m.count
  pub each : (c : ℕ) → c < m.count → IsMost m f n i c (slice_index_or table c (pos 0))
