-- The first seek at an instant, from a place of the script on.
use Rattle.std.proofs.Common.{◌≡◌, ℕ, ◌+◌, ◌<◌, ◌≤◌, ◌==◌, List, length, get_or, drop, drop-cons, add-one, true, false, Some, None, refl}
use Rattle.std.proofs.lemmas.List.{drop_all}
use Rattle.lab_model.specs.declared.context.Seek.{Seek}
use Rattle.player_core.specs.Parts.{seek_at}

-- a seek at another instant is passed over
pub find_more : (seeks : List Seek) (t i : ℕ) (d : Seek) → i < length seeks → ((get_or seeks i d).at_ms == t) ≡ false → seek_at (drop (i + 1) seeks) t ≡ seek_at (drop i seeks) t
find_more seeks t i d lt other = rw (add-one, drop-cons seeks i d, other) refl

-- a seek at this instant is the one
pub find_here : (seeks : List Seek) (t i : ℕ) (d : Seek) → i < length seeks → ((get_or seeks i d).at_ms == t) ≡ true → seek_at (drop i seeks) t ≡ Some (get_or seeks i d)
find_here seeks t i d lt same = rw (drop-cons seeks i d, same) refl

-- behind the last seek there is none
pub find_none : (seeks : List Seek) (t i : ℕ) → length seeks ≤ i → seek_at (drop i seeks) t ≡ None
find_none seeks t i h = rw (drop_all i seeks h) refl
