-- What a shelf tells of its files, and what fetching one of them does.
use Rattle.std.specs.Prelude.{◌≡◌, ◌⊎◌, ℕ, ◌≤◌, List, [], ◌∷◌, ◌++◌, length, take, Bool, true, Option, Some, None, option_map, Result, Ok, Err, Vec}
use Rattle.std.specs.Global.{Global}
use Rattle.lab_io.specs.Sink.{Text, Rose}
use Rattle.lab_io.specs.declared.FetchErr.{FetchErr}
use Rattle.lab_io.specs.declared.FetchErr.TheVariants as fetch

-- what a shelf shows: its files by their names, where it tells them, the count of faults of each name,
-- the names whose count never rises, and the names and limits that it was asked for, in order
pub record Shelved : Type 0 where
  pub files : Option (Text → Option Text)
  pub faults : Text → ℕ
  pub sure : Text → Bool
  pub asked : List (Text × ℕ)

-- these bytes may be the first `most` of the file: they are, where the files are told; a name that is lacking has none
abbrev pub FileHolds : Option (Text → Option Text) → Text → ℕ → Text → Type 0
FileHolds None name most bytes = length bytes ≤ most
FileHolds (Some files) name most bytes = (length bytes ≤ most) × (Some bytes ≡ option_map (take most) (files name))

-- what the answer means: the file's bytes after Ok; after Failed the count of that name rose
abbrev pub Fetched : Shelved → Text → ℕ → Shelved → Result Text FetchErr → Type 0
Fetched old name most new (Ok bytes) = FileHolds old.files name most bytes
Fetched old name most new (Err fetch.Failed) = Rose (old.faults name) (new.faults name)
Fetched old name most new (Err fetch.Memory) = Unit {0}

-- it was asked for one name more, up to this limit
abbrev pub AskedMore : List (Text × ℕ) → Text → ℕ → List (Text × ℕ) → Type 0
AskedMore old name most new = new ≡ old ++ (name, most) ∷ []

-- what it was asked after an answer: where memory was lacking, this call may not count
abbrev pub ShelfAsked : List (Text × ℕ) → Text → ℕ → List (Text × ℕ) → Result Text FetchErr → Type 0
ShelfAsked old name most new (Ok bytes) = AskedMore old name most new
ShelfAsked old name most new (Err fetch.Failed) = AskedMore old name most new
ShelfAsked old name most new (Err fetch.Memory) = AskedMore old name most new ⊎ (new ≡ old)

-- what one call of `fetch` does to a shelf: the files stay, and so does what is sure; no count falls,
-- and that of a sure name stays
pub record Fetches (old : Shelved) (name : Text) (most : ℕ) (new : Shelved) (answer : Result Text FetchErr) : Type 0 where
  pub files : new.files ≡ old.files
  pub faults : (other : Text) → old.faults other ≤ new.faults other
  pub sure : new.sure ≡ old.sure
  pub steady : (other : Text) → old.sure other ≡ true → new.faults other ≡ old.faults other
  pub asked : ShelfAsked old.asked name most new.asked answer
  pub answered : Fetched old name most new answer

-- an answer of `fetch`, by its bytes
abbrev pub fetched_as : Result (Vec ℕ Global) FetchErr → Result Text FetchErr
fetched_as (Ok file) = Ok file.items
fetched_as (Err why) = Err why
