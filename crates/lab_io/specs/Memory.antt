-- What a shelf and the sinks in memory do, call by call.
use Rattle.std.specs.Prelude.{◌≡◌, ◌≢◌, ℕ, ◌+◌, ◌-◌, ◌^◌, ◌==◌, List, [], ◌∷◌, ◌++◌, ◌⊎◌, min, Bool, true, false, Option, Some, is_some, map, string_bytes, String, Vec, Result, Ok, Err, if◌then◌else◌}
use Rattle.std.specs.Global.{Global}
use Rattle.std.specs.List.{list_any}
use Rattle.std.specs.Map.{lookup}
use Rattle.std.specs.Str.{bytes_eq}
use Rattle.lab_io.specs.Sink.{Text, Seen}
use Rattle.lab_io.specs.Shelf.{Shelved}
use Rattle.lab_io.specs.declared.FetchErr.{FetchErr}
use Rattle.lab_io.specs.declared.FetchErr.TheVariants as fetch
use Rattle.lab_io.specs.declared.PutErr.{PutErr}
use Rattle.lab_io.specs.declared.PutErr.TheVariants as put

-- one more, for a count or a number of a call that stays at the last value of a `u64`
abbrev pub one_more : ℕ → ℕ
one_more n = min (n + 1) (2 ^ 64 - 1)

-- the number stands in the list of those that fail
abbrev pub is_failing : List ℕ → ℕ → Bool
is_failing failing number = list_any (λ n. n == number) failing

-- no call was named that fails
abbrev pub names_none : List ℕ → Bool
names_none [] = true
names_none (n ∷ ns) = false

-- ---- the shelf

-- its files with their names, the numbers of the calls that fail, how many calls there were,
-- how many of them failed by their number, how many others were for a name that is lacking,
-- and the names and limits that were asked for
pub record MemFiles : Type 0 where
  pub files : List (Text × Text)
  pub failing : List ℕ
  pub calls : ℕ
  pub failed : ℕ
  pub lacking : ℕ
  pub asked : List (Text × ℕ)

-- the names and the bytes of owned files
abbrev pub told_files : List (String Global × Vec ℕ Global) → List (Text × Text)
told_files = map (λ file. (string_bytes file.0, file.1.items))

-- the names and limits of owned calls
abbrev pub told_calls : List (String Global × ℕ) → List (Text × ℕ)
told_calls = map (λ call. (string_bytes call.0, call.1))

-- the file of a name: the first of that name
abbrev pub file_of : List (Text × Text) → Text → Option Text
file_of files name = lookup (λ other. bytes_eq other name) files

-- what it shows: all its files; a name that it lacks has the calls for such names in its count too.
-- Where no call fails by its number, it is sure of just the names that it holds; else of none
abbrev pub mem_shelved : MemFiles → Shelved
mem_shelved s = record {
  files = Some (file_of s.files);
  faults = λ name. if is_some (file_of s.files name) then s.failed else min (s.failed + s.lacking) (2 ^ 64 - 1);
  sure = λ name. if names_none s.failing then is_some (file_of s.files name) else false;
  asked = s.asked;
}

-- the shelf after the next call
abbrev pub after_fetch : MemFiles → Text → ℕ → MemFiles
after_fetch s name most =
    if is_failing s.failing (one_more s.calls) then record s { calls = one_more s.calls; failed = one_more s.failed; asked = s.asked ++ (name, most) ∷ [] }
    else (if is_some (file_of s.files name) then record s { calls = one_more s.calls; asked = s.asked ++ (name, most) ∷ [] }
    else record s { calls = one_more s.calls; lacking = one_more s.lacking; asked = s.asked ++ (name, most) ∷ [] })

-- the next call fails: by its number, or since the name is lacking
abbrev pub fetch_fails : MemFiles → Text → Bool
fetch_fails s name = if is_failing s.failing (one_more s.calls) then true else (if is_some (file_of s.files name) then false else true)

-- what a call does: it fails exactly as said; where memory was lacking, all may be as before
abbrev pub MemFetches : MemFiles → Text → ℕ → MemFiles → Result Text FetchErr → Type 0
MemFetches old name most new (Ok bytes) = (fetch_fails old name ≡ false) × (new ≡ after_fetch old name most)
MemFetches old name most new (Err fetch.Failed) = (fetch_fails old name ≡ true) × (new ≡ after_fetch old name most)
MemFetches old name most new (Err fetch.Memory) = (new ≡ old) ⊎ ((fetch_fails old name ≡ false) × (new ≡ after_fetch old name most))

-- ---- the sink with failing calls

-- what was written, the numbers of the calls that fail, how many calls there were, and the two counts
pub record MemText : Type 0 where
  pub written : Text
  pub failing : List ℕ
  pub calls : ℕ
  pub faults : ℕ
  pub wants : ℕ

-- what it shows: all that was written, and its two counts; it is sure where no call fails by its number
abbrev pub mem_seen : MemText → Seen
mem_seen s = record { written = Some s.written; faults = s.faults; wants = s.wants; sure = names_none s.failing }

-- the next call fails: its number is among those that do, and the piece isn't empty
abbrev pub PutFails : MemText → Text → Type 0
PutFails s piece = (is_failing s.failing (one_more s.calls) ≡ true) × (piece ≢ [])

-- what a call does: all is as before, but for the number of calls, and for
abbrev pub MemPuts : MemText → Text → MemText → Result (Unit {0}) PutErr → Type 0
MemPuts old piece new (Ok done) = ¬ PutFails old piece × (new ≡ record old { calls = one_more old.calls; written = old.written ++ piece })
MemPuts old piece new (Err put.Failed) = PutFails old piece × (new ≡ record old { calls = one_more old.calls; faults = one_more old.faults })
MemPuts old piece new (Err put.Memory) = ¬ PutFails old piece × (new ≡ record old { calls = one_more old.calls; wants = one_more old.wants })

-- ---- the sink without

-- what was written, and the count of wants
pub record SureText : Type 0 where
  pub written : Text
  pub wants : ℕ

-- what it shows: all that was written, no fault, and its count of wants; it is sure
abbrev pub sure_seen : SureText → Seen
sure_seen s = record { written = Some s.written; faults = 0; wants = s.wants; sure = true }

-- what a call does: it never fails
abbrev pub SurePuts : SureText → Text → SureText → Result (Unit {0}) PutErr → Type 0
SurePuts old piece new (Ok done) = new ≡ record old { written = old.written ++ piece }
SurePuts old piece new (Err put.Failed) = ⊥
SurePuts old piece new (Err put.Memory) = new ≡ record old { wants = one_more old.wants }
