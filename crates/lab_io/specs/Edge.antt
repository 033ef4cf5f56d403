-- What real files and streams show: nothing of what they hold, and a count of their failures.
use Rattle.std.specs.Prelude.{◌≡◌, ◌++◌, ℕ, List, [], ◌∷◌, Bool, true, false, Option, None, Result, Ok, Err, nat_eq}
use Rattle.std.specs.List.{ends_with}
use Rattle.std.specs.Io.KnownBytes.{Appends, append_known}
use Rattle.lab_io.specs.Sink.{Text, Seen}
use Rattle.lab_io.specs.Shelf.{Shelved}
use Rattle.lab_io.specs.declared.PutErr.{PutErr}

-- how many calls failed, and the names and limits that were asked for
pub record FileCalls : Type 0 where
  pub failures : ℕ
  pub asked : List (Text × ℕ)

-- the count of every name is the one number, and no name is sure
abbrev pub file_shelved : FileCalls → Shelved
file_shelved s = record { files = None; faults = λ name. s.failures; sure = λ name. false; asked = s.asked }

-- a stream, what waits to be written to it, and how many pieces failed
pub record Stream (W : Type 0) : Type 0 where
  pub stream : W
  pub waiting : Text
  pub failures : ℕ

-- a stream never answers want of memory, and isn't sure
abbrev pub stream_seen : {W : Type 0} → Stream W → Seen
stream_seen s = record { written = None; faults = s.failures; wants = 0; sure = false }

-- all that was taken: what the stream holds, where it tells that, and then what waits
abbrev pub all_taken : {W : Type 0} → (W → Option Text) → Stream W → Option Text
all_taken contents s = append_known (contents s.stream) s.waiting

-- this text was taken behind all that was taken before
abbrev pub TakesAll : {W : Type 0} → (W → Option Text) → Stream W → Text → Stream W → Type 0
TakesAll contents old text new = Appends (all_taken contents old) (all_taken contents new) text

-- writing what waits: nothing comes to it and nothing is lost, and where all went well nothing waits
pub record WritesWaiting {W : Type 0} (contents : W → Option Text) (old new : Stream W) (done : Bool) : Type 0 where
  pub same : TakesAll contents old [] new
  pub nothing : done ≡ true → new.waiting ≡ []
  pub failures : new.failures ≡ old.failures

-- taking a piece: all of it where that went well, else a prefix of it
abbrev pub TakesPiece : {W : Type 0} → (W → Option Text) → Stream W → Text → Stream W → Bool → Type 0
TakesPiece contents old piece new true = TakesAll contents old piece new
TakesPiece contents old piece new false = (part : Text) × (rest : Text) × (piece ≡ part ++ rest) × TakesAll contents old part new

-- the same, where no failure is counted yet
pub record Takes {W : Type 0} (contents : W → Option Text) (old : Stream W) (piece : Text) (new : Stream W) (done : Bool) : Type 0 where
  pub taken : TakesPiece contents old piece new done
  pub failures : new.failures ≡ old.failures

-- a text that ends in a newline
abbrev pub is_line : Text → Bool
is_line text = ends_with nat_eq text (10 ∷ [])

-- what one put does: all of the piece was taken after Ok, and nothing waits behind a newline; else a prefix was
abbrev pub StreamPuts : {W : Type 0} → (W → Option Text) → Stream W → Text → Stream W → Result (Unit {0}) PutErr → Type 0
StreamPuts contents old piece new (Ok done) = TakesPiece contents old piece new true × (is_line piece ≡ true → new.waiting ≡ [])
StreamPuts contents old piece new (Err why) = TakesPiece contents old piece new false
