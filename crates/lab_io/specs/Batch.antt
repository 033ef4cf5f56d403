-- Text that waits in a batch, so that many pieces go out as one.
use Rattle.std.specs.Prelude.{◌≡◌, ◌++◌, Result, Ok, Err}
use Rattle.lab_io.specs.Sink.{Text, Seen, Puts}
use Rattle.lab_io.specs.declared.PutErr.{PutErr}

-- what the answer means: after Ok what waited and the text went out, but for what waits then; else a prefix of them did
abbrev pub Waited : Seen → Text → Text → Seen → Text → Result (Unit {0}) PutErr → Type 0
Waited old waiting text new left (Ok done) = (gone : Text) × (waiting ++ text ≡ gone ++ left) × Puts old gone new (Ok done)
Waited old waiting text new left (Err why) = Puts old (waiting ++ text) new (Err why)

-- putting a text into a batch, in one piece or in many, and what was answered
pub record Gathers (old : Seen) (waiting text : Text) (new : Seen) (left : Text) (answer : Result (Unit {0}) PutErr) : Type 0 where
  pub waited : Waited old waiting text new left answer
