-- What a sink tells, and what putting a text into it does.
use Rattle.std.specs.Prelude.{◌≡◌, ◌⊎◌, ℕ, ◌-◌, ◌^◌, ◌<◌, ◌≤◌, List, ◌∷◌, [], ◌++◌, Bool, true, Option, option_map, Result, Ok, Err}
use Rattle.lab_io.specs.declared.PutErr.{PutErr}
use Rattle.lab_io.specs.declared.PutErr.TheVariants as put

-- the bytes of a text
abbrev pub Text : Type 0
Text = List ℕ

-- a count rose: it is greater than before, or stands at its last value
abbrev pub Rose : ℕ → ℕ → Type 0
Rose before now = (before < now) ⊎ (now ≡ 2 ^ 64 - 1)

-- what a sink shows: the bytes written, where it tells them, its count of faults and its count of wants,
-- and whether its count of faults never rises
pub record Seen : Type 0 where
  pub written : Option Text
  pub faults : ℕ
  pub wants : ℕ
  pub sure : Bool

-- the whole text stands at the end of what was written, where that is told
abbrev pub Grew : Option Text → Text → Option Text → Type 0
Grew old text new = new ≡ option_map (λ written. written ++ text) old

-- a prefix of the text does
abbrev pub GrewPart : Option Text → Text → Option Text → Type 0
GrewPart old text new = (part : Text) × (rest : Text) × (text ≡ part ++ rest) × Grew old part new

-- what the answer means: all of the text after Ok, else a prefix of it, and the count of its cause rose
abbrev pub Answered : Seen → Text → Seen → Result (Unit {0}) PutErr → Type 0
Answered old text new (Ok done) = Grew old.written text new.written
Answered old text new (Err put.Failed) = GrewPart old.written text new.written × Rose old.faults new.faults
Answered old text new (Err put.Memory) = GrewPart old.written text new.written × Rose old.wants new.wants

-- putting the text, in one piece or in many, and what was answered; no count falls,
-- and a sure sink stays so, with the same count of faults
pub record Puts (old : Seen) (text : Text) (new : Seen) (answer : Result (Unit {0}) PutErr) : Type 0 where
  pub faults : old.faults ≤ new.faults
  pub wants : old.wants ≤ new.wants
  pub sure : new.sure ≡ old.sure
  pub steady : old.sure ≡ true → new.faults ≡ old.faults
  pub answered : Answered old text new answer

-- a line: the text and a newline
abbrev pub line : Text → Text
line text = text ++ 10 ∷ []
