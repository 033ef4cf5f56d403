-- What a reader of a file answers: the value that the bytes stand for, or their first fault with its place.
use Rattle.std.specs.Prelude.{◌≡◌, ℕ, Result, Ok, Err}
use Rattle.lab_model.specs.declared.fault.Kind.{Kind}
use Rattle.lab_model.specs.declared.fault.Key.{Key}
use Rattle.lab_model.specs.declared.fault.Refusal.{Refusal}
use Rattle.lab_model.specs.declared.fault.InputFault.{InputFault}
use Rattle.lab_model.specs.declared.fault.InputFault.TheVariants.{Memory, Refused}

-- the refusal of this kind, at this key, row and column
abbrev pub refusal : Kind → Key → ℕ → ℕ → Refusal
refusal kind key row column = record { kind = kind; key = key; row = row; column = column }

-- a call was out of memory, or refused just as the bytes ask for
abbrev pub Fails : {Y : Type 0} → InputFault → Result Y Refusal → Type 0
Fails Memory r = Unit {0}
Fails (Refused f) r = r ≡ Err f

-- a call gave just the value that the bytes stand for, or failed
abbrev pub Gives : {X Y : Type 0} → (X → Y) → Result X InputFault → Result Y Refusal → Type 0
Gives seen (Ok x) r = r ≡ Ok (seen x)
Gives seen (Err e) r = Fails e r
