-- The number of each kind of fault.
use Rattle.std.specs.Prelude.{ℕ}
use Rattle.lab_model.specs.declared.fault.Kind.{Kind}
use Rattle.lab_model.specs.declared.fault.Kind.TheVariants as kind

-- 1 to 11, in the order of the kinds
abbrev pub kind_number : Kind → ℕ
kind_number kind.NotJson = 1
kind_number kind.NotCsv = 2
kind_number kind.MissingKey = 3
kind_number kind.WrongKind = 4
kind_number kind.NotWhole = 5
kind_number kind.OutOfRange = 6
kind_number kind.Shape = 7
kind_number kind.Order = 8
kind_number kind.Empty = 9
kind_number kind.TooSlow = 10
kind_number kind.CertLine = 11
