-- The order in which candidates are swept, and what lies under a label.
use Rattle.std.specs.Prelude.{ℕ, ◌≤◌, ℤ, ◌≤ℤ◌, List}
use Rattle.std.specs.List.{Contains}
use Rattle.std.specs.Ordering.{ordering_then, nat_cmp, int_cmp}
use Rattle.std.specs.declared.cmp.Ordering.{Ordering}
use Rattle.lab_model.specs.declared.label.Label.{Label}

-- by finish time, then delay, then falling value: a label is dominated by an earlier one alone
abbrev pub sweep_cmp : Label → Label → Ordering
sweep_cmp a b = ordering_then (nat_cmp a.t b.t) (ordering_then (nat_cmp a.p b.p) (int_cmp b.v a.v))

-- some label has no greater delay and no less a value than these
abbrev pub HasUnder : List Label → ℕ → ℤ → Type 0
HasUnder labels p v = (m : Label) × Contains labels m × (m.p ≤ p) × (v ≤ℤ m.v)
