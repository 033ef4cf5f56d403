use Rattle.std.proofs.Common.{◌≡◌, ◌-◌, ◌≤◌}
use Rattle.certificate_text.specs.Walk.{rest_of, silent}
use Rattle.certificate_text.proofs.lines.Lines.pass_rest.Given as goal

-- what is left decides as it did at first
abbrev pub invariant-loop-self : goal.invariant-loop-self
invariant-loop-self l = record {
  inside : l.self.segment ≤ l.self.head.segments;
  rest : silent (rest_of l.self) ≡ silent (rest_of l.fn.self);
}

-- the layers that are left
abbrev pub decreases-loop-self : goal.decreases-loop-self
decreases-loop-self l = l.self.head.segments - l.self.segment
