use Rattle.std.proofs.Common.{◌≡◌, ◌+◌, ◌-◌, map}
use Rattle.labels.specs.Parts.{chain_parts}
use Rattle.certificate_text.specs.Reading.{IsFurther, place_of, read_chains}
use Rattle.certificate_text.proofs.Loops.{with_front}
use Rattle.certificate_text.proofs.chains.read_chains.Given as goal

-- the chains so far, and those that are still read
abbrev pub invariant-loop-i : goal.invariant-loop-i
invariant-loop-i l = record {
  chains : with_front (map chain_parts l.chains.items) (read_chains l.fn.at.counts.segments l.fn.at.counts.rungs (l.fn.at.number + l.i) (l.count - l.i) (place_of l.spot))
      ≡ read_chains l.fn.at.counts.segments l.fn.at.counts.rungs l.fn.at.number l.count (place_of l.fn.at);
  further : IsFurther l.i l.fn.at l.spot;
}
