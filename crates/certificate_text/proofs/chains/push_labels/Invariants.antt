use Rattle.std.proofs.Common.{◌≡◌, ◌+◌, ◌-◌}
use Rattle.labels.specs.Parts.{chain_parts}
use Rattle.certificate_text.specs.Reading.{behind, read_labels}
use Rattle.certificate_text.proofs.chains.push_labels.Given as goal

-- the labels so far, and those that are still read
abbrev pub invariant-loop-i : goal.invariant-loop-i
invariant-loop-i l = behind (chain_parts l.chain) (read_labels (l.row + l.i) l.per (l.count - l.i) l.rest) ≡ behind (chain_parts l.fn.chain) (read_labels l.row l.per l.count l.bytes)
