use Rattle.std.proofs.Common.{arith}
use Rattle.certificate_text.proofs.WalkLaws.{layer_ends}
use Rattle.certificate_check.proofs.by_layer.next_layer.Goals as goal

pub unreachable-requires : goal.unreachable-requires
unreachable-requires c =
    let ends = layer_ends c.args.lines.now c.next_layer.new.self (rw c.in-None.is at c.in_ok-layer.ensures.steps) in
    let same = ends.0 in
    let low = c.requires in
    omega (arith, same, low)
