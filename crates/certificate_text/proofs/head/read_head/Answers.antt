use Rattle.std.proofs.Common.{arith}
use Rattle.certificate_text.specs.Grammar.{plan_line}
use Rattle.certificate_text.proofs.HeadLaws.{can_plan}
use Rattle.certificate_text.proofs.LineLaws.{line_takes}
use Rattle.certificate_text.proofs.head.read_head.Goals as goal

pub small_numbers-requires : goal.small_numbers-requires
small_numbers-requires c =
    let some = c.in_ok-counts.counts.some_segments.0 in
    rw c.deref.ensures.value (line_takes _ (plan_line c.in_ok-counts.counts.segments) _ (c.in_ok-plan.plan.items, c.in_ok-plan.rest.now) (can_plan c.in_ok-counts.counts.segments some) (omega arith) c.in_ok-plan.ensures).holds.1
