use Rattle.std.proofs.Common.{◌≡◌, ◌-◌, ◌∙◌, ap, sym, arith}
use Rattle.network_clock.specs.declared.job.Job.{Job}
use Rattle.network_clock.specs.Flow.{carried_in, flow, used_in}
use Rattle.network_clock.specs.Network.{period_at}
use Rattle.network_clock.proofs.Sums.{sum_below_grows}
use Rattle.network_clock.proofs.Openings.{delay_flow_of, job_from, job_until}
use Rattle.network_clock.proofs.clock.Meters.advance.Goals as goal

pub overflow_sub-used : goal.overflow_sub-used
overflow_sub-used c =
    let grows = sum_below_grows (λ i. carried_in (period_at c.self.inside.delay.now i)) c.args.from c.args.to c.requires.order in
    omega (arith, grows, c.carried_before.ensures, c.carried_before-then-to-first.ensures)

pub overflow_sub-carried : goal.overflow_sub-carried
overflow_sub-carried c =
    let grows = sum_below_grows (λ i. carried_in (period_at c.self.inside.bits.now i)) c.first_from-first.result.instant c.args.to (omega arith) in
    omega (arith, grows, c.carried_before-2.ensures, c.carried_at-before.ensures)

pub returns-then-to-first : goal.returns-then-to-first
returns-then-to-first c =
    let ps = c.self.inside.bits.now in
    let j = c.args.job in
    let to = delay_flow_of c.self.inside.delay.now ps c.self.invariant.0 c.self.invariant.1 c.args.to in
    let from = delay_flow_of c.self.inside.delay.now ps c.self.invariant.0 c.self.invariant.1 c.args.from in
    let credit : c.saturating_sub.result ≡ j.credit - (flow used_in ps c.args.to - flow used_in ps c.args.from) = omega (arith, to, from, c.saturating_sub.ensures, c.carried_before.ensures, c.carried_before-then-to-first.ensures) in
    let after = job_until ps c.args.from c.first_from-first.result.instant c.args.to j c.requires.credit (rw (← c.self.view_is) at c.first_from-first.ensures.opens) c.requires.order c.if-to-first.true in
    rw (← c.self.view_is) (ap {B = Job} (λ n. record { credit = n; left = j.left }) credit ∙ sym after)

pub returns : goal.returns
returns c =
    let ps = c.self.inside.bits.now in
    let j = c.args.job in
    let first = c.first_from-first.result.instant in
    let left : c.saturating_sub-2.result ≡ j.left - (flow carried_in ps c.args.to - flow carried_in ps first) = omega (arith, c.saturating_sub-2.ensures, c.carried_before-2.ensures, c.carried_at-before.ensures) in
    let after = job_from ps c.args.from first c.args.to j c.requires.credit (rw (← c.self.view_is) at c.first_from-first.ensures.opens) c.if-to-first.false in
    rw (← c.self.view_is) (ap {B = Job} (λ n. record { credit = 0; left = n }) left ∙ sym after)
