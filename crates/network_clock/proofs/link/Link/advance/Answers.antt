use Rattle.std.proofs.Common.{◌-◌, ◌∙◌, ap}
use Rattle.network_clock.specs.Network.{job_after}
use Rattle.network_clock.proofs.Lanes.{lane_jobs}
use Rattle.network_clock.proofs.link.Link.advance.Goals as goal

pub returns : goal.returns
returns c =
    let n = c.args.to - c.args.from in
    c.advance.ensures ∙ ap (λ qs. job_after qs c.args.from n c.args.job) c.lane.ensures.value
    ∙ lane_jobs c.args.takers c.args.self.now.periods c.lane.ensures.trace c.args.from n c.args.job
