use Rattle.network_clock.proofs.Openings.{delay_paced}
use Rattle.network_clock.proofs.paced.Paced.delay.Goals as goal

pub invariant_of-result : goal.invariant_of-result
invariant_of-result c = rw (c.in_ok-delay_of.ensures, c.deref.ensures.value) (delay_paced c.self.inside.periods.items c.self.invariant)
