use Rattle.network_clock.proofs.Places.{period_touched}
use Rattle.network_clock.proofs.meter.Meter.period_of.Goals as goal

pub returns : goal.returns
returns c = λ t here next. period_touched c.args.self.now c.args.place t c.index.result.now (rw (← c.self.view_is) c.index.ensures) here next
