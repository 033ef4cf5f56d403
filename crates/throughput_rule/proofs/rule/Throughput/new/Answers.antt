use Rattle.throughput_rule.proofs.Histories.{hold_none}
use Rattle.throughput_rule.proofs.rule.Throughput.new.Goals as goal

pub returns-clause-stands : goal.returns-clause-stands
returns-clause-stands c = rw c.in_ok-empty_windows.ensures.ok (hold_none c.args.windows.now)
