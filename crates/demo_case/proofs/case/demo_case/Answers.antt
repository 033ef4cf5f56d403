use Rattle.demo_case.proofs.Within.{demo_is_task}
use Rattle.demo_case.proofs.case.demo_case.Goals as goal

pub returns-clause-task : goal.returns-clause-task
returns-clause-task c = demo_is_task c.args.n
