use Rattle.lab_model.proofs.Rows.{utility_read}
use Rattle.lab_model.proofs.weights.Weights.utility.Goals as goal

pub returns-clause-limit : goal.returns-clause-limit
returns-clause-limit c =
    utility_read _ c.args.seg c.args.rung c.row_no.result c.index.result.now c.self.invariant (rw (← c.self.view_is) at c.requires) (rw (← c.self.view_is) at c.row_no.ensures) c.index.ensures
