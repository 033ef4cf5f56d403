use Rattle.std.proofs.Common.{◌<◌, sym, subst}
use Rattle.lab_model.specs.Film.{rungs_of}
use Rattle.completion_bounds.specs.Table.{TableValue}
use Rattle.labels.specs.Near.{CanFollow}
use Rattle.completion_bounds.proofs.LayerLaws.{start_follows}
use Rattle.completion_bounds.proofs.table.Table.most_of_start.Goals as goal

pub most_of-requires-clause-label : goal.most_of-requires-clause-label
most_of-requires-clause-label c = subst CanFollow (sym c.start_on.ensures.label) (start_follows c.self.inside.scene.now c.start_on.ensures.task c.args.rung (subst (λ (v : TableValue). c.args.rung < rungs_of v.scene.film) (sym c.self.view_is) c.requires))
