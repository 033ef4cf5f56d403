use Rattle.certificate_text.proofs.LayerByLayer.{begins_badly, begins_layers}
use Rattle.certificate_text.proofs.WalkLaws.{begun_is}
use Rattle.certificate_text.proofs.lines.Lines.begin.Goals as goal

pub returns-clause-begun : goal.returns-clause-begun
returns-clause-begun c = begun_is c.args.bytes.now c.behind_head.result c.behind_head.ensures

pub returns-clause-layers : goal.returns-clause-layers
returns-clause-layers c = λ cert is. begins_layers c.args.bytes.now c.behind_head.result cert c.behind_head.ensures is

pub returns-clause-bad_line : goal.returns-clause-bad_line
returns-clause-bad_line c = λ e is. begins_badly c.args.bytes.now c.behind_head.result e c.behind_head.ensures is
