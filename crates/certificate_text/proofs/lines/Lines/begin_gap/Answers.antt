use Rattle.certificate_text.proofs.LayerByLayer.{begins_gap, gap_begins_badly}
use Rattle.certificate_text.proofs.WalkLaws.{gap_begun_is}
use Rattle.certificate_text.proofs.lines.Lines.begin_gap.Goals as goal

pub returns-clause-begun : goal.returns-clause-begun
returns-clause-begun c = gap_begun_is c.args.bytes.now c.behind_bound.result c.behind_bound.ensures

pub returns-clause-layers : goal.returns-clause-layers
returns-clause-layers c = λ cert is. begins_gap c.args.bytes.now c.behind_bound.result cert c.behind_bound.ensures is

pub returns-clause-bad_line : goal.returns-clause-bad_line
returns-clause-bad_line c = λ e is. gap_begins_badly c.args.bytes.now c.behind_bound.result e c.behind_bound.ensures is
