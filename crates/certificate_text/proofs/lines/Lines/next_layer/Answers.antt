use Rattle.certificate_text.proofs.LayerByLayer.{gives_layer, meets_bad_line}
use Rattle.certificate_text.proofs.lines.Lines.next_layer.Goals as goal

pub returns-clause-layers : goal.returns-clause-layers
returns-clause-layers c = λ cert will. gives_layer cert c.args.self.now c.read_layer.new.self c.read_layer.result c.read_layer.ensures.inside c.read_layer.ensures.steps will

pub returns-clause-bad_line : goal.returns-clause-bad_line
returns-clause-bad_line c = λ e will. meets_bad_line e c.args.self.now c.read_layer.new.self c.read_layer.result c.read_layer.ensures.inside c.read_layer.ensures.steps will
