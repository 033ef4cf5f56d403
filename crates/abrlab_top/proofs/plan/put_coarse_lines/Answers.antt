use Rattle.std.proofs.Common.{◌∷◌, [], codes, rules}
use Rattle.std.specs.Fmt.{decimal, signed_decimal}
use Rattle.lab_io.specs.Piece.{fields_line}
use Rattle.lab_io.specs.Sink.{Puts}
use Rattle.lab_io.proofs.Puts.{puts_failed, puts_more}
use Rattle.abrlab_top.specs.Plan.{bound_line}
use Rattle.abrlab_top.proofs.plan.put_coarse_lines.Goals as goal

pub returns-in_err-put_score : goal.returns-in_err-put_score
returns-in_err-put_score g c =
    puts_failed _ _ (fields_line (codes "score" ∷ signed_decimal c.args.list.now.score ∷ [])) _ _ c.from_residual.result _ c.in_err-put_score.was c.from_residual.ensures.1 (search rules)

pub returns-in_err-put_bound : goal.returns-in_err-put_bound
returns-in_err-put_bound g c =
    let score = fields_line (codes "score" ∷ signed_decimal c.args.list.now.score ∷ []) in
    let first : Puts (g.O.Sink.seen c.args.out.now) score (g.O.Sink.seen c.put_score.new.out) c.put_score.result = search rules in
    let second : Puts (g.O.Sink.seen c.put_score.new.out) (bound_line c.args.list.now.bound) (g.O.Sink.seen c.put_bound.new.out) c.put_bound.result = search rules in
    puts_more _ _ _ score _ _ _ _ c.in_ok-put_score.was first
    (puts_failed _ _ (bound_line c.args.list.now.bound) _ _ c.from_residual-in_err-put_bound.result _ c.in_err-put_bound.was c.from_residual-in_err-put_bound.ensures.1 second)

pub returns-in_err-put_labels : goal.returns-in_err-put_labels
returns-in_err-put_labels g c =
    let score = fields_line (codes "score" ∷ signed_decimal c.args.list.now.score ∷ []) in
    let first : Puts (g.O.Sink.seen c.args.out.now) score (g.O.Sink.seen c.put_score.new.out) c.put_score.result = search rules in
    let second : Puts (g.O.Sink.seen c.put_score.new.out) (bound_line c.args.list.now.bound) (g.O.Sink.seen c.put_bound.new.out) c.put_bound.result = search rules in
    puts_more _ _ _ score _ _ _ _ c.in_ok-put_score.was first
    (puts_more _ _ _ (bound_line c.args.list.now.bound) _ _ _ _ c.in_ok-put_bound.was second
    (puts_failed _ _ (fields_line (codes "labels" ∷ decimal c.args.list.now.labels ∷ [])) _ _ c.from_residual-in_err-put_labels.result _ c.in_err-put_labels.was c.from_residual-in_err-put_labels.ensures.1 c.put_labels.ensures))

pub returns : goal.returns
returns g c =
    let score = fields_line (codes "score" ∷ signed_decimal c.args.list.now.score ∷ []) in
    let first : Puts (g.O.Sink.seen c.args.out.now) score (g.O.Sink.seen c.put_score.new.out) c.put_score.result = search rules in
    let second : Puts (g.O.Sink.seen c.put_score.new.out) (bound_line c.args.list.now.bound) (g.O.Sink.seen c.put_bound.new.out) c.put_bound.result = search rules in
    puts_more _ _ _ score _ _ _ _ c.in_ok-put_score.was first
    (puts_more _ _ _ (bound_line c.args.list.now.bound) _ _ _ _ c.in_ok-put_bound.was second
    (puts_more _ _ _ (fields_line (codes "labels" ∷ decimal c.args.list.now.labels ∷ [])) _ _ _ _ c.in_ok-put_labels.was c.put_labels.ensures (rw c.deref.ensures.value at c.put_plan.ensures)))
