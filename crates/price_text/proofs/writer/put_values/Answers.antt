use Rattle.std.proofs.Common.{rules, ◌++◌, ◌∷◌, [], codes, map, sym}
use Rattle.std.specs.Fmt.{decimal, signed_decimal}
use Rattle.lab_io.specs.Piece.{fields_line}
use Rattle.lab_io.proofs.Puts.{puts_as, puts_failed, puts_more}
use Rattle.price_text.proofs.Texts.{three_lines}
use Rattle.price_text.proofs.writer.put_values.Goals as goal

pub returns-in_err-put_score : goal.returns-in_err-put_score
returns-in_err-put_score g c =
    let score = codes "score" ∷ signed_decimal c.args.certificate.now.score ∷ [] in
    let bound = codes "bound" ∷ signed_decimal c.args.certificate.now.bound ∷ [] in
    let plan = codes "plan" ∷ map decimal c.args.certificate.now.plan.items in
    puts_as _ _ _ _ _ (sym (three_lines score bound plan))
    (puts_failed _ _ (fields_line score) (fields_line bound ++ fields_line plan)
    _ c.from_residual.result _ c.in_err-put_score.was c.from_residual.ensures.1 (search rules))

pub returns-in_err-put_bound : goal.returns-in_err-put_bound
returns-in_err-put_bound g c =
    let score = codes "score" ∷ signed_decimal c.args.certificate.now.score ∷ [] in
    let bound = codes "bound" ∷ signed_decimal c.args.certificate.now.bound ∷ [] in
    let plan = codes "plan" ∷ map decimal c.args.certificate.now.plan.items in
    puts_as _ _ _ _ _ (sym (three_lines score bound plan))
    (puts_more _ _ _ (fields_line score) (fields_line bound ++ fields_line plan)
    _ _ _ c.in_ok-put_score.was (search rules)
    (puts_failed (g.O.Sink.seen c.put_score.new.out) (g.O.Sink.seen c.put_bound.new.out) (fields_line bound) (fields_line plan)
    _ c.from_residual-in_err-put_bound.result _ c.in_err-put_bound.was c.from_residual-in_err-put_bound.ensures.1 (search rules)))

pub returns : goal.returns
returns g c =
    let score = codes "score" ∷ signed_decimal c.args.certificate.now.score ∷ [] in
    let bound = codes "bound" ∷ signed_decimal c.args.certificate.now.bound ∷ [] in
    let plan = codes "plan" ∷ map decimal c.args.certificate.now.plan.items in
    puts_as _ _ _ _ _ (sym (three_lines score bound plan))
    (puts_more _ _ _ (fields_line score) (fields_line bound ++ fields_line plan)
    _ _ _ c.in_ok-put_score.was (search rules)
    (puts_more (g.O.Sink.seen c.put_score.new.out) (g.O.Sink.seen c.put_bound.new.out) _ (fields_line bound) (fields_line plan)
    _ _ _ c.in_ok-put_bound.was (search rules) (rw c.deref.ensures.value at c.put_plan.ensures)))
