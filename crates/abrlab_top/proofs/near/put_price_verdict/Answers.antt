use Rattle.std.proofs.Common.{◌∷◌, [], ap, codes, rules, subst, sym}
use Rattle.std.specs.Fmt.{signed_decimal}
use Rattle.std.specs.Int.{w128}
use Rattle.std.proofs.lemmas.Int.{to_z-of_z}
use Rattle.lab_io.specs.Piece.{fields_line}
use Rattle.lab_io.specs.Sink.{Puts}
use Rattle.lab_io.proofs.Puts.{puts_as}
use Rattle.abrlab_top.specs.Near.{price_verdict_text}
use Rattle.abrlab_top.proofs.near.put_price_verdict.Goals as goal

pub returns-in-BadRung : goal.returns-in-BadRung
returns-in-BadRung g c = subst (λ v. Puts (g.O.Sink.seen c.args.out.now) (price_verdict_text c.args.score c.args.bound v) (g.O.Sink.seen c.put_bad_place.new.out) c.put_bad_place.result) (sym c.in-BadRung.is) c.put_bad_place.ensures

pub returns-in-BadWindow : goal.returns-in-BadWindow
returns-in-BadWindow g c = subst (λ v. Puts (g.O.Sink.seen c.args.out.now) (price_verdict_text c.args.score c.args.bound v) (g.O.Sink.seen c.put_bad_place-in-BadWindow.new.out) c.put_bad_place-in-BadWindow.result) (sym c.in-BadWindow.is) c.put_bad_place-in-BadWindow.ensures

pub returns-in-BoundAbove : goal.returns-in-BoundAbove
returns-in-BoundAbove g c =
    let same = to_z-of_z w128 c.in-BoundAbove.bound (search rules) in
    subst (λ v. Puts (g.O.Sink.seen c.args.out.now) (price_verdict_text c.args.score c.args.bound v) (g.O.Sink.seen c.put_other_number.new.out) c.put_other_number.result) (sym c.in-BoundAbove.is)
    (puts_as _ _ _ _ _ (ap (λ z. fields_line (codes "no" ∷ codes "P3" ∷ codes "bound" ∷ signed_decimal z ∷ [])) same) c.put_other_number.ensures)

pub returns-in-OtherScore : goal.returns-in-OtherScore
returns-in-OtherScore g c =
    let same = to_z-of_z w128 c.in-OtherScore.score (search rules) in
    subst (λ v. Puts (g.O.Sink.seen c.args.out.now) (price_verdict_text c.args.score c.args.bound v) (g.O.Sink.seen c.put_other_number-in-OtherScore.new.out) c.put_other_number-in-OtherScore.result) (sym c.in-OtherScore.is)
    (puts_as _ _ _ _ _ (ap (λ z. fields_line (codes "no" ∷ codes "P4" ∷ codes "score" ∷ signed_decimal z ∷ [])) same) c.put_other_number-in-OtherScore.ensures)
