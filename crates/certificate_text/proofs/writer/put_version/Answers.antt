use Rattle.std.proofs.Common.{◌≡◌, ◌∷◌, [], codes, pos, subst, arith, ℤ}
use Rattle.std.specs.Int.{w128}
use Rattle.std.specs.Fmt.{signed_decimal}
use Rattle.std.proofs.lemmas.Int.{ints}
use Rattle.lab_io.specs.Piece.{fields_line}
use Rattle.lab_io.specs.Sink.{Puts}
use Rattle.certificate_text.proofs.writer.put_version.Goals as goal
use mir.Val.{to_z}

pub returns : goal.returns
returns g c =
    let small : to_z w128 c.args.version ≡ pos c.args.version = omega (arith, ints) in
    subst (λ (z : ℤ). Puts (g.O.Sink.seen c.args.out.now) (fields_line (codes "abrlab" ∷ codes "certificate" ∷ signed_decimal z ∷ [])) (g.O.Sink.seen c.put_fields.new.out) c.put_fields.result) small c.put_fields.ensures
