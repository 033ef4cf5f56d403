use Rattle.std.proofs.Common.{◌∙◌, sym, rules, ◌≡◌}
use Rattle.std.specs.Fmt.{signed_decimal}
use Rattle.lab_io.proofs.Numbers.{signed_some}
use Rattle.lab_io.proofs.text.put_number.Goals as goal

pub put-requires : goal.put-requires
put-requires g c = λ none.
    let same : c.as_bytes.result.now ≡ signed_decimal c.args.n = search rules in
    signed_some c.args.n c.ranges.n (sym same ∙ none)
