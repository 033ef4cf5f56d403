use Rattle.std.proofs.Common.{◌≡◌, ◌+◌, ◌-◌, ◌*◌, take, drop, sym, ap₂, subst, arith}
use Rattle.certificate_text.specs.Form.{certificate_parts}
use Rattle.labels.specs.Form.{names_per}
use Rattle.certificate_check.specs.Layers.{IsLayer, IsLayerOf}
use Rattle.certificate_check.proofs.Slices.{slice_form, slice_is}
use Rattle.certificate_check.proofs.whole.layer.Goals as goal

pub returns : goal.returns
returns c =
    let cert = c.args.cert.now in
    let from = c.args.segment * cert.rungs in
    let size : cert.rungs ≡ from + cert.rungs - from = omega arith in
    let slice = ap₂ (λ n xs. take n (drop from xs)) size (sym c.deref.ensures.value) in
    record {
      own = subst (IsLayerOf (certificate_parts cert) c.args.segment) slice (slice_is cert c.requires.form c.args.segment c.requires.segment);
      form = subst (IsLayer (names_per cert.segments cert.rungs c.args.segment)) slice (slice_form cert c.requires.form c.args.segment c.requires.segment);
    }
