use Rattle.std.proofs.Common.{◌∙◌, ◌+◌, ◌∷◌, ◌++◌, [], Ok, ap, sym, append_assoc, append-nil, refl}
use Rattle.reader_faults.proofs.Each.{each_ended, each_stopped, each_went}
use Rattle.serde_json.specs.View.{view}
use Rattle.manifest_reader.specs.Manifest.{bitrate_in}
use Rattle.lab_model.proofs.Refusals.{fails_on, gives_error}
use Rattle.manifest_reader.proofs.rising_bitrates.Goals as goal

pub returns-in_err-bitrate : goal.returns-in_err-bitrate
returns-in_err-bitrate c =
    gives_error _ c.from_residual.result c.in_err-bitrate.field-0.0 _ c.from_residual.ensures.1
    (fails_on _ _ _ c.in_err-bitrate.ensures (λ y h. sym c.loop-i.invariant ∙ each_stopped view bitrate_in _ c.args.values.now c.loop-i.i _ c.index-values-i.result c.loop-i.before (c.loop-i.i + 1) y c.loop-i-test.true c.index-values-i.is h))

pub loop-i-preserved : goal.loop-i-preserved
loop-i-preserved c =
    rw c.in_ok-push.ensures.items
    (each_went view bitrate_in (λ xs. c.loop-i.bitrates.items ++ xs) _ c.args.values.now c.loop-i.i _ c.index-values-i.result c.loop-i.before (c.loop-i.i + 1) (c.loop-i.i + 1 + 1) c.in_ok-bitrate.bitrate c.loop-i-test.true c.index-values-i.is refl c.in_ok-bitrate.ensures (λ xs. append_assoc c.loop-i.bitrates.items (c.in_ok-bitrate.bitrate ∷ []) xs) ∙ c.loop-i.invariant)

pub returns : goal.returns
returns c = sym c.loop-i.invariant ∙ each_ended view bitrate_in _ c.args.values.now c.loop-i.i c.loop-i.before (c.loop-i.i + 1) c.loop-i-test.false ∙ ap Ok (append-nil c.loop-i.bitrates.items)
