use Rattle.std.proofs.Common.{◌≤◌, ◌∙◌, ◌+◌, ◌∷◌, ◌++◌, [], Ok, ap, sym, append_assoc, append-nil, arith}
use Rattle.reader_faults.proofs.Each.{each_ended, each_stopped, each_went}
use Rattle.csv.specs.Records.{fields_of}
use Rattle.seek_script.specs.Script.{seek_in}
use Rattle.lab_model.proofs.Refusals.{fails_on, gives_error}
use Rattle.seek_script.proofs.script.all_seeks.Goals as goal

pub returns-in_err-seek-clause-seeks : goal.returns-in_err-seek-clause-seeks
returns-in_err-seek-clause-seeks c =
    gives_error _ c.from_residual.result c.in_err-seek.field-0.0 _ c.from_residual.ensures.1
    (fails_on _ _ _ c.in_err-seek.ensures.seek (λ y h. sym c.loop-i.invariant.seeks ∙ each_stopped fields_of (seek_in c.args.segments) _ c.args.rows.now c.loop-i.i _ c.index-rows-i.result c.loop-i.before (c.loop-i.i + 2) y c.loop-i-test.true c.index-rows-i.is h))

pub loop-i-preserved : goal.loop-i-preserved
loop-i-preserved c =
    let few : c.loop-i.i + 1 ≤ 16 = omega (arith, c.in_ok-seek.ensures.few) in
    rw c.in_ok-push.ensures.items (record {
      few = few;
      seeks = each_went fields_of (seek_in c.args.segments) (λ ss. c.loop-i.seeks.items ++ ss) _ c.args.rows.now c.loop-i.i _ c.index-rows-i.result c.loop-i.before (c.loop-i.i + 2) (c.loop-i.i + 1 + 2) c.in_ok-seek.seek c.loop-i-test.true c.index-rows-i.is (omega arith) c.in_ok-seek.ensures.seek (λ ss. append_assoc c.loop-i.seeks.items (c.in_ok-seek.seek ∷ []) ss) ∙ c.loop-i.invariant.seeks;
    })

pub returns-clause-seeks : goal.returns-clause-seeks
returns-clause-seeks c = sym c.loop-i.invariant.seeks ∙ each_ended fields_of (seek_in c.args.segments) _ c.args.rows.now c.loop-i.i c.loop-i.before (c.loop-i.i + 2) c.loop-i-test.false ∙ ap Ok (append-nil c.loop-i.seeks.items)
