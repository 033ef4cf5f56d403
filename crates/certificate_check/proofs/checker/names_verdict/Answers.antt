use Rattle.std.proofs.Common.{◌∙◌, sym, ap, ◌≡◌, length, subst, arith}
use Rattle.certificate_check.specs.declared.verdict.Verdict.TheVariants.{Yes}
use Rattle.certificate_check.specs.Scheme.{first_no}
use Rattle.certificate_check.specs.Clauses.{count_of, chains_by_rung, name_verdict, range_verdict}
use Rattle.certificate_check.proofs.Layers.{chain_read, few_read, layer_read}
use Rattle.certificate_check.proofs.Scheme.{first_fails, first_more, first_none, yes_at}
use Rattle.certificate_check.proofs.checker.names_verdict.Goals as goal

pub loop-rung-init : goal.loop-rung-init
loop-rung-init c = first_none _

pub names_of_chain-requires-clause-can : goal.names_of_chain-requires-clause-can
names_of_chain-requires-clause-can c =
    let fits = c.requires.fits in
    let low = c.loop-rung-test.true in
    let long = fits.rungs in
    record {
      segment = fits.segment;
      rung = omega (arith, low, long);
      rungs = fits.next_rungs;
      few = c.requires.few;
      count = few_read _ c.args.here.now c.loop-rung.rung c.index-here-rung.result c.requires.form low c.index-here-rung.is;
      form = chain_read _ c.args.here.now c.loop-rung.rung c.index-here-rung.result c.requires.form low c.index-here-rung.is;
    }

pub names_of_chain-requires-clause-ranges : goal.names_of_chain-requires-clause-ranges
names_of_chain-requires-clause-ranges c =
    let q = c.loop-rung.rung in
    let chain = layer_read c.args.here.now q c.index-here-rung.result c.loop-rung-test.true c.index-here-rung.is in
    subst (λ x. first_no (range_verdict (length c.args.next.now) c.args.segment q x (chains_by_rung c.args.next.now)) (count_of x) ≡ Yes) (sym chain)
    (yes_at (λ s. first_no (range_verdict (length c.args.next.now) c.args.segment s (chains_by_rung c.args.here.now s) (chains_by_rung c.args.next.now)) (count_of (chains_by_rung c.args.here.now s))) (length c.args.here.now) q c.requires.ranges c.loop-rung-test.true)

pub loop-rung-preserved : goal.loop-rung-preserved
loop-rung-preserved c =
    let q = c.loop-rung.rung in
    let chain = layer_read c.args.here.now q c.index-here-rung.result c.loop-rung-test.true c.index-here-rung.is in
    first_more _ _ c.loop-rung.invariant (c.in_ok-names_of_chain.ensures ∙ ap (λ x. first_no (name_verdict c.args.scene.now (length c.args.next.now) c.args.segment q x (chains_by_rung c.args.next.now)) (count_of x)) chain)

pub returns-in_err-names_of_chain : goal.returns-in_err-names_of_chain
returns-in_err-names_of_chain c =
    let q = c.loop-rung.rung in
    let chain = layer_read c.args.here.now q c.index-here-rung.result c.loop-rung-test.true c.index-here-rung.is in
    first_fails _ _ _ c.from_residual.result c.in_err-names_of_chain.field-0.0 c.loop-rung-test.true c.loop-rung.invariant (c.in_err-names_of_chain.ensures ∙ ap (λ x. first_no (name_verdict c.args.scene.now (length c.args.next.now) c.args.segment q x (chains_by_rung c.args.next.now)) (count_of x)) chain) c.from_residual.ensures.1
