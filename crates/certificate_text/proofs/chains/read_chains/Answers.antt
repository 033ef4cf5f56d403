use Rattle.std.proofs.Common.{◌∙◌, map, sym, arith}
use Rattle.std.proofs.lemmas.List.{map_push}
use Rattle.lab_model.proofs.Refusals.{fails_on, gives_error}
use Rattle.labels.specs.Parts.{chain_parts}
use Rattle.certificate_text.specs.Reading.{place_of}
use Rattle.certificate_text.proofs.Loops.{chains_ended, chains_more, chains_stopped}
use Rattle.certificate_text.proofs.chains.read_chains.Goals as goal

pub returns-in_err-chain-clause-chains : goal.returns-in_err-chain-clause-chains
returns-in_err-chain-clause-chains c =
    gives_error _ c.from_residual.result c.in_err-chain.field-0.0 _ c.from_residual.ensures.1
    (fails_on _ _ _ (rw c.names_per-per.ensures at c.in_err-chain.ensures.chain)
    (λ y h. sym c.loop-i.invariant.chains ∙ chains_stopped (map chain_parts c.loop-i.chains.items) c.args.at.counts.segments c.args.at.counts.rungs c.args.at.number c.args.count c.loop-i.i (place_of c.loop-i.spot) y c.loop-i-test.true h))

pub loop-i-preserved : goal.loop-i-preserved
loop-i-preserved c = record {
  chains = rw (c.in_ok-push.ensures.ok, map_push chain_parts c.loop-i.chains.items c.in_ok-chain.chain)
      (chains_more (map chain_parts c.loop-i.chains.items) c.args.at.counts.segments c.args.at.counts.rungs c.args.at.number c.args.count c.loop-i.i (place_of c.loop-i.spot) (place_of c.in_ok-chain.behind) (chain_parts c.in_ok-chain.chain) c.loop-i-test.true
      (rw c.names_per-per.ensures at c.in_ok-chain.ensures.chain) ∙ c.loop-i.invariant.chains);
  further = record {
    counts = c.in_ok-chain.ensures.further.counts ∙ c.loop-i.invariant.further.counts;
    number = omega (arith, c.in_ok-chain.ensures.further.number, c.loop-i.invariant.further.number);
  };
}

pub returns-clause-chains : goal.returns-clause-chains
returns-clause-chains c =
    sym c.loop-i.invariant.chains ∙ chains_ended (map chain_parts c.loop-i.chains.items) c.args.at.counts.segments c.args.at.counts.rungs c.args.at.number c.args.count c.loop-i.i (place_of c.loop-i.spot) c.loop-i-test.false
