use Rattle.std.proofs.Common.{◌+◌, ◌/◌, ◌%◌, drop, map, refl}
use Rattle.lab_model.specs.Film.{rungs_of, segments_of}
use Rattle.lab_io.proofs.Puts.{puts_as, puts_failed, puts_more, puts_none}
use Rattle.labels.specs.Parts.{chain_parts}
use Rattle.certificate_text.specs.Spelling.{chain_lines, chains_lines, lines_text}
use Rattle.certificate_text.proofs.Texts.{chains_end, chains_from}
use Rattle.certificate_text.proofs.writer.put_chains.Goals as goal

pub loop-number-preserved : goal.loop-number-preserved
loop-number-preserved g c = λ end answer h.
    let segments = segments_of c.args.film.now in
    let rungs = rungs_of c.args.film.now in
    let per = rw (c.segments-segments.ensures.value, c.rungs-rungs.ensures.value) at c.names_per-per.ensures in
    c.loop-number.invariant end answer
    (puts_as _ _ _ _ _ (chains_from segments rungs c.names_per-per.result c.args.chains.now c.loop-number.number c.index-chains-number.result c.loop-number-test.true c.index-chains-number.is per)
    (puts_more _ _ _ (lines_text (chain_lines c.names_per-per.result (c.loop-number.number / rungs) (c.loop-number.number % rungs) (chain_parts c.index-chains-number.result)))
    (lines_text (chains_lines segments rungs (c.loop-number.number + 1) (map chain_parts (drop (c.loop-number.number + 1) c.args.chains.now)))) _ _ _ c.in_ok-put_chain.was (rw c.rungs-rungs.ensures.value at c.put_chain.ensures) h))

pub returns-in_err-put_chain : goal.returns-in_err-put_chain
returns-in_err-put_chain g c =
    let segments = segments_of c.args.film.now in
    let rungs = rungs_of c.args.film.now in
    let per = rw (c.segments-segments.ensures.value, c.rungs-rungs.ensures.value) at c.names_per-per.ensures in
    c.loop-number.invariant _ _
    (puts_as _ _ _ _ _ (chains_from segments rungs c.names_per-per.result c.args.chains.now c.loop-number.number c.index-chains-number.result c.loop-number-test.true c.index-chains-number.is per)
    (puts_failed _ _ (lines_text (chain_lines c.names_per-per.result (c.loop-number.number / rungs) (c.loop-number.number % rungs) (chain_parts c.index-chains-number.result)))
    (lines_text (chains_lines segments rungs (c.loop-number.number + 1) (map chain_parts (drop (c.loop-number.number + 1) c.args.chains.now)))) _ c.from_residual.result _ c.in_err-put_chain.was c.from_residual.ensures.1 (rw c.rungs-rungs.ensures.value at c.put_chain.ensures)))

pub returns : goal.returns
returns g c = c.loop-number.invariant _ _ (rw (chains_end (segments_of c.args.film.now) (rungs_of c.args.film.now) c.args.chains.now c.loop-number.number c.loop-number-test.false) (puts_none _ _ refl))
