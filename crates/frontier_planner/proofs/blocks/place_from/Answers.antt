use Rattle.std.proofs.Common.{◌≡◌, ◌∙◌, length, get_or, true, sym, arith}
use Rattle.std.proofs.lemmas.List.Sums.{position_or_len_is}
use Rattle.labels.specs.Labels.{dominates}
use Rattle.labels.specs.Read.{no_label}
use Rattle.frontier_planner.proofs.blocks.place_from.Goals as goal

pub returns-then-dominates : goal.returns-then-dominates
returns-then-dominates c =
    let here : dominates (get_or c.args.chain.now c.loop-place.place no_label) c.args.l ≡ true = sym c.dominates.ensures ∙ c.if-dominates.true in
    let low = c.loop-place-test.true in
    sym (position_or_len_is (λ m. dominates m c.args.l) c.args.chain.now c.loop-place.place no_label (omega arith) (λ k before. c.loop-place.invariant k before (omega (arith, before, low))) (λ _. here))

pub returns : goal.returns
returns c =
    let late = c.loop-place-test.false in
    sym (position_or_len_is (λ m. dominates m c.args.l) c.args.chain.now (length c.args.chain.now) no_label (omega arith) (λ k low. c.loop-place.invariant k (omega (arith, low, late)) low) (λ low. absurd (omega (arith, low))))
