use Rattle.std.proofs.Common.{◌∙◌, get_or, sym, subst}
use Rattle.std.proofs.lemmas.List.{take_more, take_all}
use Rattle.std.proofs.lemmas.Bool.{false≢true}
use Rattle.frontier_planner.specs.Parents.{no_candidate}
use Rattle.frontier_planner.proofs.FirstParents.{SweptFirst, first_all, first_dropped, first_kept, first_none, none_ahead}
use Rattle.frontier_planner.proofs.grow.sweep.Goals as goal
use Rattle.frontier_planner.proofs.grow.sweep.Goals.{then-not-covers+in_ok-add+in_ok-push, else-not-covers}

pub loop-candidate-init : goal.loop-candidate-init
loop-candidate-init c = rw (c.new-kept.ensures.items, c.new-staircase.ensures) first_none

pub loop-candidate-preserved : goal.loop-candidate-preserved
loop-candidate-preserved c =
    let candidates = c.args.candidates.now in
    let i = c.loop-candidate.candidate-index in
    let order = none_ahead candidates i no_candidate c.requires c.loop-candidate-test.true in
    rw (take_more candidates i no_candidate c.loop-candidate-test.true)
    (elim c.if-not-covers.branch [
      | then-not-covers+in_ok-add+in_ok-push w ↦
          rw (w.kept-is, w.staircase-is, w.in_ok-push.ensures.items) (first_kept _ _ _ _ (get_or candidates i no_candidate) c.loop-candidate.invariant order (λ h. false≢true (sym w.if-not-covers.true ∙ c.covers.ensures.1 h)) w.in_ok-add.ensures.rising w.in_ok-add.ensures.adds)
      | else-not-covers w ↦
          rw (w.kept-is, w.staircase-is) (first_dropped _ _ _ (get_or candidates i no_candidate) c.loop-candidate.invariant order (c.covers.ensures.0 w.if-not-covers.false))
    ])

pub returns : goal.returns
returns c = first_all _ _ _ (subst (λ xs. SweptFirst xs c.loop-candidate.kept.items c.loop-candidate.staircase.steps.items) (take_all c.loop-candidate.candidate-index c.args.candidates.now c.loop-candidate-test.false) c.loop-candidate.invariant)

pub covers-requires : goal.covers-requires
covers-requires c = c.loop-candidate.invariant.swept.rising

pub add-requires-clause-rising : goal.add-requires-clause-rising
add-requires-clause-rising c = c.loop-candidate.invariant.swept.rising

pub add-requires-clause-free : goal.add-requires-clause-free
add-requires-clause-free c = λ h. false≢true (sym c.if-not-covers.true ∙ c.covers.ensures.1 h)
