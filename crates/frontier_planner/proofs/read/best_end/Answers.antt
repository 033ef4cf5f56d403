use Rattle.std.proofs.Common.{◌≡◌, ◌∙◌, ◌+◌, ◌<◌, true, false, get_or, length, map, take, ap, sym, subst, arith}
use Rattle.std.specs.List.{Contains, best_of}
use Rattle.std.proofs.lemmas.List.{get_or-map, length-map, take_all}
use Rattle.std.proofs.lemmas.List.Elements.{Contains-get_or}
use Rattle.std.proofs.lemmas.List.MinMax.{best_of_keeps, best_of_takes}
use Rattle.labels.specs.Read.{best_in, ends_higher, no_label}
use Rattle.frontier_planner.specs.declared.chains.Reached.{Reached}
use Rattle.frontier_planner.specs.Linked.{no_reached, pair_of}
use Rattle.frontier_planner.proofs.Reading.{best_whole, end_fits, last_some}
use Rattle.frontier_planner.proofs.read.best_end.Goals as goal
use Rattle.frontier_planner.proofs.read.best_end.Goals.{then-ends_higher, else-ends_higher}

pub bounds-last-0 : goal.bounds-last-0
bounds-last-0 c =
    let g = c.args.brief.now.scene in
    last_some c.args.brief.now.grid g c.segments.ensures.can c.args.last.now c.requires

pub loop-reached-init : goal.loop-reached-init
loop-reached-init c =
    let g = c.args.brief.now.scene in
    let some = last_some c.args.brief.now.grid g c.segments.ensures.can c.args.last.now c.requires in
    record { best = sym (get_or-map pair_of c.args.last.now 0 no_reached (0, no_label) some); there = Contains-get_or c.args.last.now 0 no_reached some }

pub ends_higher-requires-clause-a : goal.ends_higher-requires-clause-a
ends_higher-requires-clause-a c =
    let g = c.args.brief.now.scene in
    end_fits c.args.brief.now.grid g c.segments.ensures.can c.args.last.now c.requires _ (Contains-get_or c.args.last.now c.loop-reached.reached-index no_reached c.loop-reached-test.true)

pub ends_higher-requires-clause-b : goal.ends_higher-requires-clause-b
ends_higher-requires-clause-b c =
    let g = c.args.brief.now.scene in
    end_fits c.args.brief.now.grid g c.segments.ensures.can c.args.last.now c.requires c.loop-reached.best c.loop-reached.invariant.there

pub loop-reached-preserved : goal.loop-reached-preserved
loop-reached-preserved c =
    let g = c.args.brief.now.scene in
    let last = c.args.last.now in
    let pairs = map pair_of last in
    let i = c.loop-reached.reached-index in
    let low = c.loop-reached-test.true in
    let long = length-map last pair_of in
    let low' : i < length pairs = omega (arith, long, low) in
    let first = get_or pairs 0 (0, no_label) in
    let x = get_or last i no_reached in
    let b = c.loop-reached.best in
    let old = c.loop-reached.invariant in
    let read : pair_of x ≡ get_or pairs i (pair_of x) = sym (get_or-map pair_of last i no_reached (pair_of x) low) in
    let IsSoFar = λ (y : Reached). (pair_of y ≡ best_of (ends_higher g) first (take (i + 1) pairs)) × Contains last y in
    elim c.if-ends_higher.branch [
      | then-ends_higher w ↦
          let h : ends_higher g (pair_of x) (pair_of b) ≡ true = sym c.ends_higher.ensures ∙ w.if-ends_higher.true in
          let pair = subst IsSoFar (sym w.best-is) (best_of_takes (ends_higher g) first pairs i (pair_of x) (pair_of b) low' read old.best h, Contains-get_or last i no_reached low) in
          record { best = pair.0; there = pair.1 }
      | else-ends_higher w ↦
          let h : ends_higher g (pair_of x) (pair_of b) ≡ false = sym c.ends_higher.ensures ∙ w.if-ends_higher.false in
          let pair = subst IsSoFar (sym w.best-is) (best_of_keeps (ends_higher g) first pairs i (pair_of x) (pair_of b) low' read old.best h, old.there) in
          record { best = pair.0; there = pair.1 }
    ]

pub returns-clause-best : goal.returns-clause-best
returns-clause-best c =
    let g = c.args.brief.now.scene in
    let last = c.args.last.now in
    let pairs = map pair_of last in
    let long = length-map last pair_of in
    let late = c.loop-reached-test.false in
    let some = last_some c.args.brief.now.grid g c.segments.ensures.can last c.requires in
    c.loop-reached.invariant.best ∙ ap (best_of (ends_higher g) (get_or pairs 0 (0, no_label))) (take_all c.loop-reached.reached-index pairs (omega (arith, long, late)))
    ∙ best_whole g pairs (omega (arith, long, some)) ∙ ap (best_in g) c.requires
