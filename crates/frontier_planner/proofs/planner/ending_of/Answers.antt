use Rattle.std.proofs.Common.{◌-◌, ap, subst}
use Rattle.std.specs.List.{Contains}
use Rattle.frontier_planner.specs.Linked.{pair_of}
use Rattle.frontier_planner.proofs.Planned.{list_is}
use Rattle.frontier_planner.proofs.planner.ending_of.Goals as goal

pub rungs_to-requires-clause-reached : goal.rungs_to-requires-clause-reached
rungs_to-requires-clause-reached c =
    c.in_ok-reached_labels.ensures.stand c.best_end-end.result (subst (λ xs. Contains xs c.best_end-end.result) c.deref.ensures.value c.best_end-end.ensures.there)

pub returns : goal.returns
returns c =
    let d = c.args.brief.now.grid in
    let g = c.args.brief.now.scene in
    let last = c.segments-last.ensures.value in
    record {
      end = ap (λ p. p.1) c.best_end-end.ensures.best;
      rungs = list_is d g c.segments-last.ensures.can 0 (c.segments-last.result - 1) (pair_of c.best_end-end.result) c.in_ok-rungs.rungs.items (ap (λ n. n - 1) last) c.best_end-end.ensures.best c.in_ok-rungs.ensures;
    }
