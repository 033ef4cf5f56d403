use Rattle.std.proofs.Common.{◌≡◌, ◌-◌, Some}
use Rattle.std.specs.Prelude.{fold}
use Rattle.std.specs.List.{flat_map}
use Rattle.lab_model.specs.Ladder.{rungs_below}
use Rattle.mpc_rule.specs.Search.{better, completions, extended, rungs_left}
use Rattle.mpc_rule.proofs.search.Search.+best_after.Given as goal

abbrev pub decreases-best_after : goal.decreases-best_after
decreases-best_after l = rungs_left l.self.now l.draft

abbrev pub invariant-loop-rung : goal.invariant-loop-rung
invariant-loop-rung l =
    let o = l.self in
    Some l.best ≡ fold better (Some l.fn.best) (flat_map (λ rung. completions o (rungs_left o l.draft - 1) (extended o l.draft rung)) (rungs_below l.rung))
