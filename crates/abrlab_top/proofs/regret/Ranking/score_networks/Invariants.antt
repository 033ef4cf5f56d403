use Rattle.std.proofs.Common.{◌≡◌, ◌+◌, drop, map, take}
use Rattle.std.specs.List.{All}
use Rattle.lab_inputs.specs.Stages.{network_of}
use Rattle.abrlab_top.specs.Regret.{AreRanked, AreTops, first_spent, scored_on, seen_scored, tops_of}
use Rattle.abrlab_top.proofs.regret.Ranking.score_networks.Given as goal

-- whether any network spends the budget is for those from here on to say, and those so far are in the table
abbrev pub invariant-loop-index : goal.invariant-loop-index
invariant-loop-index l = record {
  spent : first_spent l.fn.self.inputs l.fn.self.budget 1 l.fn.self.inputs.networks ≡ first_spent l.fn.self.inputs l.fn.self.budget (l.index + 1) (map network_of (drop l.index l.networks));
  values : map seen_scored l.table.items ≡ map (scored_on l.fn.self.inputs) (map network_of (take l.index l.networks));
  ranked : All AreRanked l.table.items;
  tops : AreTops l.fn.self.inputs l.fn.self.budget (map network_of (take l.index l.networks)) (tops_of l.table.items);
}
