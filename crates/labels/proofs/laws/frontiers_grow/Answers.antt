use Rattle.std.proofs.Common.{subst}
use Rattle.std.specs.List.{Contains}
use Rattle.labels.specs.Frontier.{prefix_labels}
use Rattle.labels.proofs.Kept.{one_value}
use Rattle.labels.proofs.Prefixes.{frontier_grows, frontier_is, grown_is_frontier}
use Rattle.labels.proofs.laws.frontiers_grow.Goals as goal

pub returns : goal.returns
returns c = record {
  steps = frontier_grows;
  grown = grown_is_frontier;
  one_value = λ g i q a b h k.
      one_value (prefix_labels g i q) a b (subst (λ ls. Contains ls a) (frontier_is g i q) h) (subst (λ ls. Contains ls b) (frontier_is g i q) k);
}
