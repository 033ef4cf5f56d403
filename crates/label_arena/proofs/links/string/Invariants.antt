use Rattle.std.proofs.Common.{◌≡◌, ◌-◌}
use Rattle.label_arena.specs.Links.{free_after, nodes_strung}
use Rattle.label_arena.proofs.links.string.Given as goal

abbrev pub invariant-loop-place : goal.invariant-loop-place
invariant-loop-place l = record {
  nodes : l.nodes.items ≡ nodes_strung l.fn.from (l.place - l.fn.from) l.fn.list l.fn.nodes.items;
  first : l.first ≡ free_after l.fn.from (l.place - l.fn.from) l.fn.list;
}
