use Rattle.std.proofs.Common.{◌≡◌, ◌∙◌, ℕ, ◌+◌, ◌-◌, ◌/◌, ◌≤◌, ◌<◌, List, [], ◌∷◌, ◌++◌, refl, sym, ap, subst, length, arith}
use Rattle.price_bounds.specs.Tables.{AreEdgesSoFar}
use Rattle.price_bounds.proofs.CellLaws.{least_from}
use Rattle.price_bounds.proofs.Edges.{edges_all, edges_first, edges_more}
use Rattle.price_bounds.proofs.cells.least_delays.Goals as goal

pub loop-edge-init : goal.loop-edge-init
loop-edge-init c =
    let first = c.args.first in
    subst (AreEdgesSoFar first first) (sym (c.in_ok-push.ensures.items ∙ ap (λ (xs : List ℕ). xs ++ first ∷ []) c.new-edges.ensures.items)) (edges_first first)

pub overflow_sub-edge : goal.overflow_sub-edge
overflow_sub-edge c =
    let last = c.loop-edge.invariant.last in
    let from = least_from c.args.first (length c.loop-edge.edges.items - 1) in
    omega (arith, last, from)

pub loop-edge-preserved : goal.loop-edge-preserved
loop-edge-preserved c =
    rw c.in_ok-push-2.ensures.items
    (edges_more c.args.first c.loop-edge.edge (c.loop-edge.edge + 1 + (c.loop-edge.edge - c.args.first) / 64) c.loop-edge.edges.items c.loop-edge.invariant c.loop-edge-test.true refl)

pub returns : goal.returns
returns c = edges_all c.args.first c.loop-edge.edge c.loop-edge.edges.items c.requires c.loop-edge.invariant c.loop-edge-test.false
