use Rattle.std.proofs.Common.{◌≡◌, ◌∙◌, ℕ, ◌++◌, List, drop, length, take, ap, sym, subst, arith, rules}
use Rattle.std.specs.Prelude.{pos, slice_index, slice_index_or}
use Rattle.std.proofs.Math.Seq.{take-append_seam}
use Rattle.std.proofs.lemmas.Int.{to_z-of_z}
use Rattle.std.proofs.lemmas.List.{get_or_default}
use Rattle.std.specs.Int.{w128}
use mir.Val.{of_z, to_z}
use Rattle.lab_model.specs.Number.{IsNear}
use Rattle.lab_model.specs.Film.{segments_of}
use Rattle.price_bounds.specs.Tables.{AreEdges, AreLosses, most_link_worth}
use Rattle.price_bounds.proofs.CellCode.{edges_own}
use Rattle.price_bounds.proofs.LinkSteps.{losses_stand, stands_behind, stands_first, stands_near, stands_next, stands_some}
use Rattle.price_bounds.proofs.link_part.link_part.Goals as goal

pub stall_losses-requires : goal.stall_losses-requires
stall_losses-requires c =
    record { edges = subst (λ (xs : List ℕ). AreEdges (slice_index xs 0) xs) (sym c.deref.ensures.value) (edges_own c.args.first c.in_ok-edges.edges.items c.in_ok-edges.ensures) }

pub loop-done-init : goal.loop-done-init
loop-done-init c =
    let g = c.args.scene.now in
    let edges = c.in_ok-edges.edges.items in
    let losses = c.in_ok-table.table.items in
    losses_stand g c.args.windows.now c.args.first edges c.in_ok-edges.ensures c.segments-count.ensures.task.film.segments.0 losses
    (subst (λ (xs : List ℕ). AreLosses g (slice_index xs 0) losses) c.deref.ensures.value c.in_ok-table.ensures)

pub step_back-requires-clause-edges : goal.step_back-requires-clause-edges
step_back-requires-clause-edges c =
    subst (λ (xs : List ℕ). AreEdges (slice_index xs 0) xs) (sym c.deref-in-loop-done.ensures.value) (edges_own c.args.first c.in_ok-edges.edges.items c.in_ok-edges.ensures)

pub step_back-requires-clause-table : goal.step_back-requires-clause-table
step_back-requires-clause-table c =
    stands_behind c.args.scene.now c.args.windows.now c.args.first c.in_ok-edges.edges.items c.in_ok-edges.ensures c.segments-count.result c.loop-done.done c.loop-done.table.items
    c.segments-count.ensures.value c.loop-done.invariant c.deref-in-loop-done.result.now c.deref-in-loop-done.ensures.value c.deref_mut.result.now c.deref_mut.ensures.value

pub loop-done-preserved : goal.loop-done-preserved
loop-done-preserved c =
    let new = c.step_back.new.table in
    let old = c.loop-done.table.items in
    let long : c.loop-done.table.len ≡ length new = omega arith in
    stands_next c.args.scene.now c.args.windows.now c.args.first c.in_ok-edges.edges.items c.in_ok-edges.ensures c.segments-count.result c.loop-done.done new
    c.segments-count.ensures.value (omega arith) c.deref-in-loop-done.result.now c.deref-in-loop-done.ensures.value c.step_back.ensures
    (take c.loop-done.table.len (new ++ drop (length new) old)) (ap (λ k. take k (new ++ drop (length new) old)) long ∙ take-append_seam new (drop (length new) old))

pub index-requires : goal.index-requires
index-requires c =
    let g = c.args.scene.now in
    let ws = c.args.windows.now in
    let items = c.loop-done.table.items in
    let is = c.segments-count.ensures.task in
    let count = c.segments-count.ensures.value in
    let some = is.film.segments.0 in
    let end = c.loop-done.auto.done-end (omega (arith, count, some)) in
    let all : c.loop-done.done ≡ segments_of g.film = omega (arith, count, end) in
    let more = stands_some g ws c.args.first is c.requires.windows c.requires.first c.loop-done.done all items c.loop-done.invariant in
    omega (arith, more)

pub returns-clause-value : goal.returns-clause-value
returns-clause-value c =
    let g = c.args.scene.now in
    let ws = c.args.windows.now in
    let items = c.loop-done.table.items in
    let is = c.segments-count.ensures.task in
    let count = c.segments-count.ensures.value in
    let some = is.film.segments.0 in
    let end = c.loop-done.auto.done-end (omega (arith, count, some)) in
    let all : c.loop-done.done ≡ segments_of g.film = omega (arith, count, end) in
    let more = stands_some g ws c.args.first is c.requires.windows c.requires.first c.loop-done.done all items c.loop-done.invariant in
    let own : to_z w128 (of_z w128 c.index.result.now) ≡ slice_index_or items 0 (pos 0) = to_z-of_z w128 c.index.result.now (search rules) ∙ c.index.ensures ∙ get_or_default items 0 c.index.result.now (pos 0) more in
    own ∙ stands_first g ws c.args.first is c.requires.windows c.requires.first c.loop-done.done all items c.loop-done.invariant

pub returns-clause-near : goal.returns-clause-near
returns-clause-near c =
    let g = c.args.scene.now in
    let ws = c.args.windows.now in
    let items = c.loop-done.table.items in
    let is = c.segments-count.ensures.task in
    let count = c.segments-count.ensures.value in
    let some = is.film.segments.0 in
    let end = c.loop-done.auto.done-end (omega (arith, count, some)) in
    let all : c.loop-done.done ≡ segments_of g.film = omega (arith, count, end) in
    let more = stands_some g ws c.args.first is c.requires.windows c.requires.first c.loop-done.done all items c.loop-done.invariant in
    let own : to_z w128 (of_z w128 c.index.result.now) ≡ slice_index_or items 0 (pos 0) = to_z-of_z w128 c.index.result.now (search rules) ∙ c.index.ensures ∙ get_or_default items 0 c.index.result.now (pos 0) more in
    subst (IsNear most_link_worth) (sym own) (stands_near g ws c.args.first is c.requires.windows c.requires.first c.loop-done.done all items c.loop-done.invariant)
