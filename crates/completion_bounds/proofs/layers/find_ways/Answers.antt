use Rattle.std.proofs.Common.{◌≡◌, ◌∙◌, ◌<◌, ⊎_elim, sym, ap, subst, arith, length}
use Rattle.std.specs.Prelude.{slice_index_or, slice_set}
use Rattle.std.proofs.lemmas.Bool.{cases_eq}
use Rattle.std.proofs.lemmas.List.{get_or-set_other, get_or-set_same, length-set}
use Rattle.lab_model.specs.Film.{size_of}
use Rattle.network_clock.specs.Network.{done_at}
use Rattle.labels.specs.Labels.{came_at}
use Rattle.completion_bounds.specs.Table.{IsWay, cells_of, no_way, request_after}
use Rattle.completion_bounds.proofs.LayerLaws.{came_soon}
use Rattle.completion_bounds.proofs.layers.find_ways.Goals as goal

pub new-requires-clause-came : goal.new-requires-clause-came
new-requires-clause-came c =
    let g = c.args.scene.now in
    let d = c.args.grid.now in
    let i = c.args.segment in
    let r = c.loop-rung.rung in
    let count = c.loop-rung.invariant.count in
    let asked = request_after g d i c.args.steps in
    let came : c.done-came.result ≡ came_at g asked i r =
    c.done-came.ensures ∙ ap (λ ps. done_at ps c.request-asked.result.start c.size.result) (c.request-asked.ensures.periods ∙ c.clock.ensures.value)
    ∙ ap (λ s. done_at g.periods s c.size.result) (c.request-asked.ensures.start ∙ c.request_after.ensures.value)
    ∙ ap (done_at g.periods asked) (c.size.ensures.value ∙ ap (λ f. size_of f i r) c.film.ensures.value) in
    let soon = came_soon g c.film.ensures.task asked i r c.requires.segment (omega (arith, count)) in
    let limit = c.request_after.ensures.limit in
    let value = c.request_after.ensures.value in
    omega (arith, came, soon, limit, value)

pub loop-rung-preserved : goal.loop-rung-preserved
loop-rung-preserved c =
    let g = c.args.scene.now in
    let d = c.args.grid.now in
    let i = c.args.segment in
    let to = c.loop-rung.rung in
    let ways = c.loop-rung.ways in
    let way = c.new.result in
    let asked = request_after g d i c.args.steps in
    let inside : to < length ways = omega arith in
    let came : c.done-came.result ≡ came_at g asked i to =
    c.done-came.ensures ∙ ap (λ ps. done_at ps c.request-asked.result.start c.size.result) (c.request-asked.ensures.periods ∙ c.clock.ensures.value)
    ∙ ap (λ s. done_at g.periods s c.size.result) (c.request-asked.ensures.start ∙ c.request_after.ensures.value)
    ∙ ap (done_at g.periods asked) (c.size.ensures.value ∙ ap (λ f. size_of f i to) c.film.ensures.value) in
    record {
      count = length-set ways to way ∙ c.loop-rung.invariant.count;
      each = λ r low. ⊎_elim (λ (new : r ≡ to).
          subst (λ x. IsWay g d i (came_at g asked i x) (slice_index_or (slice_set ways to way) x no_way)) (sym new)
          (subst (IsWay g d i (came_at g asked i to)) (sym (get_or-set_same ways to way no_way inside)) (subst (λ t. IsWay g d i t way) came c.new.ensures.way)))
          (λ (old : r ≡ to → ⊥). subst (IsWay g d i (came_at g asked i r)) (sym (get_or-set_other ways to r way no_way old)) (c.loop-rung.invariant.each r (omega (arith, low, old)))) (cases_eq r to);
      cells = λ r w low. ⊎_elim (λ (new : r ≡ to).
          subst (λ x. (slice_index_or (slice_set ways to way) x w).cell < cells_of d) (sym new)
          (subst (λ v. v.cell < cells_of d) (sym (get_or-set_same ways to way w inside)) c.new.ensures.inside))
          (λ (old : r ≡ to → ⊥). subst (λ v. v.cell < cells_of d) (sym (get_or-set_other ways to r way w old)) (c.loop-rung.invariant.cells r w (omega (arith, low, old)))) (cases_eq r to);
    }
