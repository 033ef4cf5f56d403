use mir.Val.{SFits, of_z, to_z}
use Rattle.std.proofs.Common.{◌≡◌, ◌∙◌, ℕ, suc, ◌+◌, ◌-◌, ◌<◌, sym, ap, subst, arith, rules}
use Rattle.std.specs.Int.{int_max, w128}
use Rattle.std.specs.Prelude.{ℤ, ◌≤ℤ◌}
use Rattle.std.proofs.lemmas.Int.{ints, to_z-of_z}
use Rattle.lab_model.specs.Film.{rungs_of}
use Rattle.player_core.specs.Scene.{IsTask, Task}
use Rattle.labels.specs.Best.{task_value}
use Rattle.labels.specs.Labels.{start_label}
use Rattle.completion_bounds.specs.Bound.{most_of, table_bound}
use Rattle.completion_bounds.specs.Gain.{greatest_to}
use Rattle.completion_bounds.specs.Grid.{IsTableGrid}
use Rattle.completion_bounds.specs.Table.{TableValue}
use Rattle.completion_bounds.proofs.Along.{table_bounds}
use Rattle.completion_bounds.proofs.Greatest.{greatest_first, greatest_more}
use Rattle.completion_bounds.proofs.table.Table.bound.Goals as goal

pub most_of_start-best-requires : goal.most_of_start-best-requires
most_of_start-best-requires c =
    let some = c.film.ensures.task.film.rungs.0 in
    subst (λ (v : TableValue). 0 < rungs_of v.scene.film) c.self.view_is (omega (arith, some))

pub loop-rung-init : goal.loop-rung-init
loop-rung-init c =
    let g = c.args.self.now.scene in
    let d = c.args.self.now.grid in
    let f : ℕ → ℤ = λ q. most_of g d 0 q (start_label g q) in
    let fits : SFits w128 c.most_of_start-best.result = search rules in
    record { some = omega arith; best = to_z-of_z w128 c.most_of_start-best.result fits ∙ c.most_of_start-best.ensures ∙ sym (greatest_first f) }

pub loop-rung-preserved : goal.loop-rung-preserved
loop-rung-preserved c =
    let g = c.args.self.now.scene in
    let d = c.args.self.now.grid in
    let f : ℕ → ℤ = λ q. most_of g d 0 q (start_label g q) in
    let r = c.loop-rung.rung in
    let own = c.most_of_start.result in
    let fits : SFits w128 c.max-best.result = search rules in
    let near : SFits w128 own = search rules in
    let best = to_z w128 c.loop-rung.best-bits in
    let top : to_z w128 (of_z w128 c.max-best.result) ≡ int_max best (to_z w128 (of_z w128 own)) = omega (arith, ints, fits) in
    let some = c.loop-rung.invariant.some in
    let before : suc (r - 1) ≡ r = omega (arith, some) in
    let after : suc (r - 1) ≡ (r + 1) - 1 = omega (arith, some) in
    record {
      some = omega arith;
      best = top ∙ ap (int_max best) (to_z-of_z w128 own near ∙ c.most_of_start.ensures) ∙ ap (λ v. int_max v (f r)) c.loop-rung.invariant.best
          ∙ ap (λ k. int_max (greatest_to f (r - 1)) (f k)) (sym before) ∙ sym (greatest_more f (r - 1)) ∙ ap (greatest_to f) after;
    }

pub returns : goal.returns
returns c =
    let g = c.args.self.now.scene in
    let d = c.args.self.now.grid in
    let f : ℕ → ℤ = λ q. most_of g d 0 q (start_label g q) in
    let scene = ap (λ (v : TableValue). v.scene) c.self.view_is in
    let grid = ap (λ (v : TableValue). v.grid) c.self.view_is in
    let is = subst IsTask scene c.self.invariant.task in
    let good = subst IsTableGrid grid c.self.invariant.grid.grid in
    let some = is.film.rungs.0 in
    let count = c.rungs-count.ensures.value ∙ ap rungs_of c.film.ensures.value ∙ ap (λ (x : Task). rungs_of x.film) scene in
    let done = c.loop-rung-test.false in
    let end = c.loop-rung.auto.rung-end (omega (arith, count, some)) in
    let all : c.loop-rung.rung - 1 ≡ rungs_of g.film - 1 = omega (arith, count, some, done, end) in
    let value : to_z w128 c.loop-rung.best-bits ≡ table_bound g d = c.loop-rung.invariant.best ∙ ap (greatest_to f) all in
    record {
      value = value;
      bounds = λ rungs fits. subst (λ v. task_value g rungs ≤ℤ v) (sym value) (table_bounds g is d good rungs fits);
    }
