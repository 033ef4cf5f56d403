use mir.Val.{SFits, of_z, to_z}
use Rattle.std.proofs.Common.{◌≡◌, ◌∙◌, ◌+◌, ◌*◌, ap, subst, arith, rules, length}
use Rattle.std.specs.Int.{w64}
use Rattle.std.specs.Prelude.{pos, slice_index_or}
use Rattle.std.proofs.lemmas.Int.{to_z-of_z}
use Rattle.std.proofs.lemmas.List.{length-set}
use Rattle.lab_model.specs.Film.{rungs_of}
use Rattle.labels.specs.Labels.{came_at}
use Rattle.completion_bounds.specs.Table.{AreGainsTo, cells_of, kind_among, request_after}
use Rattle.completion_bounds.proofs.Gains.{kind_less}
use Rattle.completion_bounds.proofs.Sizes.{place_inside}
use Rattle.completion_bounds.proofs.LayerLaws.{gains_more}
use Rattle.completion_bounds.proofs.layers.take_gains.Goals as goal

pub loop-rung-preserved : goal.loop-rung-preserved
loop-rung-preserved c =
    let d = c.args.grid.now in
    let to = c.loop-rung.rung in
    let gains = c.loop-rung.gains in
    let cell = c.cell_behind-cell.result in
    let behind = c.args.behind.now in
    let value = slice_index_or behind (cell * c.args.kinds + c.kind_among.result) (pos 0) in
    let v = to_z w64 (of_z w64 value) in
    let count = c.loop-rung.invariant.count in
    let row = c.requires.row in
    record {
      count = length-set gains to v ∙ count;
      gains = λ g left segment steps kinds ways layer.
          let rungs = ways.count in
          let all = c.requires.ways in
          let fits : SFits w64 value = search rules in
          gains_more g d left segment steps c.args.row to gains behind cell v (omega (arith, row)) (omega (arith, rungs, all)) (omega (arith, count))
          (c.cell_behind-cell.ensures.value g segment (came_at g (request_after g d segment steps) segment to) (ways.each to (omega (arith, rungs, all))))
          layer (to_z-of_z w64 value fits ∙ ap (λ k. slice_index_or behind (cell * c.args.kinds + k) (pos 0)) c.kind_among.ensures ∙ ap (λ n. slice_index_or behind (cell * n + kind_among n to) (pos 0)) kinds)
          (c.loop-rung.invariant.gains g left segment steps kinds ways layer);
    }

pub returns-clause-gains : goal.returns-clause-gains
returns-clause-gains c = λ g left segment steps kinds ways layer.
    let count = c.loop-rung.invariant.count in
    let all = c.requires.ways in
    let rungs = ways.count in
    let to : c.loop-rung.rung ≡ rungs_of g.film = omega (arith, count, all, rungs) in
    record {
      count = omega (arith, count, all, rungs);
      all = subst (λ n. AreGainsTo g c.args.grid.now left segment steps c.args.row n c.loop-rung.gains) to (c.loop-rung.invariant.gains g left segment steps kinds ways layer);
    }

pub bounds-behind-cell : goal.bounds-behind-cell
bounds-behind-cell c =
    let kind = c.kind_among.ensures in
    let less = kind_less c.args.kinds (length c.args.gains.now) c.loop-rung.rung c.requires.kinds (omega arith) in
    let place = place_inside (cells_of c.args.grid.now) c.args.kinds c.cell_behind-cell.result c.kind_among.result c.cell_behind-cell.ensures.inside (omega (arith, kind, less)) in
    let count = c.requires.behind in
    omega (arith, place, count)
