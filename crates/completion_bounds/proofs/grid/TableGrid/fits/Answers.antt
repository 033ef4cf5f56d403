use Rattle.std.proofs.Common.{arith, rules, Fits, w32, w64}
use Rattle.completion_bounds.proofs.Sizes.{kinds_within, numbers_fit}
use Rattle.completion_bounds.proofs.grid.TableGrid.fits.Goals as goal

pub overflow_mul-layer-2 : goal.overflow_mul-layer-2
overflow_mul-layer-2 c =
    let is = c.kinds.ensures.task in
    let columns : Fits w32 c.self.inside.columns = search rules in
    let rows : Fits w64 c.len.result = search rules in
    let value = c.kinds.ensures.value in
    let most = is.film.rungs.1 in
    let kinds = (kinds_within c.args.scene.now is).1 in
    let fit = (numbers_fit 0 c.len.result c.self.inside.columns c.kinds.result (omega arith) (omega (arith, rows)) (omega (arith, columns)) (omega (arith, value, most, kinds))).0 in
    omega (arith, fit)

pub overflow_mul-result : goal.overflow_mul-result
overflow_mul-result c =
    let is = c.kinds.ensures.task in
    let columns : Fits w32 c.self.inside.columns = search rules in
    let rows : Fits w64 c.len.result = search rules in
    let value = c.kinds.ensures.value in
    let most = is.film.rungs.1 in
    let kinds = (kinds_within c.args.scene.now is).1 in
    let few = c.segments.ensures.film.segments.1 in
    let count = c.segments.ensures.value in
    let fit = (numbers_fit c.segments.result c.len.result c.self.inside.columns c.kinds.result (omega (arith, few, count)) (omega (arith, rows)) (omega (arith, columns)) (omega (arith, value, most, kinds))).1 in
    omega (arith, fit)
