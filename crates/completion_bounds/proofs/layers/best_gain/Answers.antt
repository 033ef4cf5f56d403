use mir.Val.{SFits, of_z, to_z}
use Rattle.std.proofs.Common.{◌≡◌, ◌∙◌, ℕ, suc, ◌+◌, ◌-◌, sym, ap, arith, rules}
use Rattle.std.specs.Int.{int_max, w64}
use Rattle.std.specs.Prelude.{ℤ, pos, ◌+ℤ◌, slice_index_or}
use Rattle.std.proofs.lemmas.Int.{ints}
use Rattle.std.proofs.lemmas.List.Elements.{All-get_or}
use Rattle.lab_model.specs.Number.{IsNear}
use Rattle.completion_bounds.specs.Gain.{greatest_to}
use Rattle.completion_bounds.specs.Table.{most_gain, most_step}
use Rattle.completion_bounds.proofs.Greatest.{greatest_first, greatest_more}
use Rattle.completion_bounds.proofs.layers.best_gain.Goals as goal

pub loop-rung-init : goal.loop-rung-init
loop-rung-init c =
    let own = c.args.own.now in
    let gains = c.args.gains.now in
    let from = c.args.from in
    let inside = c.requires.inside in
    let some = c.requires.some in
    let near = All-get_or (IsNear most_step) own from (pos 0) (omega (arith, inside, some)) c.requires.own in
    let behind = All-get_or (IsNear most_gain) gains 0 (pos 0) (omega (arith, some)) c.requires.gains in
    let low = near.low in
    let high = near.high in
    let below = behind.low in
    let above = behind.high in
    let a = slice_index_or own from (pos 0) in
    let b = slice_index_or gains 0 (pos 0) in
    let f : ℕ → ℤ = λ r. slice_index_or own (from + r) (pos 0) +ℤ slice_index_or gains r (pos 0) in
    let value : to_z w64 (of_z w64 (to_z w64 (of_z w64 a) +ℤ to_z w64 (of_z w64 b))) ≡ a +ℤ b = omega (arith, ints, low, high, below, above) in
    let place : from ≡ from + 0 = omega arith in
    record { some = omega arith; best = value ∙ ap (λ x. slice_index_or own x (pos 0) +ℤ b) place ∙ sym (greatest_first f) }

pub overflow_add-own : goal.overflow_add-own
overflow_add-own c =
    let own = c.args.own.now in
    let gains = c.args.gains.now in
    let r = c.loop-rung.rung in
    let inside = c.requires.inside in
    let near = All-get_or (IsNear most_step) own (c.args.from + r) (pos 0) (omega (arith, inside)) c.requires.own in
    let behind = All-get_or (IsNear most_gain) gains r (pos 0) (omega arith) c.requires.gains in
    let low = near.low in
    let high = near.high in
    let below = behind.low in
    let above = behind.high in
    omega (arith, ints, low, high, below, above)

pub loop-rung-preserved : goal.loop-rung-preserved
loop-rung-preserved c =
    let own = c.args.own.now in
    let gains = c.args.gains.now in
    let from = c.args.from in
    let r = c.loop-rung.rung in
    let inside = c.requires.inside in
    let near = All-get_or (IsNear most_step) own (from + r) (pos 0) (omega (arith, inside)) c.requires.own in
    let behind = All-get_or (IsNear most_gain) gains r (pos 0) (omega arith) c.requires.gains in
    let low = near.low in
    let high = near.high in
    let below = behind.low in
    let above = behind.high in
    let a = slice_index_or own (from + r) (pos 0) in
    let b = slice_index_or gains r (pos 0) in
    let f : ℕ → ℤ = λ k. slice_index_or own (from + k) (pos 0) +ℤ slice_index_or gains k (pos 0) in
    let fits : SFits w64 c.max-best.result = search rules in
    let best = to_z w64 c.loop-rung.best-bits in
    let top : to_z w64 (of_z w64 c.max-best.result) ≡ int_max best (to_z w64 (of_z w64 (to_z w64 (of_z w64 a) +ℤ to_z w64 (of_z w64 b)))) = omega (arith, ints, fits) in
    let value : to_z w64 (of_z w64 (to_z w64 (of_z w64 a) +ℤ to_z w64 (of_z w64 b))) ≡ a +ℤ b = omega (arith, ints, low, high, below, above) in
    let some = c.loop-rung.invariant.some in
    let before : suc (r - 1) ≡ r = omega (arith, some) in
    let after : suc (r - 1) ≡ (r + 1) - 1 = omega (arith, some) in
    record {
      some = omega arith;
      best = top ∙ ap (int_max best) value ∙ ap (λ v. int_max v (f r)) c.loop-rung.invariant.best
          ∙ ap (λ k. int_max (greatest_to f (r - 1)) (f k)) (sym before) ∙ sym (greatest_more f (r - 1)) ∙ ap (greatest_to f) after;
    }
