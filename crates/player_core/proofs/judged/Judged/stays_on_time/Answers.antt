use Rattle.std.proofs.Common.{◌≡◌, ◌∙◌, ◌+◌, ◌-◌, ◌*◌, ◌/◌, ◌<◌, ◌≤◌, ap, subst, mul-le-mul, arith}
use Rattle.std.proofs.Math.Nat.{div-le_self}
use Rattle.std.proofs.lemmas.Bool.{ltb-true}
use Rattle.player_core.specs.Seen.{download_of}
use Rattle.player_core.proofs.Kept.{on_time_within}
use Rattle.player_core.proofs.judged.Judged.stays_on_time.Goals as goal

pub overflow_mul-result-3 : goal.overflow_mul-result-3
overflow_mul-result-3 c =
    let rate = div-le_self (1000 * c.got-got.result) c.max.result in
    let film = c.seg_ms.ensures.film.seg_ms in
    let spare : c.saturating_sub-spare.result ≤ 540000 = omega (arith, c.saturating_sub-spare.ensures, c.seg_ms.ensures.value, film) in
    let most : 1000 * c.got-got.result / c.max.result ≤ 200000000000 = omega (arith, rate, c.got-got.ensures.limit) in
    let whole = mul-le-mul spare most in
    omega (arith, whole)

pub returns : goal.returns
returns c = λ yes p more few soon some.
    let f = c.args.self.now.film.now in
    let d = download_of c.args.self.now.running in
    let got = c.got-got.result in
    let elapsed = c.args.self.now.t - d.asked + c.args.ms in
    let rate = 1000 * got / c.max.result in
    let spare : c.saturating_sub-spare.result ≡ 9 * f.seg_ms - 5 * elapsed = c.saturating_sub-spare.ensures ∙ ap (λ s. 9 * s - 5 * elapsed) c.seg_ms.ensures.value in
    let low : 5000 * (c.size.result - got) < c.saturating_sub-spare.result * rate = ltb-true _ _ yes in
    let enough = subst (λ n. 5000 * (n - got) < (9 * f.seg_ms - 5 * elapsed) * rate) c.size.ensures.value (subst (λ n. 5000 * (c.size.result - got) < n * rate) spare low) in
    on_time_within f d.segment d.rung c.got-got.result c.max.result elapsed p enough
    (omega (arith, more, c.got-got.ensures.value)) (omega (arith, few, c.max.ensures, c.bit_ms.ensures)) soon
