use Rattle.std.proofs.Common.{◌<◌, ◌≤◌, ⊎_elim, arith}
use Rattle.std.proofs.lemmas.Bool.{cases_lt}
use Rattle.lab_model.specs.Rates.{rate_of}
use Rattle.player_core.specs.Parts.{got_of}
use Rattle.player_core.specs.Seen.{download_of}
use Rattle.player_core.proofs.Kept.{enough_reaches, held_kept, rate_within, waiting_kept}
use Rattle.player_core.proofs.judged.Judged.held_ms.Goals as goal

pub returns : goal.returns
returns c = λ p more few soon some.
    let f = c.args.self.now.film.now in
    let d = download_of c.args.self.now.running in
    let rung = c.holding_rung-rung.result in
    ⊎_elim
    (λ (begun : 0 < p.bit_ms).
    held_kept f d.segment d.rung p (got_of f d) rung c.holding_rung-rung.ensures.holds more
    (enough_reaches f d.segment d.rung p rung (omega (arith, c.holding_rung-rung.ensures.rung, c.args.self.now.can.rung))
    (c.enough_rate.ensures.enough (rate_of p.got p.bit_ms) (rate_within c.got.result p.got p.bit_ms c.enough_rate.result c.enough_rate.ensures.some (omega (arith, c.got.ensures.value, more)) (omega (arith, begun)) (omega (arith, few, some, c.saturating_sub.ensures, c.bit_ms.ensures))))))
    (λ (none : p.bit_ms ≤ 0). waiting_kept f d.segment d.rung p (omega (arith, none)))
    (cases_lt 0 p.bit_ms)
