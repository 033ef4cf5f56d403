-- Labels are values.
use Rattle.std.proofs.Common.{◌≡◌, ◌∙◌, ℕ, suc, ◌-◌, ◌*◌, List, None, sym, ap, add-one, arith}
use Rattle.std.specs.Prelude.{ℤ, pos, ◌-ℤ◌}
use Rattle.lab_model.specs.declared.context.Played.{Played}
use Rattle.lab_model.specs.Film.{segments_of}
use Rattle.lab_model.specs.Sums.{changes_of, utilities_of}
use Rattle.quality_score.specs.Score.{score_of}
use Rattle.player_core.specs.State.{Player}
use Rattle.player_core.specs.Session.{last_player}
use Rattle.labels.specs.Labels.{AreRungs, end_value, label_at}
use Rattle.player_core.specs.Scene.{IsTask, Task}
use Rattle.labels.specs.Along.{case_along, rungs_played}
use Rattle.labels.specs.ValueLaw.{LabelsAreValues}
use Rattle.labels.proofs.AlongSums.{value_end}
use Rattle.labels.proofs.AlongEnds.{Over, last_over}
use Rattle.labels.proofs.LabelValues.{label_value, worth_of}

-- the score of a player that has played a rung list is the last label's end value
over_value : (g : Task) → IsTask g → (rungs : List ℕ) → AreRungs g (segments_of g.film) rungs → (p : Player) → Over g rungs p
    → score_of g.setup.weights p.played p.stall_ms p.startup_ms ≡ end_value g (label_at g rungs (segments_of g.film - 1))
over_value g is rungs fits p o =
    let w = g.setup.weights in
    let n = segments_of g.film in
    let some = is.film.segments.0 in
    let count = fits.0 in
    let l = label_at g rungs (n - 1) in
    let delay = (label_at g rungs 0).p in
    let ps = rungs_played rungs n in
    let whole : suc (n - 1) ≡ n = sym (add-one (n - 1)) ∙ omega (arith, some) in
    let startup = o.startup in
    let waited = o.waited in
    let value = label_value g rungs (n - 1) (omega (arith, some, count)) ∙ ap (λ m. worth_of w delay (rungs_played rungs m)) whole in
    ap (λ (qs : List Played). score_of w qs p.stall_ms p.startup_ms) o.played ∙ ap (λ (d : ℕ). score_of w ps p.stall_ms d) startup
    ∙ sym (ap (λ (v : ℤ). v -ℤ pos (w.stall * l.p)) value ∙ value_end (utilities_of w ps) (changes_of w None ps) w.stall w.startup w.switch delay p.stall_ms l.p (omega (arith, startup, waited)))

-- the law
pub labels_are_values : LabelsAreValues
labels_are_values g is rungs fits = over_value g is rungs fits (last_player (case_along g rungs)) (last_over g is rungs fits)
