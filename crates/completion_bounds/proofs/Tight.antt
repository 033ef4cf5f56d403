-- The tight setup changes no label and no value of any list.
use Rattle.std.proofs.Common.{◌≡◌, ◌∙◌, ℕ, zero, suc, ◌+◌, ◌-◌, ◌*◌, ◌<◌, ◌≤◌, List, sym, ap, subst, arith, mul-le-mul}
use Rattle.std.specs.Prelude.{max, min, slice_index}
use Rattle.lab_model.specs.declared.label.Label.{Label}
use Rattle.lab_model.specs.Film.{segments_of, size_of}
use Rattle.network_clock.specs.Network.{period_at}
use Rattle.network_clock.proofs.Downloads.{done_from}
use Rattle.player_core.specs.Scene.{Task}
use Rattle.labels.specs.Labels.{came_at, end_value, label_at, next_label, next_value, request_at, there_at}
use Rattle.labels.proofs.LabelsAreValues.{labels_are_values}
use Rattle.labels.proofs.Path.{label_first, label_next}
use Rattle.completion_bounds.specs.Laws.{TightFits, TightLabels, TightValues}
use Rattle.completion_bounds.specs.Tight.{tight}

-- the delay of a label along a list is at most its time
delay_low : (g : Task) (rungs : List ℕ) (i : ℕ) → (label_at g rungs i).p ≤ (label_at g rungs i).t
delay_low g rungs zero = subst (λ (l : Label). l.p ≤ l.t) (sym (label_first g rungs)) (omega arith)
delay_low g rungs (suc i) =
    let l = label_at g rungs i in
    let r = slice_index rungs (suc i) in
    let before = delay_low g rungs i in
    let from = done_from (period_at g.periods) (request_at g (suc i) l) (size_of g.film (suc i) r) in
    subst (λ (m : Label). m.p ≤ m.t) (sym (label_next g rungs i)) (omega (arith, before, from))

-- so the buffer of a whole film never puts a request off
same_request : (n i s buffer t p there : ℕ) → suc i < n → p ≤ t
    → max (max t ((p + (suc i + 1) * s) - min buffer (n * s))) there ≡ max (max t ((p + (suc i + 1) * s) - buffer)) there
same_request n i s buffer t p there low short =
    let inside : suc i + 1 ≤ n = omega (arith, low) in
    let same : s ≤ s = omega arith in
    let whole = mul-le-mul inside same in
    omega (arith, whole, short)

-- no label changes
pub same_labels : TightLabels
same_labels g is rungs h zero low = label_first (tight g) rungs ∙ sym (label_first g rungs)
same_labels g is rungs h (suc i) low =
    let q = slice_index rungs i in
    let r = slice_index rungs (suc i) in
    let l = label_at g rungs i in
    let made : ℕ → Label = λ request.
    let t = came_at g request (suc i) r in
    record { t = t; p = max l.p (t - suc i * g.film.seg_ms); v = next_value g.setup.weights (suc i) q l.v r } in
    label_next (tight g) rungs i
    ∙ ap (λ m. next_label (tight g) (suc i) q m r) (same_labels g is rungs h i (omega (arith, low)))
    ∙ ap made (same_request (segments_of g.film) i g.film.seg_ms g.setup.buffer_ms l.t l.p (there_at g (suc i)) low (delay_low g rungs i))
    ∙ sym (label_next g rungs i)

-- the limits hold
pub tight_fits : TightFits
tight_fits g is =
    let n = is.film.segments.0 in
    let same : g.film.seg_ms ≤ g.film.seg_ms = omega arith in
    let one = mul-le-mul n same in
    let low = is.setup.buffer.0 in
    let high = is.setup.buffer.1 in
    record {
      film = is.film;
      trace = is.trace;
      setup = record { buffer = (omega (arith, one, low), omega (arith, high)); utilities = record { rungs = is.setup.utilities.rungs; rows = is.setup.utilities.rows } };
      weights = is.weights;
      ahead = is.ahead;
    }

-- no value changes
pub same_values : TightValues
same_values g is rungs h =
    let n = segments_of g.film - 1 in
    let some = is.film.segments.0 in
    labels_are_values (tight g) (tight_fits g is) rungs h ∙ ap (end_value g) (same_labels g is rungs h n (omega (arith, some))) ∙ sym (labels_are_values g is rungs h)
