-- The labels along a rung list: their downloads follow one another, and delays don't fall.
use Rattle.std.proofs.Common.{◌≡◌, ◌∙◌, ℕ, zero, suc, ◌+◌, ◌-◌, ◌*◌, ◌<◌, ◌≤◌, List, max, refl, sym, ap, subst, arith}
use Rattle.std.specs.Prelude.{slice_index}
use Rattle.lab_model.specs.declared.label.Label.{Label}
use Rattle.lab_model.specs.Film.{rungs_of, segments_of, size_of}
use Rattle.player_core.specs.Scene.{IsTask, Task}
use Rattle.player_core.proofs.Runs.{size_within}
use Rattle.labels.specs.Labels.{AreRungs, came_at, label_at, next_label, request_at, start_label, there_at}
use Rattle.labels.proofs.Covered.{rung_at}
use Rattle.labels.proofs.Path.{label_first, label_next}
use Rattle.labels.proofs.Reached.{label_reach}
use Rattle.network_clock.proofs.Downloads.{done_from}
use Rattle.network_clock.specs.Network.{period_at}
use Rattle.price_bounds.specs.Cells.{farthest_delay}
use Rattle.price_bounds.specs.LinkPart.{begin_at, carried_to, end_at}
use Rattle.price_bounds.proofs.Carried.{carried_over, carried_rises}
use Rattle.price_bounds.proofs.Chains.{AreChained}

-- the instant at which a segment but the first is asked for along a rung list
abbrev pub asked_along : Task → List ℕ → ℕ → ℕ
asked_along g rungs j = request_at g j (label_at g rungs (j - 1))

-- the bits of a segment along a rung list
abbrev pub bits_along : Task → List ℕ → ℕ → ℕ
bits_along g rungs j = size_of g.film j (slice_index rungs j)

module _ (g : Task) (rungs : List ℕ) where
  asked_next : (i : ℕ) → asked_along g rungs (suc i) ≡ request_at g (suc i) (label_at g rungs i)
  asked_next i = let back : suc i - 1 ≡ i = omega arith in ap (λ k. request_at g (suc i) (label_at g rungs k)) back

  came_next : (i : ℕ) → (label_at g rungs (suc i)).t ≡ came_at g (request_at g (suc i) (label_at g rungs i)) (suc i) (slice_index rungs (suc i))
  came_next i = ap (λ (l : Label). l.t) (label_next g rungs i)

  delay_next : (i : ℕ) → (label_at g rungs (suc i)).p ≡ max (label_at g rungs i).p (came_at g (request_at g (suc i) (label_at g rungs i)) (suc i) (slice_index rungs (suc i)) - suc i * g.film.seg_ms)
  delay_next i = ap (λ (l : Label). l.p) (label_next g rungs i)

  -- delays don't fall
  pub delay_rises : (i : ℕ) → (label_at g rungs i).p ≤ (label_at g rungs (suc i)).p
  delay_rises i = let e = delay_next i in omega (arith, e)

  -- the first segment has come at its delay
  pub first_came : (label_at g rungs 0).t ≡ (label_at g rungs 0).p
  first_came = ap (λ (l : Label). l.t) (label_first g rungs) ∙ sym (ap (λ (l : Label). l.p) (label_first g rungs))

  -- no delay is below the first
  pub delay_from : (i : ℕ) → (label_at g rungs 0).p ≤ (label_at g rungs i).p
  delay_from zero = omega arith
  delay_from (suc i) = let before = delay_from i in let rises = delay_rises i in omega (arith, before, rises)

  -- a segment comes no later than its delay allows
  pub came_soon : (i : ℕ) → (label_at g rungs i).t ≤ end_at g i (label_at g rungs i).p
  came_soon zero = let e = first_came in omega (arith, e)
  came_soon (suc i) = let t = came_next i in let p = delay_next i in omega (arith, t, p)

  came_rises : (i : ℕ) → (label_at g rungs i).t ≤ (label_at g rungs (suc i)).t
  came_rises i =
      let from = done_from (period_at g.periods) (request_at g (suc i) (label_at g rungs i)) (bits_along g rungs (suc i)) in
      let t = came_next i in
      omega (arith, from, t)

  -- no segment comes before the first
  pub came_from : (i : ℕ) → (label_at g rungs 0).p ≤ (label_at g rungs i).t
  came_from zero = let e = first_came in omega (arith, e)
  came_from (suc i) = let before = came_from i in let rises = came_rises i in omega (arith, before, rises)

  -- a segment is asked for no earlier than after a delay that is no greater than that of the segment before
  pub asked_late : (i delay : ℕ) → delay ≤ (label_at g rungs i).p → begin_at g (label_at g rungs 0).p (suc i) delay ≤ asked_along g rungs (suc i)
  asked_late i delay low = let e = asked_next i in let from = came_from i in omega (arith, e, from, low)

module _ (g : Task) (is : IsTask g) (rungs : List ℕ) (fits : AreRungs g (segments_of g.film) rungs) where
  -- no delay lies behind the farthest
  pub delay_near : (i : ℕ) → i < segments_of g.film → (label_at g rungs i).p ≤ farthest_delay
  delay_near i low = let near = (label_reach g is rungs fits i low).delay in let few = is.film.segments.1 in omega (arith, near, low, few)

  -- the downloads follow one another, and the network carries the bits of each
  pub chained : AreChained (segments_of g.film) (λ j. carried_to g (asked_along g rungs j)) (λ j. carried_to g (label_at g rungs j).t) (bits_along g rungs)
  chained = record { carries = carries; follows = follows }
    where
      carries : (j : ℕ) → 1 ≤ j → j < segments_of g.film → carried_to g (asked_along g rungs j) + 1000 * bits_along g rungs j ≤ carried_to g (label_at g rungs j).t
      carries zero some low = absurd (omega (arith, some))
      carries (suc i) some low =
          let size = size_within g.film (suc i) (slice_index rungs (suc i)) is.film low (rung_at g (segments_of g.film) rungs fits (suc i) low) in
          let over = carried_over g.periods is.trace (request_at g (suc i) (label_at g rungs i)) (bits_along g rungs (suc i)) size.0 size.1 in
          let asked = ap (carried_to g) (asked_next g rungs i) in
          let came = ap (carried_to g) (came_next g rungs i) in
          omega (arith, over, asked, came)

      follows : (j : ℕ) → 1 ≤ j → j + 1 < segments_of g.film → carried_to g (label_at g rungs j).t ≤ carried_to g (asked_along g rungs (j + 1))
      follows j some low =
          let same : suc j ≡ j + 1 = omega arith in
          let asked = ap (asked_along g rungs) same in
          let next = asked_next g rungs j in
          carried_rises g.periods (label_at g rungs j).t (asked_along g rungs (j + 1)) (omega (arith, asked, next))
