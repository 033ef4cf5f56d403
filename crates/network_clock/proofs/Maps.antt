-- A trace with other bandwidths has the same cycle, and at each instant the same period with another bandwidth.
use Rattle.std.proofs.Common.{◌≡◌, ℕ, ◌-◌, ◌%◌, ◌<◌, ◌≤◌, List, [], ◌∷◌, map, refl, sym, ◌∙◌, ap, ⊎_elim, arith}
use Rattle.std.proofs.lemmas.Bool.{cases_lt}
use Rattle.std.proofs.lemmas.List.Sums.{sum_by-cons}
use Rattle.std.proofs.lemmas.Nat.{mod_below}
use Rattle.lab_model.specs.declared.trace.Period.{Period}
use Rattle.lab_model.specs.Cycle.{cycle_ms}
use Rattle.network_clock.specs.Flow.{IsPaced}
use Rattle.network_clock.specs.Network.{period_at, period_in}
use Rattle.network_clock.proofs.Periods.{cycle_positive, period_here, period_later}

module _ (f : Period → Period) (same : (p : Period) → (f p).duration_ms ≡ p.duration_ms) where
  -- the cycle is as long
  pub map_ms : (ps : List Period) → cycle_ms (map f ps) ≡ cycle_ms ps
  map_ms [] = refl
  map_ms (p ∷ ps) =
      let first = same p in
      let rest = map_ms ps in
      let ms = sum_by-cons (λ (q : Period). q.duration_ms) p ps in
      let ms_there = sum_by-cons (λ (q : Period). q.duration_ms) (f p) (map f ps) in
      omega (arith, first, rest, ms, ms_there)

  map_period_in : (ps : List Period) (t : ℕ) → t < cycle_ms ps → period_in (map f ps) t ≡ f (period_in ps t)
  map_period_in [] t h = absurd (omega arith)
  map_period_in (p ∷ ps) t h =
      let first = same p in
      let ms = sum_by-cons (λ (q : Period). q.duration_ms) p ps in
      ⊎_elim (λ (here : t < p.duration_ms). period_here (f p) (map f ps) t (omega (arith, here, first)) ∙ ap f (sym (period_here p ps t here)))
      (λ (later : p.duration_ms ≤ t).
      period_later (f p) (map f ps) t (omega (arith, later, first)) ∙ ap (λ d. period_in (map f ps) (t - d)) first
      ∙ map_period_in ps (t - p.duration_ms) (omega (arith, h, ms)) ∙ ap f (sym (period_later p ps t later)))
      (cases_lt t p.duration_ms)

  -- at each instant stands the period with the other bandwidth
  pub map_period_at : (ps : List Period) → IsPaced ps → (t : ℕ) → period_at (map f ps) t ≡ f (period_at ps t)
  unfolding period_at
  map_period_at ps h t = ap (λ n. period_in (map f ps) (t % n)) (map_ms ps) ∙ map_period_in ps (t % cycle_ms ps) (mod_below t (cycle_ms ps) (cycle_positive ps h))
