-- A download takes all its bits from the network between its request and its end.
use Rattle.std.proofs.Common.{◌≡◌, ℕ, ◌+◌, ◌-◌, ◌*◌, ◌<◌, ◌≤◌, ⊎_elim, List, sym, arith}
use Rattle.std.proofs.lemmas.Bool.{cases_lt}
use Rattle.lab_model.specs.declared.trace.Period.{Period}
use Rattle.lab_model.specs.Cycle.{IsTrace}
use Rattle.network_clock.specs.Flow.{Opens, carried_in, flow, sum_below}
use Rattle.network_clock.specs.Network.{done_at, period_at, start_job}
use Rattle.network_clock.proofs.Downloads.{done_found, done_from}
use Rattle.network_clock.proofs.Flows.{trace_flows}
use Rattle.network_clock.proofs.Openings.{left_from, left_until}
use Rattle.network_clock.proofs.Order.{opening}
use Rattle.network_clock.proofs.Sums.{sum_below_at_most, sum_below_grows}

module _ (ps : List Period) where
  -- what is carried before a later instant is no less
  pub carried_rises : (s t : ℕ) → s ≤ t → flow carried_in ps s ≤ flow carried_in ps t
  carried_rises s t later = sum_below_grows (λ i. carried_in (period_at ps i)) s t later

  -- between a download's request and its end the network carries all its bits
  pub carried_over : IsTrace ps → (start bits : ℕ) → 1 ≤ bits → bits ≤ 200000000
      → flow carried_in ps start + 1000 * bits ≤ flow carried_in ps (done_at ps start bits)
  carried_over trace start bits some few =
      let done = done_at ps start bits in
      let from = done_from (period_at ps) start bits in
      let none = (done_found (period_at ps) (trace_flows ps trace) (omega arith) start bits few).1 in
      let opens = opening ps trace start in
      let first = opens.0 in
      let later = opens.1.from_on in
      let before = carried_rises start first later in
      ⊎_elim
      (λ (early : done < first). let kept = left_until ps start first done (start_job bits) opens.1 from (omega (arith, early)) in absurd (omega (arith, kept, none, some)))
      (λ (there : first ≤ done). let left = left_from ps start first done (start_job bits) opens.1 there in omega (arith, left, none, before)) (cases_lt done first)
