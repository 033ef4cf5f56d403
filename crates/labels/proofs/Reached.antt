-- How far labels lie that a rung list reaches, or that grow on a grid: within the ranges of the label calls.
use Rattle.std.proofs.Common.{◌≡◌, ℕ, zero, suc, ◌+◌, ◌*◌, ◌<◌, ◌≤◌, ⊎_elim, List, sym, subst, arith, mul-le-mul}
use Rattle.std.specs.Prelude.{ℤ, pos, ◌+ℤ◌, ◌-ℤ◌, ◌≤ℤ◌, Some, slice_index}
use Rattle.std.specs.List.{Contains}
use Rattle.std.proofs.lemmas.Int.{ints}
use Rattle.lab_model.specs.Number.{IsNear}
use Rattle.lab_model.specs.declared.label.Label.{Label}
use Rattle.lab_model.specs.Film.{rungs_of, segments_of, size_of}
use Rattle.lab_model.specs.Weighing.{HasUtility, change_of, utility_of}
use Rattle.lab_model.proofs.Rows.{utility_limit}
use Rattle.network_clock.specs.Network.{period_at}
use Rattle.network_clock.proofs.Downloads.{done_found}
use Rattle.network_clock.proofs.Flows.{trace_flows}
use Rattle.player_core.proofs.Runs.{size_within}
use Rattle.labels.specs.Labels.{AreRungs, came_at, label_at, next_label, request_at, start_label, there_at}
use Rattle.player_core.specs.Scene.{IsTask, Task}
use Rattle.labels.specs.Near.{CanFollow}
use Rattle.labels.specs.Grid.{IsGrid, Rounding, multiple_above, rounded}
use Rattle.labels.specs.Grown.{grown}
use Rattle.labels.proofs.Covered.{rung_at}
use Rattle.labels.proofs.Grown.{from_first, from_next}
use Rattle.labels.proofs.Path.{label_first, label_next}
use Rattle.labels.proofs.Rounds.{above_high, below_low}
use Rattle.labels.proofs.Walks.{from_by_rung}

-- a label of a segment lies no farther than this
pub record IsInReach (segment : ℕ) (l : Label) : Type 0 where
  pub time : l.t ≤ (segment + 1) * 500000000
  pub delay : l.p ≤ (segment + 1) * 500000000
  pub value : IsNear ((segment + 1) * 3000000000000 + 600000000000000) l.v

-- the same, with room for a step of a grid
pub record IsWellInReach (segment : ℕ) (l : Label) : Type 0 where
  pub time : l.t ≤ (segment + 1) * 500000000
  pub delay : l.p ≤ (segment + 1) * 500000000
  pub value : IsNear ((segment + 1) * 3000000000000 + 599999999000000) l.v

-- a label within the limits, with room for a step, is within the limits
pub well_in_reach : (segment : ℕ) (l : Label) → IsWellInReach segment l → IsInReach segment l
well_in_reach segment l h = let low = h.value.low in let high = h.value.high in record { time = h.time; delay = h.delay; value = record { low = omega (arith, ints, low); high = omega (arith, ints, high) } }

-- ---- numbers

near_start : (gain loss : ℕ) → gain ≤ 400000000000000 → loss ≤ 400000000000000 → IsNear ((0 + 1) * 3000000000000 + 599999999000000) (pos gain -ℤ pos loss)
near_start gain loss up down = record { low = omega (arith, ints, up, down); high = omega (arith, ints, up, down) }

near_next : (i : ℕ) (v : ℤ) (gain loss : ℕ) → gain ≤ 1000000000 → loss ≤ 1000000000000 → IsNear ((i + 1) * 3000000000000 + 600000000000000) v
    → IsNear ((suc i + 1) * 3000000000000 + 599999999000000) ((v +ℤ pos gain) -ℤ pos loss)
near_next i v gain loss up down h =
    let low = h.low in let high = h.high in record { low = omega (arith, ints, low, up, down); high = omega (arith, ints, high, up, down) }

near_round : (most : ℕ) (v w : ℤ) (step : ℕ) → step ≤ 1000000 → v ≤ℤ w → w ≤ℤ (v +ℤ pos step) → IsNear (most + 599999999000000) v → IsNear (most + 600000000000000) w
near_round most v w step few up near h =
    let low = h.low in let high = h.high in record { low = omega (arith, ints, low, up); high = omega (arith, ints, high, near, few) }

start_gain : (u stall t : ℕ) → u ≤ 1000000 → stall ≤ 1000000 → t ≤ 300070000 → 1000 * u + stall * t ≤ 400000000000000
start_gain u stall t low few soon = let most = mul-le-mul few soon in omega (arith, low, most)

start_loss : (startup t : ℕ) → startup ≤ 1000000 → t ≤ 300070000 → startup * t ≤ 400000000000000
start_loss startup t few soon = let most = mul-le-mul few soon in omega (arith, most)

next_loss : (switch change : ℕ) → switch ≤ 1000000 → change ≤ 1000000 → switch * change ≤ 1000000000000
next_loss switch change few low = let most = mul-le-mul few low in omega (arith, most)

-- ---- one label

has_utility : (g : Task) → IsTask g → (i q : ℕ) → i < segments_of g.film → q < rungs_of g.film → HasUtility g.setup.weights i q
has_utility g is i q low rung =
    let fits = is.setup.utilities in
    let count = fits.rungs in
    (omega (arith, count, rung), λ some. ⊎_elim (λ (none : g.setup.weights.rows ≡ 0). absurd (omega (arith, some, none))) (λ (all : g.setup.weights.rows ≡ segments_of g.film). omega (arith, all, low)) fits.rows)

utility_low : (g : Task) → IsTask g → (i q : ℕ) → i < segments_of g.film → q < rungs_of g.film → utility_of g.setup.weights i q ≤ 1000000
utility_low g is i q low rung = utility_limit g.setup.weights i q is.weights (has_utility g is i q low rung)

change_low : (g : Task) → IsTask g → (i q r : ℕ) → i < segments_of g.film → q < rungs_of g.film → r < rungs_of g.film → change_of g.setup.weights i (Some q) r ≤ 1000000
change_low g is i q r low before rung = let one = utility_low g is i q low before in let two = utility_low g is i r low rung in omega (arith, one, two)

came_soon : (g : Task) → IsTask g → (start i r : ℕ) → i < segments_of g.film → r < rungs_of g.film → came_at g start i r ≤ start + 300010000
came_soon g is start i r low rung = (done_found (period_at g.periods) (trace_flows g.periods is.trace) (omega arith) start (size_of g.film i r) (size_within g.film i r is.film low rung).1).0

-- the start label of a rung lies within the limits, with room for a step
pub start_reach : (g : Task) → IsTask g → (q : ℕ) → q < rungs_of g.film → IsWellInReach 0 (start_label g q)
start_reach g is q rung =
    let w = g.setup.weights in
    let some = is.film.segments.0 in
    let seg = is.film.seg_ms.1 in
    let t = came_at g (there_at g 0) 0 q in
    let came = came_soon g is (there_at g 0) 0 q (omega (arith, some)) rung in
    let soon : t ≤ 300070000 = omega (arith, came, seg) in
    record {
      time = omega (arith, soon);
      delay = omega (arith, soon);
      value = near_start (1000 * utility_of w 0 q + w.stall * t) (w.startup * t) (start_gain (utility_of w 0 q) w.stall t (utility_low g is 0 q (omega (arith, some)) rung) is.weights.weights.stall_fits soon) (start_loss w.startup t is.weights.weights.startup_fits soon);
    }

-- the request after a label comes soon
pub request_soon : (g : Task) → IsTask g → (i : ℕ) → suc i < segments_of g.film → (l : Label) → IsInReach i l → request_at g (suc i) l ≤ (i + 1) * 500000000 + 120000000
request_soon g is i low l h =
    let time = h.time in
    let delay = h.delay in
    let most = mul-le-mul {n₁ = suc i + 1} {m₁ = g.film.seg_ms} {n₂ = 2000} {m₂ = 60000} (let n = is.film.segments.1 in omega (arith, n, low)) is.film.seg_ms.1 in
    omega (arith, time, delay, most)

-- the successor of a label within the limits lies within those of the next segment, with room for a step
pub next_reach : (g : Task) → IsTask g → (i q r : ℕ) → suc i < segments_of g.film → q < rungs_of g.film → r < rungs_of g.film → (l : Label) → IsInReach i l → IsWellInReach (suc i) (next_label g (suc i) q l r)
next_reach g is i q r low before rung l h =
    let w = g.setup.weights in
    let soon = request_soon g is i low l h in
    let came = came_soon g is (request_at g (suc i) l) (suc i) r low rung in
    let delay = h.delay in
    record {
      time = omega (arith, soon, came);
      delay = omega (arith, soon, came, delay);
      value = near_next i l.v (1000 * utility_of w (suc i) r) (w.switch * change_of w (suc i) (Some q) r) (let u = utility_low g is (suc i) r low rung in omega (arith, u))
          (next_loss w.switch (change_of w (suc i) (Some q) r) is.weights.weights.switch_fits (change_low g is (suc i) q r low before rung)) h.value;
    }

-- a label with room for a step lies within the limits when it is rounded
pub round_reach : (d : Rounding) → IsGrid d → (i : ℕ) (l : Label) → IsWellInReach i l → IsInReach i (rounded d l)
round_reach d is i l h =
    let time = h.time in
    let delay = h.delay in
    let t = below_low d.time l.t is.time.0 in
    let p = below_low d.time l.p is.time.0 in
    let v = above_high d.value l.v is.value.0 in
    record { time = omega (arith, time, t); delay = omega (arith, delay, p); value = near_round ((i + 1) * 3000000000000) l.v (multiple_above d.value l.v) d.value is.value.1 v.0 v.1 h.value }

-- ---- whole lists, and what grows

-- the labels along a rung list
pub label_reach : (g : Task) → IsTask g → (rungs : List ℕ) → AreRungs g (segments_of g.film) rungs → (i : ℕ) → i < segments_of g.film → IsInReach i (label_at g rungs i)
label_reach g is rungs h zero low =
    let start = start_label g (slice_index rungs 0) in
    subst (IsInReach 0) (sym (label_first g rungs)) (well_in_reach 0 start (start_reach g is (slice_index rungs 0) (rung_at g (segments_of g.film) rungs h 0 low)))
label_reach g is rungs h (suc i) low =
    let q = slice_index rungs i in
    let r = slice_index rungs (suc i) in
    let before = label_reach g is rungs h i (omega arith) in
    subst (IsInReach (suc i)) (sym (label_next g rungs i)) (well_in_reach (suc i) (next_label g (suc i) q (label_at g rungs i) r) (next_reach g is i q r low (rung_at g (segments_of g.film) rungs h i (omega arith)) (rung_at g (segments_of g.film) rungs h (suc i) low) (label_at g rungs i) before))

-- the labels that grow on a grid
pub grown_reach : (d : Rounding) → IsGrid d → (g : Task) → IsTask g → (i q : ℕ) → i < segments_of g.film → q < rungs_of g.film → (l : Label) → Contains (grown d g i q) l → IsInReach i l
grown_reach d grid g is zero q low rung l h = subst (IsInReach 0) (from_first d g q l h) (round_reach d grid 0 (start_label g q) (start_reach g is q rung))
grown_reach d grid g is (suc i) r low rung l h =
    let from = from_next d g i r l h in
    let there = from_by_rung (rungs_of g.film) (grown d g i) from.0 from.1 in
    let before = grown_reach d grid g is i from.0.0 (omega arith) there.0 from.0.1 there.1 in
    subst (IsInReach (suc i)) from.2 (round_reach d grid (suc i) (next_label g (suc i) from.0.0 from.0.1 r) (next_reach g is i from.0.0 r low there.0 rung from.0.1 before))

-- what is in reach may be followed
pub reach_follows : (i : ℕ) (l : Label) → i < 2000 → IsInReach i l → CanFollow l
reach_follows i l low h =
    let time = h.time in
    let delay = h.delay in
    let least = h.value.low in
    let most = h.value.high in
    record { time = omega (arith, time, low); delay = omega (arith, delay, low); value = record { low = omega (arith, ints, least, low); high = omega (arith, ints, most, low) } }

-- a label along a rung list may be followed
pub list_follows : (g : Task) → IsTask g → (rungs : List ℕ) → AreRungs g (segments_of g.film) rungs → (i : ℕ) → i < segments_of g.film → CanFollow (label_at g rungs i)
list_follows g is rungs fits i low = let few = is.film.segments.1 in reach_follows i (label_at g rungs i) (omega (arith, few, low)) (label_reach g is rungs fits i low)
