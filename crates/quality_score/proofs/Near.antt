-- A session's score is within 10 ^ 24 of 0.
use Rattle.std.proofs.Common.{ℕ, ◌+◌, ◌*◌, ◌^◌, ◌<◌, ◌≤◌, List, [], ◌∷◌, length, Option, None, Some, pos, ◌-ℤ◌, arith}
use Rattle.std.proofs.Math.Nat.{mul-le-mul}
use Rattle.std.proofs.lemmas.Int.{ints}
use Rattle.std.proofs.lemmas.List.Elements.{All-head, All-tail}
use Rattle.std.specs.List.{All}
use Rattle.std.specs.Option.{IfSome}
use Rattle.lab_model.specs.declared.context.Played.{Played}
use Rattle.lab_model.specs.Number.{IsNear}
use Rattle.lab_model.specs.Sums.{changes_of, utilities_of}
use Rattle.lab_model.specs.Weighing.{HasUtility, IsWeighing, Weighing, change_of}
use Rattle.lab_model.proofs.Rows.{utility_limit}
use Rattle.quality_score.specs.Score.{CanScore, score_of}

-- the segment has a row, and the rung is one of its rungs
abbrev HasPlayed : Weighing → Played → Type 0
HasPlayed w p = HasUtility w p.segment p.rung

-- utilities come to at most the greatest for each segment
utilities_low : (w : Weighing) (ps : List Played) → IsWeighing w → All (HasPlayed w) ps → utilities_of w ps ≤ 1000000 * length ps
utilities_low w [] is all = omega arith
utilities_low w (p ∷ ps) is all =
    let here = utility_limit w p.segment p.rung is (All-head (HasPlayed w) p ps all) in
    let rest = utilities_low w ps is (All-tail (HasPlayed w) p ps all) in
    omega (arith, here, rest)

change_low : (w : Weighing) (segment rung : ℕ) (before : Option ℕ) → IsWeighing w → HasUtility w segment rung → IfSome before (λ q. q < w.count) → change_of w segment before rung ≤ 1000000
change_low w segment rung None is has there = omega arith
change_low w segment rung (Some q) is has there =
    let new = utility_limit w segment rung is has in
    let old = utility_limit w segment q is (there, has.1) in
    omega (arith, new, old)

-- so do changes
changes_low : (w : Weighing) (before : Option ℕ) (ps : List Played) → IsWeighing w → All (HasPlayed w) ps → IfSome before (λ q. q < w.count) → changes_of w before ps ≤ 1000000 * length ps
changes_low w before [] is all there = omega arith
changes_low w before (p ∷ ps) is all there =
    let has = All-head (HasPlayed w) p ps all in
    let here = change_low w p.segment p.rung before is has there in
    let rest = changes_low w (Some p.rung) ps is (All-tail (HasPlayed w) p ps all) has.0 in
    omega (arith, here, rest)

near_of : (gain loss : ℕ) → gain ≤ 10 ^ 24 → loss ≤ 10 ^ 24 → IsNear (10 ^ 24) (pos gain -ℤ pos loss)
near_of gain loss high low = record { low = omega (arith, ints, low); high = omega (arith, ints, high) }

-- the score of segments that can be scored, where no time is above 10 ^ 15
pub session_near : (w : Weighing) (ps : List Played) (stall_ms startup_ms : ℕ) → IsWeighing w → CanScore w ps → stall_ms ≤ 1000000000000000 → startup_ms ≤ 1000000000000000
    → IsNear (10 ^ 24) (score_of w ps stall_ms startup_ms)
session_near w ps stall_ms startup_ms is can stall startup =
    let utilities = utilities_low w ps is can.utilities in
    let changes = changes_low w None ps is can.utilities tt in
    let few = can.count in
    let switched = mul-le-mul {n₁ = w.switch} {m₁ = changes_of w None ps} {n₂ = 1000000} {m₂ = 40000000000} is.weights.switch_fits (omega (arith, changes, few)) in
    let stalled = mul-le-mul {n₁ = w.stall} {m₁ = stall_ms} {n₂ = 1000000} {m₂ = 1000000000000000} is.weights.stall_fits stall in
    let started = mul-le-mul {n₁ = w.startup} {m₁ = startup_ms} {n₂ = 1000000} {m₂ = 1000000000000000} is.weights.startup_fits startup in
    near_of (1000 * utilities_of w ps) (w.switch * changes_of w None ps + w.stall * stall_ms + w.startup * startup_ms) (omega (arith, utilities, few)) (omega (arith, switched, stalled, started))
