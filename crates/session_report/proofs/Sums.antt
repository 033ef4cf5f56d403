-- The sums of a list of pairs of scores: they are small, and one more pair adds to each.
use Rattle.std.proofs.Common.{◌≡◌, ℕ, ◌+◌, ◌*◌, ◌^◌, ◌<◌, List, [], ◌∷◌, ◌++◌, length, arith, pos, ap, ◌∙◌, sym, length-append}
use Rattle.std.specs.Prelude.{ℤ, ◌+ℤ◌, ◌-ℤ◌, ◌≤ℤ◌}
use Rattle.std.specs.List.{All}
use Rattle.std.specs.Int.{int_max}
use Rattle.std.proofs.lemmas.Int.{ints, clamps}
use Rattle.std.proofs.lemmas.List.Elements.{All-head, All-push, All-tail}
use Rattle.session_report.specs.declared.regret.Total.{Total}
use Rattle.session_report.specs.Regret.{AreScores, Scores, bests_sum, regret_of, regrets_sum, scores_sum, IsTotalOf, worst_of}

-- a number within n of 0
pub record IsWithinOf (n : ℕ) (z : ℤ) : Type 0 where
  pub low : (pos 0 -ℤ pos n) ≤ℤ z
  pub high : z ≤ℤ pos n

-- the sum of the scores is within 10 ^ 24 of 0 for each pair
pub scores_within : (ps : List Scores) → All AreScores ps → IsWithinOf (10 ^ 24 * length ps) (scores_sum ps)
scores_within [] h = record { low = omega (arith, ints); high = omega (arith, ints) }
scores_within (p ∷ ps) h =
    let first : AreScores p = All-head AreScores p ps h in
    let rest = scores_within ps (All-tail AreScores p ps h) in
    record { low = omega (arith, ints); high = omega (arith, ints) }

-- and so is the sum of the best scores
pub bests_within : (ps : List Scores) → All AreScores ps → IsWithinOf (10 ^ 24 * length ps) (bests_sum ps)
bests_within [] h = record { low = omega (arith, ints); high = omega (arith, ints) }
bests_within (p ∷ ps) h =
    let first : AreScores p = All-head AreScores p ps h in
    let rest = bests_within ps (All-tail AreScores p ps h) in
    record { low = omega (arith, ints); high = omega (arith, ints) }

-- the sum of the regrets is within twice as much
pub regrets_within : (ps : List Scores) → All AreScores ps → IsWithinOf (2 * 10 ^ 24 * length ps) (regrets_sum ps)
regrets_within [] h = record { low = omega (arith, ints); high = omega (arith, ints) }
regrets_within (p ∷ ps) h =
    let first : AreScores p = All-head AreScores p ps h in
    let rest = regrets_within ps (All-tail AreScores p ps h) in
    record { low = omega (arith, ints); high = omega (arith, ints) }

-- the worst regret is within 2 * 10 ^ 24 of 0
pub worst_within : (ps : List Scores) → All AreScores ps → IsWithinOf (2 * 10 ^ 24) (worst_of ps)
worst_within [] h = record { low = omega (arith, ints); high = omega (arith, ints) }
worst_within (p ∷ ps) h =
    let first : AreScores p = All-head AreScores p ps h in
    let rest = worst_within ps (All-tail AreScores p ps h) in
    record { low = omega (arith, ints, clamps); high = omega (arith, ints, clamps) }

-- one more pair adds its score
pub scores_more : (ps : List Scores) (p : Scores) → scores_sum (ps ++ p ∷ []) ≡ scores_sum ps +ℤ p.0
scores_more [] p = omega (arith, ints)
scores_more (q ∷ ps) p = let rest = scores_more ps p in omega (arith, ints)

-- one more pair adds its best score
pub bests_more : (ps : List Scores) (p : Scores) → bests_sum (ps ++ p ∷ []) ≡ bests_sum ps +ℤ p.1
bests_more [] p = omega (arith, ints)
bests_more (q ∷ ps) p = let rest = bests_more ps p in omega (arith, ints)

-- one more pair adds its regret
pub regrets_more : (ps : List Scores) (p : Scores) → regrets_sum (ps ++ p ∷ []) ≡ regrets_sum ps +ℤ regret_of p
regrets_more [] p = omega (arith, ints)
regrets_more (q ∷ ps) p = let rest = regrets_more ps p in omega (arith, ints)

-- with one more pair the worst regret is the greater of the two
pub worst_more : (ps : List Scores) (p : Scores) → worst_of (ps ++ p ∷ []) ≡ int_max (worst_of ps) (regret_of p)
worst_more [] p = omega (arith, ints, clamps)
worst_more (q ∷ ps) p = let rest = worst_more ps p in omega (arith, ints, clamps)

-- the total after one more pair
pub stands_more : (ps : List Scores) (score best : ℤ) (t u : Total) → AreScores (score, best) → t.count < 64 → IsTotalOf ps t
    → u.score ≡ t.score +ℤ score → u.best ≡ t.best +ℤ best → u.regret ≡ t.regret +ℤ (best -ℤ score) → u.worst ≡ int_max t.worst (best -ℤ score) → u.count ≡ t.count + 1
    → IsTotalOf (ps ++ (score, best) ∷ []) u
stands_more ps score best t u pair room stands e f g h k =
    let counted : length (ps ++ (score, best) ∷ []) ≡ length ps + 1 = length-append ps ((score, best) ∷ []) in
    record {
      score = e ∙ ap (λ z. z +ℤ score) stands.score ∙ sym (scores_more ps (score, best));
      best = f ∙ ap (λ z. z +ℤ best) stands.best ∙ sym (bests_more ps (score, best));
      regret = g ∙ ap (λ z. z +ℤ (best -ℤ score)) stands.regret ∙ sym (regrets_more ps (score, best));
      worst = h ∙ ap (λ z. int_max z (best -ℤ score)) stands.worst ∙ sym (worst_more ps (score, best));
      count = omega arith;
      few = omega arith;
      near = All-push AreScores ps (score, best) stands.near pair;
    }
