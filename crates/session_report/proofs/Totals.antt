-- A total is that of the list that it stands for, and no regret in it is below 0.
use Rattle.std.proofs.Common.{◌≡◌, ℕ, List, [], ◌∷◌, arith, pos}
use Rattle.std.specs.Prelude.{ℤ, ◌≤ℤ◌}
use Rattle.std.specs.List.{All}
use Rattle.std.proofs.lemmas.Int.{ints, clamps}
use Rattle.std.proofs.lemmas.List.Elements.{All-head, All-tail}
use Rattle.session_report.specs.declared.regret.Total.{Total}
use Rattle.session_report.specs.Regret.{AreScores, Scores, IsTotalOf, regrets_sum, total_of, worst_of}

-- the total of these fields
abbrev total_with : ℤ → ℤ → ℤ → ℤ → ℕ → Total
total_with score best regret worst count = record { score = score; best = best; regret = regret; worst = worst; count = count }

same_total : (a b c d e f g h : ℤ) (m n : ℕ) → a ≡ e → b ≡ f → c ≡ g → d ≡ h → m ≡ n → total_with a b c d m ≡ total_with e f g h n
same_total a b c d e f g h m n p q r s t = cc

-- what stands for a list is the list's total
pub stands_is : (ps : List Scores) (t : Total) → IsTotalOf ps t → t ≡ total_of ps
stands_is ps t s = same_total t.score t.best t.regret t.worst _ _ _ _ t.count _ s.score s.best s.regret s.worst s.count

-- regrets of pairs in order come to at least 0
pub regrets_low : (ps : List Scores) → All AreScores ps → pos 0 ≤ℤ regrets_sum ps
regrets_low [] all = omega (arith, ints)
regrets_low (p ∷ ps) all =
    let rest = regrets_low ps (All-tail AreScores p ps all) in
    let here = (All-head AreScores p ps all).order in
    omega (arith, ints, rest, here)

-- and the worst is at least 0
pub worst_low : (ps : List Scores) → pos 0 ≤ℤ worst_of ps
worst_low [] = omega (arith, ints)
worst_low (p ∷ ps) = let rest = worst_low ps in omega (arith, ints, clamps, rest)
