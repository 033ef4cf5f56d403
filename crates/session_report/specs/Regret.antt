-- How far sessions stay behind the best, and the rows that say so.
use Rattle.std.specs.Prelude.{◌≡◌, ◌^◌, ◌≤◌, List, [], ◌∷◌, length, codes, ℤ, pos, ◌+ℤ◌, ◌-ℤ◌, ◌≤ℤ◌}
use Rattle.std.specs.Int.{int_max}
use Rattle.std.specs.List.{All}
use Rattle.std.specs.Fmt.{signed_decimal}
use Rattle.lab_model.specs.Number.{IsNear}
use Rattle.lab_io.specs.Sink.{Text}
use Rattle.lab_io.specs.Piece.{fields_line}
use Rattle.session_report.specs.declared.regret.Top.{Top}
use Rattle.session_report.specs.declared.regret.Top.TheVariants as top
use Rattle.session_report.specs.declared.regret.Total.{Total}

-- the score of a session, and the best score on the same trace
abbrev pub Scores : Type 0
Scores = ℤ × ℤ

-- how far the score stays behind the best
abbrev pub regret_of : Scores → ℤ
regret_of p = p.1 -ℤ p.0

-- the scores of a list, summed
abbrev pub scores_sum : List Scores → ℤ
scores_sum [] = pos 0
scores_sum (p ∷ ps) = p.0 +ℤ scores_sum ps

-- the best scores of a list, summed
abbrev pub bests_sum : List Scores → ℤ
bests_sum [] = pos 0
bests_sum (p ∷ ps) = p.1 +ℤ bests_sum ps

-- the regrets of a list, summed
abbrev pub regrets_sum : List Scores → ℤ
regrets_sum [] = pos 0
regrets_sum (p ∷ ps) = regret_of p +ℤ regrets_sum ps

-- the greatest regret of a list, 0 where it is empty
abbrev pub worst_of : List Scores → ℤ
worst_of [] = pos 0
worst_of (p ∷ ps) = int_max (regret_of p) (worst_of ps)

-- both scores are within 10^24 of 0, and none is above the best
pub record AreScores (p : Scores) : Type 0 where
  pub score : IsNear (10 ^ 24) p.0
  pub best : IsNear (10 ^ 24) p.1
  pub order : p.0 ≤ℤ p.1

-- the total of a list of pairs
abbrev pub total_of : List Scores → Total
total_of ps = record { score = scores_sum ps; best = bests_sum ps; regret = regrets_sum ps; worst = worst_of ps; count = length ps }

-- a total stands for a list of at most 64 pairs
pub record IsTotalOf (ps : List Scores) (t : Total) : Type 0 where
  pub score : t.score ≡ scores_sum ps
  pub best : t.best ≡ bests_sum ps
  pub regret : t.regret ≡ regrets_sum ps
  pub worst : t.worst ≡ worst_of ps
  pub count : t.count ≡ length ps
  pub few : length ps ≤ 64
  pub near : All AreScores ps

-- the word of what scores are compared with
abbrev pub top_word : Top → Text
top_word top.Best = codes "best"
top_word top.Bound = codes "bound"

-- the row of a rule on one trace, by what its score is compared with
abbrev pub top_line : Top → Text → ℤ → ℤ → Text
top_line by name score top =
    fields_line (codes "rule" ∷ name ∷ codes "score" ∷ signed_decimal score ∷ top_word by ∷ signed_decimal top ∷ codes "regret" ∷ signed_decimal (top -ℤ score) ∷ [])

-- the row of a rule over all traces
abbrev pub sums_line : Top → Text → Total → Text
sums_line by name t =
    fields_line (codes "total" ∷ name ∷ codes "score" ∷ signed_decimal t.score ∷ top_word by ∷ signed_decimal t.best ∷ codes "regret" ∷ signed_decimal t.regret ∷ codes "worst" ∷ signed_decimal t.worst ∷ [])

-- the row of a rule on one trace, beside the best score
abbrev pub regret_line : Text → ℤ → ℤ → Text
regret_line = top_line top.Best

-- the row of a rule over all traces, beside the best scores
abbrev pub total_line : Text → Total → Text
total_line = sums_line top.Best
