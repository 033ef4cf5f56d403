-- What `compare --regret` answers: on each network how far the session of each rule stays behind the best rung list, or behind a bound that
-- none passes, and then the totals of each rule.
use Rattle.std.specs.Prelude.{◌≡◌, ◌≤◌, ℕ, ◌+◌, ℤ, pos, false, List, [], ◌∷◌, ◌++◌, length, map, slice_index_or, Option, Some, None, option_map, Result, Ok, Err, codes}
use Rattle.std.specs.List.{All, flat_map}
use Rattle.std.specs.Option.{option_or}
use Rattle.lab_io.specs.Piece.{fields_line}
use Rattle.lab_io.specs.Sink.{Text}
use Rattle.lab_model.specs.declared.trace.Period.{Period}
use Rattle.lab_model.specs.Rules.{RuleKind}
use Rattle.lab_model.specs.Steps.{◌>>=◌}
use Rattle.lab_inputs.specs.Inputs.{InputValues}
use Rattle.lab_inputs.specs.Settings.{Fits, settled}
use Rattle.player_core.specs.State.{Case, case_of}
use Rattle.player_core.specs.Session.{session_of}
use Rattle.session_report.specs.Regret.{AreScores, Scores, sums_line, top_line, total_of}
use Rattle.session_report.specs.declared.regret.Top.{Top}
use Rattle.session_report.specs.declared.regret.Top.TheVariants as top
use Rattle.session_report.specs.Session.{session_score}
use Rattle.abrlab_top.specs.declared.ending.Ending.{Ending}
use Rattle.abrlab_top.specs.declared.ending.Ending.TheVariants as ending
use Rattle.abrlab_top.specs.declared.regret.Scored.{Scored}
use Rattle.abrlab_top.specs.Ahead.{ahead_of}
use Rattle.abrlab_top.specs.Answer.{Outcome, printed, unless_stopped}
use Rattle.abrlab_top.specs.Choice.{IsBound}
use Rattle.abrlab_top.specs.Plan.{certificate_on, spent_on, task_on}

-- ---- scores

-- the case of a rule on a network, with an empty history; such command lines have no seeks
abbrev pub regret_case : InputValues → List Period → RuleKind → Case
regret_case i periods rule = case_of i.film periods i.setup [] (ahead_of i.live) rule

-- the score of its session
abbrev pub score_on : InputValues → List Period → RuleKind → ℤ
score_on i periods rule = session_score (session_of (regret_case i periods rule)) i.setup.weights

-- the score of the best rung list on the network
abbrev pub best_on : InputValues → List Period → ℤ
best_on i periods = (certificate_on None (task_on i periods)).score

-- the best scores on the networks, in order
abbrev pub bests_on : InputValues → List ℤ
bests_on i = map (λ n. best_on i n.1) i.networks

-- the scores of a rule on these networks, each beside its top, what it is compared with
abbrev pub scores_over : InputValues → List (Text × List Period) → List ℤ → RuleKind → List Scores
scores_over i [] tops rule = []
scores_over i (network ∷ networks) [] rule = []
scores_over i (network ∷ networks) (top ∷ tops) rule = (score_on i network.1 rule, top) ∷ scores_over i networks tops rule

-- ---- the text

-- the row of a rule on a network
abbrev pub ranked_row : Top → InputValues → List Period → ℤ → Text × RuleKind → Text
ranked_row by i periods top rule = top_line by rule.0 (score_on i periods rule.1) top

-- the line of a network and its rows, by the rules in order
abbrev pub network_rows : Top → InputValues → Text × List Period → ℤ → Text
network_rows by i network top = fields_line (codes "trace" ∷ network.0 ∷ []) ++ flat_map (ranked_row by i network.1 top) i.rules

-- these networks, each with its rows
abbrev pub networks_rows : Top → InputValues → List (Text × List Period) → List ℤ → Text
networks_rows by i [] tops = []
networks_rows by i (network ∷ networks) [] = []
networks_rows by i (network ∷ networks) (top ∷ tops) = network_rows by i network top ++ networks_rows by i networks tops

-- the row of a rule over all networks
abbrev pub sums_row : Top → InputValues → List ℤ → Text × RuleKind → Text
sums_row by i tops rule = sums_line by rule.0 (total_of (scores_over i i.networks tops rule.1))

-- each network with its rows, and then the totals
abbrev pub ranked_text : Top → InputValues → List ℤ → Text
ranked_text by i tops = networks_rows by i i.networks tops ++ flat_map (sums_row by i tops) i.rules

-- the same beside the best scores
abbrev pub regret_text : InputValues → Text
regret_text i = ranked_text top.Best i (bests_on i)

-- ---- the budget

-- where the frontiers on a network of this place spend the budget: the place and the segment. Without a budget none is spent
abbrev pub spent_there : InputValues → Option ℕ → ℕ → List Period → Option (ℕ × ℕ)
spent_there i (Some budget) place periods = option_map (λ segment. (place, segment)) (spent_on None (task_on i periods) budget)
spent_there i None place periods = None

-- the first of these networks whose frontiers spend the budget, the first network having this place
abbrev pub first_spent : InputValues → Option ℕ → ℕ → List (Text × List Period) → Option (ℕ × ℕ)
first_spent i budget place [] = None
first_spent i budget place (network ∷ later) = option_or (spent_there i budget place network.1) (first_spent i budget (place + 1) later)

-- the text, unless the frontiers on a network spend the budget
abbrev pub unless_any_spent : InputValues → Option (ℕ × ℕ) → Outcome
unless_any_spent i None = Ok (printed (regret_text i))
unless_any_spent i (Some spent) = Err (ending.Spent (Some spent.0) spent.1)

-- what `compare --regret` answers, by its budget and its inputs
unfoldable pub regret : ℕ → InputValues → Outcome
regret budget i = do
  ready ← unless_stopped (settled i)
  unless_any_spent ready (first_spent ready (Some budget) 1 ready.networks)

-- what `compare --regret --near` answers, by the bounds that were chosen and its inputs
unfoldable pub near_regret : List ℤ → InputValues → Outcome
near_regret bounds i = do
  ready ← unless_stopped (settled i)
  Ok (printed (ranked_text top.Bound ready bounds))

-- ---- what the stages give

-- rules can be ranked by these inputs: the settings fit, and no download is given up
pub record CanRank (i : InputValues) : Type 0 where
  pub fits : Fits i
  pub calm : i.setup.abandon ≡ false

-- what rules are ranked by: the inputs, and the most labels of each plan; without a budget, beside bounds
pub record RankingValue : Type 0 where
  pub inputs : InputValues
  pub budget : Option ℕ

-- what scores are compared with under a budget, or without one
abbrev pub top_under : Option ℕ → Top
top_under (Some budget) = top.Best
top_under None = top.Bound

-- the top of a network under a budget is the best score there; without one it is a bound
abbrev pub IsTop : InputValues → Option ℕ → List Period → ℤ → Type 0
IsTop i (Some budget) periods top = top ≡ best_on i periods
IsTop i None periods top = IsBound (task_on i periods) top

-- a top for each of these networks, in order
abbrev pub AreTops : InputValues → Option ℕ → List (Text × List Period) → List ℤ → Type 0
AreTops i budget [] [] = Unit {0}
AreTops i budget [] (top ∷ tops) = ⊥
AreTops i budget (network ∷ networks) [] = ⊥
AreTops i budget (network ∷ networks) (top ∷ tops) = IsTop i budget network.1 top × AreTops i budget networks tops

-- the score of each rule on a network, in order
abbrev pub scored_on : InputValues → Text × List Period → List ℤ
scored_on i network = map (λ rule. score_on i network.1 rule.1) i.rules

-- the scores that were played, without where they lie in memory
abbrev pub seen_scored : Scored → List ℤ
seen_scored s = s.scores.items

-- the tops of a table
abbrev pub tops_of : List Scored → List ℤ
tops_of table = map (λ s. s.top) table

-- no score is above the top, and all are near enough to 0 to be summed
abbrev pub AreRanked : Scored → Type 0
AreRanked s = All (λ score. AreScores (score, s.top)) s.scores.items

-- what was played on each network, of which there are at most 64
pub record AreScored (i : InputValues) (table : List Scored) : Type 0 where
  pub values : map seen_scored table ≡ map (scored_on i) i.networks
  pub ranked : All AreRanked table
  pub few : length table ≤ 64

-- the same beside the tops of the networks
pub record AreCompared (i : InputValues) (budget : Option ℕ) (table : List Scored) : Type 0 where
  pub scored : AreScored i table
  pub tops : AreTops i budget i.networks (tops_of table)

-- the scores of the rule at an index
abbrev pub scores_at : ℕ → Scored → Scores
scores_at rule s = (slice_index_or s.scores.items rule (pos 0), s.top)

-- the rows of rules with these scores, in order
abbrev pub rows_of : Top → List (Text × RuleKind) → List ℤ → ℤ → Text
rows_of by [] scores top = []
rows_of by (rule ∷ rules) [] top = []
rows_of by (rule ∷ rules) (score ∷ scores) top = top_line by rule.0 score top ++ rows_of by rules scores top

-- how planning ended that gave no plan, where this is spent
abbrev pub SpentBy : Option (ℕ × ℕ) → Ending → Type 0
SpentBy spent ending.Done = ⊥
SpentBy spent ending.Invalid = ⊥
SpentBy spent ending.Usage = ⊥
SpentBy spent (ending.Stopped why) = ⊥
SpentBy spent (ending.Spent None segment) = ⊥
SpentBy spent (ending.Spent (Some place) segment) = spent ≡ Some (place, segment)
SpentBy spent ending.OutputFailed = ⊥
SpentBy spent ending.NoMemory = Unit {0}

-- planning gave a value of which this holds, and nothing is spent; or it did not, and says so
abbrev pub Unspent : {A : Type 0} → Option (ℕ × ℕ) → (A → Type 0) → Result A Ending → Type 0
Unspent spent Holds (Ok x) = (spent ≡ None) × Holds x
Unspent spent Holds (Err e) = SpentBy spent e
