-- The limits that what a command line asks for keeps.
use Rattle.std.specs.Prelude.{◌≡◌, ◌≤◌, ◌⊎◌, ℕ, Bool, true, false, IfSome, IsSome, List, [], Option, Some, None, length}
use Rattle.std.specs.List.{All}
use Rattle.lab_model.specs.Film.{IsWithin}
use Rattle.lab_model.specs.Limits.{all_ahead, most_budget, most_buffer}
use Rattle.lab_model.specs.Rules.{RuleKind, fixed, listed, throughput, bola, mpc}
use Rattle.lab_model.specs.Row.{AreWeights}
use Rattle.lab_model.specs.Weighing.{IsWeighing, weighing}
use Rattle.lab_words.specs.Check.{check_agrees}
use Rattle.lab_words.specs.Command.{CommandWords}
use Rattle.lab_words.specs.Compare.{compare_agrees}
use Rattle.lab_words.specs.Plan.{plan_agrees}
use Rattle.lab_words.specs.Simulate.{simulate_agrees}
use Rattle.lab_words.specs.Spelling.{Text}
use Rattle.lab_words.specs.declared.Verb.{Verb}
use Rattle.lab_words.specs.declared.Verb.TheVariants.{Simulate, Compare, Plan, Check, Demo}

-- the numbers of a rule within their limits
abbrev pub IsRuleWithin : RuleKind → Type 0
IsRuleWithin (fixed rung) = IsWithin 0 15 rung
IsRuleWithin (listed rungs) = IsWithin 1 2000 (length rungs) × All (IsWithin 0 15) rungs
IsRuleWithin (throughput windows) = IsWithin 1 4 (length windows) × All (IsWithin 1 100) windows
IsRuleWithin (bola g) = IsWithin 1 1000000 g
IsRuleWithin (mpc horizon) = IsWithin 1 5 horizon

-- how many traces and rules each command names
abbrev pub AreCounted : Verb → ℕ → ℕ → Type 0
AreCounted Simulate traces rules = (traces ≡ 1) × IsWithin 1 8 rules
AreCounted Compare traces rules = IsWithin 1 64 traces × IsWithin 1 32 rules
AreCounted Plan traces rules = (traces ≡ 1) × (rules ≡ 0)
AreCounted Check traces rules = (traces ≡ 1) × (rules ≡ 0)
AreCounted Demo traces rules = (traces ≡ 0) × (rules ≡ 0)

-- the command is about a film of the files
abbrev pub HasFilm : Verb → Type 0
HasFilm Simulate = Unit {0}
HasFilm Compare = Unit {0}
HasFilm Plan = Unit {0}
HasFilm Check = Unit {0}
HasFilm Demo = ⊥

-- utilities and weights within their limits; where a table is named there are no utilities beside it
abbrev pub AreWeighed : Option Text → List ℕ → ℕ → ℕ → ℕ → Type 0
AreWeighed None utilities switch stall startup = IsWeighing (weighing utilities switch stall startup)
AreWeighed (Some table) utilities switch stall startup = (utilities ≡ []) × AreWeights switch stall startup

-- the budget of a comparison: within its limits for regrets, and 0 else
abbrev pub IsBudget : Bool → ℕ → Type 0
IsBudget true budget = IsWithin 1 most_budget budget
IsBudget false budget = budget ≡ 0

-- what one command alone has: the one rule of one player, the budgets of `compare` and `plan`, the certificate of `check`, the number of `demo`
abbrev pub HasItsOwn : Verb → CommandWords → Type 0
HasItsOwn Simulate c = c.players ≡ false → length c.rules ≡ 1
HasItsOwn Compare c = IsBudget c.regret c.budget
HasItsOwn Plan c = IsWithin 1 most_budget c.budget
HasItsOwn Check c = IsSome c.certificate
HasItsOwn Demo c = c.number ≤ 2147483647

-- no grid, or milliseconds and thousandths of a point within their limits
abbrev pub AreGridWords : ℕ → ℕ → Type 0
AreGridWords time value = ((time ≡ 0) × (value ≡ 0)) ⊎ (IsWithin 1 10000 time × IsWithin 1 1000000 value)

-- no two options exclude each other
abbrev pub agrees : Verb → CommandWords → Bool
agrees Simulate c = simulate_agrees c
agrees Compare c = compare_agrees c
agrees Plan c = plan_agrees c
agrees Check c = check_agrees c
agrees Demo c = true

-- the counts, the rules, the settings, what one command alone has, the media ahead and the grid, within their limits; and no two options that exclude each other
pub record IsWithinLimits (c : CommandWords) : Type 0 where
  pub counts : AreCounted c.verb (length c.traces) (length c.rules)
  pub spoken : All (λ r. IsRuleWithin r.1) c.rules
  pub buffer : HasFilm c.verb → IsWithin 1 most_buffer c.buffer_ms
  pub weights : HasFilm c.verb → AreWeighed c.table c.utilities c.switch c.stall c.startup
  pub own : HasItsOwn c.verb c
  pub live : IfSome c.live (λ ms. ms ≤ all_ahead)
  pub grid : AreGridWords c.coarse_time c.coarse_value
  pub agreed : agrees c.verb c ≡ true
