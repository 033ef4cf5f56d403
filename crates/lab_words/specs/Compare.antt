-- The command `compare`: its words and what they ask for. Equal rules and equal traces count once, at their first place.
use Rattle.std.specs.Prelude.{ℕ, ◌==◌, ◌&&◌, ◌||◌, Bool, not, is_some, List, [], ◌∷◌, length, nat_le, Option, Some, None, option_map, option_and_then, codes, if◌then◌else◌}
use Rattle.std.specs.List.{slice_split}
use Rattle.std.specs.Str.{bytes_eq}
use Rattle.clap.specs.Simple.{App}
use Rattle.clap.specs.Walk.{Row}
use Rattle.indexmap.specs.IndexSet.{insert_all}
use Rattle.lab_model.specs.Rules.{RuleKind}
use Rattle.lab_model.specs.Limits.{most_budget}
use Rattle.lab_words.specs.Command.{CommandWords, blank}
use Rattle.lab_words.specs.Rules.{named_rule, named_rules}
use Rattle.lab_words.specs.Settings.{settings_in, settings_words, with_settings}
use Rattle.lab_words.specs.Spelling.{Text, at_most}
use Rattle.lab_words.specs.Table.{table_app}
use Rattle.lab_model.specs.OptionSteps.{◌>>=◌}
use Rattle.lab_words.specs.Values.{at_most_one, if_agreed, is_given, number_unless, optional, required_text, several}
use Rattle.lab_words.specs.declared.Verb.TheVariants as verb
use Rattle.lab_words.specs.declared.table.Kind.{Kind}
use Rattle.lab_words.specs.declared.table.Kind.TheVariants as kind

-- its own words
abbrev pub compare_words : List (Text × Kind)
compare_words = (codes "manifest", kind.Required)
    ∷ (codes "rules", kind.Required)
    ∷ (codes "abandon", kind.Flag)
    ∷ (codes "seeks", kind.Optional)
    ∷ (codes "regret", kind.Flag)
    ∷ (codes "budget", kind.Optional)
    ∷ (codes "near", kind.Flag)
    ∷ (codes "trace", kind.Several)
    ∷ []

-- the command for `clap`
unfoldable pub compare_app : App
compare_app = table_app (codes "compare") compare_words settings_words

-- the texts without repeats, each at its first place
abbrev pub distinct : List Text → List Text
distinct texts = insert_all bytes_eq [] texts

-- at most so many texts without repeats, each at its first place
unfoldable pub few : ℕ → List Text → Option (List Text)
few most texts = at_most most (distinct texts)

-- 1 to 32 rules, joined by `/`
unfoldable pub rules_in : List Row → Option (List (Text × RuleKind))
rules_in rows = do
  text ← required_text (codes "rules") rows
  names ← few 32 (slice_split (λ b. b == 47) text)
  named_rules names

-- 1 to 64 traces
unfoldable pub traces_in : List Row → Option (List Text)
traces_in rows = option_and_then (few 64) (several (codes "trace") rows)

-- the budget, which is for regrets alone, and for the best lists, not for bounds by prices
abbrev pub budget_in : Bool → Bool → List Row → Option ℕ
budget_in regret near rows = number_unless (not regret || near) (if regret then 200000 else 0) 1 most_budget (codes "budget") rows

-- not both asked for: regrets, and a viewer who gives downloads up or seeks; nor bounds by prices, and no regrets
abbrev pub compare_agrees : CommandWords → Bool
compare_agrees c = at_most_one (c.regret ∷ (c.abandon || is_some c.seeks) ∷ []) && at_most_one (c.near ∷ not c.regret ∷ [])

-- what `compare` is asked for, by the values of its options
unfoldable pub compare_in : List Row → Option CommandWords
compare_in rows = do
  manifest ← required_text (codes "manifest") rows
  rules ← rules_in rows
  settings ← settings_in rows
  seeks ← optional (codes "seeks") rows
  budget ← budget_in (is_given (codes "regret") rows) (is_given (codes "near") rows) rows
  traces ← traces_in rows
  if_agreed compare_agrees (record (with_settings settings (blank verb.Compare)) {
    manifest = manifest;
    traces = traces;
    rules = rules;
    abandon = is_given (codes "abandon") rows;
    seeks = seeks;
    budget = budget;
    regret = is_given (codes "regret") rows;
    near = is_given (codes "near") rows;
  })
