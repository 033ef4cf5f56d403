-- The command `simulate`: its words and what they ask for.
use Rattle.std.specs.Prelude.{Bool, true, false, ◌==◌, ◌||◌, List, [], ◌∷◌, Option, Some, is_some, codes, option_map}
use Rattle.std.specs.List.{slice_split}
use Rattle.clap.specs.Simple.{App}
use Rattle.clap.specs.Walk.{Row}
use Rattle.lab_words.specs.Command.{CommandWords, blank}
use Rattle.lab_model.specs.Rules.{RuleKind}
use Rattle.lab_model.specs.Limits.{all_ahead}
use Rattle.lab_words.specs.Rules.{named_rule, named_rules}
use Rattle.lab_words.specs.Settings.{settings_in, settings_words, with_settings}
use Rattle.lab_words.specs.Spelling.{Text, at_most}
use Rattle.lab_words.specs.Table.{table_app}
use Rattle.lab_model.specs.OptionSteps.{◌>>=◌}
use Rattle.lab_words.specs.Values.{Either, first, second, at_most_one, if_agreed, is_given, one_of, optional, optional_number, required_text}
use Rattle.lab_words.specs.declared.Verb.TheVariants as verb
use Rattle.lab_words.specs.declared.table.Kind.{Kind}
use Rattle.lab_words.specs.declared.table.Kind.TheVariants as kind

-- its own words
abbrev pub simulate_words : List (Text × Kind)
simulate_words = (codes "manifest", kind.Required)
    ∷ (codes "trace", kind.Required)
    ∷ (codes "rule", kind.Optional)
    ∷ (codes "abandon", kind.Flag)
    ∷ (codes "seeks", kind.Optional)
    ∷ (codes "live", kind.Optional)
    ∷ (codes "players", kind.Optional)
    ∷ []

-- the command for `clap`
unfoldable pub simulate_app : App
simulate_app = table_app (codes "simulate") simulate_words settings_words

-- the rules of several players, 1 to 8 joined by `/`
unfoldable pub several_players : Text → Option (List (Text × RuleKind))
several_players text = do
  texts ← at_most 8 (slice_split (λ b. b == 47) text)
  named_rules texts

-- the rule of one player, or those of several
abbrev pub players_by : Either → Option (List (Text × RuleKind) × Bool)
players_by (first text) = option_map (λ rule. (rule ∷ [], false)) (named_rule text)
players_by (second text) = option_map (λ rules. (rules, true)) (several_players text)

-- the rules of the players, and whether it is of several that they are: exactly one of the two has to be given
unfoldable pub players_in : List Row → Option (List (Text × RuleKind) × Bool)
players_in rows = do
  given ← one_of (codes "rule") (codes "players") rows
  players_by given

-- no two of these asked for: media ahead, several players, and a viewer who gives downloads up or seeks
abbrev pub simulate_agrees : CommandWords → Bool
simulate_agrees c = at_most_one (is_some c.live ∷ c.players ∷ (c.abandon || is_some c.seeks) ∷ [])

-- what `simulate` is asked for, by the values of its options
unfoldable pub simulate_in : List Row → Option CommandWords
simulate_in rows = do
  manifest ← required_text (codes "manifest") rows
  trace ← required_text (codes "trace") rows
  players ← players_in rows
  settings ← settings_in rows
  seeks ← optional (codes "seeks") rows
  live ← optional_number 0 all_ahead (codes "live") rows
  if_agreed simulate_agrees (record (with_settings settings (blank verb.Simulate)) {
    manifest = manifest;
    traces = trace ∷ [];
    rules = players.0;
    abandon = is_given (codes "abandon") rows;
    seeks = seeks;
    live = live;
    players = players.1;
  })
