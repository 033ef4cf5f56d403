-- What a command line asks for, without where its texts lie in memory.
use Rattle.std.specs.Prelude.{ℕ, Bool, false, List, [], Option, None, map, string_bytes, option_map}
use Rattle.lab_model.specs.Rules.{RuleKind}
use Rattle.lab_words.specs.Rules.{spoken}
use Rattle.lab_words.specs.Spelling.{Text}
use Rattle.lab_words.specs.declared.Command.{Command}
use Rattle.lab_words.specs.declared.NamedRule.{NamedRule}
use Rattle.lab_words.specs.declared.Verb.{Verb}

-- what a command line asks for
pub record CommandWords : Type 0 where
  pub verb : Verb
  pub manifest : Text
  pub traces : List Text
  pub rules : List (Text × RuleKind)
  pub buffer_ms : ℕ
  pub utilities : List ℕ
  pub table : Option Text
  pub switch : ℕ
  pub stall : ℕ
  pub startup : ℕ
  pub abandon : Bool
  pub seeks : Option Text
  pub budget : ℕ
  pub as_certificate : Bool
  pub certificate : Option Text
  pub number : ℕ
  pub live : Option ℕ
  pub coarse_time : ℕ
  pub coarse_value : ℕ
  pub gap : Bool
  pub players : Bool
  pub regret : Bool
  pub near : Bool

-- a command that asks for nothing yet
abbrev pub blank : Verb → CommandWords
blank verb = record {
  verb = verb;
  manifest = [];
  traces = [];
  rules = [];
  buffer_ms = 0;
  utilities = [];
  table = None;
  switch = 0;
  stall = 0;
  startup = 0;
  abandon = false;
  seeks = None;
  budget = 0;
  as_certificate = false;
  certificate = None;
  number = 0;
  live = None;
  coarse_time = 0;
  coarse_value = 0;
  gap = false;
  players = false;
  regret = false;
  near = false;
}

-- a rule and its word, without where they lie in memory
abbrev pub named : NamedRule → Text × RuleKind
named r = (string_bytes r.name, spoken r.rule)

-- a command, without where its texts lie in memory
abbrev pub view : Command → CommandWords
view c = record {
  verb = c.verb;
  manifest = string_bytes c.manifest;
  traces = map string_bytes c.traces.items;
  rules = map named c.rules.items;
  buffer_ms = c.buffer_ms;
  utilities = c.utilities.items;
  table = option_map string_bytes c.table;
  switch = c.switch;
  stall = c.stall;
  startup = c.startup;
  abandon = c.abandon;
  seeks = option_map string_bytes c.seeks;
  budget = c.budget;
  as_certificate = c.as_certificate;
  certificate = option_map string_bytes c.certificate;
  number = c.number;
  live = c.live;
  coarse_time = c.coarse_time;
  coarse_value = c.coarse_value;
  gap = c.gap;
  players = c.players;
  regret = c.regret;
  near = c.near;
}
