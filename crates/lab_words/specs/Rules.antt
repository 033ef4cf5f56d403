-- How a rule is spelled on the command line.
use Rattle.std.specs.Prelude.{◌==◌, Bool, Option, Some, None, List, [], ◌∷◌, codes, if◌then◌else◌, length, nat_lt, option_and_then, option_map}
use Rattle.std.specs.List.{before_first, after_first, position_or_len}
use Rattle.std.specs.Str.{bytes_eq}
use Rattle.lab_model.specs.Rules.{RuleKind, fixed, listed, throughput, bola, mpc}
use Rattle.lab_words.specs.Spelling.{Text, number_of, numbers_of}
use Rattle.lab_words.specs.declared.RuleWords.{RuleWords}
use Rattle.lab_words.specs.declared.RuleWords.TheVariants as words

-- the rule of this kind with these numbers
abbrev pub rule_of_kind : Text → Text → Option RuleKind
rule_of_kind kind numbers =
    if bytes_eq kind (codes "fixed") then option_map fixed (number_of 0 15 numbers)
    else if bytes_eq kind (codes "list") then option_map listed (numbers_of 2000 0 15 numbers)
    else if bytes_eq kind (codes "throughput") then option_map throughput (numbers_of 4 1 100 numbers)
    else if bytes_eq kind (codes "bola") then option_map bola (number_of 1 1000000 numbers)
    else if bytes_eq kind (codes "mpc") then option_map mpc (number_of 1 5 numbers)
    else None

-- a text has a `:`
abbrev pub has_colon : Text → Bool
has_colon text = nat_lt (position_or_len (λ b. b == 58) text) (length text)

-- the rule that the text spells: its kind, a `:` and its numbers
unfoldable pub rule_of : Text → Option RuleKind
rule_of text = if has_colon text then rule_of_kind (before_first (λ b. b == 58) text) (after_first (λ b. b == 58) text) else None

-- the rule that a text spells, behind the text
abbrev pub named_rule : Text → Option (Text × RuleKind)
named_rule text = option_map (λ rule. (text, rule)) (rule_of text)

-- the rule of each text, where each spells one
abbrev pub named_rules : List Text → Option (List (Text × RuleKind))
named_rules [] = Some []
named_rules (text ∷ texts) = option_and_then (λ rule. option_map (λ rules. rule ∷ rules) (named_rules texts)) (named_rule text)

-- the kind of a rule, without where its numbers lie in memory
abbrev pub spoken : RuleWords → RuleKind
spoken (words.Fixed rung) = fixed rung
spoken (words.List rungs) = listed rungs.items
spoken (words.Throughput windows) = throughput windows.items
spoken (words.Bola g) = bola g
spoken (words.Mpc horizon) = mpc horizon
