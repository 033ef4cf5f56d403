-- How a list of rules is read text by text.
use Rattle.std.proofs.Common.{◌≡◌, ◌+◌, ◌<◌, ℕ, suc, List, [], ◌∷◌, ◌++◌, Option, Some, None, Bor, option_map, map, drop, drop-cons, length, get_or, refl, ap, add-one}
use Rattle.std.proofs.lemmas.List.{append_assoc}
use Rattle.lab_model.specs.Rules.{RuleKind}
use Rattle.lab_words.specs.Rules.{named_rule, named_rules}
use Rattle.lab_words.specs.Spelling.{Text}

-- the rules that are read already, before those that are to come
abbrev pub with_rules : List (Text × RuleKind) → Option (List (Text × RuleKind)) → Option (List (Text × RuleKind))
with_rules front rest = option_map (λ rules. front ++ rules) rest

-- one more text was read
pub rules_more : (texts : List (Bor Text)) (i : ℕ) (d : Bor Text) (front : List (Text × RuleKind)) (rule : Text × RuleKind) → i < length texts → named_rule (get_or texts i d).now ≡ Some rule
    → with_rules (front ++ rule ∷ []) (named_rules (map (λ t. t.now) (drop (i + 1) texts))) ≡ with_rules front (named_rules (map (λ t. t.now) (drop i texts)))
rules_more texts i d front rule lt e = rw (add-one, drop-cons texts i d, e) (go (named_rules (map (λ t. t.now) (drop (suc i) texts))))
  where
    go : (o : Option (List (Text × RuleKind))) → with_rules (front ++ rule ∷ []) o ≡ with_rules front (option_map (λ rules. rule ∷ rules) o)
    go None = refl
    go (Some rules) = ap Some (append_assoc front (rule ∷ []) rules)
