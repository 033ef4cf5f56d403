-- A command takes the words of its table one after the other.
use Rattle.std.proofs.Common.{◌≡◌, ◌+◌, ◌<◌, ◌≤◌, ℕ, map, drop, refl, add-one, drop-cons, length, List, get_or}
use Rattle.std.proofs.lemmas.List.{drop_all}
use Rattle.clap.specs.Simple.{App, with_rule}
use Rattle.clap.specs.Walk.{Rule}
use Rattle.lab_words.specs.declared.table.Word.{Word}
use Rattle.lab_words.specs.Table.{entry_of, with_words, rule_of_word}

-- a command that took the word at a place takes those behind it next
pub words_more : (a b : App) (r : Rule) (ws : List Word) (i : ℕ) (d : Word) → i < length ws → b ≡ with_rule a r → r ≡ rule_of_word (get_or ws i d).kind (get_or ws i d).name.now
    → with_words b (map entry_of (drop (i + 1) ws)) ≡ with_words a (map entry_of (drop i ws))
unfolding with_words
words_more a b r ws i d lt e f = rw (add-one, drop-cons ws i d, e, f) refl

-- behind the last word a command takes no more
pub words_end : (a : App) (ws : List Word) (i : ℕ) → length ws ≤ i → with_words a (map entry_of (drop i ws)) ≡ a
unfolding with_words
words_end a ws i h = rw (drop_all i ws h) refl
