use Rattle.std.proofs.Common.{◌≡◌, map, take}
use Rattle.lab_words.specs.Compare.{distinct}
use Rattle.lab_words.proofs.compare.distinct.Given as goal

abbrev pub invariant-loop-text : goal.invariant-loop-text
invariant-loop-text l = map (λ text. text.now) l.set.keys ≡ distinct (map (λ text. text.now) (take l.text-index l.texts))
