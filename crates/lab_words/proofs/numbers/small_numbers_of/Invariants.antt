use Rattle.std.proofs.Common.{◌≡◌, drop}
use Rattle.lab_words.specs.Spelling.{all_numbers, pieces_of}
use Rattle.lab_words.proofs.NumberLemmas.{texts_of, with_front}
use Rattle.lab_words.proofs.numbers.small_numbers_of.Given as goal

abbrev pub invariant-loop-piece : goal.invariant-loop-piece
invariant-loop-piece l = with_front l.numbers.items (all_numbers l.least l.most (texts_of (drop l.piece-index l.piece-items))) ≡ all_numbers l.least l.most (pieces_of l.text)
