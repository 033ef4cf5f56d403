use Rattle.std.proofs.Common.{◌≡◌, drop, map}
use Rattle.clap.specs.Simple.{app_of}
use Rattle.lab_words.specs.Table.{entry_of, with_words}
use Rattle.lab_words.proofs.table.with_words.Given as goal

abbrev pub invariant-loop-word : goal.invariant-loop-word
invariant-loop-word l = with_words (app_of l.command) (map entry_of (drop l.word-index l.table)) ≡ with_words (app_of l.fn.command) (map entry_of l.table)
