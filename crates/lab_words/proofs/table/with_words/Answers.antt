use Rattle.std.proofs.Common.{◌∙◌, sym, refl}
use Rattle.lab_words.proofs.TableLemmas.{words_more, words_end}
use Rattle.lab_words.proofs.table.with_words.Goals as goal

pub loop-word-init : goal.loop-word-init
loop-word-init c = refl

pub loop-word-preserved : goal.loop-word-preserved
loop-word-preserved c =
    words_more _ _ _ c.args.table.now c.loop-word.word-index _ c.loop-word-test.true (c.in_ok-command.ensures.shape c.arg_of.ensures.own) c.arg_of.ensures.rule
    ∙ c.loop-word.invariant

pub returns : goal.returns
returns c = sym (words_end _ c.args.table.now c.loop-word.word-index c.loop-word-test.false) ∙ c.loop-word.invariant
