use Rattle.lab_words.proofs.Distinct.{distinct_more}
use Rattle.lab_words.proofs.compare.distinct.Goals as goal

pub loop-text-preserved : goal.loop-text-preserved
loop-text-preserved c =
    distinct_more c.loop-text.set.keys c.insert.new.self.keys c.args.texts.now c.loop-text.text-index _ c.loop-text-test.true c.in_ok-insert.ensures.keys c.loop-text.invariant
