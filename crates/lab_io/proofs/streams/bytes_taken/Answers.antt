use Rattle.lab_io.proofs.Taken.{appends_no_more, more_taken, within_rest}
use Rattle.lab_io.proofs.streams.bytes_taken.Goals.{in-Ok, in-Err}
use Rattle.lab_io.proofs.streams.bytes_taken.Goals as goal

pub loop-preserved : goal.loop-preserved
loop-preserved g c = elim c.match-write.branch [
  | in-Ok w ↦ rw w.taken-is (
    within_rest c.args.bytes.now c.loop.taken w.in-Ok.count c.loop.invariant.0 w.in-Ok.ensures.bound,
    more_taken _ _ _ c.args.bytes.now c.loop.taken w.in-Ok.count c.loop.invariant.1 w.in-Ok.ensures.bytes,
  )
  | in-Err w ↦ rw w.taken-is (c.loop.invariant.0, appends_no_more _ _ _ _ c.loop.invariant.1 w.in-Err.ensures.bytes)
]
