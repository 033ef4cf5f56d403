use Rattle.labels.proofs.SmallBuffers.{frontier_apart}
use Rattle.labels.proofs.laws.small_buffers_tell_apart.Goals as goal

pub returns : goal.returns
returns c = frontier_apart
