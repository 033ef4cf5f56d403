use Rattle.lab_io.proofs.Taken.{through}
use Rattle.lab_io.proofs.streams.StreamSink.write_piece.Goals as goal

pub returns : goal.returns
returns g c =
    through g.W.Write.contents c.args.self.now c.write_waiting.new.self _ c.bytes_taken.new.stream c.args.bytes.now c.bytes_taken.result c.write_waiting.result
    c.self.view_is c.write_waiting.ensures c.if-not-write_waiting.false c.bytes_taken.ensures.count c.bytes_taken.ensures.written
