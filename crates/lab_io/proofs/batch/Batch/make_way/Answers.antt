use Rattle.std.proofs.Common.{rules, ◌≡◌, []}
use Rattle.lab_io.proofs.Gathered.{gathers_stopped, gathers_through}
use Rattle.lab_io.proofs.Puts.{puts_as}
use Rattle.lab_io.proofs.batch.Batch.make_way.Goals as goal

pub returns-in_err-put_bytes : goal.returns-in_err-put_bytes
returns-in_err-put_bytes g c =
    let same : c.as_slice.result.now ≡ c.args.self.now = search rules in
    gathers_stopped _ _ _ _ _ _ c.from_residual.result _ c.in_err-put_bytes.was c.from_residual.ensures.1 (puts_as _ _ _ _ _ same c.put_bytes.ensures)

pub returns : goal.returns
returns g c =
    let same : c.as_slice.result.now ≡ c.args.self.now = search rules in
    let none : c.try_extend_from_slice.new.self.items ≡ [] = search rules in
    gathers_through _ _ _ _ _ _ _ _ _ c.in_ok-put_bytes.was none (puts_as _ _ _ _ _ same c.put_bytes.ensures) c.put_bytes-2.ensures
