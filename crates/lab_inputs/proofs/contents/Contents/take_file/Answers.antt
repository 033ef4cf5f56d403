use Rattle.lab_inputs.specs.Files.{bytes_of, read_as, with_file}
use Rattle.lab_inputs.specs.Roles.{role_row}
use Rattle.lab_inputs.proofs.Files.{reads_failed, reads_fault, reads_ok}
use Rattle.lab_inputs.proofs.contents.Contents.take_file.Goals as goal

pub returns-in_err-bytes-clause-reads : goal.returns-in_err-bytes-clause-reads
unfolding with_file
returns-in_err-bytes-clause-reads g c =
    reads_failed (c.args.role, c.args.name.now) (λ bytes. bytes.items) _ (λ files. bytes_of c.args.role (files c.args.name.now)) (λ bytes. read_as ((role_row c.args.role).adds c.args.name.now c.args.self.now bytes)) _ _
    c.fetch_file.result c.from_residual.result _ c.in_err-bytes.was c.from_residual.ensures.1 c.fetch_file.ensures

pub returns-in_err-take_bytes-clause-reads : goal.returns-in_err-take_bytes-clause-reads
unfolding with_file
returns-in_err-take_bytes-clause-reads g c =
    reads_fault (c.args.role, c.args.name.now) (λ bytes. bytes.items) _ ((role_row c.args.role).adds c.args.name.now c.args.self.now) _ _ c.fetch_file.result c.from_residual-in_err-take_bytes.result c.in_ok-bytes.bytes c.in_err-take_bytes.field-0.0
    c.in_ok-bytes.was c.from_residual-in_err-take_bytes.ensures.1 c.fetch_file.ensures c.in_err-take_bytes.ensures

pub returns-clause-reads : goal.returns-clause-reads
unfolding with_file
returns-clause-reads g c =
    reads_ok (c.args.role, c.args.name.now) (λ bytes. bytes.items) (λ (done : Unit {0}). c.take_bytes.new.self) ((role_row c.args.role).adds c.args.name.now c.args.self.now) _ _ c.fetch_file.result c.in_ok-bytes.bytes tt
    c.in_ok-bytes.was c.fetch_file.ensures c.in_ok-take_bytes.ensures

pub returns-clause-adds : goal.returns-clause-adds
returns-clause-adds g c = (c.in_ok-bytes.bytes.items, c.in_ok-take_bytes.ensures)
