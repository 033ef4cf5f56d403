use Rattle.manifest_reader.specs.Manifest.{manifest_of}
use Rattle.lab_inputs.specs.declared.role.Role.TheVariants as role
use Rattle.lab_inputs.specs.Files.{bytes_of, film_in, read_as}
use Rattle.lab_inputs.proofs.Files.{reads_failed, reads_fault, reads_ok}
use Rattle.lab_inputs.proofs.contents.read_film.Goals as goal

pub returns-in_err-bytes : goal.returns-in_err-bytes
unfolding film_in
returns-in_err-bytes g c =
    reads_failed (role.Manifest, c.args.name.now) (λ bytes. bytes.items) (λ film. film) (λ files. bytes_of role.Manifest (files c.args.name.now)) (λ bytes. read_as (manifest_of bytes)) _ _ c.fetch_file.result c.from_residual.result _
    c.in_err-bytes.was c.from_residual.ensures.1 c.fetch_file.ensures

pub returns-in_err-read_manifest : goal.returns-in_err-read_manifest
unfolding film_in
returns-in_err-read_manifest g c =
    reads_fault (role.Manifest, c.args.name.now) (λ bytes. bytes.items) (λ film. film) manifest_of _ _ c.fetch_file.result c.from_residual-in_err-read_manifest.result c.in_ok-bytes.bytes c.in_err-read_manifest.field-0.0
    c.in_ok-bytes.was c.from_residual-in_err-read_manifest.ensures.1 c.fetch_file.ensures (rw c.deref.ensures.value at c.in_err-read_manifest.ensures)

pub returns : goal.returns
unfolding film_in
returns g c =
    reads_ok (role.Manifest, c.args.name.now) (λ bytes. bytes.items) (λ film. film) manifest_of _ _ c.fetch_file.result c.in_ok-bytes.bytes c.in_ok-read_manifest.field-0
    c.in_ok-bytes.was c.fetch_file.ensures (rw c.deref.ensures.value at c.in_ok-read_manifest.ensures)
