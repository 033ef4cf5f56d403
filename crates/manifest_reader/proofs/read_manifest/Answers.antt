use Rattle.std.proofs.Common.{rules}
use Rattle.manifest_reader.specs.Manifest.{manifest_of}
use Rattle.manifest_reader.proofs.read_manifest.Goals as goal

pub returns-in_err-object : goal.returns-in_err-object
unfolding manifest_of
returns-in_err-object c = search rules

pub returns : goal.returns
unfolding manifest_of
returns c = search rules
