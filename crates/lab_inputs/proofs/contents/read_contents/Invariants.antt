use Rattle.std.proofs.Common.{length, ◌≡◌, ◌∷◌, Ok, map, string_bytes, take}
use Rattle.lab_inputs.specs.declared.role.Role.TheVariants as role
use Rattle.lab_inputs.specs.Files.{Files, contents_from}
use Rattle.lab_inputs.specs.Stages.{Asks, Tells, named_file}
use Rattle.lab_inputs.proofs.Roles.{networks_among}
use Rattle.lab_inputs.proofs.contents.read_contents.Given as goal

-- the manifest and the files so far were asked for, and are what is in hand, with a network for each trace among them
abbrev pub invariant-loop-file : goal.invariant-loop-file
invariant-loop-file g l = record {
  asks : Asks ((role.Manifest, string_bytes l.command.manifest) ∷ map named_file (take l.file-index l.file-items)) (g.F.Shelf.shelved l.fn.shelf) (g.F.Shelf.shelved l.shelf);
  values : (files : Files) → Tells (g.F.Shelf.shelved l.fn.shelf) files → contents_from (string_bytes l.command.manifest) (map named_file (take l.file-index l.file-items)) files ≡ Ok l.contents;
  count : length l.contents.networks ≡ networks_among (map named_file (take l.file-index l.file-items));
}
