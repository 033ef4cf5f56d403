use Rattle.std.proofs.Common.{map, string_bytes, ◌∙◌}
use Rattle.clap.specs.Simple.{app_of}
use Rattle.lab_words.specs.Table.{entry_of, table_app}
use Rattle.lab_words.proofs.Simple.{matched, refused}
use Rattle.lab_words.proofs.table.table_matches.Goals as goal

pub returns-in-Ok-try_get_matches_from : goal.returns-in-Ok-try_get_matches_from
returns-in-Ok-try_get_matches_from c =
    let e = c.in-Ok-try_get_matches_from.ensures in
    matched (app_of c.in-Ok.command) (table_app c.args.name.now (map entry_of c.args.own.now) (map entry_of c.args.shared.now)) (map string_bytes c.args.words.now) c.in-Ok-try_get_matches_from.matches
    c.in-Ok.ensures c.requires e.kinds e.matches

pub returns : goal.returns
returns c = refused (app_of c.in-Ok.command) (table_app c.args.name.now (map entry_of c.args.own.now) (map entry_of c.args.shared.now)) (map string_bytes c.args.words.now) c.in-Err.e
    c.in-Ok.ensures c.requires c.in-Err.ensures.kinds (λ m. c.in_default-kind.not-OutOfMemory (c.kind.ensures ∙ m))
