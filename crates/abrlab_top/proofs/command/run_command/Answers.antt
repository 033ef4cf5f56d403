use Rattle.std.proofs.Common.{◌∙◌, Err, ap, map, string_bytes}
use Rattle.lab_words.specs.Command.{view}
use Rattle.abrlab_top.proofs.Whole.{command_ends, usage_ends, wanting_ends}
use Rattle.abrlab_top.proofs.Words.{begins_wanting}
use Rattle.abrlab_top.proofs.command.run_command.Goals as goal

pub returns-in-Ok-clause-words : goal.returns-in-Ok-clause-words
returns-in-Ok-clause-words g c = rw c.in-Ok.ensures.read tt

pub returns-in-Ok-clause-ends : goal.returns-in-Ok-clause-ends
returns-in-Ok-clause-ends g c =
    (command_ends (map string_bytes c.args.words.now) (view c.in-Ok.command) _ _ c.ending_of.result _ _ c.in-Ok.ensures.read (rw c.ending_of.ensures c.answer_command.ensures)).1

pub returns-in-Err-Usage-clause-words : goal.returns-in-Err-Usage-clause-words
returns-in-Err-Usage-clause-words g c = (usage_ends (map string_bytes c.args.words.now) (g.F.Shelf.shelved c.args.shelf.now) (g.O.Sink.seen c.args.out.now) (rw c.in-Err-Usage.field-0-is at c.in-Err-Usage.ensures.read)).0

pub returns-in-Err-Usage-clause-ends : goal.returns-in-Err-Usage-clause-ends
returns-in-Err-Usage-clause-ends g c = (usage_ends (map string_bytes c.args.words.now) (g.F.Shelf.shelved c.args.shelf.now) (g.O.Sink.seen c.args.out.now) (rw c.in-Err-Usage.field-0-is at c.in-Err-Usage.ensures.read)).1

pub returns-in-Err-Memory-clause-words : goal.returns-in-Err-Memory-clause-words
returns-in-Err-Memory-clause-words g c =
    let begins = begins_wanting _ c.read_words.result (c.in-Err-Memory.is ∙ ap Err c.in-Err-Memory.field-0-is) c.read_words.ensures.no_command in
    (wanting_ends (map string_bytes c.args.words.now) (g.F.Shelf.shelved c.args.shelf.now) (g.O.Sink.seen c.args.out.now) begins).0

pub returns-in-Err-Memory-clause-ends : goal.returns-in-Err-Memory-clause-ends
returns-in-Err-Memory-clause-ends g c =
    let begins = begins_wanting _ c.read_words.result (c.in-Err-Memory.is ∙ ap Err c.in-Err-Memory.field-0-is) c.read_words.ensures.no_command in
    (wanting_ends (map string_bytes c.args.words.now) (g.F.Shelf.shelved c.args.shelf.now) (g.O.Sink.seen c.args.out.now) begins).1
