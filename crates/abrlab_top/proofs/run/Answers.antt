use Rattle.std.proofs.Common.{map, string_bytes}
use Rattle.abrlab_top.specs.Runs.{Runs, world}
use Rattle.abrlab_top.proofs.Proved.{headline, plans_the_best, says_yes_soundly, simulates}
use Rattle.abrlab_top.proofs.Together.{plays_jointly}
use Rattle.abrlab_top.proofs.NearProved.{bounds_the_best, says_yes_by_prices}
use Rattle.abrlab_top.proofs.Regretted.{bounds_regrets, tells_regrets}
use Rattle.abrlab_top.proofs.run.Goals as goal

pub returns-clause-runs : goal.returns-clause-runs
returns-clause-runs g c =
    (c.run_command-ending.result, c.status.ensures, record { words = c.run_command-ending.ensures.words; ends = c.run_command-ending.ensures.ends; err = c.tell.ensures })

pub returns-clause-simulates : goal.returns-clause-simulates
returns-clause-simulates g c =
    simulates (map string_bytes c.args.words.now) (world (g.F.Shelf.shelved c.args.shelf.now) (g.O.Sink.seen c.args.out.now) (g.E.Sink.seen c.args.err.now))
    (world (g.F.Shelf.shelved c.run_command-ending.new.shelf) (g.O.Sink.seen c.run_command-ending.new.out) (g.E.Sink.seen c.tell.new.err)) c.run_command-ending.result c.status.result
    (record { words = c.run_command-ending.ensures.words; ends = c.run_command-ending.ensures.ends; err = c.tell.ensures }) c.status.ensures

pub returns-clause-plays_jointly : goal.returns-clause-plays_jointly
returns-clause-plays_jointly g c =
    plays_jointly (map string_bytes c.args.words.now) (world (g.F.Shelf.shelved c.args.shelf.now) (g.O.Sink.seen c.args.out.now) (g.E.Sink.seen c.args.err.now))
    (world (g.F.Shelf.shelved c.run_command-ending.new.shelf) (g.O.Sink.seen c.run_command-ending.new.out) (g.E.Sink.seen c.tell.new.err)) c.run_command-ending.result c.status.result
    (record { words = c.run_command-ending.ensures.words; ends = c.run_command-ending.ensures.ends; err = c.tell.ensures }) c.status.ensures

pub returns-clause-plans : goal.returns-clause-plans
returns-clause-plans g c =
    plans_the_best (map string_bytes c.args.words.now) (world (g.F.Shelf.shelved c.args.shelf.now) (g.O.Sink.seen c.args.out.now) (g.E.Sink.seen c.args.err.now))
    (world (g.F.Shelf.shelved c.run_command-ending.new.shelf) (g.O.Sink.seen c.run_command-ending.new.out) (g.E.Sink.seen c.tell.new.err)) c.run_command-ending.result c.status.result
    (record { words = c.run_command-ending.ensures.words; ends = c.run_command-ending.ensures.ends; err = c.tell.ensures }) c.status.ensures

pub returns-clause-checks : goal.returns-clause-checks
returns-clause-checks g c =
    says_yes_soundly (map string_bytes c.args.words.now) (world (g.F.Shelf.shelved c.args.shelf.now) (g.O.Sink.seen c.args.out.now) (g.E.Sink.seen c.args.err.now))
    (world (g.F.Shelf.shelved c.run_command-ending.new.shelf) (g.O.Sink.seen c.run_command-ending.new.out) (g.E.Sink.seen c.tell.new.err)) c.run_command-ending.result c.status.result
    (record { words = c.run_command-ending.ensures.words; ends = c.run_command-ending.ensures.ends; err = c.tell.ensures }) c.status.ensures

pub returns-clause-headline : goal.returns-clause-headline
returns-clause-headline g c =
    let line = map string_bytes c.args.words.now in
    let old = world (g.F.Shelf.shelved c.args.shelf.now) (g.O.Sink.seen c.args.out.now) (g.E.Sink.seen c.args.err.now) in
    let new = world (g.F.Shelf.shelved c.run_command-ending.new.shelf) (g.O.Sink.seen c.run_command-ending.new.out) (g.E.Sink.seen c.tell.new.err) in
    let e = c.run_command-ending.result in
    let runs : Runs line old e new = record { words = c.run_command-ending.ensures.words; ends = c.run_command-ending.ensures.ends; err = c.tell.ensures } in
    headline line old new c.status.result (simulates line old new e c.status.result runs c.status.ensures) (plans_the_best line old new e c.status.result runs c.status.ensures)
    (says_yes_soundly line old new e c.status.result runs c.status.ensures)

pub returns-clause-regrets : goal.returns-clause-regrets
returns-clause-regrets g c =
    tells_regrets (map string_bytes c.args.words.now) (world (g.F.Shelf.shelved c.args.shelf.now) (g.O.Sink.seen c.args.out.now) (g.E.Sink.seen c.args.err.now))
    (world (g.F.Shelf.shelved c.run_command-ending.new.shelf) (g.O.Sink.seen c.run_command-ending.new.out) (g.E.Sink.seen c.tell.new.err)) c.run_command-ending.result c.status.result
    (record { words = c.run_command-ending.ensures.words; ends = c.run_command-ending.ensures.ends; err = c.tell.ensures }) c.status.ensures

pub returns-clause-bounds : goal.returns-clause-bounds
returns-clause-bounds g c =
    bounds_the_best (map string_bytes c.args.words.now) (world (g.F.Shelf.shelved c.args.shelf.now) (g.O.Sink.seen c.args.out.now) (g.E.Sink.seen c.args.err.now))
    (world (g.F.Shelf.shelved c.run_command-ending.new.shelf) (g.O.Sink.seen c.run_command-ending.new.out) (g.E.Sink.seen c.tell.new.err)) c.run_command-ending.result c.status.result
    (record { words = c.run_command-ending.ensures.words; ends = c.run_command-ending.ensures.ends; err = c.tell.ensures }) c.status.ensures

pub returns-clause-price_checks : goal.returns-clause-price_checks
returns-clause-price_checks g c =
    says_yes_by_prices (map string_bytes c.args.words.now) (world (g.F.Shelf.shelved c.args.shelf.now) (g.O.Sink.seen c.args.out.now) (g.E.Sink.seen c.args.err.now))
    (world (g.F.Shelf.shelved c.run_command-ending.new.shelf) (g.O.Sink.seen c.run_command-ending.new.out) (g.E.Sink.seen c.tell.new.err)) c.run_command-ending.result c.status.result
    (record { words = c.run_command-ending.ensures.words; ends = c.run_command-ending.ensures.ends; err = c.tell.ensures }) c.status.ensures

pub returns-clause-near_regrets : goal.returns-clause-near_regrets
returns-clause-near_regrets g c =
    bounds_regrets (map string_bytes c.args.words.now) (world (g.F.Shelf.shelved c.args.shelf.now) (g.O.Sink.seen c.args.out.now) (g.E.Sink.seen c.args.err.now))
    (world (g.F.Shelf.shelved c.run_command-ending.new.shelf) (g.O.Sink.seen c.run_command-ending.new.out) (g.E.Sink.seen c.tell.new.err)) c.run_command-ending.result c.status.result
    (record { words = c.run_command-ending.ensures.words; ends = c.run_command-ending.ensures.ends; err = c.tell.ensures }) c.status.ensures
