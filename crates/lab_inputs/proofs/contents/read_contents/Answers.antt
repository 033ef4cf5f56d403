use Rattle.std.proofs.Common.{length, Ok, Err, ap, sym, ◌∙◌, map, take, drop, ◌+◌, get_or, string_bytes}
use Rattle.std.proofs.lemmas.List.{take_all}
use Rattle.lab_words.specs.Command.{view}
use Rattle.lab_inputs.specs.Roles.{later_files}
use Rattle.lab_inputs.specs.Contents.{ContentValues}
use Rattle.lab_inputs.specs.Stages.{named_file}
use Rattle.lab_inputs.proofs.Steps.{asks_more, at_file, film_first, film_halts, film_wanting, inputs_one_more, later_halts, next_file}
use Rattle.lab_inputs.proofs.Roles.{among_none, networks_among, networks_named}
use Rattle.lab_inputs.proofs.Within.{one_more_counted}
use Rattle.lab_inputs.proofs.contents.read_contents.Goals as goal

pub returns-in-Err-clause-comes : goal.returns-in-Err-clause-comes
returns-in-Err-clause-comes g c =
    (film_halts (λ v. v) (string_bytes c.args.command.now.manifest) (later_files (view c.args.command.now)) _ _ c.read_film.result c.in-Err.err c.at.result c.in-Err.is c.at.ensures (rw c.deref.ensures at c.read_film.ensures))

pub returns-in_err-contents-clause-comes : goal.returns-in_err-contents-clause-comes
returns-in_err-contents-clause-comes g c =
    let film = rw c.deref.ensures at c.in-Ok.ensures in
    film_wanting (λ v. v) (string_bytes c.args.command.now.manifest) (later_files (view c.args.command.now)) _ _ c.from_residual-in_err-contents.result c.from_residual-in_err-contents.ensures.1 film.0

pub loop-file-init : goal.loop-file-init
loop-file-init g c =
    let film = rw c.deref.ensures at c.in-Ok.ensures in
    record {
      asks = film.0;
      values = λ files t. film_first (string_bytes c.args.command.now.manifest) c.in-Ok.film files (film.1 files t) ∙ ap Ok (sym c.in_ok-contents.ensures);
      count = ap (λ (v : ContentValues). length v.networks) c.in_ok-contents.ensures ∙ sym among_none;
    }

pub returns-in-Err-take_file-clause-comes : goal.returns-in-Err-take_file-clause-comes
returns-in-Err-take_file-clause-comes g c =
    (later_halts _ (λ v. v) (string_bytes c.args.command.now.manifest) (later_files (view c.args.command.now)) (map named_file (take c.loop-file.file-index c.deref-file-items.result.now)) (map named_file (drop (c.loop-file.file-index + 1) c.deref-file-items.result.now))
    (named_file (get_or c.deref-file-items.result.now c.loop-file.file-index _)) c.loop-file.contents (g.F.Shelf.shelved c.args.shelf.now) (g.F.Shelf.shelved c.loop-file.shelf) (g.F.Shelf.shelved c.take_file.new.shelf) c.take_file.result c.in-Err-take_file.err c.at-in-Err-take_file.result
    (sym c.in_ok-later.ensures ∙ ap (map named_file) (sym c.deref-file-items.ensures.value) ∙ at_file c.deref-file-items.result.now c.loop-file.file-index _ c.loop-file-test.true)
    c.in-Err-take_file.is c.at-in-Err-take_file.ensures c.loop-file.invariant.asks c.loop-file.invariant.values c.take_file.ensures.reads)

pub loop-file-preserved : goal.loop-file-preserved
loop-file-preserved g c =
    let next = next_file c.deref-file-items.result.now c.loop-file.file-index _ c.loop-file-test.true in
    let file = c.in_default.ensures.reads in
    record {
      asks = rw next (asks_more _ _ _ _ _ c.loop-file.invariant.asks file.0);
      values = λ files t. rw next (inputs_one_more (string_bytes c.args.command.now.manifest) c.loop-file.contents c.take_file.new.self _ _ files (c.loop-file.invariant.values files t) (file.1 files (c.loop-file.invariant.asks.files ∙ t)));
      count = rw next (one_more_counted _ _ _ _ _ c.loop-file.invariant.count c.in_default.ensures.adds);
    }

pub returns-clause-comes : goal.returns-clause-comes
returns-clause-comes g c =
    let all = ap (map named_file) (take_all c.loop-file.file-index c.deref-file-items.result.now c.loop-file-test.false) ∙ ap (map named_file) c.deref-file-items.ensures.value ∙ c.in_ok-later.ensures in
    (rw all at c.loop-file.invariant.asks, rw all at c.loop-file.invariant.values)

pub returns-clause-count : goal.returns-clause-count
returns-clause-count g c =
    let all = ap (map named_file) (take_all c.loop-file.file-index c.deref-file-items.result.now c.loop-file-test.false) ∙ ap (map named_file) c.deref-file-items.ensures.value ∙ c.in_ok-later.ensures in
    c.loop-file.invariant.count ∙ ap networks_among all ∙ networks_named (view c.args.command.now)
