use Rattle.std.proofs.Common.{◌≡◌, length, subst}
use Rattle.lab_words.specs.Command.{CommandWords}
use Rattle.lab_inputs.specs.Contents.{ContentValues}
use Rattle.lab_inputs.specs.Inputs.{contents_of, inputs_of, inputs_on}
use Rattle.lab_inputs.specs.Roles.{film_files}
use Rattle.lab_inputs.specs.Stages.{Comes}
use Rattle.lab_inputs.proofs.Steps.{mapped_failed, mapped_ok}
use Rattle.lab_inputs.proofs.inputs.read_inputs.Goals as goal

pub returns-in_err-contents-clause-comes : goal.returns-in_err-contents-clause-comes
unfolding inputs_of
returns-in_err-contents-clause-comes g c =
    mapped_failed (film_files c.args.words) (λ v. v) (λ i. i) (inputs_on c.args.words) (contents_of c.args.words)
    _ _ c.read_contents.result c.from_residual.result _ c.in_err-contents.was c.from_residual.ensures.1
    (subst (λ (w : CommandWords). Comes (film_files w) (λ (v : ContentValues). v) (contents_of w) (g.F.Shelf.shelved c.args.shelf.now) c.read_contents.result (g.F.Shelf.shelved c.read_contents.new.shelf)) c.command.ensures c.read_contents.ensures.comes)

pub returns-clause-comes : goal.returns-clause-comes
unfolding inputs_of
returns-clause-comes g c =
    mapped_ok (film_files c.args.words) (λ v. v) (λ i. i) (inputs_on c.args.words) (contents_of c.args.words)
    _ _ c.read_contents.result c.in_ok-contents.contents c.of.result c.in_ok-contents.was c.of.ensures
    (subst (λ (w : CommandWords). Comes (film_files w) (λ (v : ContentValues). v) (contents_of w) (g.F.Shelf.shelved c.args.shelf.now) c.read_contents.result (g.F.Shelf.shelved c.read_contents.new.shelf)) c.command.ensures c.read_contents.ensures.comes)

pub returns-clause-kept : goal.returns-clause-kept
returns-clause-kept g c =
    record {
      contents = c.in_ok-contents.contents;
      count = subst (λ (w : CommandWords). length c.in_ok-contents.contents.networks ≡ length w.traces) c.command.ensures c.in_ok-contents.ensures.count;
      is = c.of.ensures;
    }
