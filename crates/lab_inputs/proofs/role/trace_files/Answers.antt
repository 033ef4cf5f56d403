use Rattle.std.proofs.Common.{◌+◌, ◌++◌, ◌∙◌, ◌∷◌, [], ap, map, string_bytes, sym}
use Rattle.std.proofs.lemmas.List.{map-append}
use Rattle.lab_inputs.specs.Roles.{trace_files, trace_role}
use Rattle.lab_inputs.specs.Stages.{named_file}
use Rattle.lab_inputs.proofs.Steps.{names_more, trace_more}
use Rattle.lab_inputs.proofs.role.trace_files.Goals as goal

pub loop-index-preserved : goal.loop-index-preserved
loop-index-preserved c =
    let next = names_more c.deref-name-items.result.now c.loop-index.index c.name-item.result c.loop-index-test.true c.name-item.is in
    let more = trace_more c.args.command.now.verb _ (string_bytes c.name-item.result) _ _ c.loop-index.invariant next.0 in
    ap (map named_file) c.in_ok-push.ensures.items
    ∙ map-append named_file c.loop-index.files.items (_ ∷ [])
    ∙ ap (λ role. map named_file c.loop-index.files.items ++ (role, c.deref.result.now) ∷ []) c.trace_role-role.ensures
    ∙ ap (λ name. map named_file c.loop-index.files.items ++ (trace_role c.args.command.now.verb (c.loop-index.index + 1), name) ∷ []) c.deref.ensures
    ∙ more
    ∙ ap (trace_files c.args.command.now.verb) (sym next.1)
