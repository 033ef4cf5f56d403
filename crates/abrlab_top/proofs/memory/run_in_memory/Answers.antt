use Rattle.std.proofs.Common.{◌∙◌, ap, map, string_bytes, subst}
use Rattle.lab_io.specs.Memory.{MemFiles, SureText, file_of, mem_shelved}
use Rattle.abrlab_top.specs.Ending.{status_of}
use Rattle.abrlab_top.specs.Memory.{IsPrinted}
use Rattle.abrlab_top.proofs.Sure.{printed_in_memory}
use Rattle.abrlab_top.proofs.memory.run_in_memory.Goals as goal

pub returns : goal.returns
returns c =
    let line = map string_bytes c.args.words.now in
    let run = c.run-status.ensures.runs in
    let done = printed_in_memory line c.new-shelf.result c.new-out.result c.run-status.new.out c.new-err.result c.run-status.new.err (mem_shelved c.run-status.new.shelf)
    (ap (λ (o : SureText). o.written) c.new-out.ensures) (ap (λ (o : SureText). o.wants) c.new-out.ensures) (ap (λ (o : SureText). o.written) c.new-err.ensures) (ap (λ (o : SureText). o.wants) c.new-err.ensures)
    (ap (λ (s : MemFiles). s.failing) c.new-shelf.ensures ∙ c.new.ensures.items) (ap (λ (s : MemFiles). s.failed) c.new-shelf.ensures) run.0 run.2 in
    let files = ap (λ (s : MemFiles). file_of s.files) c.new-shelf.ensures in
    rw run.1 (subst (λ f. IsPrinted line f (status_of run.0) c.run-status.new.out c.run-status.new.err) files done)
