use Rattle.std.proofs.Common.{ap₂}
use Rattle.network_clock.specs.declared.job.Job.{Job}
use Rattle.std.proofs.Common.{ℕ, Option}
use Rattle.lab_model.specs.Film.{size_of}
use Rattle.player_core.specs.Seen.{download_of}
use Rattle.shared_link.proofs.Stays.{first_ahead, first_past}
use Rattle.shared_link.proofs.calm.run_on.Goals as goal

pub returns-then-d-until-clause-takes : goal.returns-then-d-until-clause-takes
returns-then-d-until-clause-takes c = λ case begins.
    let d = c.args.d in
    ap₂ (λ (j : Job) (f : Option ℕ). record (download_of d) { job = j; first = f }) c.advance.ensures
    (first_past c.args.lane.now.stage.link.now.periods c.args.lane.now.stage.trace c.args.lane.now.takers d.asked (size_of case.film d.segment d.rung) d.begins c.args.from c.args.until begins c.requires.later c.if-d-until.true)

pub returns-else-d-until-clause-takes : goal.returns-else-d-until-clause-takes
returns-else-d-until-clause-takes c = λ case begins.
    let d = c.args.d in
    ap₂ (λ (j : Job) (f : Option ℕ). record (download_of d) { job = j; first = f }) c.advance.ensures
    (first_ahead c.args.lane.now.stage.link.now.periods c.args.lane.now.stage.trace c.args.lane.now.takers d.asked (size_of case.film d.segment d.rung) d.begins c.args.from c.args.until begins c.requires.later c.if-d-until.false)
