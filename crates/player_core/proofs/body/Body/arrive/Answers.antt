use Rattle.std.proofs.Common.{◌≡◌, ◌∙◌, eqb, Some, option_map, sym, ap, eq-eqb}
use Rattle.std.proofs.lemmas.Bool.{cond-true}
use Rattle.std.proofs.lemmas.Result.{IfOk-weaker}
use Rattle.player_core.specs.State.{Case, Download, Player}
use Rattle.player_core.specs.Course.{case_on}
use Rattle.player_core.specs.Parts.{arrival, arrives, loads}
use Rattle.player_core.specs.Seen.{download_of, seen}
use Rattle.player_core.proofs.Follow.{step_as}
use Rattle.player_core.proofs.body.Body.arrive.Goals as goal

-- where nothing is left of the download it is loaded
arrives_whole : (k : Case) (p : Player) (d : Download) → p.download ≡ Some d → d.job.left ≡ 0 → loads k p d ≡ arrival k p
arrives_whole k p d runs none = sym (ap (arrives k p) runs ∙ cond-true (eqb d.job.left 0) (loads k p d) p (eq-eqb d.job.left 0 none))

pub returns-in-Some-clause-arrives : goal.returns-in-Some-clause-arrives
returns-in-Some-clause-arrives g c =
    IfOk-weaker c.load.result _ _
    (λ x loaded kind.
    let k = case_on c.args.course.now kind in
    step_as _ (arrival k) c.args.self.now c.load.new.self
    (λ h. arrives_whole k (seen c.args.self.now h) (download_of c.in-Some.d) (ap (option_map download_of) c.in-Some.is) c.if-d-eq0.true) (loaded kind))
    c.load.ensures.loads
