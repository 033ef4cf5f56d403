use Rattle.std.proofs.Common.{◌≡◌, ◌∙◌, ℕ, true, Some, sym, ap, option_map}
use Rattle.std.proofs.lemmas.Bool.{cond-true}
use Rattle.std.proofs.lemmas.Result.{IfOk-weaker}
use Rattle.lab_model.specs.declared.setup.Setup.{Setup}
use Rattle.abandonment.specs.Test.{abandonment}
use Rattle.player_core.specs.State.{Case, Download, Player}
use Rattle.player_core.specs.Course.{case_on}
use Rattle.player_core.specs.Parts.{abandon, gives_up, gives_up_any, progress_of}
use Rattle.player_core.specs.Seen.{download_of, seen}
use Rattle.player_core.proofs.Follow.{step_as}
use Rattle.player_core.proofs.body.Body.abandon.Goals as goal

-- where the test gives a rung, the download is given up for it
abandons_for : (k : Case) (p : Player) (d : Download) (q : ℕ) → k.setup.abandon ≡ true → p.download ≡ Some d → Some q ≡ abandonment k.film d.segment d.rung (progress_of k.film p.t d) → gives_up k p d (Some q) ≡ abandon k p
abandons_for k p d q on runs given =
    sym (cond-true k.setup.abandon (gives_up_any k p p.download) p on ∙ ap (gives_up_any k p) runs ∙ ap (gives_up k p d) (sym given))

pub returns-in-Some-rung_instead-clause-abandons : goal.returns-in-Some-rung_instead-clause-abandons
returns-in-Some-rung_instead-clause-abandons g c =
    IfOk-weaker c.give_up.result _ _
    (λ x given kind.
    let k = case_on c.args.course.now kind in
    let d = download_of c.in-Some.d in
    step_as _ (abandon k) c.args.self.now c.give_up.new.self
    (λ history. abandons_for k (seen c.args.self.now history) d c.in-Some-rung_instead.to (ap (λ (s : Setup). s.abandon) (sym c.setup.ensures.value) ∙ c.if-not-setup.false) (ap (option_map download_of) c.in-Some.is)
    (sym c.in-Some-rung_instead.is ∙ c.rung_instead.ensures.value ∙ ap (λ f. abandonment f d.segment d.rung (progress_of f c.args.self.now.t d)) c.film.ensures.value))
    (given kind))
    c.give_up.ensures.gives_up
