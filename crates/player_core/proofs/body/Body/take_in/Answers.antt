use Rattle.std.proofs.Common.{◌∙◌, Some, Option, option_map, sym, ap, subst}
use Rattle.player_core.specs.State.{Download}
use Rattle.player_core.specs.Parts.{takes_in}
use Rattle.player_core.specs.Seen.{IsTimed, download_of, seen}
use Rattle.player_core.proofs.Follow.{same_timed}
use Rattle.player_core.proofs.body.Body.take_in.Goals as goal

pub returns-in-Some-clause-takes : goal.returns-in-Some-clause-takes
returns-in-Some-clause-takes c = record {
  follows = λ history.
      ap (λ (d : Option Download). record (seen c.args.self.now history) { download = d })
      (ap Some c.take_in.ensures.takes ∙ ap (λ o. option_map (takes_in c.args.period c.args.self.now.t) (option_map download_of o)) (sym c.in-Some.is));
  timed = λ f network was. same_timed f network c.in-Some.d c.take_in.result c.take_in.ensures.same (subst (IsTimed f network) c.in-Some.is was);
}
