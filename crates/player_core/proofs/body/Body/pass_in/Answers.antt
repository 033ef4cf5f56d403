use Rattle.std.proofs.Common.{◌≡◌, ◌+◌, subst, sym, ap}
use Rattle.player_core.specs.State.{Player}
use Rattle.player_core.specs.Course.{case_on}
use Rattle.player_core.specs.Parts.{passes_in}
use Rattle.player_core.specs.Seen.{IsTimed, seen}
use Rattle.player_core.proofs.body.Body.pass_in.Goals as goal

pub returns : goal.returns
returns c = λ kind. record {
  follows = λ history.
      let k = case_on c.args.course.now kind in
      let taken = c.take_in.ensures.takes.follows history in
      let passed = subst (λ (v : Player). seen c.pass_in_mode.new.self (passes_in k v v.mode).history ≡ passes_in k v v.mode) taken (c.in_ok-pass_in_mode.ensures.passes kind history) in
      ap (λ (r : Player). record r { t = r.t + 1 }) passed;
  timed = λ f network was. subst (IsTimed f network) (sym c.in_ok-pass_in_mode.ensures.same.1) (c.take_in.ensures.takes.timed f network was);
}
