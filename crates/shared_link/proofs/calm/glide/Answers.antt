use Rattle.std.proofs.Common.{◌≡◌, ◌∙◌, ◌+◌, ◌-◌, subst, sym, ap, false}
use Rattle.std.proofs.lemmas.Bool.{true≢false}
use Rattle.player_core.specs.State.{Player}
use Rattle.player_core.specs.Parts.{is_ended}
use Rattle.player_core.specs.Quiet.{moves_in}
use Rattle.player_core.specs.Seen.{IsTimed, mode_of, seen}
use Rattle.player_core.specs.Course.{case_on}
use Rattle.lab_model.specs.Rules.{fixed}
use Rattle.shared_link.proofs.calm.glide.Goals as goal

pub returns : goal.returns
returns c =
    let goes : is_ended (mode_of c.args.body.now.mode) ≡ false = sym c.is_ended.ensures ∙ c.if-is_ended.false in
    let k = case_on c.args.lane.now.stage.course.now (fixed 0) in
    record {
      over = λ ended. absurd (true≢false (sym ended ∙ goes));
      glides = λ on knows kind history.
          let ms = c.args.until - c.args.body.now.t in
          let taken = c.take_all.ensures.takes knows kind history in
          let moved = subst (λ (v : Player). seen c.move_on.new.self (moves_in ms v v.mode).history ≡ moves_in ms v v.mode) taken (c.move_on.ensures.moves history) in
          ap (λ (r : Player). record r { t = r.t + ms }) moved;
      timed = λ knows. subst (IsTimed k.film k.network) (sym c.move_on.ensures.same.1) (c.take_all.ensures.timed knows);
    }
