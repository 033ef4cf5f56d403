use Rattle.std.proofs.Common.{◌≡◌, ◌+◌, subst, ap}
use Rattle.player_core.specs.State.{Player}
use Rattle.player_core.specs.Quiet.{moves_in}
use Rattle.player_core.specs.Seen.{seen}
use Rattle.player_core.proofs.body.Body.glide.Goals as goal

pub returns-clause-glides : goal.returns-clause-glides
returns-clause-glides c = λ knows kind history.
    let ms = c.args.ms in
    let taken = c.take_all.ensures.takes knows kind history in
    let moved = subst (λ (v : Player). seen c.move_on.new.self (moves_in ms v v.mode).history ≡ moves_in ms v v.mode) taken (c.move_on.ensures.moves history) in
    ap (λ (r : Player). record r { t = r.t + ms }) moved
