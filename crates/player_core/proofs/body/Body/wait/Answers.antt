use Rattle.player_core.proofs.Chain.{glide_left, pass_left, rest_left, waits_left}
use Rattle.player_core.proofs.body.Body.wait.Goals as goal

pub quiet_ms-quiet-requires : goal.quiet_ms-quiet-requires
quiet_ms-quiet-requires c = rest_left _ c.requires.case c.args.self.now c.requires.left c.requires.goes

pub pass-requires : goal.pass-requires
pass-requires c = pass_left _ c.requires.case c.args.self.now c.requires.left c.requires.goes

pub glide-requires : goal.glide-requires
glide-requires c =
    glide_left _ c.requires.case c.args.self.now c.requires.left c.requires.goes c.pass.new.self (c.in_ok-pass.ensures c.requires.rule)
    c.quiet_ms-quiet.result c.quiet_ms-quiet.ensures.limit (λ knows h. c.quiet_ms-quiet.ensures.quiet knows c.requires.rule h c.requires.case)

pub returns : goal.returns
returns c = λ kind is left.
    waits_left _ is c.args.self.now left c.requires.goes c.pass.new.self (c.in_ok-pass.ensures kind)
    c.quiet_ms-quiet.result c.quiet_ms-quiet.ensures.limit (λ knows h. c.quiet_ms-quiet.ensures.quiet knows kind h is)
    c.glide.new.self (λ knows. c.glide.ensures.glides knows kind) c.glide.ensures.instant c.glide.ensures.timed
