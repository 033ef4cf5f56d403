use Rattle.std.proofs.Common.{ℕ, ◌+◌, ◌<◌, ◌≤◌, get_or}
use Rattle.player_core.specs.declared.body.Body.{Body}
use Rattle.player_core.specs.Limits.{latest_ms}
use Rattle.shared_link.specs.Calm.{StaysCalm}
use Rattle.shared_link.specs.Table.{BodyGoesOn}
use Rattle.shared_link.proofs.calm.all_calm_until.Given as goal

abbrev pub invariant-loop-body : goal.invariant-loop-body
invariant-loop-body l = record {
  later : l.t < l.until;
  limit : l.until ≤ l.t + latest_ms;
  calm : (i : ℕ) (b : Body) → i < l.body-index → BodyGoesOn (get_or l.bodies i b) → StaysCalm l.lane.stage.course.now l.lane.takers l.until (get_or l.bodies i b);
}
