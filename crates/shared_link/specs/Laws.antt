-- What is true of every joint session.
use Rattle.std.specs.Prelude.{◌≡◌, ℕ, ◌<◌, true}
use Rattle.lab_model.specs.declared.trace.Period.{Period}
use Rattle.player_core.specs.Limits.{latest_ms}
use Rattle.player_core.specs.Session.{session_of}
use Rattle.player_core.specs.State.{Case}
use Rattle.shared_link.specs.Joint.{IsJoint, JointCase, all_end_at, case_at, instants, joint_end, joint_session, players_after, players_of, share_of}

-- the share of the link at an instant of the joint session
abbrev pub share_at : JointCase → ℕ → Period
share_at j n = share_of j n (instants j (players_after j n))

-- one player's case on its share of the link
abbrev pub own_case : JointCase → ℕ → Case
own_case j i = record (case_at j i) { network = share_at j }

-- a joint session ends before 10 ^ 15: at its end each player has ended
pub record JointEnds (j : JointCase) : Type 0 where
  pub early : joint_end j < latest_ms
  pub ended : all_end_at j (joint_end j) ≡ true

-- the law: so does every joint session within the limits
abbrev pub JointSessionsEnd : Type 0
JointSessionsEnd = (j : JointCase) → IsJoint j → JointEnds j

-- the law: each player's part of it is the session of that player on its share of the link
abbrev pub SessionsAreOwn : Type 0
SessionsAreOwn = (j : JointCase) → IsJoint j → (i : ℕ) → i < players_of j → joint_session j i ≡ session_of (own_case j i)

-- the law: the joint session of one rule is the session of that rule
abbrev pub AloneIsLone : Type 0
AloneIsLone = (j : JointCase) → IsJoint j → players_of j ≡ 1 → joint_session j 0 ≡ session_of (case_at j 0)
