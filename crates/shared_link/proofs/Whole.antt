-- What the sessions of a joint session within the limits keep.
use Rattle.std.proofs.Common.{◌≡◌, ◌∙◌, ◌<◌, false, List, length, get_or, map, sym, ap, subst, arith}
use Rattle.lab_model.specs.Limits.{all_ahead}
use Rattle.std.specs.List.{All}
use Rattle.std.proofs.lemmas.List.{length-map}
use Rattle.std.proofs.lemmas.List.Elements.{All-map}
use Rattle.lab_model.specs.declared.trace.Period.{Period}
use Rattle.lab_model.specs.declared.setup.Setup.{Setup}
use Rattle.lab_model.specs.Cycle.{IsTrace}
use Rattle.lab_model.specs.Film.{Film, IsFilm, IsWithin}
use Rattle.lab_model.specs.Fit.{SetupFits}
use Rattle.lab_model.specs.Rules.{KindFits, RuleKind}
use Rattle.player_core.specs.declared.session.Session.{Session}
use Rattle.player_core.specs.Scene.{IsTask, Task, task_of}
use Rattle.player_core.specs.Session.{session_of, shown}
use Rattle.player_core.proofs.Chain.{session_count, session_ends, session_rungs, session_times}
use Rattle.shared_link.specs.Joint.{IsJoint, JointCase, case_at, joint_of, joint_session, players_of}
use Rattle.shared_link.specs.Laws.{own_case}
use Rattle.shared_link.specs.Table.{AreSessions, IsWholeSession}
use Rattle.shared_link.proofs.Own.{alone_is_lone, own_is_case, session_own}

-- what the joint session is called with keeps the limits
pub is_joint : {R : Type 0} (kind : R → RuleKind) (f : Film) (ps : List Period) (set : Setup) (rs : List R) → IsFilm f → IsTrace ps → SetupFits set f → set.abandon ≡ false → IsWithin 1 8 (length rs) → All (λ r. KindFits (kind r) f) rs
    → IsJoint (joint_of f ps set (map kind rs))
is_joint kind f ps set rs film trace setup keeps players rules = record {
  film = film;
  trace = trace;
  setup = setup;
  keeps = keeps;
  players = subst (IsWithin 1 8) (sym (length-map rs kind)) players;
  rules = All-map (λ r. KindFits r f) kind rs rules;
}

-- the same where it is told by the scene that is made of it
module _ {R : Type 0} (kind : R → RuleKind) (f : Film) (ps qs : List Period) (set : Setup) (rs : List R) (scene : Task) (value : scene ≡ task_of f qs set all_ahead) (trace : qs ≡ ps) where
  pub scene_same : joint_of scene.film scene.periods scene.setup (map kind rs) ≡ joint_of f ps set (map kind rs)
  scene_same = ap (λ (g : Task). joint_of g.film g.periods g.setup (map kind rs)) value ∙ ap (λ p. joint_of f p set (map kind rs)) trace

  pub scene_joint : IsTask scene → SetupFits set f → set.abandon ≡ false → IsWithin 1 8 (length rs) → All (λ r. KindFits (kind r) f) rs → IsJoint (joint_of f ps set (map kind rs))
  scene_joint task setup keeps players rules =
      let there = subst IsTask value task in
      is_joint kind f ps set rs there.film (subst IsTrace trace there.trace) setup keeps players rules

module _ (j : JointCase) (is : IsJoint j) (ss : List Session) (are : AreSessions j ss) where
  -- each keeps what every session does
  pub all_whole : All (IsWholeSession j.film) ss
  all_whole i s low =
      let count = are.count in
      let inside : i < players_of j = omega (arith, low, count) in
      let c = own_case j i in
      let case = own_is_case j is i inside in
      let same = are.each i s inside ∙ session_own j is i inside in
      let session = get_or ss i s in
      record {
        rungs = session_rungs c case session same;
        count = session_count c case session same;
        ends = session_ends c case session same;
        times = session_times c case session same;
      }

  -- of one rule it is that of the rule
  pub all_alone : players_of j ≡ 1 → All (λ s. shown s ≡ session_of (case_at j 0)) ss
  all_alone one i s low =
      let count = are.count in
      let first : i ≡ 0 = omega (arith, low, count, one) in
      are.each i s (omega (arith, low, count)) ∙ ap (joint_session j) first ∙ alone_is_lone j is one
