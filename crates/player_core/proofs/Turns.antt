-- The turns of a session's loop: what is true at the top of each, and what a turn makes of it.
use Rattle.std.proofs.Common.{◌≡◌, ◌∙◌, ℕ, ◌+◌, ◌<◌, ◌≤◌, List, [], refl, sym, ap, subst, arith}
use Rattle.lab_model.specs.Rules.{RuleKind}
use Rattle.player_core.specs.declared.body.Body.{Body}
use Rattle.player_core.specs.declared.course.Course.{Course}
use Rattle.player_core.specs.Limits.{latest_ms}
use Rattle.player_core.specs.State.{Player, first_player}
use Rattle.player_core.specs.Course.{case_on}
use Rattle.player_core.specs.Parts.{instant}
use Rattle.player_core.specs.Session.{player_after}
use Rattle.player_core.specs.Sound.{IsCase}
use Rattle.player_core.specs.Seen.{Hears, LeftAt, StandsAt, Waits, seen}
use Rattle.player_core.proofs.Chain.{at_early, start_stands, start_told}

-- at the top of a turn the body and the rule stand for the player at the body's instant, and each turn took a millisecond
pub record AtTop {R : Type 0} (kind : R → RuleKind) (stands_for : R → List ℕ → Type 0) (o : Course) (first rule : R) (b : Body) (turns : ℕ) : Type 0 where
  pub same : kind rule ≡ kind first
  pub told : stands_for rule (player_after (case_on o (kind first)) b.t).history
  pub stands : StandsAt (case_on o (kind first)) b
  pub later : turns ≤ b.t

-- what an instant needs of the body and the rule
pub record CanTurn {R : Type 0} (kind : R → RuleKind) (stands_for : R → List ℕ → Type 0) (o : Course) (rule : R) (b : Body) : Type 0 where
  pub case : IsCase (case_on o (kind rule))
  pub stands : StandsAt (case_on o (kind rule)) b
  pub told : stands_for rule (player_after (case_on o (kind rule)) b.t).history

module _ {R : Type 0} (kind : R → RuleKind) (stands_for : R → List ℕ → Type 0) (o : Course) (first : R) where
  -- at the top of the first turn
  pub top_first : (b : Body) → seen b [] ≡ first_player → stands_for first [] → AtTop kind stands_for o first first b 0
  top_first b e told = record {
    same = refl;
    told = start_told (case_on o (kind first)) b e (stands_for first) told;
    stands = start_stands (case_on o (kind first)) b e;
    later = omega arith;
  }

  module _ (is : IsCase (case_on o (kind first))) (rule : R) (b : Body) (turns : ℕ) (top : AtTop kind stands_for o first rule b turns) where
    -- the instant can come
    pub top_turns : CanTurn kind stands_for o rule b
    top_turns = record {
      case = subst (λ k. IsCase (case_on o k)) (sym top.same) is;
      stands = subst (λ k. StandsAt (case_on o k) b) (sym top.same) top.stands;
      told = subst (λ k. stands_for rule (player_after (case_on o k) b.t).history) (sym top.same) top.told;
    }

    -- there are fewer turns than milliseconds in any session
    pub top_early : turns < latest_ms
    top_early = let early = at_early (case_on o (kind first)) is b top.stands in let later = top.later in omega (arith, early, later)

    -- what an instant leaves with this rule it leaves with the first
    pub top_left : (a : Body) → LeftAt (case_on o (kind rule)) a → LeftAt (case_on o (kind first)) a
    top_left a left = subst (λ k. LeftAt (case_on o k) a) top.same left

    -- after the instant and a wait it is the top of the next turn
    pub top_next : (heard : R) (a r : Body) (next : ℕ) → next ≤ turns + 1 → a.t ≡ b.t → Hears kind stands_for o instant b rule heard → Waits (case_on o (kind first)) a r
        → AtTop kind stands_for o first heard r next
    top_next heard a r next count at hears waits =
        let c = case_on o (kind first) in
        let later = top.later in
        let past = waits.later in
        let told = subst (λ (p : Player). stands_for heard (instant (case_on o (kind rule)) p).history) top.stands.stands (hears.told (player_after c b.t).history top.told) in
        record {
          same = hears.same ∙ top.same;
          told = subst (stands_for heard) (sym (waits.told ∙ ap (λ n. (instant c (player_after c n)).history) at))
              (subst (λ k. stands_for heard (instant (case_on o k) (player_after c b.t)).history) top.same told);
          stands = waits.stands;
          later = omega (arith, later, past, at, count);
        }
