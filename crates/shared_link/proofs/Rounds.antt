-- The lists that a turn of the loop reads and writes: a loop's Vec lent as a slice has its elements, and has what was written when it comes back.
use Rattle.std.proofs.Common.{◌≡◌, ◌∙◌, ℕ, List, ◌++◌, length, take, drop, sym, ap, subst, append-nil, arith}
use Rattle.std.proofs.lemmas.List.{drop_all, take_all}
use Rattle.lab_model.specs.Rules.{RuleKind}
use Rattle.player_core.specs.declared.body.Body.{Body}
use Rattle.player_core.specs.declared.course.Course.{Course}
use Rattle.shared_link.specs.Joint.{IsJoint, instants, players_after}
use Rattle.shared_link.specs.Table.{AllCanMeet, AllMeet, IsPlainCourse, joint_on_course}
use Rattle.shared_link.proofs.Top.{AtTop, Sit, top_meets, top_met}

-- as many elements as there were are all that is there
pub written : {X : Type 0} (n : ℕ) (xs ys : List X) → length xs ≡ n → length ys ≡ n → take n (ys ++ drop (length ys) xs) ≡ ys
written n xs ys before after =
    ap (λ zs. take n (ys ++ zs)) (drop_all (length ys) xs (omega (arith, before, after)))
    ∙ ap (λ zs. take n zs) (append-nil ys) ∙ take_all n ys (omega (arith, after))

module _ (o : Course) (kinds : List RuleKind) (is : IsJoint (joint_on_course o kinds)) (plain : IsPlainCourse o) {R : Type 0} (kind : R → RuleKind) (stands_for : R → List ℕ → Type 0) (n : ℕ)
    (old lent : List Body) (rules heard : List R) (same : lent ≡ old) (same_rules : heard ≡ rules) (top : AtTop kind stands_for o kinds n old rules) where
  lent_top : AtTop kind stands_for o kinds n lent heard
  lent_top = subst (λ bs. AtTop kind stands_for o kinds n bs heard) (sym same) (subst (AtTop kind stands_for o kinds n old) (sym same_rules) top)

  -- the instant can come
  pub round_meets : AllCanMeet kind o lent heard
  round_meets = top_meets o kinds is plain kind stands_for n lent heard lent_top

  -- and after it bodies and rules stand for the players after it
  pub round_met : (news : List Body) (told : List R) → AllMeet kind stands_for o lent news heard told → Sit kind stands_for o kinds (instants (joint_on_course o kinds) (players_after (joint_on_course o kinds) n)) news told
  round_met news told all = top_met o kinds is plain kind stands_for n lent heard news told lent_top all
