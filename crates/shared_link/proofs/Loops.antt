-- Loops that write one place of a list after the other: below the index the places are new, from it on they are old.
use Rattle.std.proofs.Common.{◌≡◌, ◌∙◌, ℕ, ◌+◌, ◌<◌, ◌≤◌, List, length, get_or, set, refl, sym, subst, ⊎_elim, arith}
use Rattle.std.proofs.lemmas.Bool.{cases_eq}
use Rattle.std.proofs.lemmas.List.{get_or-set_other, get_or-set_same, get_or_read, length-set}
use Rattle.lab_model.specs.Rules.{RuleKind}
use Rattle.player_core.specs.declared.body.Body.{Body}
use Rattle.player_core.specs.declared.course.Course.{Course}
use Rattle.shared_link.specs.Table.{Meets}

-- the places below a number are new, and each is what its old one was made to be
pub record Below {X : Type 0} (made : X → X → Type 0) (olds : List X) (n : ℕ) (news : List X) : Type 0 where
  pub count : length news ≡ length olds
  pub done : (i : ℕ) (d : X) → i < n → made (get_or olds i d) (get_or news i d)
  pub rest : (i : ℕ) (d : X) → n ≤ i → get_or news i d ≡ get_or olds i d

module _ {X : Type 0} (made : X → X → Type 0) (olds : List X) where
  -- before the first place none is new
  pub below_first : Below made olds 0 olds
  below_first = record { count = refl; done = λ i d low. absurd (omega arith); rest = λ i d late. refl }

  -- and then the next one is
  pub below_next : (news : List X) (n : ℕ) (old new : X) → Below made olds n news → n < length news → old ≡ get_or news n old → made old new → Below made olds (n + 1) (set news n new)
  below_next news n old new h inside was here = record {
    count = length-set news n new ∙ h.count;
    done = λ i d low.
        ⊎_elim
        (λ (same : i ≡ n).
        let before : old ≡ get_or olds n d = get_or_read news n old inside was d ∙ h.rest n d (omega arith) in
        subst (λ k. made (get_or olds k d) (get_or (set news n new) k d)) (sym same)
        (subst (λ x. made x (get_or (set news n new) n d)) before (subst (made old) (sym (get_or-set_same news n new d inside)) here)))
        (λ (other : i ≡ n → ⊥). subst (made (get_or olds i d)) (sym (get_or-set_other news n i new d other)) (h.done i d (omega (arith, low, other))))
        (cases_eq i n);
    rest = λ i d late. get_or-set_other news n i new d (λ same. absurd (omega (arith, late, same))) ∙ h.rest i d (omega (arith, late));
  }

-- below a number an instant has come for bodies and rules
pub record Met {R : Type 0} (kind : R → RuleKind) (stands_for : R → List ℕ → Type 0) (o : Course) (olds : List Body) (rules : List R) (n : ℕ) (news : List Body) (heard : List R) : Type 0 where
  pub bodies : length news ≡ length olds
  pub count : length heard ≡ length rules
  pub done : (i : ℕ) (b : Body) (r : R) → i < n → Meets kind stands_for o (get_or olds i b) (get_or news i b) (get_or rules i r) (get_or heard i r)
  pub rest : (i : ℕ) (b : Body) → n ≤ i → get_or news i b ≡ get_or olds i b
  pub waiting : (i : ℕ) (r : R) → n ≤ i → get_or heard i r ≡ get_or rules i r

module _ {R : Type 0} (kind : R → RuleKind) (stands_for : R → List ℕ → Type 0) (o : Course) (olds : List Body) (rules : List R) where
  -- before the first place it has come for none
  pub met_first : Met kind stands_for o olds rules 0 olds rules
  met_first = record { bodies = refl; count = refl; done = λ i b r low. absurd (omega arith); rest = λ i b late. refl; waiting = λ i r late. refl }

  -- and then it comes for the next one
  pub met_next : (news : List Body) (heard : List R) (n : ℕ) (old new : Body) (rule told : R) → Met kind stands_for o olds rules n news heard → n < length news → n < length heard
      → old ≡ get_or news n old → rule ≡ get_or heard n rule → Meets kind stands_for o old new rule told → Met kind stands_for o olds rules (n + 1) (set news n new) (set heard n told)
  met_next news heard n old new rule told h inside within was had here = record {
    bodies = length-set news n new ∙ h.bodies;
    count = length-set heard n told ∙ h.count;
    done = λ i b r low.
        ⊎_elim
        (λ (same : i ≡ n).
        let body : old ≡ get_or olds n b = get_or_read news n old inside was b ∙ h.rest n b (omega arith) in
        let first : rule ≡ get_or rules n r = get_or_read heard n rule within had r ∙ h.waiting n r (omega arith) in
        subst (λ k. Meets kind stands_for o (get_or olds k b) (get_or (set news n new) k b) (get_or rules k r) (get_or (set heard n told) k r)) (sym same)
        (subst (λ x. Meets kind stands_for o x (get_or (set news n new) n b) (get_or rules n r) (get_or (set heard n told) n r)) body
        (subst (λ x. Meets kind stands_for o old x (get_or rules n r) (get_or (set heard n told) n r)) (sym (get_or-set_same news n new b inside))
        (subst (λ x. Meets kind stands_for o old new x (get_or (set heard n told) n r)) first
        (subst (Meets kind stands_for o old new rule) (sym (get_or-set_same heard n told r within)) here)))))
        (λ (other : i ≡ n → ⊥).
        subst (λ x. Meets kind stands_for o (get_or olds i b) x (get_or rules i r) (get_or (set heard n told) i r)) (sym (get_or-set_other news n i new b other))
        (subst (Meets kind stands_for o (get_or olds i b) (get_or news i b) (get_or rules i r)) (sym (get_or-set_other heard n i told r other)) (h.done i b r (omega (arith, low, other)))))
        (cases_eq i n);
    rest = λ i b late. get_or-set_other news n i new b (λ same. absurd (omega (arith, late, same))) ∙ h.rest i b (omega (arith, late));
    waiting = λ i r late. get_or-set_other heard n i told r (λ same. absurd (omega (arith, late, same))) ∙ h.waiting i r (omega (arith, late));
  }
