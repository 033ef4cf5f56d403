-- Coarse frontiers: how they grow, and that they cover all rung lists.
use Rattle.std.proofs.Common.{◌≡◌, ℕ, suc, ◌<◌, ⊎_elim, List, [], ◌∷◌, refl, sym, subst, add-one}
use Rattle.std.specs.List.{Contains}
use Rattle.lab_model.specs.declared.label.Label.{Label}
use Rattle.lab_model.specs.Film.{rungs_of}
use Rattle.player_core.specs.Scene.{Task}
use Rattle.labels.specs.Labels.{next_label, start_label}
use Rattle.labels.specs.Frontier.{by_rung, undominated}
use Rattle.labels.specs.Grid.{IsGrid, Rounding, rounded}
use Rattle.labels.specs.Grown.{grown, successors}
use Rattle.labels.specs.Covers.{Covers, HasAbove}
use Rattle.labels.proofs.Kept.{above_undominated, dominates_trans, undominated_in}
use Rattle.labels.proofs.Rounds.{round_dominates}
use Rattle.labels.proofs.Walks.{at_head, first_or_rest, from_map, in_by_rung, in_map, none_at}

module _ (d : Rounding) (g : Task) where
  -- segment 0 has the rounded start label
  pub grown_first : (q : ℕ) → grown d g 0 q ≡ rounded d (start_label g q) ∷ []
  unfolding grown
  grown_first q = refl

  -- each other segment has what is left of the rounded successors
  pub grown_next : (i r : ℕ) → grown d g (suc i) r ≡ undominated (successors d g (suc i) (grown d g i) r)
  unfolding grown
  grown_next i r = refl

  -- a label's rounded successor stands among the successors
  pub in_successors : (segment : ℕ) (chain : ℕ → List Label) (q r : ℕ) (l : Label) → q < rungs_of g.film → Contains (chain q) l → Contains (successors d g segment chain r) (rounded d (next_label g segment q l r))
  in_successors segment chain q r l low h =
      in_map (λ c. rounded d (next_label g segment c.0 c.1 r)) (by_rung (rungs_of g.film) chain) (q, l) (in_by_rung (rungs_of g.film) chain q l low h)

  -- and nothing else does
  pub from_successors : (segment : ℕ) (chain : ℕ → List Label) (r : ℕ) (l : Label) → Contains (successors d g segment chain r) l
      → (c : ℕ × Label) × Contains (by_rung (rungs_of g.film) chain) c × (rounded d (next_label g segment c.0 c.1 r) ≡ l)
  from_successors segment chain r l h = from_map (λ c. rounded d (next_label g segment c.0 c.1 r)) (by_rung (rungs_of g.film) chain) l h

  -- the one label of segment 0
  pub from_first : (q : ℕ) (l : Label) → Contains (grown d g 0 q) l → rounded d (start_label g q) ≡ l
  from_first q l h = ⊎_elim (λ (e : rounded d (start_label g q) ≡ l). e) (λ none. absurd (none_at l none)) (first_or_rest (rounded d (start_label g q)) [] l (subst (λ ls. Contains ls l) (grown_first q) h))

  -- a label of a later segment is the rounded successor of one before it
  pub from_next : (i r : ℕ) (l : Label) → Contains (grown d g (suc i) r) l
      → (c : ℕ × Label) × Contains (by_rung (rungs_of g.film) (grown d g i)) c × (rounded d (next_label g (suc i) c.0 c.1 r) ≡ l)
  from_next i r l h =
      from_successors (suc i) (grown d g i) r l (undominated_in (successors d g (suc i) (grown d g i) r) l (subst (λ ls. Contains ls l) (grown_next i r) h)).0

  -- coarse frontiers cover all rung lists
  pub grown_covers : IsGrid d → Covers g (grown d g)
  grown_covers is = record {
    starts = λ q low. let l = rounded d (start_label g q) in (l, subst (λ ls. Contains ls l) (sym (grown_first q)) (at_head l []), round_dominates d is (start_label g q));
    goes_on = λ i q r next low rung l h.
        let after = next_label g (suc i) q l r in
        let up = above_undominated (successors d g (suc i) (grown d g i) r) (rounded d after) (in_successors (suc i) (grown d g i) q r l low h) in
        let here = subst (λ ls. Contains ls up.0) (sym (grown_next i r)) up.1 in
        let over = dominates_trans up.0 (rounded d after) after up.2 (round_dominates d is after) in
        subst (λ k. HasAbove (grown d g k r) (next_label g k q l r)) (sym (add-one i)) (up.0, here, over);
  }
