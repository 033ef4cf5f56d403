-- Labels along a rung list: they depend on the rungs so far alone.
use Rattle.std.proofs.Common.{◌≡◌, ◌∙◌, ℕ, zero, suc, ◌<◌, ◌≤◌, List, [], ◌∷◌, ◌++◌, length, refl, sym, ap, arith}
use Rattle.std.specs.Prelude.{slice_index}
use Rattle.std.proofs.Math.Seq.{get_or-append_seam}
use Rattle.std.proofs.lemmas.List.{get_or_append_left}
use Rattle.player_core.specs.Scene.{Task}
use Rattle.labels.specs.Labels.{label_at, next_label, start_label}

module _ (g : Task) where
  -- the first label is the start label of the first rung
  pub label_first : (rungs : List ℕ) → label_at g rungs 0 ≡ start_label g (slice_index rungs 0)
  unfolding label_at
  label_first rungs = refl

  -- each other is the successor of the one before
  pub label_next : (rungs : List ℕ) (i : ℕ) → label_at g rungs (suc i) ≡ next_label g (suc i) (slice_index rungs i) (label_at g rungs i) (slice_index rungs (suc i))
  unfolding label_at
  label_next rungs i = refl

  -- lists with the same rungs so far have the same label
  pub label_same : (a b : List ℕ) (i : ℕ) → ((j : ℕ) → j ≤ i → slice_index a j ≡ slice_index b j) → label_at g a i ≡ label_at g b i
  label_same a b zero h = label_first a ∙ ap (start_label g) (h 0 (omega arith)) ∙ sym (label_first b)
  label_same a b (suc i) h =
      let before = label_same a b i (λ j low. h j (omega arith)) in
      label_next a i ∙ ap (λ q. next_label g (suc i) q (label_at g a i) (slice_index a (suc i))) (h i (omega arith))
      ∙ ap (λ l. next_label g (suc i) (slice_index b i) l (slice_index a (suc i))) before
      ∙ ap (λ r. next_label g (suc i) (slice_index b i) (label_at g b i) r) (h (suc i) (omega arith)) ∙ sym (label_next b i)

  -- one rung more
  pub label_push : (before : List ℕ) (r i : ℕ) → length before ≡ suc i → label_at g (before ++ r ∷ []) (suc i) ≡ next_label g (suc i) (slice_index before i) (label_at g before i) r
  label_push before r i long =
      let old = λ (j : ℕ) (low : j < length before). get_or_append_left before (r ∷ []) 0 j low in
      label_next (before ++ r ∷ []) i ∙ ap (λ q. next_label g (suc i) q (label_at g (before ++ r ∷ []) i) (slice_index (before ++ r ∷ []) (suc i))) (old i (omega arith))
      ∙ ap (λ l. next_label g (suc i) (slice_index before i) l (slice_index (before ++ r ∷ []) (suc i))) (label_same (before ++ r ∷ []) before i (λ j low. old j (omega arith)))
      ∙ ap (λ q. next_label g (suc i) (slice_index before i) (label_at g before i) q) (ap (λ n. slice_index (before ++ r ∷ []) n) (sym long) ∙ get_or-append_seam before r [] 0)
