-- How the coarse frontiers are held in layers, chain by chain, and counted.
use Rattle.std.proofs.Common.{◌≡◌, ◌∙◌, ℕ, ◌+◌, ◌<◌, ◌≤◌, ⊎_elim, List, [], ◌∷◌, ◌++◌, length, get_or, map, sym, ap, subst, arith, length-append}
use Rattle.std.specs.Prelude.{Vec, Result, Ok, Err}
use Rattle.std.specs.Result.{IsErrAnd}
use Rattle.std.specs.Global.{Global}
use Rattle.std.proofs.Math.ListN.{get_or-map}
use Rattle.std.proofs.Math.Seq.{get_or-append_seam}
use Rattle.std.proofs.lemmas.Bool.{cases_lt}
use Rattle.std.proofs.lemmas.List.{get_or_append_left, map-append}
use Rattle.std.proofs.lemmas.List.FromFn.{get_or-map-range_with_len}
use Rattle.lab_model.specs.declared.label.Label.{Label}
use Rattle.lab_model.specs.Ladder.{rungs_below}
use Rattle.lab_model.proofs.Rungs.{rungs_more}
use Rattle.lab_model.specs.Film.{segments_of}
use Rattle.label_arena.specs.Chains.{Holdings}
use Rattle.labels.specs.Grid.{Rounding}
use Rattle.frontier_planner.specs.declared.frontiers.Frontiers.{Frontiers}
use Rattle.frontier_planner.specs.declared.frontiers.Layer.{Layer}
use Rattle.frontier_planner.specs.declared.plans.PlanErr.{PlanErr}
use Rattle.frontier_planner.specs.declared.plans.PlanErr.TheVariants as fault
use Rattle.labels.specs.Grown.{grown, grown_labels}
use Rattle.player_core.specs.Scene.{Task}
use Rattle.frontier_planner.specs.Layers.{FrontiersAnswer, HoldAll, HoldsFrontiers, SegmentAnswer, held}
use Rattle.labels.specs.Read.{SpentAt, labels_before}
use Rattle.labels.proofs.Counted.{before_next}

-- the chains of one rung more
pub held_more : (chains more : List (Vec Label Global)) (v : Vec Label Global) (chain : ℕ → List Label) (r : ℕ) → held chains ≡ map chain (rungs_below r) → v.items ≡ chain r → more ≡ chains ++ v ∷ []
    → held more ≡ map chain (rungs_below (r + 1))
held_more chains more v chain r h e pushed =
    ap held pushed ∙ map-append (λ (w : Vec Label Global). w.items) chains (v ∷ []) ∙ ap (λ ls. ls ++ v.items ∷ []) h ∙ ap (λ l. map chain (rungs_below r) ++ l ∷ []) e
    ∙ sym (map-append chain (rungs_below r) (r ∷ [])) ∙ ap (map chain) (sym (rungs_more r))

-- the chain of a rung among the first rungs
pub held_at : (chains : List (Vec Label Global)) (chain : ℕ → List Label) (n r : ℕ) (v : Vec Label Global) → held chains ≡ map chain (rungs_below n) → r < n → (get_or chains r v).items ≡ chain r
held_at chains chain n r v h low =
    sym (get_or-map (λ (w : Vec Label Global). w.items) chains r v)
    ∙ ap (λ ls. get_or ls r v.items) h ∙ get_or-map-range_with_len chain 0 n r r v.items low (omega arith)

-- ---- all layers

-- no layers
pub hold_none : (d : Rounding) (g : Task) (layers : List Layer) → layers ≡ [] → HoldAll d g layers
hold_none d g layers none i x low = let long = ap length none in absurd (omega (arith, low, long))

-- one layer more
pub hold_more : (d : Rounding) (g : Task) (layers more : List Layer) (l : Layer) → HoldAll d g layers → HoldsFrontiers d g (length layers) l → more ≡ layers ++ l ∷ [] → HoldAll d g more
hold_more d g layers more l h one pushed i x low =
    let long = ap length pushed ∙ length-append layers (l ∷ []) in
    subst (λ ls. HoldsFrontiers d g i (get_or ls i x)) (sym pushed)
    (⊎_elim (λ (old : i < length layers). subst (HoldsFrontiers d g i) (sym (get_or_append_left layers (l ∷ []) x i old)) (h i x old))
    (λ (new : length layers ≤ i).
    let e : length layers ≡ i = omega (arith, low, long, new) in
    subst (λ n. HoldsFrontiers d g n (get_or (layers ++ l ∷ []) n x)) e (subst (HoldsFrontiers d g (length layers)) (sym (get_or-append_seam layers l [] x)) one)) (cases_lt i (length layers)))

-- where a segment has more labels than are left, the budget is spent at it
pub spent_here : (d : Rounding) (g : Task) (budget left i s : ℕ) → i < segments_of g.film → left + labels_before g (grown d g) i ≡ budget → (s ≡ i) × (left < length (grown_labels d g i)) → SpentAt g (grown d g) budget s
spent_here d g budget left i s low sum h =
    let more = before_next g (grown d g) i in
    let above = h.1 in
    subst (SpentAt g (grown d g) budget) (sym h.0) (record { inside = low; before = omega (arith, sum); above = omega (arith, sum, more, above) })

-- where a segment has no answer there is none for all
pub frontiers_stop : (d : Rounding) (g : Task) (budget left i : ℕ) (a b : Holdings) (r : Result ℕ PlanErr) (s : Result Frontiers PlanErr) (e : PlanErr) → i < segments_of g.film → left + labels_before g (grown d g) i ≡ budget
    → r ≡ Err e → IsErrAnd s (λ x. x ≡ e) → SegmentAnswer d g i left a b r → FrontiersAnswer d g budget s
frontiers_stop d g budget left i a b r (Ok v) e low sum is same h = absurd same
frontiers_stop d g budget left i a b r (Err x) e low sum is same h = stopped x (subst (SegmentAnswer d g i left a b) (is ∙ ap Err (sym same)) h)
  where
    stopped : (x : PlanErr) → SegmentAnswer d g i left a b (Err x) → FrontiersAnswer d g budget (Err x)
    stopped (fault.BudgetSpent segment) k = spent_here d g budget left i segment low sum k
    stopped fault.Memory k = tt
