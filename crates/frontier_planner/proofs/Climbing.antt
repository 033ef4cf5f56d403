-- Chains that climb: what a pair of neighbours says of the chain, and the first label that dominates.
use Rattle.std.proofs.Common.{◌≡◌, ◌∙◌, ℕ, ◌+◌, ◌-◌, ◌<◌, ◌≤◌, ⊎_elim, List, length, get_or, sym, subst, arith}
use Rattle.std.specs.Prelude.{ℤ, ◌≤ℤ◌, ◌<ℤ◌}
use Rattle.std.proofs.lemmas.Bool.{cases_lt, false≢true}
use Rattle.std.proofs.lemmas.Int.{ints}
use Rattle.std.proofs.lemmas.List.{get_or_default}
use Rattle.std.proofs.lemmas.List.Sums.{fails_before_first}
use Rattle.lab_model.proofs.Orders.{≤ℤ_trans}
use Rattle.lab_model.specs.declared.label.Label.{Label}
use Rattle.frontier_planner.specs.Climbing.{ClimbsTo, IsClimbing, Reaches}
use Rattle.labels.specs.Covers.{HasAbove}
use Rattle.labels.specs.Labels.{Dominates, dominates}
use Rattle.labels.specs.Read.{no_label, place_above}
use Rattle.labels.proofs.Accepts.{place_found}
use Rattle.labels.proofs.Kept.{dominates_from}

-- ---- pair by pair

-- the labels before a place climb
abbrev pub ClimbsBelow : List Label → ℕ → Type 0
ClimbsBelow chain n = (i j : ℕ) → i < j → j < n → ClimbsTo (get_or chain i no_label) (get_or chain j no_label)

climbs_trans : (a b c : Label) → ClimbsTo a b → ClimbsTo b c → ClimbsTo a c
climbs_trans a b c h k =
    let t = h.0 in let u = k.0 in let p = h.1 in let q = k.1 in
    (omega (arith, t, u), omega (arith, p, q), ≤ℤ_trans a.v b.v c.v h.2 k.2)

-- one label alone climbs
pub climbs_one : (chain : List Label) → ClimbsBelow chain 1
climbs_one chain i j less low = absurd (omega (arith, less, low))

-- where the last climbs to the next, one label more climbs
pub climbs_more : (chain : List Label) (n : ℕ) → 1 ≤ n → ClimbsBelow chain n → ClimbsTo (get_or chain (n - 1) no_label) (get_or chain n no_label) → ClimbsBelow chain (n + 1)
climbs_more chain n some h next i j less low =
    ⊎_elim (λ (old : j < n). h i j less old)
    (λ (late : n ≤ j).
    let e : n ≡ j = omega (arith, low, late) in
    subst (λ k. ClimbsTo (get_or chain i no_label) (get_or chain k no_label)) e
    (⊎_elim (λ (before : i < n - 1). climbs_trans (get_or chain i no_label) (get_or chain (n - 1) no_label) (get_or chain n no_label) (h i (n - 1) before (omega (arith, some))) next)
    (λ (last : n - 1 ≤ i). let f : n - 1 ≡ i = omega (arith, last, less, e) in subst (λ k. ClimbsTo (get_or chain k no_label) (get_or chain n no_label)) f next) (cases_lt i (n - 1)))) (cases_lt j n)

-- where all labels climb, so does the chain
pub climbs_all : (chain : List Label) (n : ℕ) → length chain ≤ n → ClimbsBelow chain n → IsClimbing chain
climbs_all chain n long h i j d less low =
    subst (λ (x : Label). ClimbsTo x (get_or chain j d)) (get_or_default chain i no_label d (omega (arith, less, low)))
    (subst (λ (x : Label). ClimbsTo (get_or chain i no_label) x) (get_or_default chain j no_label d low) (h i j less (omega (arith, low, long))))

-- ---- where the chain comes to a value

module _ (chain : List Label) (climbs : IsClimbing chain) where
  between : (i j : ℕ) → i ≤ j → j < length chain → ClimbsTo (get_or chain i no_label) (get_or chain j no_label)
  between i j low inside =
      ⊎_elim (λ (less : i < j). climbs i j no_label less inside)
      (λ (same : j ≤ i). let e : i ≡ j = omega (arith, low, same) in subst (λ k. ClimbsTo (get_or chain i no_label) (get_or chain k no_label)) e (itself (get_or chain i no_label))) (cases_lt i j)
    where
      itself : (l : Label) → ClimbsTo l l
      itself l = (omega arith, omega arith, omega (arith, ints))

  short_before : (k i : ℕ) (value : ℤ) → Reaches chain k value → i < k → (get_or chain i no_label).v <ℤ value
  short_before k i value at low =
      let bound = at.bound in
      let rise = (between i (k - 1) (omega (arith, low)) (omega (arith, low, bound))).2 in
      under (get_or chain i no_label).v (get_or chain (k - 1) no_label).v value rise (at.before (omega (arith, low)))
    where
      under : (a b c : ℤ) → a ≤ℤ b → b <ℤ c → a <ℤ c
      under a b c h k = omega (arith, ints)

  no_both : (a b : ℤ) → a <ℤ b → b ≤ℤ a → ⊥
  no_both a b h k = absurd (omega (arith, ints, h, k))

  -- there the first label stands that dominates one with this value
  pub reached_above : (l : Label) (k : ℕ) → HasAbove chain l → Reaches chain k l.v → k ≡ place_above chain l
  reached_above l k above at =
      let test = λ (m : Label). dominates m l in
      let found = place_found chain l above in
      let place = place_above chain l in
      let inside = found.0 in
      let over = found.1 in
      let late : k ≤ place =
      ⊎_elim (λ (early : place < k). absurd (no_both (get_or chain place no_label).v l.v (short_before k place l.v at early) over.2)) (λ (e : k ≤ place). e) (cases_lt place k) in
      ⊎_elim
      (λ (less : k < place).
      let rise = between k place late inside in
      let time = rise.0 in
      let delay = rise.1 in
      let t = over.0 in
      let p = over.1 in
      let here : Dominates (get_or chain k no_label) l = (omega (arith, time, t), omega (arith, delay, p), at.here (omega (arith, less, inside))) in
      absurd (false≢true (sym (fails_before_first test chain k no_label less) ∙ dominates_from (get_or chain k no_label) l here)))
      (λ (e : place ≤ k). omega (arith, late, e)) (cases_lt k place)
