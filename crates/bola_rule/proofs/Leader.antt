-- The rung that leads the rungs below a number: none of them scores more, and those before it score less.
use Rattle.std.proofs.Common.{◌≡◌, ◌∙◌, ◌+◌, ◌<◌, ℕ, zero, suc, Bool, true, false, Some, Option, find, ◌⊎◌, ◌≤◌, refl, sym, ap, subst, arith, inl, inr}
use Rattle.std.specs.List.{list_all, range_with_len}
use Rattle.std.specs.Option.{unwrap_or}
use Rattle.std.proofs.lemmas.Bool.{cases_lt}
use Rattle.std.proofs.lemmas.List.Folds.{list_all_at}
use Rattle.std.proofs.lemmas.List.FromFn.{get_or-range_with_len, length-range_with_len}
use Rattle.lab_model.specs.Ladder.{least_rung, rungs_below}

-- an order of the rungs below a number: every two compare, and what is at most one of them is at most what that is
pub record IsOrder (at_most : ℕ → ℕ → Bool) (count : ℕ) : Type 0 where
  pub same : (p : ℕ) → at_most p p ≡ true
  pub total : (p q : ℕ) → at_most p q ≡ false → at_most q p ≡ true
  pub through : (p q r : ℕ) → q < count → at_most p q ≡ true → at_most q r ≡ true → at_most p r ≡ true

-- none of the rungs below a number scores more than this one of them, and those before it score less
pub record IsLeader (at_most : ℕ → ℕ → Bool) (n best : ℕ) : Type 0 where
  pub low : best < n
  pub most : (k : ℕ) → k < n → at_most k best ≡ true
  pub first : (k : ℕ) → k < best → at_most best k ≡ false

not_true : (b : Bool) → (b ≡ true → b ≡ false) → b ≡ false
not_true true h = h refl
not_true false h = refl

-- the first rung leads itself
pub leads_alone : (at_most : ℕ → ℕ → Bool) (count : ℕ) → IsOrder at_most count → IsLeader at_most 1 0
leads_alone at_most count o = record {
  low = omega arith;
  most = λ k lt. let e : 0 ≡ k = omega arith in subst (λ m. at_most m 0 ≡ true) e (o.same 0);
  first = λ k lt. absurd (omega arith);
}

-- one more rung that scores no more leaves the leader
pub leads_on : (at_most : ℕ → ℕ → Bool) (n best : ℕ) → IsLeader at_most n best → at_most n best ≡ true → IsLeader at_most (n + 1) best
leads_on at_most n best h below = record {
  low = let low = h.low in omega (arith, low);
  most = λ k lt. by_place k (cases_lt k n) lt;
  first = h.first;
}
  where
    by_place : (k : ℕ) → (k < n) ⊎ (n ≤ k) → k < n + 1 → at_most k best ≡ true
    by_place k (inl low) lt = h.most k low
    by_place k (inr high) lt = let e : n ≡ k = omega arith in subst (λ m. at_most m best ≡ true) e below

-- one more rung that scores more leads
pub leads_now : (at_most : ℕ → ℕ → Bool) (count n best : ℕ) → IsOrder at_most count → n < count → IsLeader at_most n best → at_most n best ≡ false → IsLeader at_most (n + 1) n
leads_now at_most count n best o lt h above = record {
  low = omega arith;
  most = λ k less. by_place k (cases_lt k n) less;
  first = λ k low. not_true (at_most n k) (λ t.
      let inside : k < count = omega (arith, low, lt) in
      let q : at_most n best ≡ true = o.through n k best inside t (h.most k low) in
      let z : true ≡ false = sym q ∙ above in
      cc);
}
  where
    by_place : (k : ℕ) → (k < n) ⊎ (n ≤ k) → k < n + 1 → at_most k n ≡ true
    by_place k (inl low) less = let inside : best < count = (let b = h.low in omega (arith, b, lt)) in o.through k best n inside (h.most k low) (o.total n best above)
    by_place k (inr high) less = let e : n ≡ k = omega arith in subst (λ m. at_most m n ≡ true) e (o.same n)

found : (p : ℕ → Bool) (a n j : ℕ) → j < n → p (a + j) ≡ true → ((k : ℕ) → k < j → p (a + k) ≡ false) → find p (range_with_len a n) ≡ Some (a + j)
found p a zero j lt here before = absurd (omega arith)
found p a (suc n) zero lt here before =
    let e : a + 0 ≡ a = omega arith in
    let now : p a ≡ true = subst (λ m. p m ≡ true) e here in
    rw (now, e) refl
found p a (suc n) (suc j) lt here before =
    let e : a + 0 ≡ a = omega arith in
    let fails : p a ≡ false = subst (λ m. p m ≡ false) e (before 0 (omega arith)) in
    let next : (k : ℕ) → a + suc k ≡ a + 1 + k = λ k. omega arith in
    let later = found p (a + 1) n j (omega (arith, lt)) (subst (λ m. p m ≡ true) (next j) here) (λ k low. subst (λ m. p m ≡ false) (next k) (before (suc k) (omega (arith, low)))) in
    rw (fails, next j) later

all_pass : (t : ℕ → Bool) (a n : ℕ) → ((k : ℕ) → k < n → t (a + k) ≡ true) → list_all t (range_with_len a n) ≡ true
all_pass t a zero h = refl
all_pass t a (suc n) h =
    let e : a + 0 ≡ a = omega arith in
    let here : t a ≡ true = subst (λ m. t m ≡ true) e (h 0 (omega arith)) in
    let next : (k : ℕ) → a + suc k ≡ a + 1 + k = λ k. omega arith in
    let later = all_pass t (a + 1) n (λ k low. subst (λ m. t m ≡ true) (next k) (h (suc k) (omega (arith, low)))) in
    rw (here, later) refl

one_fails : (t : ℕ → Bool) (n k : ℕ) → k < n → t k ≡ false → list_all t (rungs_below n) ≡ false
one_fails t n k lt bad =
    let few = length-range_with_len 0 n in
    let at = get_or-range_with_len 0 n k 0 lt in
    let e : k ≡ 0 + k = omega arith in
    list_all_at t (rungs_below n) k 0 (omega (arith, few, lt)) (subst (λ m. t m ≡ false) (e ∙ sym at) bad)

-- the leader of all rungs is the least whose score no other exceeds
pub leader_chosen : (at_most : ℕ → ℕ → Bool) (n best : ℕ) → IsLeader at_most n best → best ≡ least_rung (λ q. list_all (λ p. at_most p q) (rungs_below n)) n
leader_chosen at_most n best h =
    let test : ℕ → Bool = λ q. list_all (λ p. at_most p q) (rungs_below n) in
    let plain : (k : ℕ) → k ≡ 0 + k = λ k. omega arith in
    let best_passes : test best ≡ true = all_pass (λ p. at_most p best) 0 n (λ k low. subst (λ m. at_most m best ≡ true) (plain k) (h.most k low)) in
    let earlier : (k : ℕ) → k < best → test k ≡ false = λ k low. one_fails (λ p. at_most p k) n best h.low (h.first k low) in
    let is = found test 0 n best h.low (subst (λ m. test m ≡ true) (plain best) best_passes) (λ k low. subst (λ m. test m ≡ false) (plain k) (earlier k low)) in
    sym (ap (λ (o : Option ℕ). unwrap_or o 0) is ∙ sym (plain best))
