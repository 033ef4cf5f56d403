-- How many labels chains have, by rung and by segment.
use Rattle.std.proofs.Common.{◌≡◌, ◌∙◌, ℕ, zero, suc, ◌+◌, ◌-◌, ◌<◌, ◌≤◌, List, [], ◌∷◌, ◌++◌, length, map, refl, sym, ap, subst, arith, add-one, add-zero, length-append}
use Rattle.std.specs.List.{flat_map}
use Rattle.std.proofs.lemmas.Grind.{flat_map-append}
use Rattle.std.proofs.lemmas.List.{append-nil, append_assoc, length-map, map-append}
use Rattle.lab_model.specs.declared.label.Label.{Label}
use Rattle.lab_model.specs.Film.{rungs_of, segments_of}
use Rattle.lab_model.specs.Ladder.{rungs_below}
use Rattle.lab_model.proofs.Rungs.{rungs_more}
use Rattle.player_core.specs.Scene.{Task}
use Rattle.labels.specs.Frontier.{by_rung}
use Rattle.labels.specs.Read.{Chains, labels_before, labels_in, labels_of}

le-itself : (n : ℕ) → n ≤ n
le-itself n = omega arith

-- ---- lists that grow by one

module _ {Y : Type 0} where
  -- what stands for one rung more
  pub rung_pushed : (base done : List Y) (h : ℕ → Y) (r : ℕ) (y : Y) → done ≡ base ++ map h (rungs_below r) → y ≡ h r → done ++ y ∷ [] ≡ base ++ map h (rungs_below (r + 1))
  rung_pushed base done h r y so one =
      ap (λ ys. ys ++ y ∷ []) so ∙ append_assoc base (map h (rungs_below r)) (y ∷ []) ∙ ap (λ x. base ++ (map h (rungs_below r) ++ x ∷ [])) one
      ∙ ap (λ ys. base ++ ys) (sym (map-append h (rungs_below r) (r ∷ [])) ∙ ap (map h) (sym (rungs_more r)))

  -- the lists of one number more
  pub list_pushed : (h : ℕ → List Y) (n : ℕ) → flat_map h (rungs_below (n + 1)) ≡ flat_map h (rungs_below n) ++ h n
  list_pushed h n = ap (flat_map h) (rungs_more n) ∙ flat_map-append h (rungs_below n) (n ∷ []) ∙ ap (λ ys. flat_map h (rungs_below n) ++ ys) (append-nil (h n))

-- ---- labels by rung

-- the labels of one rung more
pub by_rung_more : (chain : ℕ → List Label) (r : ℕ) → by_rung (r + 1) chain ≡ by_rung r chain ++ map (λ l. (r, l)) (chain r)
by_rung_more chain r =
    ap (λ qs. flat_map (λ q. map (λ l. (q, l)) (chain q)) qs) (rungs_more r) ∙ flat_map-append (λ q. map (λ l. (q, l)) (chain q)) (rungs_below r) (r ∷ [])
    ∙ ap (λ ls. by_rung r chain ++ ls) (append-nil (map (λ l. (r, l)) (chain r)))

-- and how many those are
pub by_rung_count : (chain : ℕ → List Label) (r : ℕ) → length (by_rung (r + 1) chain) ≡ length (by_rung r chain) + length (chain r)
by_rung_count chain r =
    ap length (by_rung_more chain r) ∙ length-append (by_rung r chain) (map (λ l. (r, l)) (chain r)) ∙ ap (λ n. length (by_rung r chain) + n) (length-map (chain r) (λ l. (r, l)))

by_rung_beyond : (chain : ℕ → List Label) (r n : ℕ) → length (by_rung r chain) ≤ length (by_rung (r + n) chain)
by_rung_beyond chain r zero = subst (λ m. length (by_rung r chain) ≤ length (by_rung m chain)) (sym (add-zero r)) (le-itself (length (by_rung r chain)))
by_rung_beyond chain r (suc n) =
    let before = by_rung_beyond chain r n in
    let count = by_rung_count chain (r + n) in
    let e : r + n + 1 ≡ r + suc n = omega arith in
    subst (λ m. length (by_rung r chain) ≤ length (by_rung m chain)) e (omega (arith, before, count))

-- fewer rungs have no more labels
pub by_rung_fewer : (chain : ℕ → List Label) (r n : ℕ) → r ≤ n → length (by_rung r chain) ≤ length (by_rung n chain)
by_rung_fewer chain r n low = let e : r + (n - r) ≡ n = omega (arith, low) in subst (λ m. length (by_rung r chain) ≤ length (by_rung m chain)) e (by_rung_beyond chain r (n - r))

-- the labels before the first segment, and before the next
pub before_none : (g : Task) (chains : Chains) → labels_before g chains 0 ≡ 0
unfolding labels_before
before_none g chains = refl

-- the labels before the next segment are those before this one and its own
pub before_next : (g : Task) (chains : Chains) (i : ℕ) → labels_before g chains (suc i) ≡ labels_before g chains i + length (labels_of g chains i)
unfolding labels_before
before_next g chains i = refl

-- the same, where the next segment is written as a sum
pub before_more : (g : Task) (chains : Chains) (i : ℕ) → labels_before g chains (i + 1) ≡ labels_before g chains i + length (labels_of g chains i)
before_more g chains i = ap (labels_before g chains) (add-one i) ∙ before_next g chains i

-- no fewer labels stand before a later segment
pub before_beyond : (g : Task) (chains : Chains) (i n : ℕ) → labels_before g chains i ≤ labels_before g chains (i + n)
before_beyond g chains i zero = subst (λ m. labels_before g chains i ≤ labels_before g chains m) (sym (add-zero i)) (le-itself (labels_before g chains i))
before_beyond g chains i (suc n) =
    let before = before_beyond g chains i n in
    let more = before_more g chains (i + n) in
    let e : i + n + 1 ≡ i + suc n = omega arith in
    subst (λ m. labels_before g chains i ≤ labels_before g chains m) e (omega (arith, before, more))

-- a chain has no more labels than all of them
pub chain_within : (g : Task) (chains : Chains) (i q : ℕ) → i < segments_of g.film → q < rungs_of g.film → length (chains i q) ≤ labels_in g chains
chain_within g chains i q low rung =
    let one = by_rung_count (chains i) q in
    let row = by_rung_fewer (chains i) (q + 1) (rungs_of g.film) (omega (arith, rung)) in
    let more = before_more g chains i in
    let e : i + 1 + (segments_of g.film - (i + 1)) ≡ segments_of g.film = omega (arith, low) in
    let all = subst (λ m. labels_before g chains (i + 1) ≤ labels_before g chains m) e (before_beyond g chains (i + 1) (segments_of g.film - (i + 1))) in
    omega (arith, one, row, more, all)
