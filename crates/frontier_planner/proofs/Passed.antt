-- Staircases over blocks of a chain, and what isn't under them.
use Rattle.std.proofs.Common.{◌≡◌, ◌∙◌, ◌↔◌, ◌⊎◌, ⊎_elim, ℕ, ◌+◌, ◌-◌, ◌*◌, ◌/◌, ◌%◌, ◌<◌, ◌≤◌, true, List, [], ◌∷◌, ◌++◌, length, get_or, min, inl, inr, sym, ap, subst, div-add-mod', arith}
use Rattle.std.specs.Prelude.{ℤ, ◌≤ℤ◌, Vec}
use Rattle.std.specs.Global.{Global}
use Rattle.std.proofs.lemmas.Bool.{cases_Bool, cases_lt}
use Rattle.std.proofs.lemmas.Int.{ints}
use Rattle.std.proofs.lemmas.List.{get_or_append_left, get_or_default, length_push}
use Rattle.std.proofs.lemmas.Nat.{mod_below}
use Rattle.std.proofs.Math.Nat.{div-lt_iff_lt-mul}
use Rattle.std.proofs.Math.Seq.{get_or-append_seam}
use Rattle.lab_model.proofs.Orders.{≤ℤ_trans}
use Rattle.lab_model.specs.declared.label.Label.{Label}
use Rattle.frontier_planner.specs.declared.blocks.Finder.{Finder}
use Rattle.frontier_planner.specs.declared.blocks.Level.{Level}
use Rattle.frontier_planner.specs.declared.staircase.Staircase.{Staircase}
use Rattle.frontier_planner.specs.Blocks.{HaveFinders, IsFinder, IsLevel, IsOver, NoneBefore}
use Rattle.labels.specs.Labels.{dominates}
use Rattle.labels.specs.Read.{no_label}
use Rattle.frontier_planner.specs.Staircase.{IsRising}
use Rattle.frontier_planner.specs.Sweep.{HasUnder}
use Rattle.labels.proofs.Kept.{dominates_true}

-- ---- a staircase over some labels

-- no label, one more label
pub over_none : (chain : List Label) (from : ℕ) (steps : List Label) → IsOver chain from from steps
over_none chain from steps k low high = absurd (omega arith)

-- where a step is under the next label too, the staircase stands over one label more
pub over_more : (chain : List Label) (from i : ℕ) (steps : List Label) → IsOver chain from i steps → HasUnder steps (get_or chain i no_label).p (get_or chain i no_label).v → IsOver chain from (i + 1) steps
over_more chain from i steps so here k low high =
    ⊎_elim (λ (old : k < i). so k low old)
    (λ (new : i ≤ k). let e : i ≡ k = omega arith in subst (λ n. HasUnder steps (get_or chain n no_label).p (get_or chain n no_label).v) e here) (cases_lt k i)

-- a step that is added takes nothing out of what is under the staircase
pub over_added : (chain : List Label) (from i : ℕ) (old new : List Label) (l : Label) → l ≡ get_or chain i no_label → ((p : ℕ) (v : ℤ) → HasUnder new p v ↔ (HasUnder old p v ⊎ ((l.p ≤ p) × (v ≤ℤ l.v)))) → IsOver chain from i old → IsOver chain from (i + 1) new
over_added chain from i old new l e adds so =
    over_more chain from i new (λ k low high. (adds (get_or chain k no_label).p (get_or chain k no_label).v).1 (inl (so k low high)))
    (subst (λ (m : Label). HasUnder new m.p m.v) e ((adds l.p l.v).1 (inr (itself l.p, itself_z l.v))))
  where
    itself : (n : ℕ) → n ≤ n
    itself n = omega arith

    itself_z : (z : ℤ) → z ≤ℤ z
    itself_z z = omega (arith, ints)

-- ---- the staircases of a level

-- the staircases so far stand over the labels before a place
pub record Built (chain : List Label) (size : ℕ) (blocks : List Staircase) (begin : ℕ) : Type 0 where
  pub bound : begin ≤ length chain
  pub reached : begin ≤ length blocks * size
  pub whole : begin < length chain → begin ≡ length blocks * size
  pub rising : (b : ℕ) (s : Staircase) → b < length blocks → IsRising (get_or blocks b s).steps.items
  pub over : (b k : ℕ) (s : Staircase) → b < length blocks → b * size ≤ k → k < (b + 1) * size → k < length chain
      → HasUnder (get_or blocks b s).steps.items (get_or chain k no_label).p (get_or chain k no_label).v

-- at the start there are no staircases, and no label is covered
pub built_none : (chain : List Label) (size : ℕ) → Built chain size [] 0
built_none chain size = record {
  bound = omega arith;
  reached = omega arith;
  whole = λ _. omega arith;
  rising = λ b s low. absurd (omega arith);
  over = λ b k s low. absurd (omega arith);
}

-- a rising staircase over the next block is one more
pub built_more : (chain : List Label) (size : ℕ) (blocks : List Staircase) (begin : ℕ) (s : Staircase) → Built chain size blocks begin → begin < length chain
    → IsRising s.steps.items → IsOver chain begin (begin + min size (length chain - begin)) s.steps.items → Built chain size (blocks ++ s ∷ []) (begin + min size (length chain - begin))
built_more chain size blocks begin s h low rises over =
    let n = length blocks in
    let long : length (blocks ++ s ∷ []) ≡ n + 1 = length_push blocks s in
    let start : begin ≡ n * size = h.whole low in
    let grown = ap (λ m. m * size) long in
    record {
      bound = omega arith;
      reached = omega (arith, start, grown);
      whole = λ more. omega (arith, start, grown, more);
      rising = λ b d inside. ⊎_elim
          (λ (old : b < n). subst (λ (x : Staircase). IsRising x.steps.items) (sym (get_or_append_left blocks (s ∷ []) d b old)) (h.rising b d old))
          (λ (new : n ≤ b). let e : n ≡ b = omega (arith, inside, long) in
          subst (λ i. IsRising (get_or (blocks ++ s ∷ []) i d).steps.items) e (subst (λ (x : Staircase). IsRising x.steps.items) (sym (get_or-append_seam blocks s [] d)) rises)) (cases_lt b n);
      over = λ b k d inside at_least below there. ⊎_elim
          (λ (old : b < n). subst (λ (x : Staircase). HasUnder x.steps.items (get_or chain k no_label).p (get_or chain k no_label).v) (sym (get_or_append_left blocks (s ∷ []) d b old)) (h.over b k d old at_least below there))
          (λ (new : n ≤ b). let e : n ≡ b = omega (arith, inside, long) in
          let from = ap (λ i. i * size) e in
          subst (λ i. HasUnder (get_or (blocks ++ s ∷ []) i d).steps.items (get_or chain k no_label).p (get_or chain k no_label).v) e
          (subst (λ (x : Staircase). HasUnder x.steps.items (get_or chain k no_label).p (get_or chain k no_label).v) (sym (get_or-append_seam blocks s [] d)) (over k (omega (arith, from, at_least, start)) (omega (arith, from, below, start, there))))) (cases_lt b n);
    }

-- staircases that stand over all labels of a chain are a level of it
pub built_all : (chain : List Label) (level : Level) (begin : ℕ) → 1 ≤ level.size → level.size ≤ 65536 → Built chain level.size level.blocks.items begin → length chain ≤ begin → IsLevel chain level
built_all chain level begin some small h late = record {
  some = some;
  small = small;
  all = let reached = h.reached in omega (arith, late, reached);
  rising = h.rising;
  over = h.over;
}

-- ---- what a block passes

-- the block of a place is one of the level
pub block_inside : (chain : List Label) (level : Level) (place : ℕ) → IsLevel chain level → place < length chain → place / level.size < length level.blocks.items
block_inside chain level place h low = let some = h.some in let all = h.all in (div-lt_iff_lt-mul {k = level.size} {x = place} {y = length level.blocks.items} (omega (arith, some))).1 (omega (arith, low, all))

n_trans : (a b c : ℕ) → a ≤ b → b ≤ c → a ≤ c
n_trans a b c h k = omega arith

-- what has a label under one has that under whatever the other dominates
under_less : (steps : List Label) (m l : Label) → dominates m l ≡ true → HasUnder steps m.p m.v → HasUnder steps l.p l.v
under_less steps m l e h =
    let d = dominates_true m l e in
    (h.0, h.1, n_trans h.0.p m.p l.p h.2 d.1, ≤ℤ_trans l.v m.v h.0.v d.2 h.3)

-- where the staircase of a place's block doesn't cover a label, no label up to the block's end dominates it
pub block_passed : (chain : List Label) (level : Level) (place : ℕ) (s : Staircase) (l : Label) → IsLevel chain level → place < length chain → NoneBefore chain l place
    → (HasUnder (get_or level.blocks.items (place / level.size) s).steps.items l.p l.v → ⊥) → NoneBefore chain l (place + (level.size - place % level.size))
block_passed chain level place s l h low none free k high there =
    ⊎_elim (λ (old : k < place). none k old there)
    (λ (new : place ≤ k).
    let size = level.size in
    let b = place / size in
    let parts = div-add-mod' place size in
    let some = h.some in
    let part = mod_below place size some in
    let under = h.over b k s (block_inside chain level place h low) (omega (arith, parts, new)) (omega (arith, parts, part, high)) there in
    ⊎_elim (λ (yes : dominates (get_or chain k no_label) l ≡ true). absurd (free (under_less _ (get_or chain k no_label) l yes under))) (λ no. no) (cases_Bool (dominates (get_or chain k no_label) l))) (cases_lt k place)

-- ---- the finders of several chains

-- each of the chains before a place has its finder
abbrev pub EachHas : List (Vec Label Global) → List Finder → ℕ → Type 0
EachHas chains finders n = (q : ℕ) (v : Vec Label Global) (x : Finder) → q < n → IsFinder (get_or chains q v).items (get_or finders q x)

-- with the finder of the next chain behind them, one chain more has its finder
pub finders_more : (chains : List (Vec Label Global)) (finders : List Finder) (i : ℕ) (c : Vec Label Global) (labels : List Label) (new : Finder)
    → i < length chains → length finders ≡ i → c ≡ get_or chains i c → labels ≡ c.items → IsFinder labels new → EachHas chains finders i → EachHas chains (finders ++ new ∷ []) (i + 1)
finders_more chains finders i c labels new low count here are is each q v x before =
    ⊎_elim
    (λ (old : q < i). subst (IsFinder (get_or chains q v).items) (sym (get_or_append_left finders (new ∷ []) x q (omega (arith, old, count)))) (each q v x old))
    (λ (last : i ≤ q).
    let e : i ≡ q = omega arith in
    let at = are ∙ ap (λ (w : Vec Label Global). w.items) (here ∙ get_or_default chains i c v low) in
    let seam : get_or (finders ++ new ∷ []) i x ≡ new = ap (λ n. get_or (finders ++ new ∷ []) n x) (sym count) ∙ get_or-append_seam finders new [] x in
    subst (λ n. IsFinder (get_or chains n v).items (get_or (finders ++ new ∷ []) n x)) e
    (subst (IsFinder (get_or chains i v).items) (sym seam) (subst (λ (ls : List Label). IsFinder ls new) at is))) (cases_lt q i)

-- the finder of a chain that was read
pub finder_there : (chains : List (Vec Label Global)) (finders : List Finder) (q : ℕ) (v : Vec Label Global) (x : Finder) (labels : List Label)
    → HaveFinders chains finders → q < length chains → v ≡ get_or chains q v → labels ≡ v.items → x ≡ get_or finders q x → IsFinder labels x
finder_there chains finders q v x labels h low there labels_are here =
    subst (λ (ls : List Label). IsFinder ls x) (sym (labels_are ∙ ap (λ (w : Vec Label Global). w.items) there))
    (subst (IsFinder (get_or chains q v).items) (sym here) (h.each q v x low))
