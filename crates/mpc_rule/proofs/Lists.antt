-- The best of all completions of the empty list is the first list of the greatest horizon score.
use Rattle.std.proofs.Common.{◌≡◌, ◌∙◌, ℕ, zero, suc, ◌+◌, ◌-◌, ◌*◌, ◌<◌, List, [], ◌∷◌, ◌++◌, length, Option, Some, None, Bool, true, false, cond, refl, sym, ap, subst, arith, ◌==◌, add-zero}
use Rattle.std.specs.Prelude.{ℤ, pos, ◌+ℤ◌, ◌-ℤ◌, ◌<ℤ◌, int_lt, map, slice_index, fold}
use Rattle.std.specs.List.{All, Contains, flat_map}
use Rattle.std.proofs.Math.Dec.{eqb-suc-zero}
use Rattle.std.proofs.lemmas.Int.{ints}
use Rattle.std.proofs.lemmas.Bool.{cond_both}
use Rattle.std.proofs.lemmas.List.{map-append}
use Rattle.std.proofs.lemmas.Simd.{map-map}
use Rattle.std.proofs.lemmas.List.Elements.{All-nil, All-cons, All-head, All-tail, All-map}
use Rattle.lab_model.specs.declared.setup.Setup.{Setup}
use Rattle.lab_model.specs.Film.{Film}
use Rattle.lab_model.specs.Weighing.{utility_of, change_of}
use Rattle.lab_model.specs.Horizon.{foretold_ms, horizon_score, next_level}
use Rattle.lab_model.specs.Ladder.{rungs_below}
use Rattle.lab_model.specs.Mpc.{best_list, lists_of}
use Rattle.lab_model.proofs.Choices.{best_keeps, flat_fits}
use Rattle.mpc_rule.specs.declared.forecast.Draft.{Draft}
use Rattle.mpc_rule.specs.Lookahead.{Lookahead, ladder_of}
use Rattle.mpc_rule.specs.Search.{IsWholeDraft, better, best_after, best_rung, completions, extended, first_rung, gain_of, rungs_left, segment_after, start_of}
use Rattle.mpc_rule.proofs.Floors.{floor_keeps}

-- ---- the completions are the lists, each added to the list in hand

-- the list in hand with rungs added, one after the other
abbrev along : Lookahead → Draft → List ℕ → Draft
along o d [] = d
along o d (r ∷ rs) = along o (extended o d r) rs

flat_along : (o : Lookahead) (d : Draft) (lists : List (List ℕ)) (rs : List ℕ)
    → flat_map (λ r. map (along o (extended o d r)) lists) rs ≡ map (along o d) (flat_map (λ r. map (λ l. r ∷ l) lists) rs)
flat_along o d lists [] = refl
flat_along o d lists (r ∷ rs) =
    (λ i. sym (map-map (along o d) (λ l. r ∷ l) lists) i ++ flat_along o d lists rs i)
    ∙ sym (map-append (along o d) (map (λ l. r ∷ l) lists) (flat_map (λ q. map (λ l. q ∷ l) lists) rs))

completions_along : (o : Lookahead) (n : ℕ) (d : Draft) → completions o n d ≡ map (along o d) (lists_of (ladder_of o) n)
unfolding completions lists_of
completions_along o zero d = refl
completions_along o (suc n) d =
    (λ i. flat_map (λ r. completions_along o n (extended o d r) i) (rungs_below (ladder_of o)))
    ∙ flat_along o d (lists_of (ladder_of o) n) (rungs_below (ladder_of o))

-- ---- the score of a list in hand is that of its rungs

horizon_none : (f : Film) (s : Setup) (rate segment level : ℕ) (before : Option ℕ) → horizon_score f s rate segment level before [] ≡ pos 0
horizon_none f s rate segment level before = omega (arith, ints)

horizon_more : (f : Film) (s : Setup) (rate segment level : ℕ) (before : Option ℕ) (r : ℕ) (rs : List ℕ)
    → horizon_score f s rate segment level before (r ∷ rs)
    ≡ (pos (1000 * utility_of s.weights segment r) -ℤ pos (s.weights.switch * change_of s.weights segment before r + s.weights.stall * (foretold_ms f rate (record { segment = segment; rung = r }) - level)))
    +ℤ horizon_score f s rate (segment + 1) (next_level f s.buffer_ms level (foretold_ms f rate (record { segment = segment; rung = r }))) (Some r) rs
horizon_more f s rate segment level before r rs = omega (arith, ints)

-- the score that a list in hand comes to along rungs
abbrev score_along : Lookahead → Draft → List ℕ → ℤ
score_along o d rs = horizon_score o.film o.setup o.rate (segment_after o d) d.level d.before rs

score_extended : (o : Lookahead) (d : Draft) (r : ℕ) → (extended o d r).score ≡ d.score +ℤ gain_of o d r
unfolding extended
score_extended o d r = refl

score_more : (o : Lookahead) (d : Draft) (r : ℕ) (rs : List ℕ) → score_along o d (r ∷ rs) ≡ gain_of o d r +ℤ score_along o (extended o d r) rs
unfolding extended
score_more o d r rs =
    let later : o.context.next + d.count + 1 ≡ o.context.next + (d.count + 1) = omega arith in
    horizon_more o.film o.setup o.rate (segment_after o d) d.level d.before r rs
    ∙ (λ i. gain_of o d r +ℤ horizon_score o.film o.setup o.rate (later i) (extended o d r).level (Some r) rs)

score_is : (o : Lookahead) (rs : List ℕ) (d : Draft) → (along o d rs).score ≡ d.score +ℤ score_along o d rs
score_is o [] d = omega (arith, ints)
score_is o (r ∷ rs) d =
    score_is o rs (extended o d r)
    ∙ (λ i. score_extended o d r i +ℤ score_along o (extended o d r) rs)
    ∙ add_assoc_z d.score (gain_of o d r) (score_along o (extended o d r) rs)
    ∙ sym (ap (λ (z : ℤ). d.score +ℤ z) (score_more o d r rs))
  where
    add_assoc_z : (a b c : ℤ) → (a +ℤ b) +ℤ c ≡ a +ℤ (b +ℤ c)
    add_assoc_z a b c = omega (arith, ints)

-- ---- the first rung of a list in hand stays

eqb_no : (n : ℕ) → 0 < n → (n == 0) ≡ false
eqb_no zero some = absurd (omega (arith, some))
eqb_no (suc n) some = eqb-suc-zero n

first_extended : (o : Lookahead) (d : Draft) (r : ℕ) → 0 < d.count → (extended o d r).first ≡ d.first
unfolding extended
first_extended o d r some = let none = eqb_no d.count some in rw none refl

count_extended : (o : Lookahead) (d : Draft) (r : ℕ) → (extended o d r).count ≡ d.count + 1
unfolding extended
count_extended o d r = refl

first_along : (o : Lookahead) (rs : List ℕ) (d : Draft) → 0 < d.count → (along o d rs).first ≡ d.first
first_along o [] d some = refl
first_along o (r ∷ rs) d some =
    let more = count_extended o d r in first_along o rs (extended o d r) (omega (arith, more)) ∙ first_extended o d r some

first_of_extended : (o : Lookahead) (d : Draft) (r : ℕ) → d.count ≡ 0 → (extended o d r).first ≡ r
unfolding extended
first_of_extended o d r none = rw none refl

first_is : (o : Lookahead) (l : List ℕ) (d : Draft) → d.count ≡ 0 → 0 < length l → (along o d l).first ≡ slice_index l 0
first_is o [] d none some = absurd (omega (arith, some))
first_is o (r ∷ rs) d none some =
    let more = count_extended o d r in first_along o rs (extended o d r) (omega (arith, more)) ∙ first_of_extended o d r none

-- ---- the first of the greatest score

cond_map : (b : Bool) (hand : List ℕ → Draft) (x y : List ℕ) → cond b (hand x) (hand y) ≡ hand (cond b x y)
cond_map true hand x y = refl
cond_map false hand x y = refl

-- where each list in hand has the score of its list, the best list in hand is that of the best list
module _ (score : List ℕ → ℤ) (hand : List ℕ → Draft) (P : List ℕ → Type 0) (same : (l : List ℕ) → P l → (hand l).score ≡ score l) where
  chosen : List ℕ → List ℕ → List ℕ
  chosen best l = cond (int_lt (score best) (score l)) l best

  chosen_fits : (best l : List ℕ) → P best → P l → P (chosen best l)
  unfolding chosen
  chosen_fits best l h k = cond_both (int_lt (score best) (score l)) l best P (λ e. k) (λ e. h)

  better_hand : (best l : List ℕ) → P best → P l → better (Some (hand best)) (hand l) ≡ Some (hand (chosen best l))
  unfolding chosen
  better_hand best l h k =
      (λ i. Some (cond (int_lt (same best h i) (same l k i)) (hand l) (hand best))) ∙ ap Some (cond_map (int_lt (score best) (score l)) hand l best)

  best_hands : (best : List ℕ) (ls : List (List ℕ)) → P best → All P ls → fold better (Some (hand best)) (map hand ls) ≡ Some (hand (fold chosen best ls))
  best_hands best [] h all = refl
  best_hands best (l ∷ ls) h all =
      let k = All-head P l ls all in
      ap (λ (b : Option Draft). fold better b (map hand ls)) (better_hand best l h k) ∙ best_hands (chosen best l) ls (chosen_fits best l h k) (All-tail P l ls all)

  -- the first rung of the best list in hand is that of the best list
  best_first : (ls : List (List ℕ)) → ((l : List ℕ) → P l → (hand l).first ≡ slice_index l 0) → All P ls
      → first_rung (fold better None (map hand ls)) ≡ slice_index (best_list score ls) 0
  unfolding chosen
  best_first [] first all = refl
  best_first (l ∷ ls) first all =
      let h = All-head P l ls all in let rest = All-tail P l ls all in
      ap first_rung (best_hands l ls h rest) ∙ first (fold chosen l ls) (best_keeps P score l ls h rest)

-- ---- all lists have their length

lists_long : (count n : ℕ) → All (λ l. length l ≡ n) (lists_of count n)
unfolding lists_of
lists_long count zero = All-cons (λ l. length l ≡ 0) [] [] refl (All-nil (λ l. length l ≡ 0))
lists_long count (suc n) =
    flat_fits (λ l. length l ≡ suc n) (λ r. map (λ rs. r ∷ rs) (lists_of count n)) (λ r. Unit {0}) (rungs_below count)
    (λ r u. All-map (λ l. length l ≡ suc n) (λ rs. r ∷ rs) (lists_of count n) (λ k d h. ap suc (lists_long count n k d h))) (λ k d h. tt)

-- the first rung of the best completion of no rungs is that of the best list
pub best_is : (o : Lookahead) → 0 < o.span → first_rung (best_after o o.span (start_of o) None) ≡ best_rung o
best_is o some =
    let n = o.span in
    ap (λ (ds : List Draft). first_rung (fold better None ds)) (completions_along o n (start_of o))
    ∙ best_first (score_along o (start_of o)) (along o (start_of o)) (λ l. length l ≡ n)
    (λ l h. score_is o l (start_of o) ∙ nothing (score_along o (start_of o) l))
    (lists_of (ladder_of o) n) (λ l h. first_is o l (start_of o) refl (omega (arith, h))) (lists_long (ladder_of o) n)
    ∙ ap (λ (segment : ℕ). slice_index (best_list (horizon_score o.film o.setup o.rate segment o.context.level o.context.last) (lists_of (ladder_of o) n)) 0) (add-zero o.context.next)
  where
    nothing : (z : ℤ) → pos 0 +ℤ z ≡ z
    nothing z = omega (arith, ints)

-- a search from the list of no rungs that begins with less than some whole list has finds the best list
pub found_is : (o : Lookahead) (start found below whole : Draft) → start ≡ start_of o → 0 < o.span → Some found ≡ best_after o (rungs_left o start) start (Some below)
    → IsWholeDraft o whole → below.score <ℤ whole.score → found.first ≡ best_rung o
found_is o start found below whole begins some is list less =
    let count = ap (λ (d : Draft). d.count) begins in
    let all : rungs_left o start ≡ o.span = omega (arith, count) in
    let one = subst (λ (d : Draft). Contains (completions o o.span d) whole) (sym begins) list.list in
    ap first_rung is
    ∙ ap (λ (n : ℕ). first_rung (best_after o n start (Some below))) all
    ∙ ap first_rung (floor_keeps below (completions o o.span start) whole one less)
    ∙ ap (λ (d : Draft). first_rung (best_after o o.span d None)) begins
    ∙ best_is o some
