-- The beginnings of the whole lists.
use Rattle.std.proofs.Common.{◌≡◌, ℕ, suc, ◌+◌, ◌-◌, ◌<◌, [], refl, sym, ap, subst, arith}
use Rattle.std.specs.List.{All, Contains}
use Rattle.std.proofs.lemmas.Int.{ints}
use Rattle.std.proofs.lemmas.List.Elements.{All-nil, All-cons}
use Rattle.mpc_rule.specs.declared.forecast.Draft.{Draft}
use Rattle.mpc_rule.specs.Lookahead.{Lookahead, ladder_of}
use Rattle.mpc_rule.specs.Search.{IsDraft, IsPart, IsWholeDraft, completions, extended, rungs_left, start_of}
use Rattle.mpc_rule.specs.Relaxations.{IsUnder}
use Rattle.mpc_rule.proofs.Floors.{extended_whole, whole_itself}

-- one more rung counts one more
pub count_extended : (o : Lookahead) (d : Draft) (r : ℕ) → (extended o d r).count ≡ d.count + 1
unfolding extended
count_extended o d r = refl

-- one more rung leaves one less to come
pub left_extended : (o : Lookahead) (d longer : Draft) (r : ℕ) → longer ≡ extended o d r → rungs_left o longer ≡ rungs_left o d - 1
left_extended o d longer r e =
    let one = ap (λ (x : Draft). x.count) e in let two = count_extended o d r in omega (arith, one, two)

-- a whole list has at most its score
pub whole_under : (o : Lookahead) (n : ℕ) (d : Draft) → n ≡ 0 → All (IsUnder d.score) (completions o n d)
unfolding completions
whole_under o n d none = rw none (All-cons (IsUnder d.score) d [] (omega (arith, ints)) (All-nil (IsUnder d.score)))

-- the list of no rungs begins each whole list
pub part_start : (f : Lookahead) (d : Draft) → d ≡ start_of f → IsDraft f d → IsPart f 0 d
part_start f d e is =
    let all : f.span ≡ f.span - 0 = omega arith in
    record {
      count = ap (λ (x : Draft). x.count) e;
      draft = is;
      lists = λ x h. subst (λ (y : Draft). Contains (completions f f.span y) x) e (subst (λ (n : ℕ). Contains (completions f n d) x) (sym all) h);
    }

-- one more rung
pub part_more : (f : Lookahead) (i : ℕ) (d longer : Draft) (r : ℕ) → IsPart f i d → i < f.span → r < ladder_of f → longer ≡ extended f d r
    → IsDraft f longer → IsPart f (i + 1) longer
part_more f i d longer r part low rung e is =
    let o = f in let n = f.span - (i + 1) in
    let more : suc n ≡ f.span - i = omega (arith, low) in
    record {
      count = let one = ap (λ (x : Draft). x.count) e in let two = count_extended o d r in let done = part.count in omega (arith, one, two, done);
      draft = is;
      lists = λ x h. part.lists x (subst (λ (k : ℕ). Contains (completions o k d) x) more
          (extended_whole o n d x r rung (subst (λ (y : Draft). Contains (completions o n y) x) e h)));
    }

-- a beginning as long as the look ahead is a whole list
pub part_whole : (f : Lookahead) (i : ℕ) (d : Draft) → i ≡ f.span → IsPart f i d → IsWholeDraft f d
part_whole f i d e part =
    let none : 0 ≡ f.span - i = omega (arith, e) in
    record {
      list = part.lists d (subst (λ (n : ℕ). Contains (completions f n d) d) none (whole_itself f d));
      draft = part.draft;
    }
