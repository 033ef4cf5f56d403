-- What the segments to come can add at most bounds each completion.
use Rattle.std.proofs.Common.{◌≡◌, ℕ, List, suc, ◌+◌, ◌-◌, ◌*◌, ◌<◌, ◌≤◌, [], refl, sym, ap, subst, arith}
use Rattle.std.specs.Prelude.{ℤ, pos, ◌+ℤ◌, ◌≤ℤ◌, slice_index_or}
use Rattle.std.specs.List.{All}
use Rattle.std.proofs.Math.Nat.{mul-le-mul, mul-le-mul_left}
use Rattle.std.proofs.lemmas.Int.{ints}
use Rattle.std.proofs.lemmas.List.Elements.{All-nil, All-cons, All-weaker}
use Rattle.lab_model.specs.Ladder.{rungs_below}
use Rattle.lab_model.specs.Weighing.{change_of}
use Rattle.lab_model.proofs.Choices.{all_below, flat_fits}
use Rattle.mpc_rule.specs.declared.forecast.Draft.{Draft}
use Rattle.mpc_rule.specs.Lookahead.{Lookahead, ladder_of, room_of, weights_of}
use Rattle.mpc_rule.specs.Search.{IsDraft, completions, extended, gain_of, rungs_left, segment_after, wait_of}
use Rattle.mpc_rule.specs.Relaxations.{IsCeiling, IsRelaxation, IsMostToCome, IsPromise, IsUnder, promise_of}

times : (p a b c : ℕ) → p * (a + b + c) ≡ p * a + p * b + p * c
times p a b c = omega arith

-- the price of the level after a segment, and what its rung promises not, are at most the price of the media and what the rung takes
price_step : (p q c level wait seg room next : ℕ) → level ≤ room → next ≤ (level - wait) + seg
    → p * next + (p * wait + q * (wait - room)) ≤ p * level + p * seg + (c + (p + q) * (wait - level))
price_step p q c level wait seg room next within low =
    let media : next + wait + 0 ≤ level + seg + (wait - level) = omega arith in
    let stall : wait - room ≤ wait - level = omega arith in
    let first = mul-le-mul_left p media in
    let second = mul-le-mul_left q stall in
    omega (arith, first, second, times p next wait 0, times p level seg (wait - level))

stall_is : (stall p wait level : ℕ) → p ≤ stall → (p + (stall - p)) * (wait - level) ≡ stall * (wait - level)
stall_is stall p wait level low = let same : p + (stall - p) ≡ stall = omega arith in ap (λ (s : ℕ). s * (wait - level)) same

-- one more rung adds at most what it promises and the price of the media
rung_most : (o : Lookahead) (d : Draft) (r p seg next : ℕ) → p ≤ (weights_of o).stall → d.level ≤ room_of o → next ≤ (d.level - wait_of o d r) + seg
    → (gain_of o d r +ℤ pos (p * next)) ≤ℤ (pos (p * d.level) +ℤ promise_of o p (segment_after o d) r +ℤ pos (p * seg))
rung_most o d r p seg next low within more =
    let w = weights_of o in
    let c = w.switch * change_of w (segment_after o d) d.before r in
    let step = price_step p (w.stall - p) c d.level (wait_of o d r) seg (room_of o) next within more in
    let same = stall_is w.stall p (wait_of o d r) d.level low in
    omega (arith, ints, step, same)

-- the level after one more rung is at most that of a full buffer, and what is left with one segment more
level_extended : (o : Lookahead) (d : Draft) (r : ℕ) → ((extended o d r).level ≤ room_of o) × ((extended o d r).level ≤ (d.level - wait_of o d r) + o.film.seg_ms)
unfolding extended
level_extended o d r = (omega arith, omega arith)

count_extended : (o : Lookahead) (d : Draft) (r : ℕ) → (extended o d r).count ≡ d.count + 1
unfolding extended
count_extended o d r = refl

score_extended : (o : Lookahead) (d : Draft) (r : ℕ) → (extended o d r).score ≡ d.score +ℤ gain_of o d r
unfolding extended
score_extended o d r = refl

-- each rung of the segment after so many promises at most so much
abbrev pub Promise : Lookahead → ℕ → ℕ → ℤ → Type 0
Promise o p k m = (r : ℕ) → r < ladder_of o → promise_of o p (o.context.next + k) r ≤ℤ m

-- what a list in hand can come to, by the price of its level and what is added at most
abbrev pub top : Draft → ℕ → ℤ → ℤ
top d p z = d.score +ℤ pos (p * d.level) +ℤ z

here_most : (o : Lookahead) (p k : ℕ) (m : ℤ) (d : Draft) (r : ℕ) → Promise o p k m → d.count ≡ k → r < ladder_of o → promise_of o p (segment_after o d) r ≤ℤ m
here_most o p k m d r promise e low = subst (λ (c : ℕ). promise_of o p (o.context.next + c) r ≤ℤ m) (sym e) (promise r low)

-- the last segment adds at most the greatest promise
pub last_most : (o : Lookahead) (p k : ℕ) (m : ℤ) → p ≤ (weights_of o).stall → Promise o p k m
    → (d : Draft) → d.count ≡ k → d.level ≤ room_of o → All (IsUnder (top d p m)) (completions o 1 d)
unfolding completions
last_most o p k m low promise d e within =
    flat_fits (IsUnder (top d p m)) (λ r. completions o 0 (extended o d r)) (λ q. q < ladder_of o) (rungs_below (ladder_of o))
    (λ r small.
    let here = here_most o p k m d r promise e small in
    let step = rung_most o d r p 0 0 low within (omega arith) in
    let score = score_extended o d r in
    All-cons (IsUnder (top d p m)) (extended o d r) [] (omega (arith, ints, here, step, score)) (All-nil (IsUnder (top d p m))))
    (all_below (ladder_of o))

-- one segment before those to come adds at most its greatest promise and the price of its media
pub more_most : (o : Lookahead) (p n k : ℕ) (m z : ℤ) → p ≤ (weights_of o).stall → Promise o p k m
    → ((d : Draft) → d.count ≡ k + 1 → d.level ≤ room_of o → All (IsUnder (top d p z)) (completions o n d))
    → (d : Draft) → d.count ≡ k → d.level ≤ room_of o → All (IsUnder (top d p (z +ℤ (pos (p * o.film.seg_ms) +ℤ m)))) (completions o (suc n) d)
unfolding completions
more_most o p n k m z low promise rest d e within =
    flat_fits (IsUnder (top d p (z +ℤ (pos (p * o.film.seg_ms) +ℤ m)))) (λ r. completions o n (extended o d r)) (λ q. q < ladder_of o) (rungs_below (ladder_of o))
    (λ r small.
    let longer = extended o d r in
    let here = here_most o p k m d r promise e small in
    let level = level_extended o d r in
    let step = rung_most o d r p o.film.seg_ms longer.level low within level.1 in
    let score = score_extended o d r in
    let count = count_extended o d r in
    All-weaker (IsUnder (top longer p z)) (IsUnder (top d p (z +ℤ (pos (p * o.film.seg_ms) +ℤ m))))
    (λ x under. omega (arith, ints, under, here, step, score)) (completions o n longer) (rest longer (omega (arith, count, e)) level.0))
    (all_below (ladder_of o))

-- ---- step by step, from the last segment on

-- a price of so many milliseconds is at most so much
pub price_most : (p ms most : ℕ) → p ≤ 1000000 → ms ≤ most → p * ms ≤ 1000000 * most
price_most p ms most low few = mul-le-mul low few

-- the last segment
pub most_last : (o : Lookahead) (p k : ℕ) (m z : ℤ) → p ≤ (weights_of o).stall → Promise o p k m → IsPromise m → z ≡ m → IsMostToCome o p 1 k z
most_last o p k m z low promise is e = record {
  under = λ d count within. subst (λ (y : ℤ). All (IsUnder (top d p y)) (completions o 1 d)) (sym e) (last_most o p k m low promise d count within);
  least = let h = is.least in omega (arith, ints, e, h);
  most = let h = is.most in omega (arith, ints, e, h);
}

-- one segment before those to come
pub most_more : (o : Lookahead) (p n k : ℕ) (m y z : ℤ) → p ≤ (weights_of o).stall → p ≤ 1000000 → o.film.seg_ms ≤ 60000 → Promise o p k m → IsPromise m
    → IsMostToCome o p n (k + 1) y → z ≡ y +ℤ (pos (p * o.film.seg_ms) +ℤ m) → IsMostToCome o p (n + 1) k z
most_more o p n k m y z low small short promise is rest e = record {
  under = λ d count within.
      let same : suc n ≡ n + 1 = omega arith in
      subst (λ (x : ℤ). All (IsUnder (top d p x)) (completions o (n + 1) d)) (sym e)
      (subst (λ (j : ℕ). All (IsUnder (top d p (y +ℤ (pos (p * o.film.seg_ms) +ℤ m)))) (completions o j d)) same (more_most o p n k m y low promise rest.under d count within));
  least = let h = is.least in let g = rest.least in omega (arith, ints, e, h, g);
  most = let h = is.most in let g = rest.most in let load = price_most p o.film.seg_ms 60000 small short in omega (arith, ints, e, h, g, load);
}

-- what a list in hand comes to at most
pub reach_is : (o : Lookahead) (p : ℕ) (sums : List ℤ) (d : Draft) (y z : ℤ) → IsRelaxation o p sums → IsDraft o d → d.count < o.span
    → z ≡ top d p (slice_index_or sums (rungs_left o d - 1) y) → IsCeiling o d z
reach_is o p sums d y z relaxation is room e =
    let n = rungs_left o d - 1 in
    let most = relaxation.most n y (omega (arith, room)) in
    let more : n + 1 ≡ rungs_left o d = omega (arith, room) in
    let count : d.count ≡ o.span - (n + 1) = omega (arith, room) in
    subst (λ (x : ℤ). All (IsUnder x) (completions o (rungs_left o d) d)) (sym e)
    (subst (λ (j : ℕ). All (IsUnder (top d p (slice_index_or sums n y))) (completions o j d)) more (most.under d count is.level))
