-- Where the buffer holds at most two segments, a label's delay alone settles what comes after it.
use Rattle.std.proofs.Common.{◌≡◌, ◌∙◌, ℕ, zero, suc, ◌+◌, ◌*◌, ◌<◌, ◌≤◌, ⊎_elim, sym, ap, subst, arith}
use Rattle.std.specs.Prelude.{ℤ, ◌≤ℤ◌}
use Rattle.std.specs.List.{Contains}
use Rattle.std.proofs.lemmas.Bool.{cases_lt}
use Rattle.std.proofs.lemmas.Int.{ints}
use Rattle.lab_model.specs.declared.label.Label.{Label}
use Rattle.lab_model.specs.Film.{rungs_of, segments_of}
use Rattle.labels.specs.Labels.{Dominates, next_label, request_at, start_label}
use Rattle.player_core.specs.Scene.{IsTask, Task}
use Rattle.labels.specs.Frontier.{frontier}
use Rattle.labels.specs.Grid.{exact}
use Rattle.labels.specs.Grown.{grown, successors}
use Rattle.labels.proofs.Grown.{from_first, from_next, grown_next}
use Rattle.labels.proofs.Inherits.{came_in_order}
use Rattle.labels.proofs.Kept.{undominated_in}
use Rattle.labels.proofs.Prefixes.{grown_is_frontier}
use Rattle.labels.proofs.Rounds.{round_exact}
use Rattle.labels.proofs.Walks.{from_by_rung}

-- a label comes no later than its delay and the segments before it
pub lags : (g : Task) (i q : ℕ) (l : Label) → Contains (grown exact g i q) l → l.t ≤ l.p + i * g.film.seg_ms
lags g zero q l h = subst (λ (m : Label). m.t ≤ m.p + 0 * g.film.seg_ms) (sym (round_exact (start_label g q)) ∙ from_first exact g q l h) (omega arith)
lags g (suc i) r l h =
    let from = from_next exact g i r l h in
    let next = next_label g (suc i) from.0.0 from.0.1 r in
    subst (λ (m : Label). m.t ≤ m.p + suc i * g.film.seg_ms) (sym (round_exact next) ∙ from.2) (omega arith)

-- where it has no longer a delay, the request is no later
request_by_delay : (g : Task) → g.setup.buffer_ms ≤ 2 * g.film.seg_ms → (i : ℕ) (l m : Label) → l.t ≤ l.p + i * g.film.seg_ms → l.p ≤ m.p → request_at g (suc i) l ≤ request_at g (suc i) m
request_by_delay g small i l m lag low = omega (arith, small, lag, low)

-- and the successor of an equal value dominates
next_by_delay : (g : Task) → IsTask g → g.setup.buffer_ms ≤ 2 * g.film.seg_ms → (i p q r : ℕ) → suc i < segments_of g.film → r < rungs_of g.film → (l m : Label) → l.t ≤ l.p + i * g.film.seg_ms → l.p ≤ m.p
    → (next_label g (suc i) q m r).v ≤ℤ (next_label g (suc i) p l r).v → Dominates (next_label g (suc i) p l r) (next_label g (suc i) q m r)
next_by_delay g is small i p q r inside rung l m lag low value =
    let came = came_in_order g is (suc i) r inside rung (request_at g (suc i) l) (request_at g (suc i) m) (request_by_delay g small i l m lag low) in
    (came, omega (arith, came, low), value)

z_same : (a b : ℤ) → a ≡ b → b ≤ℤ a
z_same a b e = omega (arith, ints)

grown_apart : (g : Task) → IsTask g → g.setup.buffer_ms ≤ 2 * g.film.seg_ms → (i q : ℕ) → i < segments_of g.film → q < rungs_of g.film
    → (a b : Label) → Contains (grown exact g i q) a → Contains (grown exact g i q) b → a.v ≡ b.v → a ≡ b
grown_apart g is small zero q inside rung a b h k e = sym (from_first exact g q a h) ∙ from_first exact g q b k
grown_apart g is small (suc i) r inside rung a b h k e =
    let one = from_next exact g i r a h in
    let two = from_next exact g i r b k in
    let first = next_label g (suc i) one.0.0 one.0.1 r in
    let second = next_label g (suc i) two.0.0 two.0.1 r in
    let is_a : first ≡ a = sym (round_exact first) ∙ one.2 in
    let is_b : second ≡ b = sym (round_exact second) ∙ two.2 in
    let value : first.v ≡ second.v = ap (λ (l : Label). l.v) is_a ∙ e ∙ ap (λ (l : Label). l.v) (sym is_b) in
    let all = successors exact g (suc i) (grown exact g i) r in
    let in_a = undominated_in all a (subst (λ ls. Contains ls a) (grown_next exact g i r) h) in
    let in_b = undominated_in all b (subst (λ ls. Contains ls b) (grown_next exact g i r) k) in
    let lag_a = lags g i one.0.0 one.0.1 (from_by_rung (rungs_of g.film) (grown exact g i) one.0 one.1).1 in
    let lag_b = lags g i two.0.0 two.0.1 (from_by_rung (rungs_of g.film) (grown exact g i) two.0 two.1).1 in
    ⊎_elim
    (λ (low : one.0.1.p < two.0.1.p).
    let over = next_by_delay g is small i one.0.0 two.0.0 r inside rung one.0.1 two.0.1 lag_a (omega (arith, low)) (z_same first.v second.v value) in
    in_b.1 a in_a.0 (subst (λ l. Dominates l b) is_a (subst (Dominates first) is_b over)))
    (λ (low : two.0.1.p ≤ one.0.1.p).
    let over = next_by_delay g is small i two.0.0 one.0.0 r inside rung two.0.1 one.0.1 lag_b low (z_same second.v first.v (sym value)) in
    sym (in_a.1 b in_b.0 (subst (λ l. Dominates l a) is_b (subst (Dominates second) is_a over)))) (cases_lt one.0.1.p two.0.1.p)

-- no two labels of one frontier have equal values
pub frontier_apart : (g : Task) → IsTask g → g.setup.buffer_ms ≤ 2 * g.film.seg_ms → (i q : ℕ) → i < segments_of g.film → q < rungs_of g.film
    → (a b : Label) → Contains (frontier g i q) a → Contains (frontier g i q) b → a.v ≡ b.v → a ≡ b
frontier_apart g is small i q inside rung a b h k e =
    let same = sym (grown_is_frontier g is i q inside rung) in
    grown_apart g is small i q inside rung a b (subst (λ ls. Contains ls a) same h) (subst (λ ls. Contains ls b) same k) e
