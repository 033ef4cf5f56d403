-- The counts by which a session is bounded: segments begun, seeks to come, turns to come, stalls to spare.
use Rattle.std.proofs.Common.{◌≡◌, ℕ, ◌+◌, ◌-◌, ◌*◌, ◌/◌, ◌%◌, ◌<◌, ◌≤◌, true, false, not, ◌&&◌, cond, eqb, ltb, leb, List, [], ◌∷◌, length, Some, IfSome, refl, sym, ◌∙◌, ap, lt-ltb, le_trans, mul-le-mul_right, arith}
use Rattle.std.specs.List.{All}
use Rattle.std.proofs.lemmas.Bool.{cond-true, cond-false, cond_both, false≢true, ltb-true, and_left, and_right, and_from, ne_eqb, eq-eqb, eqb-true}
use Rattle.std.proofs.lemmas.Bool.Decides.{nat_tests}
use Rattle.std.proofs.lemmas.Option.{IfSome_then}
use Rattle.std.proofs.lemmas.List.Elements.{All-head, All-tail}
use Rattle.std.proofs.lemmas.List.Sums.{sum_by-cons, count_by-le-length}
use Rattle.std.proofs.lemmas.Nat.{div_below, le-div, div-add-mod', mod_below}
use Rattle.lab_model.specs.declared.context.Seek.{Seek}
use Rattle.lab_model.specs.Film.{Film, IsFilm, segments_of}
use Rattle.lab_model.specs.Seeks.{SeeksFit}
use Rattle.player_core.specs.State.{Case, Mode, Player, first_player, starting, playing, seeking, ended}
use Rattle.player_core.specs.Parts.{mode_after_arrival, is_playing, seek_at}
use Rattle.player_core.specs.Sound.{all_turns, begun_before, is_waiting, seeks_left, spare_stall, turns_left}

-- ---- segments that begin before a position

module _ (x s : ℕ) (some : 1 ≤ s) where
  begun_most_at : (n : ℕ) → x ≤ n * s → (x + s - 1) / s ≤ n
  begun_most_at n h = let low = div_below (x + s - 1) s (n + 1) (omega (arith, some)) (omega (arith, h, some)) in omega (arith, low)

  begun_grows_at : (x + s - 1) / s ≤ (x + 1 + s - 1) / s
  begun_grows_at =
      let whole = div-add-mod' (x + s - 1) s in
      le-div ((x + s - 1) / s) (x + 1 + s - 1) s (omega (arith, some)) (omega (arith, whole))

  begun_one_at : x % s ≡ 0 → (x + s - 1) / s + 1 ≤ (x + 1 + s - 1) / s
  begun_one_at none =
      let whole = div-add-mod' x s in
      let most = begun_most_at (x / s) (omega (arith, whole, none)) in
      let least = le-div (x / s + 1) (x + 1 + s - 1) s (omega (arith, some)) (omega (arith, whole, none)) in
      omega (arith, most, least)

  -- within a segment a millisecond begins none, and at the beginning of one it begins one
  begun_same_at : (x % s ≡ 0 → ⊥) → (x + 1 + s - 1) / s ≡ (x + s - 1) / s
  begun_same_at within =
      let whole = div-add-mod' x s in
      let rest = mod_below x s (omega (arith, some)) in
      let low = div_below (x + 1 + s - 1) s (x / s + 2) (omega (arith, some)) (omega (arith, whole, rest, some)) in
      let least = le-div (x / s + 1) (x + s - 1) s (omega (arith, some)) (omega (arith, whole, within)) in
      let grows = begun_grows_at in
      omega (arith, low, least, grows)

  begun_more_at : x % s ≡ 0 → (x + 1 + s - 1) / s ≡ (x + s - 1) / s + 1
  begun_more_at none =
      let whole = div-add-mod' x s in
      let least = le-div (x / s) (x + s - 1) s (omega (arith, some)) (omega (arith, whole, some)) in
      let low = div_below (x + 1 + s - 1) s (x / s + 2) (omega (arith, some)) (omega (arith, whole, none, some)) in
      let one = begun_one_at none in
      omega (arith, least, low, one)

  begun_all_at : (n : ℕ) → x ≡ n * s → (x + s - 1) / s ≡ n
  begun_all_at n e =
      let most = begun_most_at n (omega (arith, e)) in
      let least = le-div n (x + s - 1) s (omega (arith, some)) (omega (arith, e, some)) in
      omega (arith, most, least)

-- before a position within so many segments no more than those begin
pub begun_most : (f : Film) (x n : ℕ) → 1 ≤ f.seg_ms → x ≤ n * f.seg_ms → begun_before f x ≤ n
begun_most f x n some h = begun_most_at x f.seg_ms some n h

-- before the next position no fewer begin
pub begun_grows : (f : Film) (x : ℕ) → 1 ≤ f.seg_ms → begun_before f x ≤ begun_before f (x + 1)
begun_grows f x some = begun_grows_at x f.seg_ms some

-- where a segment begins, at least one more begins before the next position
pub begun_one : (f : Film) (x : ℕ) → 1 ≤ f.seg_ms → x % f.seg_ms ≡ 0 → begun_before f x + 1 ≤ begun_before f (x + 1)
begun_one f x some none = begun_one_at x f.seg_ms some none

-- the same as equations: within a segment, at the beginning of one, and at the end of so many
pub begun_same : (f : Film) (x : ℕ) → 1 ≤ f.seg_ms → (x % f.seg_ms ≡ 0 → ⊥) → begun_before f (x + 1) ≡ begun_before f x
begun_same f x some within = begun_same_at x f.seg_ms some within

-- where a segment begins, just one more begins before the next position
pub begun_more : (f : Film) (x : ℕ) → 1 ≤ f.seg_ms → x % f.seg_ms ≡ 0 → begun_before f (x + 1) ≡ begun_before f x + 1
begun_more f x some none = begun_more_at x f.seg_ms some none

-- before the end of so many segments just those begin
pub begun_all : (f : Film) (x n : ℕ) → 1 ≤ f.seg_ms → x ≡ n * f.seg_ms → begun_before f x ≡ n
begun_all f x n some e = begun_all_at x f.seg_ms some n e

-- ---- seeks to come

counts_fewer : (t a : ℕ) → cond (leb (t + 1) a) 1 0 ≤ cond (leb t a) 1 0
counts_fewer t a = grind (arith, nat_tests)

counts_one : (t a : ℕ) → a ≡ t → cond (leb (t + 1) a) 1 0 + 1 ≤ cond (leb t a) 1 0
counts_one t a e = grind (arith, nat_tests)

seeks_more : (s : Seek) (ss : List Seek) (t : ℕ) → seeks_left (s ∷ ss) t ≡ cond (leb t s.at_ms) 1 0 + seeks_left ss t
seeks_more s ss t = sum_by-cons (λ (q : Seek). cond (leb t q.at_ms) 1 0) s ss

-- a millisecond later no more seeks are to come
pub seeks_fewer : (seeks : List Seek) (t : ℕ) → seeks_left seeks (t + 1) ≤ seeks_left seeks t
seeks_fewer [] t = omega arith
seeks_fewer (s ∷ ss) t =
    let before = seeks_more s ss t in
    let after = seeks_more s ss (t + 1) in
    let rest = seeks_fewer ss t in
    let first = counts_fewer t s.at_ms in
    omega (arith, before, after, rest, first)

-- where there is a seek at an instant, at least one fewer is to come a millisecond later
pub seeks_one : (seeks : List Seek) (t : ℕ) → IfSome (seek_at seeks t) (λ s. seeks_left seeks (t + 1) + 1 ≤ seeks_left seeks t)
seeks_one [] t = tt
seeks_one (s ∷ ss) t =
    let before = seeks_more s ss t in
    let after = seeks_more s ss (t + 1) in
    let first = counts_fewer t s.at_ms in
    let rest = seeks_fewer ss t in
    cond_both (eqb s.at_ms t) (Some s) (seek_at ss t) (λ o. IfSome o (λ q. seeks_left (s ∷ ss) (t + 1) + 1 ≤ seeks_left (s ∷ ss) t))
    (λ e. let one = counts_one t s.at_ms (eqb-true s.at_ms t e) in omega (arith, before, after, rest, one))
    (λ e. IfSome_then (seek_at ss t) (seeks_one ss t) (λ q less. omega (arith, before, after, first, less)))

-- what is true of all seeks is true of the one at an instant
pub seek_fits : (P : Seek → Type 0) (seeks : List Seek) (t : ℕ) → All P seeks → IfSome (seek_at seeks t) P
seek_fits P [] t all = tt
seek_fits P (s ∷ ss) t all =
    cond_both (eqb s.at_ms t) (Some s) (seek_at ss t) (λ o. IfSome o P) (λ e. All-head P s ss all) (λ e. seek_fits P ss t (All-tail P s ss all))

-- ---- turns to come

-- where a segment is left, there are its own turns and 32 for each one behind it
pub turns_now : (n k h : ℕ) → k < n → cond (ltb k n) (32 * (n - k - 1) + h) 0 ≡ 32 * (n - k - 1) + h
turns_now n k h low = cond-true (ltb k n) (32 * (n - k - 1) + h) 0 (lt-ltb k n low)

-- where the next segment brings at most 32 turns, there are no more than 32 for each one behind this
pub turns_next : (n k h : ℕ) → h ≤ 32 → cond (ltb (k + 1) n) (32 * (n - (k + 1) - 1) + h) 0 ≤ 32 * (n - k - 1)
turns_next n k h few =
    cond_both (ltb (k + 1) n) (32 * (n - (k + 1) - 1) + h) 0 (λ x. x ≤ 32 * (n - k - 1))
    (λ e. let low = ltb-true (k + 1) n e in omega (arith, low, few)) (λ e. omega arith)

-- ---- modes and stalls

-- once a segment has arrived, no mode waits for one
pub begun_waits : (m : Mode) → is_waiting (mode_after_arrival m) ≡ true → ⊥
begun_waits starting e = false≢true e
begun_waits playing e = false≢true e
begun_waits seeking e = false≢true e
begun_waits ended e = false≢true e

-- a mode that plays does not wait for a segment
pub playing_waits : (m : Mode) → is_playing m ≡ true → is_waiting m ≡ false
playing_waits starting e = absurd (false≢true e)
playing_waits playing e = refl
playing_waits seeking e = absurd (false≢true e)
playing_waits ended e = absurd (false≢true e)

-- at most one stall is to spare
pub spare_most : (p : Player) → spare_stall p ≤ 1
spare_most p = cond_both (p.stalling && eqb p.x p.y && not (is_waiting p.mode)) 0 1 (λ n. n ≤ 1) (λ e. omega arith) (λ e. omega arith)

-- no more seeks are to come than the script has
pub seeks_most : (seeks : List Seek) (t : ℕ) → seeks_left seeks t ≤ length seeks
seeks_most seeks t = count_by-le-length (λ (s : Seek). leb t s.at_ms) seeks

-- at its start a session has no more turns left than any session
pub turns_first : (c : Case) → IsFilm c.film → SeeksFit c.seeks (segments_of c.film) → turns_left c 0 first_player ≤ all_turns c
turns_first c film script =
    let n = segments_of c.film in
    let some = film.segments.0 in
    let turns = turns_now n 0 32 (omega (arith, some)) in
    let seeks = mul-le-mul_right (34 * n + 2) (le_trans (seeks_most c.seeks 0) script.count) in
    omega (arith, turns, seeks)

-- in play it does not wait for a segment
pub playing_still : (m : Mode) → m ≡ playing → is_waiting m ≡ true → ⊥
playing_still m e waits = false≢true (sym (ap is_waiting e) ∙ waits)

-- where no stall goes on, one is to spare
pub spare_calm : (p : Player) → p.stalling ≡ false → spare_stall p ≡ 1
spare_calm p e = cond-false ((p.stalling && eqb p.x p.y) && not (is_waiting p.mode)) 0 1 (and_left (p.stalling && eqb p.x p.y) (not (is_waiting p.mode)) (and_left p.stalling (eqb p.x p.y) e))

-- where it waits for a segment, a stall is to spare
pub spare_waiting : (p : Player) → is_waiting p.mode ≡ true → spare_stall p ≡ 1
spare_waiting p e = cond-false ((p.stalling && eqb p.x p.y) && not (is_waiting p.mode)) 0 1 (and_right (p.stalling && eqb p.x p.y) (not (is_waiting p.mode)) (ap not e))

-- before the end of what is loaded a stall is to spare
pub spare_inside : (p : Player) → p.x < p.y → spare_stall p ≡ 1
spare_inside p low = cond-false ((p.stalling && eqb p.x p.y) && not (is_waiting p.mode)) 0 1 (and_left (p.stalling && eqb p.x p.y) (not (is_waiting p.mode)) (and_right p.stalling (eqb p.x p.y) (ne_eqb p.x p.y (λ e. absurd (omega (arith, e, low))))))

-- in play at the end of what is loaded, where a stall goes on, none is to spare
pub spare_at_end : (p : Player) → p.mode ≡ playing → p.x ≡ p.y → ◌≡◌ {A = ℕ} (cond {A = ℕ} ((true && eqb p.x p.y) && not (is_waiting p.mode)) 0 1) 0
spare_at_end p on e = cond-true (eqb p.x p.y && not (is_waiting p.mode)) 0 1 (and_from (eqb p.x p.y) (not (is_waiting p.mode)) (eq-eqb p.x p.y e) (ap (λ m. not (is_waiting m)) on))
