-- The milliseconds that a player can wait before its next turn, and that each millisecond takes one of them.
use Rattle.std.proofs.Common.{◌≡◌, ℕ, ◌+◌, ◌-◌, ◌*◌, ◌%◌, ◌<◌, ◌≤◌, ⊎_elim, true, false, cond, not, ◌&&◌, eqb, leb, ltb, List, [], ◌∷◌, ◌++◌, Option, Some, None, IfSome, is_some, option_map, refl, sym, ◌∙◌, ap, subst, mul-le-mul, arith}
use Rattle.lab_model.specs.Limits.{longest_film}
use Rattle.std.proofs.lemmas.Bool.{and_from, cases_lt, cond_both, cond-true, cond-false, eq-eqb, false_from_ne_true, false≢true, le-leb, lt-ltb, le-ltb, ltb-true, true≢false}
use Rattle.lab_model.specs.declared.context.Seek.{Seek}
use Rattle.lab_model.specs.declared.context.Played.{Played}
use Rattle.lab_model.specs.Film.{segments_of}
use Rattle.network_clock.specs.Network.{done_on}
use Rattle.abandonment.specs.Test.{abandonment}
use Rattle.player_core.specs.declared.session.Event.TheVariants as event
use Rattle.player_core.specs.Available.{available_at}
use Rattle.player_core.specs.State.{Case, Download, Mode, Player, ended, playing, seeking, starting}
use Rattle.player_core.specs.Parts.{abandon, arrival, asks, begins, can_ask, finish, gives_up, gives_up_any, instant, is_ended, is_playing, pass_ms, passes_in, plays, progress_of, request, rung_for, seek, seek_at, seeks_to, stalls_on, takes, takes_any}
use Rattle.player_core.specs.Sound.{IsCase, DownloadRuns, Sound, asked_size, is_waiting, seeks_left, turns_here, turns_left}
use Rattle.player_core.proofs.Runs.{done_soon, runs_on}
use Rattle.player_core.proofs.Soundness.{IsOpen, taken_turns}
use Rattle.player_core.proofs.Players.{gone_on, pass_t, stopped}

-- the milliseconds that a player can wait: for its download, or for room and for the next segment to be there
abbrev pub waits_for : Case → Player → Option Download → ℕ
waits_for c p (Some d) = done_on c.network d.asked (asked_size c d) - p.t
waits_for c p None = (p.y - p.x) + cond (ltb p.k (segments_of c.film)) (available_at c.film c.ahead p.k - p.t) 0

-- the milliseconds for which a player waits: for its download, or else for room and for the segment
abbrev pub waits_ms : Case → Player → ℕ
waits_ms c p = waits_for c p p.download

-- ---- there are not many

module _ (c : Case) (is : IsCase c) (from : ℕ) (p : Player) (h : Sound c from p) where
  end_most : (k : ℕ) → k ≤ segments_of c.film → k * c.film.seg_ms ≤ longest_film
  end_most k low =
      let most = mul-le-mul low is.film.seg_ms.1 in
      let count = is.film.segments.1 in
      omega (arith, most, count)

  waits_few_for : (o : Option Download) → p.download ≡ o → waits_for c p o ≤ is.longest + 10000
  waits_few_for None e =
      let whole = end_most p.k h.next in
      let end = h.loaded_end in
      cond_both (ltb p.k (segments_of c.film)) (available_at c.film c.ahead p.k - p.t) 0 (λ n. (p.y - p.x) + n ≤ is.longest + 10000)
      (λ low. let next = end_most (p.k + 1) (let l = ltb-true p.k (segments_of c.film) low in omega (arith, l)) in omega (arith, whole, end, next, is.long)) (λ e. omega (arith, whole, end, is.long))
  waits_few_for (Some d) e =
      let runs : DownloadRuns c p.t d = subst (λ o. IfSome o (DownloadRuns c p.t)) e h.running in
      let soon = done_soon c is p.t d runs in
      let asked = runs.asked in
      omega (arith, soon, asked)

  -- a player can wait at most as long as the longest download runs
  pub waits_few : waits_ms c p ≤ is.longest + 10000
  waits_few = waits_few_for p.download refl

-- ---- what holds of a player whose instant did not end the session

-- without a download it could not ask for one, and it does not play at the film's end
pub record IsStill (c : Case) (q : Player) : Type 0 where
  pub waits : q.download ≡ None → can_ask c q ≡ false
  pub inside : (is_playing q.mode && eqb q.x (segments_of c.film * c.film.seg_ms)) ≡ false

-- it does not play at the film's end
abbrev pub IsInside : Case → Player → Type 0
IsInside c q = (is_playing q.mode && eqb q.x (segments_of c.film * c.film.seg_ms)) ≡ false

module _ (c : Case) where
  finish_inside : (p : Player) → is_ended (finish c p).mode ≡ false → IsInside c (finish c p)
  finish_inside p =
      cond_both (is_playing p.mode && eqb p.x (segments_of c.film * c.film.seg_ms)) (record p { mode = ended; events = p.events ++ event.End p.t ∷ [] }) p (λ q. is_ended q.mode ≡ false → IsInside c q)
      (λ e no. absurd (true≢false no)) (λ e no. e)

  gives_inside : (p : Player) (d : Download) (o : Option ℕ) → IsInside c p → IsInside c (gives_up c p d o)
  gives_inside p d None h = h
  gives_inside p d (Some q) h = h

  gives_any_inside : (p : Player) (o : Option Download) → IsInside c p → IsInside c (gives_up_any c p o)
  gives_any_inside p None h = h
  gives_any_inside p (Some d) h = gives_inside p d (abandonment c.film d.segment d.rung (progress_of c.film p.t d)) h

  abandon_inside : (p : Player) → IsInside c p → IsInside c (abandon c p)
  abandon_inside p h = cond_both c.setup.abandon (gives_up_any c p p.download) p (IsInside c) (λ e. gives_any_inside p p.download h) (λ e. h)

  seeks_inside : (p : Player) (o : Option Seek) → IsInside c p → IsInside c (seeks_to c p o)
  seeks_inside p None h = h
  seeks_inside p (Some s) h = refl

  request_inside : (p : Player) → IsInside c p → IsInside c (request c p)
  request_inside p h = cond_both (can_ask c p) (asks c p (rung_for c p)) p (IsInside c) (λ e. h) (λ e. h)

  request_waits : (p : Player) → (request c p).download ≡ None → can_ask c (request c p) ≡ false
  request_waits p =
      cond_both (can_ask c p) (asks c p (rung_for c p)) p (λ q. q.download ≡ None → can_ask c q ≡ false)
      (λ e none. absurd (true≢false (ap is_some none))) (λ e none. e)

  gone_on_still : (r : Player) → IsInside c r → IsStill c (gone_on c r)
  gone_on_still r h = record {
    waits = request_waits (seek c (abandon c r));
    inside = request_inside (seek c (abandon c r)) (seeks_inside (abandon c r) (seek_at c.seeks (abandon c r).t) (abandon_inside r h));
  }

  -- after an instant that goes on it could not ask for a download, and does not play at the film's end
  pub instant_still : (p : Player) → is_ended (instant c p).mode ≡ false → IsStill c (instant c p)
  instant_still p =
      cond_both (is_ended (stopped c p).mode) (stopped c p) (gone_on c (stopped c p)) (λ q. is_ended q.mode ≡ false → IsStill c q)
      (λ yes no. absurd (true≢false (sym yes ∙ no))) (λ goes no. gone_on_still (stopped c p) (finish_inside (arrival c p) goes))

-- ---- what a millisecond leaves as it is

-- a millisecond later nothing but the position has moved, and not back
pub record Passed (c : Case) (p q : Player) : Type 0 where
  pub k : q.k ≡ p.k
  pub y : q.y ≡ p.y
  pub x : p.x ≤ q.x
  pub mode : q.mode ≡ p.mode
  pub download : q.download ≡ p.download
  pub forced : q.forced ≡ p.forced

module _ (c : Case) where
  same_passed : (p : Player) → Passed c p p
  same_passed p = record { k = refl; y = refl; x = omega arith; mode = refl; download = refl; forced = refl }

  begins_passed : (p : Player) (qs : List Played) → Passed c p (record (begins p qs) { x = (begins p qs).x + 1; stalling = false })
  begins_passed p [] = record { k = refl; y = refl; x = omega arith; mode = refl; download = refl; forced = refl }
  begins_passed p (q ∷ qs) = record { k = refl; y = refl; x = omega arith; mode = refl; download = refl; forced = refl }

  -- in any mode a millisecond moves nothing but the position, and not back
  pub passes_passed : (p : Player) (m : Mode) → Passed c p (passes_in c p m)
  passes_passed p starting = record { k = refl; y = refl; x = omega arith; mode = refl; download = refl; forced = refl }
  passes_passed p seeking = record { k = refl; y = refl; x = omega arith; mode = refl; download = refl; forced = refl }
  passes_passed p ended = same_passed p
  passes_passed p playing =
      cond_both (ltb p.x p.y) (plays c p) (stalls_on p) (λ q. Passed c p q)
      (λ e. cond_both (eqb (p.x % c.film.seg_ms) 0) (begins p p.loaded) p (λ q. Passed c p (record q { x = q.x + 1; stalling = false })) (λ z. begins_passed p p.loaded) (λ z. begins_passed p []))
      (λ e. cond_both p.stalling (record p { stall_ms = p.stall_ms + 1 }) (record p { stall_ms = p.stall_ms + 1; stalls = p.stalls + 1; stalling = true; events = p.events ++ event.Stall p.t ∷ [] }) (λ q. Passed c p q)
      (λ z. record { k = refl; y = refl; x = omega arith; mode = refl; download = refl; forced = refl }) (λ z. record { k = refl; y = refl; x = omega arith; mode = refl; download = refl; forced = refl }))

  begins_x : (p : Player) (qs : List Played) → (begins p qs).x ≡ p.x
  begins_x p [] = refl
  begins_x p (q ∷ qs) = refl

  -- in play before the end of what is loaded the position moves on by one
  pub plays_x : (p : Player) (m : Mode) → m ≡ playing → p.x < p.y → (passes_in c p m).x ≡ p.x + 1
  plays_x p starting e low = absurd (false≢true (ap is_playing e))
  plays_x p seeking e low = absurd (false≢true (ap is_playing e))
  plays_x p ended e low = absurd (false≢true (ap is_playing e))
  plays_x p playing e low =
      ap (λ (q : Player). q.x) (cond-true (ltb p.x p.y) (plays c p) (stalls_on p) (lt-ltb p.x p.y low))
      ∙ cond_both (eqb (p.x % c.film.seg_ms) 0) (begins p p.loaded) p (λ q. q.x + 1 ≡ p.x + 1) (λ z. ap (λ n. n + 1) (begins_x p p.loaded)) (λ z. refl)

moves_on : (m : Mode) → is_ended m ≡ false → is_waiting m ≡ false → m ≡ playing
moves_on starting go still = absurd (true≢false still)
moves_on seeking go still = absurd (true≢false still)
moves_on ended go still = absurd (true≢false go)
moves_on playing go still = refl

-- a download can be asked for
pub asks_true : (c : Case) (p : Player) → p.download ≡ None → p.k < segments_of c.film → p.y - p.x + c.film.seg_ms ≤ c.setup.buffer_ms → available_at c.film c.ahead p.k ≤ p.t → can_ask c p ≡ true
asks_true c p none low room there =
    let free = ap (λ o. not (is_some o)) none in
    let fits = leb (p.y - p.x + c.film.seg_ms) c.setup.buffer_ms in
    let here = leb (available_at c.film c.ahead p.k) p.t in
    let one = and_from (not (is_some p.download)) (ltb p.k (segments_of c.film)) free (lt-ltb p.k (segments_of c.film) low) in
    let two = and_from (not (is_some p.download) && ltb p.k (segments_of c.film)) fits one (le-leb (p.y - p.x + c.film.seg_ms) c.setup.buffer_ms room) in
    and_from ((not (is_some p.download) && ltb p.k (segments_of c.film)) && fits) here two (le-leb (available_at c.film c.ahead p.k) p.t there)

-- what is left to wait without a download, after the millisecond
abbrev rest_ms : Case → Player → ℕ
rest_ms c p = (p.y - (passes_in c (takes_any c p) p.mode).x) + cond (ltb p.k (segments_of c.film)) (available_at c.film c.ahead p.k - (p.t + 1)) 0

module _ (c : Case) (is : IsCase c) (from : ℕ) (p : Player) (h : Sound c from p) where
  pass_passed : Passed c (takes_any c p) (passes_in c (takes_any c p) p.mode)
  pass_passed = passes_passed c (takes_any c p) p.mode

  -- a millisecond takes no turn
  pub pass_turns : (to : ℕ) → turns_left c to (pass_ms c p) ≡ turns_left c to p
  pass_turns to =
      let n = segments_of c.film in
      let passed = pass_passed in
      let q = passes_in c (takes_any c p) p.mode in
      let left = λ (k : ℕ) (o : Option Download) (f : Option ℕ). cond (ltb k n) (32 * (n - k - 1) + turns_here o f) 0 in
      ap (λ k. seeks_left c.seeks to * (34 * n + 2) + left k q.download q.forced) passed.k
      ∙ ap (λ o. seeks_left c.seeks to * (34 * n + 2) + left p.k o q.forced) passed.download
      ∙ ap (λ f. seeks_left c.seeks to * (34 * n + 2) + left p.k (option_map (takes c p.t) p.download) f) passed.forced
      ∙ ap (λ t. seeks_left c.seeks to * (34 * n + 2) + cond (ltb p.k n) (32 * (n - p.k - 1) + t) 0) (taken_turns c p.t p.download p.forced)

  goes_x : p.x < p.y → is_ended p.mode ≡ false → (passes_in c (takes_any c p) p.mode).x ≡ p.x + 1
  goes_x low go =
      let still = false_from_ne_true (is_waiting p.mode) (λ waits. let e = h.idle waits in absurd (omega (arith, e, low))) in
      plays_x c (takes_any c p) p.mode (moves_on p.mode go still) low

  rest_next : p.download ≡ None → IsStill c p → is_ended p.mode ≡ false → p.k < segments_of c.film → rest_ms c p + 1 ≤ waits_for c p None
  rest_next none still go low =
      let there = available_at c.film c.ahead p.k in
      let before = cond-true (ltb p.k (segments_of c.film)) (there - p.t) 0 (lt-ltb p.k (segments_of c.film) low) in
      let after = cond-true (ltb p.k (segments_of c.film)) (there - (p.t + 1)) 0 (lt-ltb p.k (segments_of c.film) low) in
      let up = pass_passed.x in
      let buffer = is.setup.buffer.0 in
      ⊎_elim (λ inside. let x = goes_x inside go in omega (arith, before, after, x, inside))
      (λ full. ⊎_elim (λ early. omega (arith, before, after, up, early))
      (λ late. absurd (true≢false (sym (asks_true c p none low (omega (arith, full, buffer)) late) ∙ still.waits none))) (cases_lt p.t there)) (cases_lt p.x p.y)

  rest_end : IsStill c p → is_ended p.mode ≡ false → segments_of c.film ≤ p.k → rest_ms c p + 1 ≤ waits_for c p None
  rest_end still go all =
      let n = segments_of c.film in
      let there = available_at c.film c.ahead p.k in
      let before = cond-false (ltb p.k n) (there - p.t) 0 (le-ltb p.k n all) in
      let after = cond-false (ltb p.k n) (there - (p.t + 1)) 0 (le-ltb p.k n all) in
      ⊎_elim (λ inside. let x = goes_x inside go in omega (arith, before, after, x, inside))
      (λ full.
      let next = h.next in
      let position = h.position in
      let end = h.loaded_end in
      let whole = ap (λ k. k * c.film.seg_ms) (let same : p.k ≡ n = omega (arith, next, all) in same) in
      let on = moves_on p.mode go (false_from_ne_true (is_waiting p.mode) (λ waits. let more = h.more waits in absurd (omega (arith, more, all)))) in
      let plays = and_from (is_playing p.mode) (eqb p.x (n * c.film.seg_ms)) (ap is_playing on) (eq-eqb p.x (n * c.film.seg_ms) (omega (arith, full, position, end, whole))) in
      absurd (true≢false (sym plays ∙ still.inside))) (cases_lt p.x p.y)

  rest_is : waits_for c (pass_ms c p) None ≡ rest_ms c p
  rest_is =
      let passed = pass_passed in
      let n = segments_of c.film in
      let y = passed.y in
      let q = passes_in c (takes_any c p) p.mode in
      let k = ap (λ k. cond (ltb k n) (available_at c.film c.ahead k - (q.t + 1)) 0) passed.k in
      let t = ap (λ t. cond (ltb p.k n) (available_at c.film c.ahead p.k - t) 0) (pass_t c p) in
      omega (arith, y, k, t)

  waits_less_for : (o : Option Download) → p.download ≡ o → IsOpen p → IsStill c p → is_ended p.mode ≡ false → waits_for c (pass_ms c p) (option_map (takes c p.t) o) + 1 ≤ waits_for c p o
  waits_less_for None e some still go =
      let same = rest_is in
      ⊎_elim (λ low. let less = rest_next e still go low in omega (arith, same, less)) (λ all. let less = rest_end still go all in omega (arith, same, less)) (cases_lt p.k (segments_of c.film))
  waits_less_for (Some d) e some still go =
      let runs : DownloadRuns c p.t d = subst (λ o. IfSome o (DownloadRuns c p.t)) e h.running in
      let left : eqb d.job.left 0 ≡ false = subst (λ o. IfSome o (λ d. eqb d.job.left 0 ≡ false)) e some in
      let on = runs_on c is p.t d runs left in
      let at = pass_t c p in
      omega (arith, on, at)

  -- after each millisecond at least one fewer is left to wait
  pub waits_less : IsOpen p → IsStill c p → is_ended p.mode ≡ false → waits_ms c (pass_ms c p) + 1 ≤ waits_ms c p
  waits_less some still go =
      let same = ap (λ o. waits_for c (pass_ms c p) o) pass_passed.download in
      let less = waits_less_for p.download refl some still go in
      omega (arith, same, less)
