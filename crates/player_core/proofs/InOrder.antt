-- Segments are loaded and played in the order in which they are asked for, where nothing is given up and nothing is sought.
use Rattle.std.proofs.Common.{◌≡◌, ◌∙◌, ℕ, zero, suc, ◌+◌, ◌*◌, ◌%◌, ◌<◌, true, false, ◌&&◌, eqb, ltb, List, [], ◌∷◌, ◌++◌, length, Option, Some, None, refl, sym, ap, subst, arith}
use Rattle.std.proofs.lemmas.Bool.{cond_both, cond-false, eqb-false, eqb-true, ltb-true}
use Rattle.std.proofs.lemmas.List.{length_push, nil_from_length}
use Rattle.lab_model.specs.declared.context.Played.{Played}
use Rattle.lab_model.specs.Film.{Film, segments_of}
use Rattle.player_core.specs.declared.session.Event.TheVariants as event
use Rattle.player_core.specs.State.{Case, Download, Mode, Player, starting, playing, seeking, ended}
use Rattle.player_core.specs.Parts.{arrival, arrives, asks, begins, can_ask, finish, gives_up_any, gone_on, instant, is_ended, is_playing, loads, pass_ms, passes_in, plays, request, rung_for, seek, seek_at, seeks_to, stalls_on, stopped, takes_any}
use Rattle.player_core.specs.Session.{end_of, ends_at, last_player, player_after}
use Rattle.player_core.specs.Sound.{IsCase, Sound, begun_before}
use Rattle.player_core.proofs.Counts.{begun_all, begun_more, begun_most, begun_same}
use Rattle.player_core.proofs.Ends.{end_before}
use Rattle.player_core.proofs.Over.{last_next, last_over, last_stopped}
use Rattle.player_core.proofs.Players.{instant_sound, player_next, player_sound}
use Rattle.player_core.proofs.Soundness.{ticked}

-- each segment before the next one has begun to play, or is loaded and begins later; no rung is forced
pub record InOrder (f : Film) (p : Player) : Type 0 where
  pub count : length p.played + length p.loaded ≡ p.k
  pub begun : length p.played ≡ begun_before f p.x
  pub free : p.forced ≡ None

-- ---- the parts of an instant

module _ (c : Case) where
  loads_in_order : (p : Player) (d : Download) → InOrder c.film p → InOrder c.film (loads c p d)
  loads_in_order p d o =
      let count = o.count in
      let longer = length_push p.loaded (record { segment = d.segment; rung = d.rung }) in
      record { count = omega (arith, count, longer); begun = o.begun; free = o.free }

  arrives_in_order : (p : Player) (d : Option Download) → InOrder c.film p → InOrder c.film (arrives c p d)
  arrives_in_order p None o = o
  arrives_in_order p (Some d) o = cond_both (eqb d.job.left 0) (loads c p d) p (InOrder c.film) (λ e. loads_in_order p d o) (λ e. o)

  finish_in_order : (p : Player) → InOrder c.film p → InOrder c.film (finish c p)
  finish_in_order p o =
      cond_both (is_playing p.mode && eqb p.x (segments_of c.film * c.film.seg_ms)) (record p { mode = ended; events = p.events ++ event.End p.t ∷ [] }) p (InOrder c.film)
      (λ e. record { count = o.count; begun = o.begun; free = o.free }) (λ e. o)

  -- the arrival and the end keep the order
  pub stopped_in_order : (p : Player) → InOrder c.film p → InOrder c.film (stopped c p)
  stopped_in_order p o = finish_in_order (arrival c p) (arrives_in_order p p.download o)

  -- and so does the request
  pub request_in_order : (p : Player) → InOrder c.film p → InOrder c.film (request c p)
  request_in_order p o = cond_both (can_ask c p) (asks c p (rung_for c p)) p (InOrder c.film) (λ e. record { count = o.count; begun = o.begun; free = refl }) (λ e. o)

-- ---- the millisecond passes

module _ (c : Case) (is : IsCase c) (from : ℕ) (p : Player) (h : Sound c from p) (o : InOrder c.film p) where
  module _ (inside : p.x < p.y) where
    -- where a segment begins one is loaded that has not begun
    none_loaded : p.loaded ≡ [] → p.x % c.film.seg_ms ≡ 0 → ⊥
    none_loaded none start =
        let size = ap length none in
        let count = o.count in
        let begun = o.begun in
        let end = h.loaded_end in
        let more = begun_more c.film p.x is.film.seg_ms.0 start in
        let most = begun_most c.film (p.x + 1) p.k is.film.seg_ms.0 (omega (arith, inside, end)) in
        omega (arith, size, count, begun, more, most)

    begins_in_order : (qs : List Played) → p.loaded ≡ qs → p.x % c.film.seg_ms ≡ 0
        → InOrder c.film (ticked (record (begins (takes_any c p) qs) { x = (begins (takes_any c p) qs).x + 1; stalling = false }))
    begins_in_order [] none start = absurd (none_loaded none start)
    begins_in_order (q ∷ qs) some start =
        let size = ap length some in
        let count = o.count in
        let begun = o.begun in
        let more = begun_more c.film p.x is.film.seg_ms.0 start in
        let longer = length_push p.played q in
        record { count = omega (arith, size, count, longer); begun = omega (arith, begun, more, longer); free = o.free }

    plays_in_order : InOrder c.film (ticked (plays c (takes_any c p)))
    plays_in_order =
        cond_both (eqb (p.x % c.film.seg_ms) 0) (begins (takes_any c p) p.loaded) (takes_any c p) (λ r. InOrder c.film (ticked (record r { x = r.x + 1; stalling = false })))
        (λ e. begins_in_order p.loaded refl (eqb-true (p.x % c.film.seg_ms) 0 e))
        (λ e. record { count = o.count; begun = o.begun ∙ sym (begun_same c.film p.x is.film.seg_ms.0 (eqb-false (p.x % c.film.seg_ms) 0 e)); free = o.free })

  stalls_in_order : InOrder c.film (ticked (stalls_on (takes_any c p)))
  stalls_in_order =
      cond_both p.stalling (record (takes_any c p) { stall_ms = p.stall_ms + 1 })
      (record (takes_any c p) { stall_ms = p.stall_ms + 1; stalls = p.stalls + 1; stalling = true; events = p.events ++ event.Stall p.t ∷ [] }) (λ r. InOrder c.film (ticked r))
      (λ e. record { count = o.count; begun = o.begun; free = o.free }) (λ e. record { count = o.count; begun = o.begun; free = o.free })

  passes_in_order : (m : Mode) → InOrder c.film (ticked (passes_in c (takes_any c p) m))
  passes_in_order starting = record { count = o.count; begun = o.begun; free = o.free }
  passes_in_order seeking = record { count = o.count; begun = o.begun; free = o.free }
  passes_in_order ended = record { count = o.count; begun = o.begun; free = o.free }
  passes_in_order playing =
      cond_both (ltb p.x p.y) (plays c (takes_any c p)) (stalls_on (takes_any c p)) (λ r. InOrder c.film (ticked r))
      (λ low. plays_in_order (ltb-true p.x p.y low)) (λ late. stalls_in_order)

  -- a millisecond keeps the order
  pub pass_in_order : InOrder c.film (pass_ms c p)
  pass_in_order = passes_in_order p.mode

-- ---- the player of a session without abandonment and seeks

module _ (c : Case) (off : c.setup.abandon ≡ false) (none : c.seeks ≡ []) where
  -- the parts after the end are the request
  pub gone_on_asks : (p : Player) → gone_on c p ≡ request c p
  gone_on_asks p =
      ap (λ q. request c (seek c q)) (cond-false c.setup.abandon (gives_up_any c p p.download) p off)
      ∙ ap (λ seeks. request c (seeks_to c p (seek_at seeks p.t))) none

  -- an instant ends the session or asks
  pub by_instant : (P : Player → Type 0) (p : Player) → (is_ended (stopped c p).mode ≡ true → P (stopped c p)) → (is_ended (stopped c p).mode ≡ false → P (request c (stopped c p))) → P (instant c p)
  by_instant P p over goes =
      cond_both (is_ended (stopped c p).mode) (stopped c p) (gone_on c (stopped c p)) P over
      (λ e. subst P (sym (gone_on_asks (stopped c p))) (goes e))

  instant_in_order : (p : Player) → InOrder c.film p → InOrder c.film (instant c p)
  instant_in_order p o = let q = stopped_in_order c p o in by_instant (InOrder c.film) p (λ over. q) (λ goes. request_in_order c (stopped c p) q)

  module _ (is : IsCase c) where
    -- up to its end the player keeps the order
    pub in_order : (n : ℕ) → ((k : ℕ) → k < n → ends_at c k ≡ false) → InOrder c.film (player_after c n)
    unfolding player_after
    in_order zero goes = record { count = omega arith; begun = sym (begun_all c.film 0 0 is.film.seg_ms.0 (omega arith)); free = refl }
    in_order (suc n) goes =
        let p = player_after c n in
        let before = in_order n (λ k low. goes k (omega (arith, low))) in
        let sound = player_sound c is n (λ k low. goes k (omega (arith, low))) in
        let on = goes n (omega arith) in
        subst (InOrder c.film) (sym (player_next c n on))
        (pass_in_order c is (n + 1) (instant c p) (instant_sound c is n p sound.1 sound.0 on).0 (instant_in_order p before))

    -- at its end too
    pub last_in_order : InOrder c.film (last_player c)
    last_in_order = subst (InOrder c.film) (sym (last_stopped c is)) (stopped_in_order c (player_after c (end_of c)) (in_order (end_of c) (end_before c)))

    -- at the end each segment has begun to play
    pub last_played : length (last_player c).played ≡ segments_of c.film
    last_played = last_in_order.begun ∙ begun_all c.film (last_player c).x (segments_of c.film) is.film.seg_ms.0 (last_over c is)

    -- and none is loaded that has not
    pub last_loaded : (last_player c).loaded ≡ []
    last_loaded =
        let count = last_in_order.count in
        let all = last_next c is in
        let played = last_played in
        nil_from_length (last_player c).loaded (omega (arith, count, all, played))
