-- The end of a session: all is played, all is loaded, and nothing is asked for.
use Rattle.std.proofs.Common.{◌≡◌, ◌∙◌, ℕ, zero, suc, ◌+◌, ◌-◌, ◌*◌, ◌<◌, ◌≤◌, ⊎_elim, true, false, ◌&&◌, eqb, ◌∷◌, [], ◌++◌, Option, Some, None, IfSome, refl, sym, ap, mul-le-mul_right, suc-add, zero-add, arith}
use Rattle.std.proofs.lemmas.Bool.{and_left, and_parts, cases_Bool, cases_lt, cond-false, cond-true, cond_both, eqb-true, true≢false}
use Rattle.lab_model.specs.Film.{segments_of}
use Rattle.player_core.specs.declared.session.Event.TheVariants as event
use Rattle.player_core.specs.State.{Case, Download, Mode, Player, starting, playing, seeking, ended}
use Rattle.player_core.specs.Parts.{arrival, arrives, mode_after_arrival, finish, goes_on, gone_on, instant, is_ended, is_playing, loads, pass_ms, stopped, takes_any}
use Rattle.player_core.specs.Session.{end_of, ends_at, last_player, player_after}
use Rattle.player_core.specs.Sound.{IsCase, DownloadRuns, Sound}
use Rattle.player_core.proofs.Ends.{end_before, end_early, end_found, last_sound}
use Rattle.player_core.proofs.Players.{player_next}
use Rattle.player_core.proofs.Turned.{last_is, turn_goes}
use Rattle.player_core.proofs.Waits.{passes_passed}

-- ---- until its end a player has not ended

-- a segment that arrives ends nothing
begun_goes : (m : Mode) → is_ended (mode_after_arrival m) ≡ is_ended m
begun_goes starting = refl
begun_goes playing = refl
begun_goes seeking = refl
begun_goes ended = refl

module _ (c : Case) where
  arrives_goes : (p : Player) (o : Option Download) → is_ended (arrives c p o).mode ≡ is_ended p.mode
  arrives_goes p None = refl
  arrives_goes p (Some d) = cond_both (eqb d.job.left 0) (loads c p d) p (λ q. is_ended q.mode ≡ is_ended p.mode) (λ e. begun_goes p.mode) (λ e. refl)

  -- before the instant of its end, and before every earlier one, a player has not ended
  pub going_on : (n : ℕ) → ((k : ℕ) → k < n → ends_at c k ≡ false) → is_ended (player_after c n).mode ≡ false
  unfolding player_after
  going_on zero goes = refl
  going_on (suc n) goes =
      let q = instant c (player_after c n) in
      let on = goes n (omega arith) in
      ap (λ (p : Player). is_ended p.mode) (player_next c n on) ∙ ap is_ended (passes_passed c (takes_any c q) q.mode).mode ∙ on

  -- a session ends where the film does
  finish_over : (p : Player) → is_ended p.mode ≡ false → is_ended (finish c p).mode ≡ true → (finish c p).x ≡ segments_of c.film * c.film.seg_ms
  finish_over p goes =
      cond_both (is_playing p.mode && eqb p.x (segments_of c.film * c.film.seg_ms)) (record p { mode = ended; events = p.events ++ event.End p.t ∷ [] }) p
      (λ q. is_ended q.mode ≡ true → q.x ≡ segments_of c.film * c.film.seg_ms)
      (λ e over. eqb-true p.x (segments_of c.film * c.film.seg_ms) (and_parts (is_playing p.mode) (eqb p.x (segments_of c.film * c.film.seg_ms)) e).1)
      (λ e over. absurd (true≢false (sym over ∙ goes)))

-- ---- where all is played all is loaded, and nothing is asked for

module _ (c : Case) (is : IsCase c) (from : ℕ) (p : Player) (h : Sound c from p) (over : p.x ≡ segments_of c.film * c.film.seg_ms) where
  -- no segment is left
  pub over_next : p.k ≡ segments_of c.film
  over_next =
      let n = segments_of c.film in
      let next = h.next in
      let position = h.position in
      let end = h.loaded_end in
      let some = is.film.seg_ms.0 in
      ⊎_elim (λ (short : p.k < n).
      let less : (p.k + 1) * c.film.seg_ms ≤ n * c.film.seg_ms = mul-le-mul_right c.film.seg_ms (omega (arith, short)) in
      absurd (omega (arith, over, position, end, some, less)))
      (λ (all : n ≤ p.k). omega (arith, next, all)) (cases_lt p.k n)

  none_runs : (o : Option Download) → IfSome o (DownloadRuns c p.t) → IfSome o (λ d. d.segment ≡ p.k) → o ≡ None
  none_runs None runs next = refl
  none_runs (Some d) runs next = let low = runs.segment in let all = over_next in absurd (omega (arith, low, next, all))

  -- no download runs
  pub over_idle : p.download ≡ None
  over_idle = none_runs p.download h.running h.of_next

-- ---- the player at the end

module _ (c : Case) (is : IsCase c) where
  -- the arrival and the end at the last instant end the session
  pub stopped_over : is_ended (stopped c (player_after c (end_of c))).mode ≡ true
  stopped_over =
      let p = player_after c (end_of c) in
      ⊎_elim (λ (yes : is_ended (stopped c p).mode ≡ true). yes)
      (λ (goes : is_ended (stopped c p).mode ≡ false). absurd (true≢false (sym (end_found c is) ∙ turn_goes c (end_of c) goes))) (cases_Bool (is_ended (stopped c p).mode))

  -- they leave the player at the end
  pub last_stopped : last_player c ≡ stopped c (player_after c (end_of c))
  last_stopped = last_is c is (end_of c) (end_early c is) (end_before c) stopped_over

  -- at the end all is played
  pub last_over : (last_player c).x ≡ segments_of c.film * c.film.seg_ms
  last_over =
      let p = player_after c (end_of c) in
      ap (λ (q : Player). q.x) last_stopped ∙ finish_over c (arrival c p) (arrives_goes c p p.download ∙ going_on c (end_of c) (end_before c)) stopped_over

  -- no segment is left
  pub last_next : (last_player c).k ≡ segments_of c.film
  last_next = let sound = last_sound c is in over_next c is sound.0 (last_player c) sound.1 last_over

  -- and no download runs
  pub last_idle : (last_player c).download ≡ None
  last_idle = let sound = last_sound c is in over_idle c is sound.0 (last_player c) sound.1 last_over

-- ---- after its end a player stays as it is

-- who has ended does not play
ended_rests : (m : Mode) → is_ended m ≡ true → is_playing m ≡ false
ended_rests ended e = refl
ended_rests starting e = absurd (true≢false (sym e))
ended_rests seeking e = absurd (true≢false (sym e))
ended_rests playing e = absurd (true≢false (sym e))

-- a player that has ended, and for which nothing is to arrive, stays as it is
pub ended_stays : (c : Case) (p : Player) → is_ended p.mode ≡ true → p.download ≡ None → instant c p ≡ p
ended_stays c p over none =
    let inside = and_left (is_playing p.mode) (eqb p.x (segments_of c.film * c.film.seg_ms)) (ended_rests p.mode over) in
    ap (goes_on c)
    (ap (λ o. finish c (arrives c p o)) none
    ∙ cond-false (is_playing p.mode && eqb p.x (segments_of c.film * c.film.seg_ms)) (record p { mode = ended; events = p.events ++ event.End p.t ∷ [] }) p inside)
    ∙ cond-true (is_ended p.mode) p (gone_on c p) over

module _ (c : Case) (is : IsCase c) where
  last_ended : is_ended (last_player c).mode ≡ true
  unfolding last_player
  last_ended = end_found c is

  last_stays : instant c (last_player c) ≡ last_player c
  last_stays = ended_stays c (last_player c) last_ended (last_idle c is)

  -- at each instant so many milliseconds after its end the player is the last one
  after_by : (d : ℕ) → instant c (player_after c (d + end_of c)) ≡ last_player c
  unfolding last_player player_after
  after_by zero = ap (λ n. instant c (player_after c n)) (zero-add (end_of c))
  after_by (suc d) =
      let before = after_by d in
      let q = instant c (player_after c (d + end_of c)) in
      let over : is_ended q.mode ≡ true = ap (λ (p : Player). is_ended p.mode) before ∙ last_ended in
      let next : player_after c (suc (d + end_of c)) ≡ q = cond-true (is_ended q.mode) q (pass_ms c q) over in
      ap (λ n. instant c (player_after c n)) (suc-add d (end_of c)) ∙ ap (instant c) (next ∙ before) ∙ last_stays

  -- the law: at and after its end the instant leaves the last player
  pub after_end : (n : ℕ) → end_of c ≤ n → instant c (player_after c n) ≡ last_player c
  after_end n late =
      let d : n ≡ (n - end_of c) + end_of c = omega (arith, late) in
      ap (λ m. instant c (player_after c m)) d ∙ after_by (n - end_of c)
