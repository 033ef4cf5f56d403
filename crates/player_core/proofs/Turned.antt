-- A whole turn of the player's loop: what goes on, the history, and the session at the end.
use Rattle.std.proofs.Common.{◌≡◌, ◌∙◌, ℕ, ◌+◌, ◌*◌, ◌%◌, ◌<◌, ◌++◌, ◌&&◌, List, [], ◌∷◌, true, false, Option, Some, None, refl, sym, ap, eqb, ltb, add-one, option_map}
use Rattle.std.proofs.lemmas.Bool.{cond_both, cond-true, cond-false}
use Rattle.lab_model.specs.declared.context.Seek.{Seek}
use Rattle.lab_model.specs.declared.context.Played.{Played}
use Rattle.lab_model.specs.Film.{segments_of}
use Rattle.abandonment.specs.Test.{abandonment}
use Rattle.player_core.specs.Limits.{latest_ms}
use Rattle.player_core.specs.declared.body.Body.{Body}
use Rattle.player_core.specs.declared.session.Event.TheVariants as event
use Rattle.player_core.specs.declared.running.Running.{Running}
use Rattle.player_core.specs.Seen.{IsTimed, download_of, seen}
use Rattle.player_core.specs.State.{Case, Download, Mode, Player, first_player, starting, playing, seeking, ended}
use Rattle.player_core.specs.Parts.{abandon, asks, begins, can_ask, finish, gives_up, gives_up_any, instant, is_ended, is_playing, pass_ms, passes_in, plays, progress_of, request, rung_for, seek, seek_at, seeks_to, stalls_on, takes}
use Rattle.player_core.specs.Session.{end_of, ends_at, last_player, player_after}
use Rattle.player_core.specs.Sound.{IsCase}
use Rattle.player_core.proofs.Ends.{end_is}
use Rattle.player_core.proofs.Players.{gone_on, player_next, stopped}

-- ---- what has not ended goes on

module _ (c : Case) where
  gives_on : (p : Player) (d : Download) (o : Option ℕ) → (gives_up c p d o).mode ≡ p.mode
  gives_on p d None = refl
  gives_on p d (Some q) = refl

  gives_any_on : (p : Player) (o : Option Download) → (gives_up_any c p o).mode ≡ p.mode
  gives_any_on p None = refl
  gives_any_on p (Some d) = gives_on p d (abandonment c.film d.segment d.rung (progress_of c.film p.t d))

  abandon_on : (p : Player) → (abandon c p).mode ≡ p.mode
  abandon_on p = cond_both c.setup.abandon (gives_up_any c p p.download) p (λ q. q.mode ≡ p.mode) (λ e. gives_any_on p p.download) (λ e. refl)

  seeks_on : (p : Player) (o : Option Seek) → is_ended p.mode ≡ false → is_ended (seeks_to c p o).mode ≡ false
  seeks_on p None h = h
  seeks_on p (Some s) h = refl

  request_on : (p : Player) → (request c p).mode ≡ p.mode
  request_on p = cond_both (can_ask c p) (asks c p (rung_for c p)) p (λ q. q.mode ≡ p.mode) (λ e. refl) (λ e. refl)

  -- the other parts do not end a session
  pub gone_goes : (r : Player) → is_ended r.mode ≡ false → is_ended (gone_on c r).mode ≡ false
  gone_goes r h =
      let here : is_ended (abandon c r).mode ≡ false = ap is_ended (abandon_on r) ∙ h in
      ap is_ended (request_on (seek c (abandon c r))) ∙ seeks_on (abandon c r) (seek_at c.seeks (abandon c r).t) here

  -- ---- the history after a seek, a request and a millisecond is that before

  -- a seek tells the rule nothing
  pub seek_told : (p : Player) → (seek c p).history ≡ p.history
  seek_told p = seeks_told (seek_at c.seeks p.t)
    where
      seeks_told : (o : Option Seek) → (seeks_to c p o).history ≡ p.history
      seeks_told None = refl
      seeks_told (Some s) = refl

  -- the end tells the rule nothing
  pub finish_told : (p : Player) → p.history ≡ (finish c p).history
  finish_told p = cond_both (is_playing p.mode && eqb p.x (segments_of c.film * c.film.seg_ms)) (record p { mode = ended; events = p.events ++ event.End p.t ∷ [] }) p (λ q. p.history ≡ q.history) (λ e. refl) (λ e. refl)

  -- a request tells the rule nothing
  pub request_told : (p : Player) → (request c p).history ≡ p.history
  request_told p = cond_both (can_ask c p) (asks c p (rung_for c p)) p (λ q. q.history ≡ p.history) (λ e. refl) (λ e. refl)

  begins_told : (p : Player) (qs : List Played) → (begins p qs).history ≡ p.history
  begins_told p [] = refl
  begins_told p (q ∷ qs) = refl

  passes_told : (p : Player) (m : Mode) → (passes_in c p m).history ≡ p.history
  passes_told p starting = refl
  passes_told p seeking = refl
  passes_told p ended = refl
  passes_told p playing =
      cond_both (ltb p.x p.y) (plays c p) (stalls_on p) (λ q. q.history ≡ p.history)
      (λ e. cond_both (eqb (p.x % c.film.seg_ms) 0) (begins p p.loaded) p (λ q. q.history ≡ p.history) (λ z. begins_told p p.loaded) (λ z. refl))
      (λ e. cond_both p.stalling (record p { stall_ms = p.stall_ms + 1 }) (record p { stall_ms = p.stall_ms + 1; stalls = p.stalls + 1; stalling = true; events = p.events ++ event.Stall p.t ∷ [] }) (λ q. q.history ≡ p.history) (λ z. refl) (λ z. refl))

  -- a millisecond tells the rule nothing
  pub pass_told : (p : Player) → (pass_ms c p).history ≡ p.history
  pass_told p = passes_told (record p { download = option_map (takes c p.t) p.download }) p.mode

  -- ---- the turn

  -- where the arrival and the end don't end the session, the instant doesn't
  pub turn_goes : (n : ℕ) → is_ended (stopped c (player_after c n)).mode ≡ false → ends_at c n ≡ false
  turn_goes n h = ap (λ (q : Player). is_ended q.mode) (cond-false (is_ended (stopped c (player_after c n)).mode) (stopped c (player_after c n)) (gone_on c (stopped c (player_after c n))) h) ∙ gone_goes (stopped c (player_after c n)) h

  -- and then the next player is this one after all parts and a millisecond
  pub turn_next : (n : ℕ) → is_ended (stopped c (player_after c n)).mode ≡ false → player_after c (n + 1) ≡ pass_ms c (gone_on c (stopped c (player_after c n)))
  turn_next n h =
      ap (player_after c) (add-one n) ∙ player_next c n (turn_goes n h)
      ∙ ap (pass_ms c) (cond-false (is_ended (stopped c (player_after c n)).mode) (stopped c (player_after c n)) (gone_on c (stopped c (player_after c n))) h)

  -- where they end the session, they are the whole instant
  pub turn_ends : (n : ℕ) → is_ended (stopped c (player_after c n)).mode ≡ true → instant c (player_after c n) ≡ stopped c (player_after c n)
  turn_ends n h = cond-true (is_ended (stopped c (player_after c n)).mode) (stopped c (player_after c n)) (gone_on c (stopped c (player_after c n))) h

-- ---- the session

-- where the player has stopped for the first time, that is the last player
pub last_is : (c : Case) → IsCase c → (n : ℕ) → n < latest_ms → ((k : ℕ) → k < n → ends_at c k ≡ false) → is_ended (stopped c (player_after c n)).mode ≡ true → last_player c ≡ stopped c (player_after c n)
unfolding last_player
last_is c is n low before h =
    let here = turn_ends c n h in
    let last : n ≡ end_of c = end_is c n low (ap (λ (q : Player). is_ended q.mode) here ∙ h) before in
    ap (λ (m : ℕ). instant c (player_after c m)) (sym last) ∙ here

-- ---- the start

-- after no milliseconds the player is the first one
pub player_first : (c : Case) → player_after c 0 ≡ first_player
unfolding player_after
player_first c = refl

-- at the start there is no download that has to know its instants
pub none_timed : (c : Case) (b : Body) → seen b [] ≡ first_player → IsTimed c.film c.network b.download
none_timed c b e = none_of b.download (ap (λ (p : Player). p.download) e)
  where
    none_of : (o : Option Running) → option_map download_of o ≡ None → IsTimed c.film c.network o
    none_of None h = tt
    none_of (Some r) h = cc
