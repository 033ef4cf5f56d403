-- The player of a session within the limits is sound at each instant until it ends.
use Rattle.std.proofs.Common.{◌≡◌, ℕ, zero, suc, ◌+◌, ◌*◌, ◌<◌, true, false, ◌&&◌, eqb, ltb, Option, Some, None, refl, sym, ◌∙◌, ap, subst, add-one, le_trans, List, [], ◌∷◌, ◌++◌, option_map, ◌%◌, mul-le-mul_right, arith}
use Rattle.std.proofs.lemmas.Bool.{cond_both, cond-true, cond-false, false≢true, true≢false}
use Rattle.std.proofs.lemmas.List.Elements.{All-nil}
use Rattle.lab_model.specs.declared.context.Seek.{Seek}
use Rattle.lab_model.specs.declared.context.Played.{Played}
use Rattle.lab_model.specs.Film.{segments_of}
use Rattle.abandonment.specs.Test.{abandonment}
use Rattle.player_core.specs.declared.session.Event.TheVariants as event
use Rattle.player_core.specs.State.{Case, Download, Mode, Player, first_player, starting, playing, seeking, ended}
use Rattle.player_core.specs.Parts.{abandon, arrival, arrives, asks, begins, can_ask, finish, gives_up, gives_up_any, instant, is_ended, is_playing, loads, pass_ms, passes_in, plays, progress_of, request, rung_for, seek, seek_at, seeks_to, stalls_on, takes}
use Rattle.player_core.specs.Session.{ends_at, player_after}
use Rattle.player_core.specs.Sound.{IsCase, IsOf, Sound}
use Rattle.player_core.proofs.Counts.{seeks_most, turns_first}
use Rattle.player_core.proofs.Soundness.{IsOpen, abandon_open, abandon_sound, arrival_open, arrival_sound, finish_open, finish_sound, pass_sound, request_open, request_sound, seek_open, seek_sound}
pub use Rattle.player_core.specs.Parts.{gone_on, stopped}

-- ---- the start

-- at the start the player is sound
pub start_sound : (c : Case) → IsCase c → Sound c 0 first_player
start_sound c is =
    let n = segments_of c.film in
    let some = is.film.segments.0 in
    let count = is.seeks.count in
    let most = seeks_most c.seeks 0 in
    let turns = turns_first c is.film is.seeks in
    let rows = mul-le-mul_right n (le_trans most count) in
    record {
      position = omega arith;
      loaded_end = omega arith;
      next = omega arith;
      idle = λ waits. refl;
      more = λ waits. omega (arith, some);
      running = tt;
      of_next = tt;
      free = λ runs. absurd (false≢true runs);
      forced = tt;
      last = tt;
      loaded = All-nil (IsOf c.film);
      room = omega arith;
      played = All-nil (IsOf c.film);
      times = omega arith;
      begun = omega (arith, rows);
      wasted = omega (arith, turns);
      stalls = omega (arith, turns);
    }

-- ---- the instant stays the same in its parts

module _ (c : Case) where
  -- an arrival leaves the instant as it is
  pub arrives_t : (p : Player) (o : Option Download) → (arrives c p o).t ≡ p.t
  arrives_t p None = refl
  arrives_t p (Some d) = cond_both (eqb d.job.left 0) (loads c p d) p (λ q. q.t ≡ p.t) (λ e. refl) (λ e. refl)

  -- so does the end
  pub finish_t : (p : Player) → (finish c p).t ≡ p.t
  finish_t p = cond_both (is_playing p.mode && eqb p.x (segments_of c.film * c.film.seg_ms)) (record p { mode = ended; events = p.events ++ event.End p.t ∷ [] }) p (λ q. q.t ≡ p.t) (λ e. refl) (λ e. refl)

  gives_t : (p : Player) (d : Download) (o : Option ℕ) → (gives_up c p d o).t ≡ p.t
  gives_t p d None = refl
  gives_t p d (Some q) = refl

  gives_any_t : (p : Player) (o : Option Download) → (gives_up_any c p o).t ≡ p.t
  gives_any_t p None = refl
  gives_any_t p (Some d) = gives_t p d (abandonment c.film d.segment d.rung (progress_of c.film p.t d))

  -- so does an abandonment
  pub abandon_t : (p : Player) → (abandon c p).t ≡ p.t
  abandon_t p = cond_both c.setup.abandon (gives_up_any c p p.download) p (λ q. q.t ≡ p.t) (λ e. gives_any_t p p.download) (λ e. refl)

  -- so does a seek
  pub seeks_t : (p : Player) (o : Option Seek) → (seeks_to c p o).t ≡ p.t
  seeks_t p None = refl
  seeks_t p (Some s) = refl

  -- so does a request
  pub request_t : (p : Player) → (request c p).t ≡ p.t
  request_t p = cond_both (can_ask c p) (asks c p (rung_for c p)) p (λ q. q.t ≡ p.t) (λ e. refl) (λ e. refl)

  begins_t : (p : Player) (qs : List Played) → (begins p qs).t ≡ p.t
  begins_t p [] = refl
  begins_t p (q ∷ qs) = refl

  passes_t : (p : Player) (m : Mode) → (passes_in c p m).t ≡ p.t
  passes_t p starting = refl
  passes_t p seeking = refl
  passes_t p ended = refl
  passes_t p playing =
      cond_both (ltb p.x p.y) (plays c p) (stalls_on p) (λ q. q.t ≡ p.t)
      (λ e. cond_both (eqb (p.x % c.film.seg_ms) 0) (begins p p.loaded) p (λ q. q.t ≡ p.t) (λ z. begins_t p p.loaded) (λ z. refl))
      (λ e. cond_both p.stalling (record p { stall_ms = p.stall_ms + 1 }) (record p { stall_ms = p.stall_ms + 1; stalls = p.stalls + 1; stalling = true; events = p.events ++ event.Stall p.t ∷ [] }) (λ q. q.t ≡ p.t) (λ z. refl) (λ z. refl))

  -- a millisecond that passes moves it on by one
  pub pass_t : (p : Player) → (pass_ms c p).t ≡ p.t + 1
  pass_t p = ap (λ n. n + 1) (passes_t (record p { download = option_map (takes c p.t) p.download }) p.mode)

-- ---- the parts of an instant, one after the other

-- the arrival and the end leave the instant as it is
pub stopped_t : (c : Case) (p : Player) → (stopped c p).t ≡ p.t
stopped_t c p = finish_t c (arrival c p) ∙ arrives_t c p p.download

-- a sound player is sound after them
pub stopped_sound : (c : Case) (from : ℕ) (p : Player) → Sound c from p → Sound c from (stopped c p)
stopped_sound c from p h = finish_sound c from (arrival c p) (arrival_sound c from p h)

-- after them something is left of a running download
pub stopped_open : (c : Case) (p : Player) → IsOpen (stopped c p)
stopped_open c p = finish_open c (arrival c p) (arrival_open c p)

-- the other parts leave the instant as it is
pub gone_on_t : (c : Case) (r : Player) → (gone_on c r).t ≡ r.t
gone_on_t c r = request_t c (seek c (abandon c r)) ∙ seeks_t c (abandon c r) (seek_at c.seeks (abandon c r).t) ∙ abandon_t c r

-- after a seek a sound player is sound, with the seeks from the next instant on to come
pub sought_sound : (c : Case) → IsCase c → (t : ℕ) (a : Player) → a.t ≡ t → Sound c t a → Sound c (t + 1) (seek c a)
sought_sound c is t a e h = subst (λ k. Sound c (k + 1) (seek c a)) e (seek_sound c is a (subst (λ k. Sound c k a) (sym e) h))

-- after the other parts a sound player is sound, with the seeks from the next instant on to come
pub gone_on_sound : (c : Case) → IsCase c → (t : ℕ) (r : Player) → r.t ≡ t → Sound c t r → Sound c (t + 1) (gone_on c r)
gone_on_sound c is t r e h = request_sound c is (t + 1) (seek c (abandon c r)) (sought_sound c is t (abandon c r) (abandon_t c r ∙ e) (abandon_sound c is t r h))

-- after them something is left of a running download, if so before
pub gone_on_open : (c : Case) → IsCase c → (t : ℕ) (r : Player) → r.t ≡ t → Sound c t r → IsOpen r → IsOpen (gone_on c r)
gone_on_open c is t r e h some =
    request_open c is (t + 1) (seek c (abandon c r)) (sought_sound c is t (abandon c r) (abandon_t c r ∙ e) (abandon_sound c is t r h)) (seek_open c (abandon c r) (abandon_open c r some))

-- ---- the whole instant

-- where the arrival and the end have ended the session, nothing follows them
pub instant_ended : (c : Case) (p : Player) → is_ended (stopped c p).mode ≡ true → instant c p ≡ stopped c p
instant_ended c p e = cond-true (is_ended (stopped c p).mode) (stopped c p) (gone_on c (stopped c p)) e

-- where they have not, the other parts follow
pub instant_goes : (c : Case) (p : Player) → is_ended (stopped c p).mode ≡ false → instant c p ≡ gone_on c (stopped c p)
instant_goes c p e = cond-false (is_ended (stopped c p).mode) (stopped c p) (gone_on c (stopped c p)) e

-- the five parts leave the instant as it is
pub instant_t : (c : Case) (p : Player) → (instant c p).t ≡ p.t
instant_t c p =
    cond_both (is_ended (stopped c p).mode) (stopped c p) (gone_on c (stopped c p)) (λ q. q.t ≡ p.t)
    (λ e. stopped_t c p) (λ e. gone_on_t c (stopped c p) ∙ stopped_t c p)

-- where the session goes on, it is at the next instant's script, and something is left of its download
pub instant_sound : (c : Case) → IsCase c → (t : ℕ) (p : Player) → p.t ≡ t → Sound c t p → is_ended (instant c p).mode ≡ false → Sound c (t + 1) (instant c p) × IsOpen (instant c p)
instant_sound c is t p e h =
    cond_both (is_ended (stopped c p).mode) (stopped c p) (gone_on c (stopped c p)) (λ q. is_ended q.mode ≡ false → Sound c (t + 1) q × IsOpen q)
    (λ yes no. absurd (true≢false (sym yes ∙ no)))
    (λ goes no. (gone_on_sound c is t (stopped c p) (stopped_t c p ∙ e) (stopped_sound c t p h), gone_on_open c is t (stopped c p) (stopped_t c p ∙ e) (stopped_sound c t p h) (stopped_open c p)))

-- at any instant it is sound
pub instant_any_sound : (c : Case) → IsCase c → (t : ℕ) (p : Player) → p.t ≡ t → Sound c t p → (from : ℕ) × Sound c from (instant c p)
instant_any_sound c is t p e h =
    cond_both (is_ended (stopped c p).mode) (stopped c p) (gone_on c (stopped c p)) (λ q. (from : ℕ) × Sound c from q)
    (λ yes. (t, stopped_sound c t p h))
    (λ goes. (t + 1, gone_on_sound c is t (stopped c p) (stopped_t c p ∙ e) (stopped_sound c t p h)))

-- ---- the player of a session

-- where the session goes on, the next player is this one after its instant and a millisecond
pub player_next : (c : Case) (n : ℕ) → ends_at c n ≡ false → player_after c (suc n) ≡ pass_ms c (instant c (player_after c n))
unfolding player_after
player_next c n e = cond-false (is_ended (instant c (player_after c n)).mode) (instant c (player_after c n)) (pass_ms c (instant c (player_after c n))) e

-- after an instant that goes on and a millisecond a sound player is sound
pub passed_sound : (c : Case) → IsCase c → (n : ℕ) (p : Player) → p.t ≡ n → Sound c n p → is_ended (instant c p).mode ≡ false → Sound c (suc n) (pass_ms c (instant c p))
passed_sound c is n p e h goes =
    let both = instant_sound c is n p e h goes in
    subst (λ k. Sound c k (pass_ms c (instant c p))) (add-one n) (pass_sound c is (n + 1) (instant c p) both.0 both.1 goes)

-- up to the end the player after so many milliseconds is sound, and at that instant
pub player_sound : (c : Case) → IsCase c → (n : ℕ) → ((k : ℕ) → k < n → ends_at c k ≡ false) → Sound c n (player_after c n) × ((player_after c n).t ≡ n)
unfolding player_after
player_sound c is zero goes = (start_sound c is, refl)
player_sound c is (suc n) goes =
    let before = player_sound c is n (λ k low. goes k (omega arith)) in
    let on = goes n (omega arith) in
    let next = player_next c n on in
    let sound = passed_sound c is n (player_after c n) before.1 before.0 on in (
      subst (Sound c (suc n)) (sym next) sound,
      ap (λ (p : Player). p.t) next ∙ pass_t c (instant c (player_after c n)) ∙ ap (λ k. k + 1) (instant_t c (player_after c n) ∙ before.1) ∙ add-one n,
    )
