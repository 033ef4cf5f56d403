-- What an instant that does not end the session does: it takes a turn, or it leaves the player as it is.
use Rattle.std.proofs.Common.{◌≡◌, ℕ, ◌+◌, ◌*◌, ◌<◌, ◌≤◌, ◌⊎◌, inl, inr, false, ◌&&◌, eqb, ◌++◌, ◌∷◌, [], Option, Some, None, IfSome, is_some, refl, sym, ◌∙◌, ap, subst, mul-le-mul_right, arith}
use Rattle.std.proofs.lemmas.Bool.{cond_both, true≢false}
use Rattle.lab_model.specs.declared.context.Seek.{Seek}
use Rattle.lab_model.specs.Film.{segments_of}
use Rattle.abandonment.specs.Test.{abandonment}
use Rattle.player_core.specs.declared.session.Event.TheVariants as event
use Rattle.player_core.specs.State.{Case, Download, Player, ended}
use Rattle.player_core.specs.Parts.{abandon, arrival, arrives, asks, can_ask, finish, gives_up, gives_up_any, instant, is_ended, is_playing, loads, progress_of, request, rung_for, seek, seek_at, seeks_to}
use Rattle.player_core.specs.Sound.{IsCase, DownloadRuns, Sound, seeks_left, turns_left}
use Rattle.player_core.proofs.Counts.{seek_fits, seeks_fewer, seeks_one}
use Rattle.player_core.proofs.Soundness.{abandon_sound, abandonment_lower, asks_turns, can_ask_true, gives_turns, loads_turns, seeks_turns}
use Rattle.player_core.proofs.Players.{abandon_t, gone_on, sought_sound, stopped, stopped_sound, stopped_t}

-- a turn fewer is left, or the player is the same, and no more turns are left
abbrev pub Moved : Case → ℕ → Player → ℕ → Player → Type 0
Moved c from p to q = (turns_left c to q + 1 ≤ turns_left c from p) ⊎ ((q ≡ p) × (turns_left c to q ≤ turns_left c from p))

moved_on : (c : Case) (a b d : ℕ) (p q r : Player) → Moved c a p b q → Moved c b q d r → Moved c a p d r
moved_on c a b d p q r (inl less) (inl fewer) = inl (omega (arith, less, fewer))
moved_on c a b d p q r (inl less) (inr same) = let most = same.1 in inl (omega (arith, less, most))
moved_on c a b d p q r (inr same) (inl fewer) = let most = same.1 in inl (omega (arith, most, fewer))
moved_on c a b d p q r (inr same) (inr other) = let most = same.1 in let more = other.1 in inr (other.0 ∙ same.0, omega (arith, most, more))

moved_none : (c : Case) (from : ℕ) (p : Player) → Moved c from p from p
moved_none c from p = inr (refl, omega arith)

module _ (c : Case) (is : IsCase c) (t : ℕ) where
  arrives_moves : (p : Player) (o : Option Download) → Sound c t p → p.download ≡ o → Moved c t p t (arrives c p o)
  arrives_moves p None h e = moved_none c t p
  arrives_moves p (Some d) h e =
      let runs : DownloadRuns c p.t d = subst (λ o. IfSome o (DownloadRuns c p.t)) e h.running in
      let next : d.segment ≡ p.k = subst (λ o. IfSome o (λ e. e.segment ≡ p.k)) e h.of_next in
      let segment = runs.segment in
      let fewer = loads_turns c t p d (omega (arith, segment, next)) e (h.free (ap is_some e)) in
      cond_both (eqb d.job.left 0) (loads c p d) p (λ q. Moved c t p t q) (λ z. inl (omega (arith, fewer))) (λ z. moved_none c t p)

  arrival_moves : (p : Player) → Sound c t p → Moved c t p t (arrival c p)
  arrival_moves p h = arrives_moves p p.download h refl

  -- where the session doesn't end, the end changes nothing
  pub finish_stays : (p : Player) → is_ended (finish c p).mode ≡ false → finish c p ≡ p
  finish_stays p =
      cond_both (is_playing p.mode && eqb p.x (segments_of c.film * c.film.seg_ms)) (record p { mode = ended; events = p.events ++ event.End p.t ∷ [] }) p (λ q. is_ended q.mode ≡ false → q ≡ p)
      (λ e no. absurd (true≢false no)) (λ e no. refl)

  stopped_moves : (p : Player) → Sound c t p → is_ended (stopped c p).mode ≡ false → Moved c t p t (stopped c p)
  stopped_moves p h goes = subst (λ q. Moved c t p t q) (sym (finish_stays (arrival c p) goes)) (arrival_moves p h)

  gives_moves : (p : Player) (d : Download) (o : Option ℕ) → Sound c t p → p.download ≡ Some d → ((q : ℕ) → o ≡ Some q → q < d.rung) → Moved c t p t (gives_up c p d o)
  gives_moves p d None h e lower = moved_none c t p
  gives_moves p d (Some q) h e lower =
      let runs : DownloadRuns c p.t d = subst (λ o. IfSome o (DownloadRuns c p.t)) e h.running in
      let next : d.segment ≡ p.k = subst (λ o. IfSome o (λ e. e.segment ≡ p.k)) e h.of_next in
      let segment = runs.segment in
      inl (gives_turns c t p d q (omega (arith, segment, next)) e (lower q refl))

  gives_any_moves : (p : Player) (o : Option Download) → Sound c t p → p.download ≡ o → Moved c t p t (gives_up_any c p o)
  gives_any_moves p None h e = moved_none c t p
  gives_any_moves p (Some d) h e =
      gives_moves p d (abandonment c.film d.segment d.rung (progress_of c.film p.t d)) h e (λ q some. abandonment_lower c t c.film d.segment d.rung (progress_of c.film p.t d) q some)

  abandon_moves : (p : Player) → Sound c t p → Moved c t p t (abandon c p)
  abandon_moves p h = cond_both c.setup.abandon (gives_up_any c p p.download) p (λ q. Moved c t p t q) (λ e. gives_any_moves p p.download h refl) (λ e. moved_none c t p)

  seeks_moves : (p : Player) (o : Option Seek) → seek_at c.seeks t ≡ o → Moved c t p (t + 1) (seeks_to c p o)
  seeks_moves p None e = let most = mul-le-mul_right (34 * segments_of c.film + 2) (seeks_fewer c.seeks t) in inr (refl, omega (arith, most))
  seeks_moves p (Some s) e =
      let n = segments_of c.film in
      let low : s.to < n = subst (λ o. IfSome o (λ q. q.to < n)) e (seek_fits (λ q. q.to < n) c.seeks t is.seeks.targets) in
      let less : seeks_left c.seeks (t + 1) + 1 ≤ seeks_left c.seeks t = subst (λ o. IfSome o (λ q. seeks_left c.seeks (t + 1) + 1 ≤ seeks_left c.seeks t)) e (seeks_one c.seeks t) in
      let fewer = seeks_turns c is p s t low less in
      inl (omega (arith, fewer))

  seek_moves : (p : Player) → p.t ≡ t → Moved c t p (t + 1) (seek c p)
  seek_moves p e = seeks_moves p (seek_at c.seeks p.t) (ap (λ k. seek_at c.seeks k) (sym e))

  request_moves : (p : Player) → Sound c t p → Moved c t p t (request c p)
  request_moves p h = cond_both (can_ask c p) (asks c p (rung_for c p)) p (λ q. Moved c t p t q) (λ e. inl (asks_turns c is t p h (can_ask_true c p e))) (λ e. moved_none c t p)

module _ (c : Case) (is : IsCase c) (t : ℕ) where
  -- the parts after the end take a turn or leave the player as it is
  pub gone_on_moves : (r : Player) → r.t ≡ t → Sound c t r → Moved c t r (t + 1) (gone_on c r)
  gone_on_moves r e h =
      let given = abandon_sound c is t r h in
      let at = abandon_t c r ∙ e in
      let sought = sought_sound c is t (abandon c r) at given in
      moved_on c t t (t + 1) r (abandon c r) (gone_on c r) (abandon_moves c is t r h)
      (moved_on c t (t + 1) (t + 1) (abandon c r) (seek c (abandon c r)) (gone_on c r) (seek_moves c is t (abandon c r) at) (request_moves c is (t + 1) (seek c (abandon c r)) sought))

  -- and so does a whole instant that does not end the session
  pub instant_moves : (p : Player) → p.t ≡ t → Sound c t p → is_ended (instant c p).mode ≡ false → Moved c t p (t + 1) (instant c p)
  instant_moves p e h =
      cond_both (is_ended (stopped c p).mode) (stopped c p) (gone_on c (stopped c p)) (λ q. is_ended q.mode ≡ false → Moved c t p (t + 1) q)
      (λ yes no. absurd (true≢false (sym yes ∙ no)))
      (λ goes no. moved_on c t t (t + 1) p (stopped c p) (gone_on c (stopped c p)) (stopped_moves c is t p h goes) (gone_on_moves (stopped c p) (stopped_t c p ∙ e) (stopped_sound c t p h)))
