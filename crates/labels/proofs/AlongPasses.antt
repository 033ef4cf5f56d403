-- The player of a rung list stays beside the labels along it: while a millisecond passes, and so at each instant until the end.
use Rattle.std.proofs.Common.{◌≡◌, ◌∙◌, ℕ, zero, suc, ◌+◌, ◌*◌, ◌%◌, ◌<◌, ◌≤◌, Bool, true, false, eqb, ltb, List, [], ◌∷◌, ◌++◌, length, slice_index, Option, Some, None, IfSome, is_some, option_map, refl, sym, ap, arith}
use Rattle.std.proofs.lemmas.Bool.{cond_both, and_from, eq-eqb, eqb-true, eqb-false, ltb-true, ltb-false, false≢true, true≢false}
use Rattle.std.proofs.lemmas.List.{append_assoc, append-nil, length_push}
use Rattle.lab_model.specs.declared.label.Label.{Label}
use Rattle.lab_model.specs.declared.context.Played.{Played}
use Rattle.lab_model.specs.Film.{segments_of}
use Rattle.player_core.specs.declared.session.Event.{Event}
use Rattle.player_core.specs.declared.session.Event.TheVariants as event
use Rattle.player_core.specs.State.{Case, Download, Mode, Player, starting, playing, seeking, ended}
use Rattle.player_core.specs.Parts.{begins, is_ended, is_playing, pass_ms, passes_in, plays, stalls_on, takes}
use Rattle.player_core.specs.Sound.{Sound, begun_before, is_waiting}
use Rattle.player_core.proofs.Counts.{begun_more, begun_most, begun_same}
use Rattle.player_core.proofs.Soundness.{later, taken, ticked}
use Rattle.player_core.proofs.Waits.{IsStill}
use Rattle.labels.specs.Labels.{AreRungs, label_at, request_at}
use Rattle.player_core.specs.Scene.{IsTask, Task}
use Rattle.labels.specs.Along.{Along, case_along, mode_before, rungs_played}
use Rattle.labels.proofs.AlongLists.{played_length}

-- ---- modes

-- whether the player waits after a seek
abbrev is_seeking : Mode → Bool
is_seeking seeking = true
is_seeking starting = false
is_seeking playing = false
is_seeking ended = false

never_seeks : (k : ℕ) → is_seeking (mode_before k) ≡ false
unfolding mode_before
never_seeks zero = refl
never_seeks (suc i) = refl

-- it starts before the first segment, and plays after it
before_first : (k : ℕ) → mode_before k ≡ starting → k ≡ 0
unfolding mode_before
before_first zero e = refl
before_first (suc i) e = absurd (true≢false (ap is_playing e))

after_first : (k : ℕ) → mode_before k ≡ playing → 0 < k
unfolding mode_before
after_first zero e = absurd (false≢true (ap is_playing e))
after_first (suc i) e = omega arith

-- ---- a millisecond later

-- what a mode's millisecond keeps beside the labels
record Keeps (g : Task) (rungs : List ℕ) (l : Label) (p : Player) (x startup_ms stall_ms : ℕ) (loaded played : List Played) : Type 0 where
  spent : x + startup_ms + stall_ms ≡ p.t + 1
  calm : p.k ≡ 0 → stall_ms ≡ 0
  startup : 0 < p.k → startup_ms ≡ (label_at g rungs 0).p
  least : l.p ≤ startup_ms + stall_ms
  tight : x < p.y → startup_ms + stall_ms ≡ l.p
  whole : p.k ≡ segments_of g.film → startup_ms + stall_ms ≡ l.p
  listed : played ++ loaded ≡ rungs_played rungs p.k
  begun : length played ≡ begun_before g.film x

taken_none : (c : Case) (t : ℕ) (o : Option Download) → option_map (takes c t) o ≡ None → o ≡ None
taken_none c t None e = refl
taken_none c t (Some d) e = absurd (true≢false (ap is_some e))

taken_asked : (c : Case) (t s r : ℕ) (o : Option Download) → IfSome o (λ d. (d.asked ≡ s) × (d.rung ≡ r)) → IfSome (option_map (takes c t) o) (λ d. (d.asked ≡ s) × (d.rung ≡ r))
taken_asked c t s r None h = tt
taken_asked c t s r (Some d) h = h

module _ (g : Task) (is : IsTask g) (rungs : List ℕ) (fits : AreRungs g (segments_of g.film) rungs) (from : ℕ) (l : Label) (p : Player) (h : Sound (case_along g rungs) from p) (a : Along g rungs 1 l p) where
  later_along : (x startup_ms stall_ms seek_ms stalls : ℕ) (stalling : Bool) (loaded played : List Played) (events : List Event) → Keeps g rungs l p x startup_ms stall_ms loaded played
      → Along g rungs 0 l (later (case_along g rungs) p x startup_ms stall_ms seek_ms stalls stalling loaded played events)
  later_along x startup_ms stall_ms seek_ms stalls stalling loaded played events k =
      let came = a.came in
      record {
        label = a.label;
        spent = k.spent;
        free = a.free;
        mode = a.mode;
        calm = k.calm;
        startup = k.startup;
        came = omega (arith, came);
        least = k.least;
        tight = k.tight;
        whole = k.whole;
        waits = λ none low. let waits = a.waits (taken_none (case_along g rungs) p.t p.download none) low in omega (arith, waits);
        asked = taken_asked (case_along g rungs) p.t (request_at g p.k l) (slice_index rungs p.k) p.download a.asked;
        listed = k.listed;
        begun = k.begun;
      }

  -- a millisecond before the first segment
  starts_along : p.mode ≡ starting → Along g rungs 0 l (ticked (passes_in (case_along g rungs) (taken (case_along g rungs) p) starting))
  starts_along e =
      let spent = a.spent in
      let least = a.least in
      let idle = h.idle (ap is_waiting e) in
      let more = h.more (ap is_waiting e) in
      let first = before_first p.k (sym a.mode ∙ e) in
      later_along p.x (p.startup_ms + 1) p.stall_ms p.seek_ms p.stalls false p.loaded p.played p.events
      (record {
        spent = omega (arith, spent);
        calm = a.calm;
        startup = λ some. absurd (omega (arith, some, first));
        least = omega (arith, least);
        tight = λ inside. absurd (omega (arith, inside, idle));
        whole = λ all. absurd (omega (arith, all, more));
        listed = a.listed;
        begun = a.begun;
      })

  module _ (on : p.mode ≡ playing) where
    -- a millisecond of stall
    stall_keeps : IsStill (case_along g rungs) p → p.y ≤ p.x → Keeps g rungs l p p.x p.startup_ms (p.stall_ms + 1) p.loaded p.played
    stall_keeps still full =
        let spent = a.spent in
        let least = a.least in
        let position = h.position in
        let end = h.loaded_end in
        let first = after_first p.k (sym a.mode ∙ on) in
        record {
          spent = omega (arith, spent);
          calm = λ none. absurd (omega (arith, none, first));
          startup = a.startup;
          least = omega (arith, least);
          tight = λ inside. absurd (omega (arith, inside, full));
          whole = λ all.
              let n = segments_of g.film in
              let at = ap (λ k. k * g.film.seg_ms) all in
              absurd (true≢false (sym (and_from (is_playing p.mode) (eqb p.x (n * g.film.seg_ms)) (ap is_playing on) (eq-eqb p.x (n * g.film.seg_ms) (omega (arith, position, full, end, at)))) ∙ still.inside));
          listed = a.listed;
          begun = a.begun;
        }

    stalls_along : IsStill (case_along g rungs) p → p.y ≤ p.x → Along g rungs 0 l (ticked (stalls_on (taken (case_along g rungs) p)))
    stalls_along still full =
        let c = case_along g rungs in
        let keeps = stall_keeps still full in
        cond_both p.stalling (record (taken c p) { stall_ms = p.stall_ms + 1 })
        (record (taken c p) { stall_ms = p.stall_ms + 1; stalls = p.stalls + 1; stalling = true; events = p.events ++ event.Stall p.t ∷ [] }) (λ r. Along g rungs 0 l (ticked r))
        (λ e. later_along p.x p.startup_ms (p.stall_ms + 1) p.seek_ms p.stalls p.stalling p.loaded p.played p.events keeps)
        (λ e. later_along p.x p.startup_ms (p.stall_ms + 1) p.seek_ms (p.stalls + 1) true p.loaded p.played (p.events ++ event.Stall p.t ∷ []) keeps)

    -- a millisecond of play
    module _ (inside : p.x < p.y) where
      play_keeps : (loaded played : List Played) → played ++ loaded ≡ rungs_played rungs p.k → length played ≡ begun_before g.film (p.x + 1) → Keeps g rungs l p (p.x + 1) p.startup_ms p.stall_ms loaded played
      play_keeps loaded played listed begun =
          let spent = a.spent in
          record {
            spent = omega (arith, spent);
            calm = a.calm;
            startup = a.startup;
            least = a.least;
            tight = λ more. a.tight inside;
            whole = a.whole;
            listed = listed;
            begun = begun;
          }

      within_along : (p.x % g.film.seg_ms ≡ 0 → ⊥) → Along g rungs 0 l (ticked (record (taken (case_along g rungs) p) { x = p.x + 1; stalling = false }))
      within_along within =
          later_along (p.x + 1) p.startup_ms p.stall_ms p.seek_ms p.stalls false p.loaded p.played p.events
          (play_keeps p.loaded p.played a.listed (a.begun ∙ sym (begun_same g.film p.x is.film.seg_ms.0 within)))

      -- where a segment begins one is loaded that hasn't begun
      none_loaded : p.loaded ≡ [] → p.x % g.film.seg_ms ≡ 0 → ⊥
      none_loaded none start =
          let next = h.next in
          let count = fits.0 in
          let all = ap length (sym (append-nil p.played) ∙ ap (λ ps. p.played ++ ps) (sym none) ∙ a.listed) ∙ played_length rungs p.k (omega (arith, next, count)) in
          let begun = a.begun in
          let more = begun_more g.film p.x is.film.seg_ms.0 start in
          let end = h.loaded_end in
          let most = begun_most g.film (p.x + 1) p.k is.film.seg_ms.0 (omega (arith, inside, end)) in
          omega (arith, all, begun, more, most)

      begins_along : (qs : List Played) → p.loaded ≡ qs → p.x % g.film.seg_ms ≡ 0
          → Along g rungs 0 l (ticked (record (begins (taken (case_along g rungs) p) qs) { x = (begins (taken (case_along g rungs) p) qs).x + 1; stalling = false }))
      begins_along [] none start = absurd (none_loaded none start)
      begins_along (q ∷ qs) some start =
          let begun = a.begun in
          let more = begun_more g.film p.x is.film.seg_ms.0 start in
          let longer = length_push p.played q in
          later_along (p.x + 1) p.startup_ms p.stall_ms p.seek_ms p.stalls false qs (p.played ++ q ∷ []) (p.events ++ event.Play p.t q.segment q.rung ∷ [])
          (play_keeps qs (p.played ++ q ∷ []) (append_assoc p.played (q ∷ []) qs ∙ ap (λ ps. p.played ++ ps) (sym some) ∙ a.listed) (omega (arith, begun, more, longer)))

      plays_along : Along g rungs 0 l (ticked (plays (case_along g rungs) (taken (case_along g rungs) p)))
      plays_along =
          let c = case_along g rungs in
          cond_both (eqb (p.x % g.film.seg_ms) 0) (begins (taken c p) p.loaded) (taken c p) (λ r. Along g rungs 0 l (ticked (record r { x = r.x + 1; stalling = false })))
          (λ e. begins_along p.loaded refl (eqb-true (p.x % g.film.seg_ms) 0 e)) (λ e. within_along (eqb-false (p.x % g.film.seg_ms) 0 e))

  passes_along : (m : Mode) → p.mode ≡ m → is_ended m ≡ false → IsStill (case_along g rungs) p → Along g rungs 0 l (ticked (passes_in (case_along g rungs) (taken (case_along g rungs) p) m))
  passes_along starting e go still = starts_along e
  passes_along seeking e go still = absurd (true≢false (ap is_seeking (sym e ∙ a.mode) ∙ never_seeks p.k))
  passes_along ended e go still = absurd (true≢false go)
  passes_along playing e go still =
      let c = case_along g rungs in
      cond_both (ltb p.x p.y) (plays c (taken c p)) (stalls_on (taken c p)) (λ r. Along g rungs 0 l (ticked r))
      (λ low. plays_along e (ltb-true p.x p.y low)) (λ late. stalls_along e still (ltb-false p.x p.y late))

  -- a millisecond later the player is beside the same label
  pub pass_along : is_ended p.mode ≡ false → IsStill (case_along g rungs) p → Along g rungs 0 l (pass_ms (case_along g rungs) p)
  pass_along go still = passes_along p.mode refl go still
