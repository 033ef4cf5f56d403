-- Milliseconds in which nothing begins, one after another and at once.
use Rattle.std.proofs.Common.{◌≡◌, ◌∙◌, ℕ, ◌+◌, ◌-◌, ◌%◌, ◌<◌, ◌≤◌, ◌&&◌, ⊎_elim, Bool, true, false, cond, eqb, ltb, not, ◌++◌, ◌∷◌, [], Option, Some, None, IfSome, option_map, refl, sym, ap, lt-ltb, le-ltb, arith}
use Rattle.std.proofs.lemmas.Bool.{cases_lt, cond_both, cond-true, cond-false, true≢false, ne_eqb}
use Rattle.network_clock.specs.Network.{done_on, first_on, job_on, start_job}
use Rattle.network_clock.proofs.Laws.{job_apart, job_more, job_start}
use Rattle.player_core.specs.declared.session.Event.TheVariants as event
use Rattle.player_core.specs.State.{Case, Download, Mode, Player, starting, playing, seeking, ended}
use Rattle.player_core.specs.Parts.{begins, is_ended, is_playing, pass_ms, passes_in, plays, stalls_on, takes, takes_any}
use Rattle.player_core.specs.Sound.{IsCase, DownloadRuns, asked_size}
use Rattle.player_core.specs.Quiet.{glides, glides_in, taken_ms}
use Rattle.player_core.proofs.Runs.{first_next, runs_done}
use Rattle.player_core.proofs.Soundness.{ticked}

-- ---- a download

module _ (c : Case) (is : IsCase c) where
  -- something is left of a download that isn't done
  pub runs_open : (t : ℕ) (d : Download) → DownloadRuns c t d → t < done_on c.network d.asked (asked_size c d) → eqb d.job.left 0 ≡ false
  runs_open t d h early = ne_eqb d.job.left 0 (λ none. let done = runs_done c is t d h none in absurd (omega (arith, done, early)))

  taken_none : (t : ℕ) (d : Download) → DownloadRuns c t d → taken_ms c t 0 d ≡ d
  taken_none t d h =
      let first = first_on c.network d.asked (asked_size c d) in
      let here : t + 0 ≡ t = omega arith in
      ap (λ j. record d { job = j; first = cond (ltb first (t + 0)) (Some first) None }) (job_start c.network t d.job)
      ∙ ap (λ n. record d { first = cond (ltb first n) (Some first) None }) here
      ∙ ap (λ o. record d { first = o }) (sym h.first)

  taken_runs : (t m : ℕ) (d : Download) → DownloadRuns c t d → t + m ≤ done_on c.network d.asked (asked_size c d) → DownloadRuns c (t + m) (taken_ms c t m d)
  taken_runs t m d h early =
      let bits = asked_size c d in
      let asked = h.asked in
      let here : d.asked + (t - d.asked) ≡ t = omega (arith, asked) in
      let parts : (t - d.asked) + m ≡ (t + m) - d.asked = omega (arith, asked) in
      record {
        segment = h.segment;
        rung = h.rung;
        asked = omega (arith, asked);
        job = ap (job_on c.network t m) h.job
            ∙ ap (λ n. job_on c.network n m (job_on c.network d.asked (t - d.asked) (start_job bits))) (sym here)
            ∙ sym (job_apart c.network d.asked (t - d.asked) m (start_job bits))
            ∙ ap (λ n. job_on c.network d.asked n (start_job bits)) parts;
        first = refl;
        done = early;
      }

  taken_next : (t m : ℕ) (d : Download) → DownloadRuns c t d → t + m < done_on c.network d.asked (asked_size c d) → takes c (t + m) (taken_ms c t m d) ≡ taken_ms c t (m + 1) d
  taken_next t m d h early =
      let first = first_on c.network d.asked (asked_size c d) in
      let one : (t + m) + 1 ≡ t + (m + 1) = omega arith in
      ap (λ j. record (takes c (t + m) (taken_ms c t m d)) { job = j }) (sym (job_more c.network t m d.job))
      ∙ ap (λ o. record d { job = job_on c.network t (m + 1) d.job; first = o }) (first_next c is (t + m) (taken_ms c t m d) (taken_runs t m d h (omega (arith, early))))
      ∙ ap (λ n. record d { job = job_on c.network t (m + 1) d.job; first = cond (ltb first n) (Some first) None }) one

  -- the same where there may be none
  any_taken_none : (t : ℕ) (o : Option Download) → IfSome o (DownloadRuns c t) → option_map (taken_ms c t 0) o ≡ o
  any_taken_none t None h = refl
  any_taken_none t (Some d) h = ap Some (taken_none t d h)

  any_taken_next : (t m : ℕ) (o : Option Download) → IfSome o (DownloadRuns c t) → IfSome o (λ d. t + m < done_on c.network d.asked (asked_size c d))
      → option_map (takes c (t + m)) (option_map (taken_ms c t m) o) ≡ option_map (taken_ms c t (m + 1)) o
  any_taken_next t m None h early = refl
  any_taken_next t m (Some d) h early = ap Some (taken_next t m d h early)

-- ---- the milliseconds of a mode

-- the player with what a glide changes
abbrev moved : Player → ℕ → ℕ → Option Download → ℕ → ℕ → ℕ → Bool → Player
moved p t x download startup_ms stall_ms seek_ms stalling =
    record p { t = t; x = x; download = download; startup_ms = startup_ms; stall_ms = stall_ms; seek_ms = seek_ms; stalling = stalling }

moved_same : (p : Player) (t u x y : ℕ) (d e : Option Download) (a b s r k l : ℕ) (v w : Bool) → t ≡ u → x ≡ y → d ≡ e → a ≡ b → s ≡ r → k ≡ l → v ≡ w
    → moved p t x d a s k v ≡ moved p u y e b r l w
moved_same p t u x y d e a b s r k l v w h1 h2 h3 h4 h5 h6 h7 = cc

-- so many milliseconds can pass at once in a mode, and one more: within a segment, in a stall that goes on, or while it waits
pub record IsSmooth (c : Case) (p : Player) (mode : Mode) (m : ℕ) : Type 0 where
  pub still : is_playing mode ≡ false → p.stalling ≡ false
  pub goes : is_playing mode ≡ true → p.x < p.y → (p.stalling ≡ false) × ((p.x + m) % c.film.seg_ms ≡ 0 → ⊥) × (p.x + m < p.y)
  pub stalls : is_playing mode ≡ true → p.y ≤ p.x → p.stalling ≡ true

plays_within : (c : Case) (q : Player) → q.x < q.y → (q.x % c.film.seg_ms ≡ 0 → ⊥) → passes_in c q playing ≡ record q { x = q.x + 1; stalling = false }
plays_within c q low within =
    cond-true (ltb q.x q.y) (plays c q) (stalls_on q) (lt-ltb q.x q.y low)
    ∙ ap (λ (r : Player). record r { x = r.x + 1; stalling = false }) (cond-false (eqb (q.x % c.film.seg_ms) 0) (begins q q.loaded) q (ne_eqb (q.x % c.film.seg_ms) 0 within))

stalls_more : (c : Case) (q : Player) → q.y ≤ q.x → q.stalling ≡ true → passes_in c q playing ≡ record q { stall_ms = q.stall_ms + 1 }
stalls_more c q full on =
    cond-false (ltb q.x q.y) (plays c q) (stalls_on q) (le-ltb q.x q.y full)
    ∙ cond-true q.stalling (record q { stall_ms = q.stall_ms + 1 }) (record q { stall_ms = q.stall_ms + 1; stalls = q.stalls + 1; stalling = true; events = q.events ++ event.Stall q.t ∷ [] }) on

module _ (c : Case) (is : IsCase c) where
  -- none at all
  pub glides_none : (p : Player) → IfSome p.download (DownloadRuns c p.t) → glides c 0 p ≡ p
  glides_none p runs =
      moved_same p (p.t + 0) p.t _ p.x _ p.download _ p.startup_ms _ p.stall_ms _ p.seek_ms p.stalling p.stalling (omega arith)
      (none_more (is_playing p.mode && ltb p.x p.y) p.x) (any_taken_none c is p.t p.download runs) (none_more _ p.startup_ms)
      (none_more _ p.stall_ms) (none_more _ p.seek_ms) refl
    where
      none_more : (b : Bool) (n : ℕ) → cond b (n + 0) n ≡ n
      none_more b n = cond_both b (n + 0) n (λ k. k ≡ n) (λ e. omega arith) (λ e. refl)

  -- and one more
  next_in : (p : Player) (m : ℕ) (mode : Mode) → is_ended mode ≡ false → IsSmooth c p mode m → IfSome p.download (DownloadRuns c p.t) → IfSome p.download (λ d. p.t + m < done_on c.network d.asked (asked_size c d))
      → ticked (passes_in c (takes_any c (glides_in c m p mode)) mode) ≡ glides_in c (m + 1) p mode
  next_in p m starting goes smooth runs early =
      moved_same p ((p.t + m) + 1) (p.t + (m + 1)) p.x p.x _ _ ((p.startup_ms + m) + 1) (p.startup_ms + (m + 1)) p.stall_ms p.stall_ms p.seek_ms p.seek_ms false p.stalling
      (omega arith) refl (any_taken_next c is p.t m p.download runs early) (omega arith) refl refl (sym (smooth.still refl))
  next_in p m seeking goes smooth runs early =
      moved_same p ((p.t + m) + 1) (p.t + (m + 1)) p.x p.x _ _ p.startup_ms p.startup_ms p.stall_ms p.stall_ms ((p.seek_ms + m) + 1) (p.seek_ms + (m + 1)) false p.stalling
      (omega arith) refl (any_taken_next c is p.t m p.download runs early) refl refl (omega arith) (sym (smooth.still refl))
  next_in p m ended goes smooth runs early = absurd (true≢false goes)
  next_in p m playing goes smooth runs early =
      let q = takes_any c (glides_in c m p playing) in
      let download = any_taken_next c is p.t m p.download runs early in
      ⊎_elim
      (λ (low : p.x < p.y).
      let moves = lt-ltb p.x p.y low in
      let here = smooth.goes refl low in
      let x : q.x ≡ p.x + m = cond-true (ltb p.x p.y) (p.x + m) p.x moves in
      let x_next = cond-true (ltb p.x p.y) (p.x + (m + 1)) p.x moves in
      let inside = here.2 in
      let stall = ap (λ b. cond (not b) (p.stall_ms + m) p.stall_ms) moves in
      let stall_next = ap (λ b. cond (not b) (p.stall_ms + (m + 1)) p.stall_ms) moves in
      ap ticked (plays_within c q (omega (arith, x, inside)) (λ none. here.1 (ap (λ n. n % c.film.seg_ms) (sym x) ∙ none)))
      ∙ moved_same p ((p.t + m) + 1) (p.t + (m + 1)) (q.x + 1) _ _ _ p.startup_ms p.startup_ms q.stall_ms _ p.seek_ms p.seek_ms false p.stalling
      (omega arith) (omega (arith, x, x_next)) download refl (stall ∙ sym stall_next) refl (sym here.0))
      (λ (full : p.y ≤ p.x).
      let rests = le-ltb p.x p.y full in
      let x : q.x ≡ p.x = cond-false (ltb p.x p.y) (p.x + m) p.x rests in
      let x_next = cond-false (ltb p.x p.y) (p.x + (m + 1)) p.x rests in
      let stall = ap (λ b. cond (not b) (p.stall_ms + m) p.stall_ms) rests in
      let stall_next = ap (λ b. cond (not b) (p.stall_ms + (m + 1)) p.stall_ms) rests in
      ap ticked (stalls_more c q (omega (arith, x, full)) (smooth.stalls refl full))
      ∙ moved_same p ((p.t + m) + 1) (p.t + (m + 1)) q.x _ _ _ p.startup_ms p.startup_ms (q.stall_ms + 1) _ p.seek_ms p.seek_ms p.stalling p.stalling
      (omega arith) (x ∙ sym x_next) download refl (omega (arith, stall, stall_next)) refl refl)
      (cases_lt p.x p.y)

  -- milliseconds that pass at once and one more, in which nothing begins, are so many and one at once
  pub glides_next : (p : Player) (m : ℕ) → is_ended p.mode ≡ false → IsSmooth c p p.mode m → IfSome p.download (DownloadRuns c p.t) → IfSome p.download (λ d. p.t + m < done_on c.network d.asked (asked_size c d))
      → pass_ms c (glides c m p) ≡ glides c (m + 1) p
  glides_next p m goes smooth runs early = next_in p m p.mode goes smooth runs early
