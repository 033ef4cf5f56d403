-- Quiet stretches: where nothing happens for so many milliseconds, the player at their end is what they make of it at once.
use Rattle.std.proofs.Common.{◌≡◌, ◌∙◌, ℕ, zero, suc, ◌+◌, ◌-◌, ◌*◌, ◌/◌, ◌%◌, ◌<◌, ◌≤◌, ◌&&◌, ◌⊎◌, inl, inr, ⊎_elim, true, false, eqb, ltb, ◌++◌, ◌∷◌, [], Option, Some, None, IfSome, is_some, option_map, refl, sym, ap, subst, lt-ltb, le-ltb, mul-le-mul_right, add-one, below_more, arith}
use Rattle.std.proofs.lemmas.Bool.{and_from, and_left, and_right, cases_Bool, cases_lt, cond_both, cond-true, cond-false, false≢true, true≢false, false_from_ne_true, ne_eqb}
use Rattle.std.proofs.lemmas.Nat.{div-add-mod'}
use Rattle.lab_model.specs.Film.{segments_of}
use Rattle.network_clock.specs.Network.{done_on}
use Rattle.abandonment.specs.Test.{abandonment}
use Rattle.player_core.specs.declared.session.Event.TheVariants as event
use Rattle.player_core.specs.Available.{available_at}
use Rattle.player_core.specs.State.{Case, Download, Mode, Player, starting, playing, seeking, ended}
use Rattle.player_core.specs.Parts.{abandon, arrives, asks, can_ask, finish, gives_up, gives_up_any, goes_on, instant, is_ended, is_playing, loads, pass_ms, passes_in, plays, progress_of, request, rung_for, seek, seek_at, seeks_to, stalls_on, takes, takes_any}
use Rattle.player_core.specs.Session.{ends_at, player_after}
use Rattle.player_core.specs.Sound.{IsCase, DownloadRuns, Sound, asked_size}
use Rattle.abandonment.specs.Test.{is_due_ms}
use Rattle.player_core.specs.Quiet.{IsKeptAt, IsQuiet, IsUneventful, IsUntouched, glides, running_at, taken_ms}
use Rattle.player_core.proofs.Soundness.{can_ask_true}
use Rattle.player_core.proofs.Players.{instant_sound, pass_t, passed_sound, player_next, player_sound}
use Rattle.player_core.proofs.Waits.{IsInside, IsStill, instant_still, passes_passed, plays_x}
use Rattle.player_core.proofs.Kept.{early_kept, lowest_kept, running_is}
use Rattle.player_core.proofs.Glides.{IsSmooth, glides_next, glides_none, runs_open}

-- ---- shorter stretches, and those of a player without seeks and abandonment

-- what holds for so many milliseconds holds for fewer
pub untouched_less : (c : Case) (q : Player) (n m : ℕ) → IsUntouched c q n → 1 ≤ m → m ≤ n → IsUntouched c q m
untouched_less c q n m long some low = record {
  some = some;
  asks = λ none next. ⊎_elim (λ full. inl (omega (arith, full, low))) (λ early. inr (omega (arith, early, low))) (long.asks none next);
  plays = λ on ahead. let within = long.plays on ahead in omega (arith, within, low);
}

-- without seeks and abandonment nothing happens until the arrival as long as nothing of the player's own does
pub quiet_alone : (c : Case) (q : Player) (ms : ℕ) → c.setup.abandon ≡ false → c.seeks ≡ [] → IsUntouched c q ms → IfSome q.download (λ d. q.t + ms ≤ done_on c.network d.asked (asked_size c d)) → IsQuiet c q ms
quiet_alone c q ms off none untouched arrives = record {
  untouched = untouched;
  arrives = arrives;
  judges = λ on. absurd (true≢false (sym on ∙ off));
  seeks = λ m after low. ap (λ ss. seek_at ss m) none;
}

kept_any : (c : Case) (from until : ℕ) (o : Option Download) → IfSome o (λ d. (d.rung ≡ 0) ⊎ ((m : ℕ) → from < m → m < until → is_due_ms (m - d.asked) ≡ false))
    → IfSome o (λ d. (m : ℕ) → from < m → m < until → IsKeptAt c m d)
kept_any c from until None h = tt
kept_any c from until (Some d) (inl lowest) = λ m after low. lowest_kept c.film d.segment d.rung (progress_of c.film m (running_at c m d)) lowest
kept_any c from until (Some d) (inr none) = λ m after low. early_kept c.film d.segment d.rung (progress_of c.film m (running_at c m d)) (none m after low)

-- where no download is looked at, none is given up
pub quiet_uneventful : (c : Case) (q : Player) (ms : ℕ) → IsQuiet c q ms → IsUneventful c q ms
quiet_uneventful c q ms quiet = record {
  untouched = quiet.untouched;
  arrives = quiet.arrives;
  keeps = λ on. kept_any c q.t (q.t + ms) q.download (quiet.judges on);
  seeks = quiet.seeks;
}

-- ---- an instant at which nothing happens

-- nothing happens at the instant of the player
record IsIdle (c : Case) (p : Player) : Type 0 where
  goes : is_ended p.mode ≡ false
  inside : IsInside c p
  runs : IfSome p.download (λ d. p.t < done_on c.network d.asked (asked_size c d))
  keeps : c.setup.abandon ≡ true → IfSome p.download (λ d. abandonment c.film d.segment d.rung (progress_of c.film p.t d) ≡ None)
  seeks : seek_at c.seeks p.t ≡ None
  asks : p.download ≡ None → p.k < segments_of c.film → (c.setup.buffer_ms < p.y - p.x + c.film.seg_ms) ⊎ (p.t < available_at c.film c.ahead p.k)

module _ (c : Case) (is : IsCase c) (p : Player) where
  idle_arrives : (o : Option Download) → IfSome o (DownloadRuns c p.t) → IfSome o (λ d. p.t < done_on c.network d.asked (asked_size c d)) → arrives c p o ≡ p
  idle_arrives None runs early = refl
  idle_arrives (Some d) runs early = cond-false (eqb d.job.left 0) (loads c p d) p (runs_open c is p.t d runs early)

  idle_gives_any : (o : Option Download) → IfSome o (λ d. abandonment c.film d.segment d.rung (progress_of c.film p.t d) ≡ None) → gives_up_any c p o ≡ p
  idle_gives_any None h = refl
  idle_gives_any (Some d) h = ap (gives_up c p d) h

  idle_abandon : (c.setup.abandon ≡ true → IfSome p.download (λ d. abandonment c.film d.segment d.rung (progress_of c.film p.t d) ≡ None)) → abandon c p ≡ p
  idle_abandon h = cond_both c.setup.abandon (gives_up_any c p p.download) p (λ q. q ≡ p) (λ on. idle_gives_any p.download (h on)) (λ off. refl)

  idle_seek : seek_at c.seeks p.t ≡ None → seek c p ≡ p
  idle_seek none = ap (seeks_to c p) none

  idle_finish : IsInside c p → finish c p ≡ p
  idle_finish inside = cond-false (is_playing p.mode && eqb p.x (segments_of c.film * c.film.seg_ms)) (record p { mode = ended; events = p.events ++ event.End p.t ∷ [] }) p inside

  idle_request : (p.download ≡ None → p.k < segments_of c.film → (c.setup.buffer_ms < p.y - p.x + c.film.seg_ms) ⊎ (p.t < available_at c.film c.ahead p.k)) → request c p ≡ p
  idle_request h =
      cond-false (can_ask c p) (asks c p (rung_for c p)) p
      (false_from_ne_true (can_ask c p) (λ e. let can = can_ask_true c p e in
      let fits = can.fits in
      let there = can.there in
      ⊎_elim (λ full. absurd (omega (arith, full, fits))) (λ early. absurd (omega (arith, early, there))) (h can.free can.next)))

  idle_instant : (from : ℕ) → Sound c from p → IsIdle c p → instant c p ≡ p
  idle_instant from sound idle =
      ap (goes_on c) (ap (finish c) (idle_arrives p.download sound.running idle.runs) ∙ idle_finish idle.inside)
      ∙ cond-false (is_ended p.mode) p (request c (seek c (abandon c p))) idle.goes
      ∙ ap (λ q. request c (seek c q)) (idle_abandon idle.keeps) ∙ ap (request c) (idle_seek idle.seeks) ∙ idle_request idle.asks

-- ---- a millisecond after it

-- the second player is the first a millisecond later
pub record IsNext (c : Case) (q p : Player) : Type 0 where
  t : p.t ≡ q.t + 1
  k : p.k ≡ q.k
  y : p.y ≡ q.y
  mode : p.mode ≡ q.mode
  download : p.download ≡ option_map (takes c q.t) q.download
  goes : is_playing q.mode ≡ true → q.x < q.y → (p.x ≡ q.x + 1) × (p.stalling ≡ false)
  stalls : is_playing q.mode ≡ true → q.y ≤ q.x → (p.x ≡ q.x) × (p.stalling ≡ true)
  still : is_playing q.mode ≡ false → (p.x ≡ q.x) × (p.stalling ≡ false)

is_play : (m : Mode) → is_playing m ≡ true → m ≡ playing
is_play starting e = absurd (false≢true e)
is_play seeking e = absurd (false≢true e)
is_play ended e = absurd (false≢true e)
is_play playing e = refl

module _ (c : Case) where
  goes_calm : (q : Player) (m : Mode) → is_playing m ≡ true → q.x < q.y → (passes_in c q m).stalling ≡ false
  goes_calm q starting e low = absurd (false≢true e)
  goes_calm q seeking e low = absurd (false≢true e)
  goes_calm q ended e low = absurd (false≢true e)
  goes_calm q playing e low = ap (λ (r : Player). r.stalling) (cond-true (ltb q.x q.y) (plays c q) (stalls_on q) (lt-ltb q.x q.y low))

  stalls_stand : (q : Player) (m : Mode) → is_playing m ≡ true → q.y ≤ q.x → ((passes_in c q m).x ≡ q.x) × ((passes_in c q m).stalling ≡ true)
  stalls_stand q starting e full = absurd (false≢true e)
  stalls_stand q seeking e full = absurd (false≢true e)
  stalls_stand q ended e full = absurd (false≢true e)
  stalls_stand q playing e full =
      let stalls = cond-false (ltb q.x q.y) (plays c q) (stalls_on q) (le-ltb q.x q.y full) in
      let old = record q { stall_ms = q.stall_ms + 1 } in
      let new = record q { stall_ms = q.stall_ms + 1; stalls = q.stalls + 1; stalling = true; events = q.events ++ event.Stall q.t ∷ [] } in (
        ap (λ (r : Player). r.x) stalls ∙ cond_both q.stalling old new (λ r. r.x ≡ q.x) (λ on. refl) (λ off. refl),
        ap (λ (r : Player). r.stalling) stalls ∙ cond_both q.stalling old new (λ r. r.stalling ≡ true) (λ on. on) (λ off. refl),
      )

  still_stands : (q : Player) (m : Mode) → is_ended m ≡ false → is_playing m ≡ false → ((passes_in c q m).x ≡ q.x) × ((passes_in c q m).stalling ≡ false)
  still_stands q starting goes e = (refl, refl)
  still_stands q seeking goes e = (refl, refl)
  still_stands q ended goes e = absurd (true≢false goes)
  still_stands q playing goes e = absurd (true≢false e)

  -- a player is the next one when a millisecond has passed
  pub pass_next : (q : Player) → is_ended q.mode ≡ false → IsNext c q (pass_ms c q)
  pass_next q goes =
      let passed = passes_passed c (takes_any c q) q.mode in
      record {
        t = pass_t c q;
        k = passed.k;
        y = passed.y;
        mode = passed.mode;
        download = passed.download;
        goes = λ on low. (plays_x c (takes_any c q) q.mode (is_play q.mode on) low, goes_calm (takes_any c q) q.mode on low);
        stalls = stalls_stand (takes_any c q) q.mode;
        still = still_stands (takes_any c q) q.mode goes;
      }

-- ---- within a segment

module _ (x s n : ℕ) (within : x % s + n ≤ s) where
  -- so many milliseconds do not go past the loaded end
  pub end_ahead : (k : ℕ) → x < k * s → x + n ≤ k * s
  end_ahead k low =
      let whole = div-add-mod' x s in
      ⊎_elim (λ (inside : x / s < k). let most = mul-le-mul_right s (let m : x / s + 1 ≤ k = omega (arith, inside) in m) in omega (arith, whole, within, most))
      (λ (past : k ≤ x / s). let least = mul-le-mul_right s past in absurd (omega (arith, whole, low, least))) (cases_lt (x / s) k)

  -- and no segment begins after some of them
  none_begins : (i : ℕ) → 1 ≤ i → i < n → (x + i) % s ≡ 0 → ⊥
  none_begins i some low none =
      let whole = div-add-mod' x s in
      let there = div-add-mod' (x + i) s in
      ⊎_elim (λ (more : x / s < (x + i) / s). let least = mul-le-mul_right s (let m : x / s + 1 ≤ (x + i) / s = omega (arith, more) in m) in omega (arith, whole, there, within, none, some, low, least))
      (λ (same : (x + i) / s ≤ x / s). let most = mul-le-mul_right s same in omega (arith, whole, there, within, none, some, low, most)) (cases_lt (x / s) ((x + i) / s))

-- ---- the instants of a stretch

module _ (c : Case) (t ms until : ℕ) where
  any_runs : (later : ℕ) (o : Option Download) → later < until → IfSome o (λ d. until ≤ done_on c.network d.asked (asked_size c d))
      → IfSome (option_map (takes c t) o) (λ d. later < done_on c.network d.asked (asked_size c d))
  any_runs later None low h = tt
  any_runs later (Some d) low h = omega (arith, low, h)

  glide_runs : (later : ℕ) (o : Option Download) → IfSome o (λ d. later < done_on c.network d.asked (asked_size c d))
      → IfSome (option_map (taken_ms c t ms) o) (λ d. later < done_on c.network d.asked (asked_size c d))
  glide_runs later None h = tt
  glide_runs later (Some d) h = h

  -- what keeps a download until an instant keeps it there
  glide_keeps : (from later s : ℕ) (o : Option Download) → from < later → later < until → IfSome o (λ d. (m : ℕ) → from < m → m < until → IsKeptAt c m d)
      → IfSome (option_map (taken_ms c s ms) (option_map (takes c t) o)) (DownloadRuns c later)
      → IfSome (option_map (taken_ms c s ms) (option_map (takes c t) o)) (λ d. abandonment c.film d.segment d.rung (progress_of c.film later d) ≡ None)
  glide_keeps from later s None after low h runs = tt
  glide_keeps from later s (Some d) after low h runs =
      ap (λ e. abandonment c.film d.segment d.rung (progress_of c.film later e)) (running_is c later (taken_ms c s ms (takes c t d)) runs) ∙ h later after low

  any_none : (o : Option Download) → option_map (takes c t) o ≡ None → o ≡ None
  any_none None e = refl
  any_none (Some d) e = absurd (true≢false (ap is_some e))

  glide_none : (o : Option Download) → option_map (taken_ms c t ms) o ≡ None → o ≡ None
  glide_none None e = refl
  glide_none (Some d) e = absurd (true≢false (ap is_some e))

module _ (c : Case) (is : IsCase c) (from : ℕ) (q p : Player) (n : ℕ) (sound : Sound c from q) (goes : is_ended q.mode ≡ false) (still : IsStill c q) (quiet : IsUneventful c q n) (next : IsNext c q p) where
  -- where the position moves, so many milliseconds are loaded ahead
  ahead_ms : is_playing q.mode ≡ true → q.x < q.y → q.x + n ≤ q.y
  ahead_ms on low =
      let end = sound.loaded_end in
      let most = end_ahead q.x c.film.seg_ms n (quiet.untouched.plays on low) q.k (omega (arith, end, low)) in
      omega (arith, most, end)

  -- and after the first of them as many fewer
  pub rests_ahead : is_playing p.mode ≡ true → p.x < p.y → p.x + (n - 1) ≤ p.y
  rests_ahead on low =
      let plays : is_playing q.mode ≡ true = sym (ap is_playing next.mode) ∙ on in
      let y = next.y in
      ⊎_elim (λ (ahead : q.x < q.y). let x = (next.goes plays ahead).0 in let whole = ahead_ms plays ahead in let some = quiet.untouched.some in omega (arith, x, y, whole, some))
      (λ (full : q.y ≤ q.x). let x = (next.stalls plays full).0 in absurd (omega (arith, x, y, low, full))) (cases_lt q.x q.y)

  rests_smooth : (j : ℕ) → suc j < n → IsSmooth c p p.mode j
  rests_smooth j inside = record {
    still = λ off. (next.still (sym (ap is_playing next.mode) ∙ off)).1;
    goes = λ on low.
        let plays : is_playing q.mode ≡ true = sym (ap is_playing next.mode) ∙ on in
        let y = next.y in
        ⊎_elim (λ (ahead : q.x < q.y).
        let moved = next.goes plays ahead in
        let x = moved.0 in
        let whole = ahead_ms plays ahead in
        let here : p.x + j ≡ q.x + suc j = omega (arith, x) in
        (moved.1, (λ none. none_begins q.x c.film.seg_ms n (quiet.untouched.plays plays ahead) (suc j) (omega arith) inside (ap (λ i. i % c.film.seg_ms) (sym here) ∙ none)), omega (arith, x, y, whole, inside)))
        (λ (full : q.y ≤ q.x). let stood = (next.stalls plays full).0 in absurd (omega (arith, stood, y, low, full))) (cases_lt q.x q.y);
    stalls = λ on full.
        let plays : is_playing q.mode ≡ true = sym (ap is_playing next.mode) ∙ on in
        let y = next.y in
        ⊎_elim (λ (ahead : q.x < q.y). let x = (next.goes plays ahead).0 in let whole = ahead_ms plays ahead in absurd (omega (arith, x, y, whole, full, inside)))
        (λ (stood : q.y ≤ q.x). (next.stalls plays stood).1) (cases_lt q.x q.y);
  }

  -- the position after some of the milliseconds
  rests_x : (j : ℕ) → suc j < n → ((is_playing q.mode ≡ true) × (q.x < q.y) × ((glides c j p).x ≡ q.x + suc j)) ⊎ (((is_playing q.mode ≡ false) ⊎ (q.y ≤ q.x)) × ((glides c j p).x ≡ q.x))
  rests_x j inside =
      let mode = ap is_playing next.mode in
      let y = next.y in
      ⊎_elim
      (λ (on : is_playing q.mode ≡ true).
      ⊎_elim
      (λ (low : q.x < q.y).
      let x = (next.goes on low).0 in
      let whole = ahead_ms on low in
      let moves = cond-true (is_playing p.mode && ltb p.x p.y) (p.x + j) p.x (and_from (is_playing p.mode) (ltb p.x p.y) (mode ∙ on) (lt-ltb p.x p.y (omega (arith, x, y, whole, inside)))) in
      inl (on, low, omega (arith, moves, x)))
      (λ (full : q.y ≤ q.x).
      let x = (next.stalls on full).0 in
      let stays = cond-false (is_playing p.mode && ltb p.x p.y) (p.x + j) p.x (and_right (is_playing p.mode) (ltb p.x p.y) (le-ltb p.x p.y (omega (arith, x, y, full)))) in
      inr (inr full, stays ∙ x))
      (cases_lt q.x q.y))
      (λ (off : is_playing q.mode ≡ false).
      let x = (next.still off).0 in
      let stays = cond-false (is_playing p.mode && ltb p.x p.y) (p.x + j) p.x (and_left (is_playing p.mode) (ltb p.x p.y) (mode ∙ off)) in
      inr (inl off, stays ∙ x))
      (cases_Bool (is_playing q.mode))

  rests_inside : (j : ℕ) → suc j < n → IsInside c (glides c j p)
  rests_inside j inside =
      let all = segments_of c.film * c.film.seg_ms in
      let mode = ap is_playing next.mode in
      ⊎_elim
      (λ (moves : (is_playing q.mode ≡ true) × (q.x < q.y) × ((glides c j p).x ≡ q.x + suc j)).
      let end = sound.loaded_end in
      let whole = mul-le-mul_right c.film.seg_ms sound.next in
      let ahead = ahead_ms moves.0 moves.1 in
      let x = moves.2 in
      and_right (is_playing p.mode) (eqb (glides c j p).x all) (ne_eqb (glides c j p).x all (λ e. absurd (omega (arith, e, x, ahead, end, whole, inside)))))
      (λ (stands : ((is_playing q.mode ≡ false) ⊎ (q.y ≤ q.x)) × ((glides c j p).x ≡ q.x)).
      ap (λ x. is_playing p.mode && eqb x all) stands.1 ∙ ap (λ b. b && eqb q.x all) mode ∙ still.inside)
      (rests_x j inside)

  rests_asks : (j : ℕ) → suc j < n → q.download ≡ None → q.k < segments_of c.film → (c.setup.buffer_ms < q.y - (glides c j p).x + c.film.seg_ms) ⊎ (q.t + n ≤ available_at c.film c.ahead q.k)
  rests_asks j inside none low =
      let buffer = is.setup.buffer.0 in
      let asks = quiet.untouched.asks none low in
      ⊎_elim
      (λ (full : c.setup.buffer_ms + n ≤ q.y - q.x + c.film.seg_ms).
      ⊎_elim (λ (moves : (is_playing q.mode ≡ true) × (q.x < q.y) × ((glides c j p).x ≡ q.x + suc j)). let x = moves.2 in inl (omega (arith, full, x, inside, buffer)))
      (λ (stands : ((is_playing q.mode ≡ false) ⊎ (q.y ≤ q.x)) × ((glides c j p).x ≡ q.x)). let x = stands.1 in inl (omega (arith, full, x, inside)))
      (rests_x j inside))
      (λ (early : q.t + n ≤ available_at c.film c.ahead q.k). inr early)
      asks

  rests_runs : (j : ℕ) → suc j < n → IfSome p.download (λ d. p.t + j < done_on c.network d.asked (asked_size c d))
  rests_runs j inside =
      let t = next.t in
      subst (λ o. IfSome o (λ d. p.t + j < done_on c.network d.asked (asked_size c d))) (sym next.download) (any_runs c q.t 0 (q.t + n) (p.t + j) q.download (omega (arith, t, inside)) quiet.arrives)

  rests_idle : (j : ℕ) → suc j < n → IfSome (glides c j p).download (DownloadRuns c (p.t + j)) → IsIdle c (glides c j p)
  rests_idle j inside runs =
      let t = next.t in
      record {
        goes = ap is_ended next.mode ∙ goes;
        inside = rests_inside j inside;
        runs = glide_runs c p.t j (q.t + n) (p.t + j) p.download (rests_runs j inside);
        keeps = λ on. subst (λ o. IfSome (option_map (taken_ms c p.t j) o) (λ d. abandonment c.film d.segment d.rung (progress_of c.film (p.t + j) d) ≡ None)) (sym next.download)
            (glide_keeps c q.t j (q.t + n) q.t (p.t + j) p.t q.download (omega (arith, t)) (omega (arith, t, inside)) (quiet.keeps on)
            (subst (λ o. IfSome (option_map (taken_ms c p.t j) o) (DownloadRuns c (p.t + j))) next.download runs));
        seeks = quiet.seeks (p.t + j) (omega (arith, t)) (omega (arith, t, inside));
        asks = λ none low.
            let y = next.y in
            let k = next.k in
            let there = ap (λ i. available_at c.film c.ahead i) k in
            ⊎_elim (λ full. inl (omega (arith, full, y))) (λ early. inr (omega (arith, early, there, t, inside)))
            (rests_asks j inside (any_none c q.t 0 (q.t + n) q.download (sym next.download ∙ glide_none c p.t j (q.t + n) p.download none)) (omega (arith, low, k)));
      }

-- ---- the law

module _ (c : Case) (is : IsCase c) (t n : ℕ) (before : (k : ℕ) → k < t → ends_at c k ≡ false) (goes : ends_at c t ≡ false) (quiet : IsUneventful c (instant c (player_after c t)) n) where
  next_runs : IfSome (pass_ms c (instant c (player_after c t))).download (DownloadRuns c (pass_ms c (instant c (player_after c t))).t)
  next_runs =
      let start = player_sound c is t before in
      (passed_sound c is t (player_after c t) start.1 start.0 goes).running

  -- the instants after the first leave the player as it is
  stays : (j : ℕ) → suc j < n → ((k : ℕ) → k < t + suc j → ends_at c k ≡ false) × (player_after c (t + suc j) ≡ glides c j (pass_ms c (instant c (player_after c t))))
      → instant c (glides c j (pass_ms c (instant c (player_after c t)))) ≡ glides c j (pass_ms c (instant c (player_after c t)))
  stays j low here =
      let q = instant c (player_after c t) in
      let start = player_sound c is t before in
      let both = instant_sound c is t (player_after c t) start.1 start.0 goes in
      let sound = subst (Sound c (t + suc j)) here.1 (player_sound c is (t + suc j) here.0).0 in
      idle_instant c is (glides c j (pass_ms c q)) (t + suc j) sound
      (rests_idle c is (t + 1) q (pass_ms c q) n both.0 goes (instant_still c (player_after c t) goes) quiet (pass_next c q goes) j low sound.running)

  stretch_to : (j : ℕ) → j < n → ((k : ℕ) → k < t + suc j → ends_at c k ≡ false) × (player_after c (t + suc j) ≡ glides c j (pass_ms c (instant c (player_after c t))))
  stretch_to zero low =
      let q = instant c (player_after c t) in
      let one : t + suc 0 ≡ suc t = omega arith in
      let on = below_more (λ k. ends_at c k ≡ false) t before goes in
      let going : (k : ℕ) → k < t + suc 0 → ends_at c k ≡ false = λ k less. on k (omega (arith, less)) in
      let next = ap (player_after c) one ∙ player_next c t goes in
      (going, next ∙ sym (glides_none c is (pass_ms c q) next_runs))
  stretch_to (suc j) low =
      let q = instant c (player_after c t) in
      let start = player_sound c is t before in
      let both = instant_sound c is t (player_after c t) start.1 start.0 goes in
      let next = pass_next c q goes in
      let here = stretch_to j (omega (arith, low)) in
      let same = ap (instant c) here.1 ∙ stays j low here in
      let on : ends_at c (t + suc j) ≡ false = ap (λ (r : Player). is_ended r.mode) same ∙ ap is_ended next.mode ∙ goes in
      let one : t + suc (suc j) ≡ suc (t + suc j) = omega arith in
      let more = below_more (λ k. ends_at c k ≡ false) (t + suc j) here.0 on in (
        (λ k less. more k (omega (arith, less))),
        ap (player_after c) one ∙ player_next c (t + suc j) on ∙ ap (pass_ms c) same
            ∙ glides_next c is (pass_ms c q) j (ap is_ended next.mode ∙ goes) (rests_smooth c is (t + 1) q (pass_ms c q) n both.0 goes (instant_still c (player_after c t) goes) quiet next j low)
            next_runs (rests_runs c is (t + 1) q (pass_ms c q) n both.0 goes (instant_still c (player_after c t) goes) quiet next j low) ∙ ap (λ m. glides c m (pass_ms c q)) (add-one j),
      )

-- after the whole stretch: none of its instants ends the session, and the player is what its milliseconds make of it at once
pub uneventful_stretch : (c : Case) → IsCase c → (t n : ℕ) → ((k : ℕ) → k < t → ends_at c k ≡ false) → ends_at c t ≡ false → IsUneventful c (instant c (player_after c t)) n
    → ((k : ℕ) → k < t + n → ends_at c k ≡ false) × (player_after c (t + n) ≡ glides c (n - 1) (pass_ms c (instant c (player_after c t))))
uneventful_stretch c is t n before goes quiet =
    let some = quiet.untouched.some in
    let last : t + suc (n - 1) ≡ t + n = omega (arith, some) in
    let there = stretch_to c is t n before goes quiet (n - 1) (omega (arith, some)) in
    ((λ k low. there.0 k (omega (arith, low, last))), ap (player_after c) (sym last) ∙ there.1)

-- ---- the same of quiet stretches

-- where the position moves, as many fewer milliseconds are loaded ahead after the first of a stretch
pub next_ahead : (c : Case) → IsCase c → (from : ℕ) (q p : Player) (n : ℕ) → Sound c from q → is_ended q.mode ≡ false → IsStill c q → IsQuiet c q n → IsNext c q p
    → is_playing p.mode ≡ true → p.x < p.y → p.x + (n - 1) ≤ p.y
next_ahead c is from q p n sound goes still quiet next = rests_ahead c is from q p n sound goes still (quiet_uneventful c q n quiet) next

-- the law
pub stretch : (c : Case) → IsCase c → (t n : ℕ) → ((k : ℕ) → k < t → ends_at c k ≡ false) → ends_at c t ≡ false → IsQuiet c (instant c (player_after c t)) n
    → ((k : ℕ) → k < t + n → ends_at c k ≡ false) × (player_after c (t + n) ≡ glides c (n - 1) (pass_ms c (instant c (player_after c t))))
stretch c is t n before goes quiet = uneventful_stretch c is t n before goes (quiet_uneventful c _ n quiet)

-- within the stretch each instant after the first leaves the player as it is
pub stretch_idle : (c : Case) → IsCase c → (t n : ℕ) → ((k : ℕ) → k < t → ends_at c k ≡ false) → ends_at c t ≡ false → IsQuiet c (instant c (player_after c t)) n
    → (i : ℕ) → 1 ≤ i → i < n → instant c (player_after c (t + i)) ≡ player_after c (t + i)
stretch_idle c is t n before goes quiet zero some low = absurd (omega arith)
stretch_idle c is t n before goes quiet (suc j) some low =
    let calm = quiet_uneventful c (instant c (player_after c t)) n quiet in
    let here = stretch_to c is t n before goes calm j (omega arith) in
    ap (instant c) here.1 ∙ stays c is t n before goes calm j low here ∙ sym here.1
