-- What is sound stays sound, part by part.
use Rattle.std.proofs.Common.{◌≡◌, ℕ, ◌+◌, ◌-◌, ◌*◌, ◌%◌, ◌<◌, ◌≤◌, Bool, true, false, not, ◌&&◌, cond, eqb, ltb, leb, List, [], ◌∷◌, ◌++◌, length, Option, Some, None, IfSome, is_some, unwrap_or, option_map, refl, sym, ◌∙◌, ap, subst, length-append, mul-le-mul_right, arith}
use Rattle.std.specs.List.{All, sum_by}
use Rattle.std.specs.Option.{option_map_or}
use Rattle.std.proofs.lemmas.Bool.{and_parts, cond_both, false≢true, true≢false, ltb-true, ltb-false, leb-true, eqb-true, not-true}
use Rattle.std.proofs.lemmas.Option.{cond_some}
use Rattle.std.proofs.lemmas.Nat.{row_fits}
use Rattle.std.proofs.lemmas.List.Elements.{All-nil, All-head, All-tail, All-push}
use Rattle.std.proofs.lemmas.List.Sums.{sum_by-cons}
use Rattle.lab_model.specs.declared.context.Seek.{Seek}
use Rattle.lab_model.specs.declared.context.Played.{Played}
use Rattle.lab_model.specs.Film.{Film, IsFilm, rungs_of, segments_of, size_of}
use Rattle.lab_model.specs.Choice.{choice}
use Rattle.lab_model.proofs.Choices.{choice_fits}
use Rattle.abandonment.specs.Progress.{Received}
use Rattle.abandonment.specs.Test.{abandonment, is_better, is_due, is_late, target_of, left_of}
use Rattle.player_core.specs.declared.session.Event.{Event}
use Rattle.player_core.specs.declared.session.Event.TheVariants as event
use Rattle.player_core.specs.Available.{available_at}
use Rattle.player_core.specs.State.{Case, Download, Mode, Player, starting, playing, seeking, ended}
-- by this name the crates above cite it
pub use Rattle.player_core.specs.Parts.{takes_any as taken}
use Rattle.player_core.specs.Parts.{abandon, arrival, arrives, asks, begins, can_ask, context_of, finish, gives_up, gives_up_any, got_of, is_ended, is_playing, loads, pass_ms, passes_in, plays, progress_of, request, rung_for, seek, seek_at, seeks_to, stalls_on, takes, wasted_by, takes_any}
use Rattle.player_core.specs.Sound.{IsCase, IsOf, DownloadRuns, Sound, begun_before, is_waiting, seeks_left, spare_stall, turns_here, turns_left}
use Rattle.player_core.proofs.Counts.{begun_grows, begun_most, begun_one, begun_waits, playing_still, playing_waits, seek_fits, seeks_fewer, seeks_one, spare_at_end, spare_calm, spare_inside, spare_most, spare_waiting, turns_next, turns_now}
use Rattle.player_core.proofs.Runs.{runs_next, runs_pace, runs_start, asked_within, size_within, starts_full}

-- ---- 1. Arrival

module _ (c : Case) (from : ℕ) where
  -- a segment that is loaded takes all turns that its download could bring
  pub loads_turns : (p : Player) (d : Download) → p.k < segments_of c.film → p.download ≡ Some d → p.forced ≡ None → turns_left c from (loads c p d) + 2 * d.rung + 1 ≤ turns_left c from p
  loads_turns p d low some none =
      let n = segments_of c.film in
      let before = ap (λ o. cond (ltb p.k n) (32 * (n - p.k - 1) + turns_here o p.forced) 0) some ∙ turns_now n p.k (2 * d.rung + 1) low in
      let after = turns_next n p.k (turns_here None p.forced) (let all = ap (λ o. turns_here None o) none in omega (arith, all)) in
      omega (arith, before, after)

  loads_sound : (p : Player) (d : Download) → Sound c from p → p.download ≡ Some d → Sound c from (loads c p d)
  loads_sound p d h some =
      let runs : DownloadRuns c p.t d = subst (λ o. IfSome o (DownloadRuns c p.t)) some h.running in
      let next : d.segment ≡ p.k = subst (λ o. IfSome o (λ e. e.segment ≡ p.k)) some h.of_next in
      let none = h.free (ap is_some some) in
      let segment = runs.segment in
      let low : p.k < segments_of c.film = omega (arith, segment, next) in
      let fewer = loads_turns p d low some none in
      let position = h.position in
      let room = h.room in
      let begun = h.begun in
      let wasted = h.wasted in
      let stalls = h.stalls in
      let spare = spare_most (loads c p d) in
      let is_of : IsOf c.film (record { segment = d.segment; rung = d.rung }) = record { of_segments = segment; of_rungs = runs.rung } in
      record {
        position = omega (arith, position);
        loaded_end = let end = h.loaded_end in omega (arith, end);
        next = omega (arith, low);
        idle = λ waits. absurd (begun_waits p.mode waits);
        more = λ waits. absurd (begun_waits p.mode waits);
        running = tt;
        of_next = tt;
        free = λ some. absurd (false≢true some);
        forced = h.forced;
        last = runs.rung;
        loaded = All-push (IsOf c.film) p.loaded (record { segment = d.segment; rung = d.rung }) h.loaded is_of;
        room = let more = length-append p.loaded ((record { segment = d.segment; rung = d.rung }) ∷ []) in omega (arith, room, more);
        played = h.played;
        times = h.times;
        begun = begun;
        wasted = omega (arith, wasted, fewer);
        stalls = omega (arith, stalls, fewer, spare);
      }

  arrives_sound : (p : Player) (o : Option Download) → Sound c from p → p.download ≡ o → Sound c from (arrives c p o)
  arrives_sound p None h e = h
  arrives_sound p (Some d) h e = cond_both (eqb d.job.left 0) (loads c p d) p (Sound c from) (λ z. loads_sound p d h e) (λ z. h)

  -- a sound player is sound after the arrival
  pub arrival_sound : (p : Player) → Sound c from p → Sound c from (arrival c p)
  arrival_sound p h = arrives_sound p p.download h refl

  -- ---- 2. End

  ends_sound : (p : Player) → Sound c from p → is_playing p.mode ≡ true → Sound c from (record p { mode = ended; events = p.events ++ event.End p.t ∷ [] })
  ends_sound p h on =
      let calm = playing_waits p.mode on in
      let spare : spare_stall (record p { mode = ended; events = p.events ++ event.End p.t ∷ [] }) ≡ spare_stall p = ap (λ w. cond {A = ℕ} ((p.stalling && eqb p.x p.y) && not w) 0 1) (sym calm) in
      let stalls = h.stalls in
      record {
        position = h.position;
        loaded_end = h.loaded_end;
        next = h.next;
        idle = λ waits. absurd (false≢true waits);
        more = λ waits. absurd (false≢true waits);
        running = h.running;
        of_next = h.of_next;
        free = h.free;
        forced = h.forced;
        last = h.last;
        loaded = h.loaded;
        room = h.room;
        played = h.played;
        times = h.times;
        begun = h.begun;
        wasted = h.wasted;
        stalls = omega (arith, stalls, spare);
      }

  -- and after the end
  pub finish_sound : (p : Player) → Sound c from p → Sound c from (finish c p)
  finish_sound p h =
      cond_both (is_playing p.mode && eqb p.x (segments_of c.film * c.film.seg_ms)) (record p { mode = ended; events = p.events ++ event.End p.t ∷ [] }) p (Sound c from)
      (λ e. ends_sound p h (and_parts (is_playing p.mode) (eqb p.x (segments_of c.film * c.film.seg_ms)) e).0) (λ e. h)

  -- ---- 3. Abandonment

  -- a download is given up for a lower rung
  pub abandonment_lower : (f : Film) (segment rung : ℕ) (p : Received) (q : ℕ) → abandonment f segment rung p ≡ Some q → q < rung
  abandonment_lower f segment rung p q e =
      let parts = cond_some ((is_due p && is_late f segment rung p) && is_better f segment rung p) (target_of f p) q e in
      let better = and_parts (is_due p && is_late f segment rung p) (is_better f segment rung p) parts.0 in
      let lower = and_parts (ltb (target_of f p) rung) (ltb (size_of f segment (target_of f p)) (left_of f segment rung p)) better.1 in
      let low = ltb-true (target_of f p) rung lower.0 in
      let same = parts.1 in
      omega (arith, low, same)

  -- a download that is given up for a lower rung takes a turn
  pub gives_turns : (p : Player) (d : Download) (q : ℕ) → p.k < segments_of c.film → p.download ≡ Some d → q < d.rung → turns_left c from (gives_up c p d (Some q)) + 1 ≤ turns_left c from p
  gives_turns p d q low some lower =
      let n = segments_of c.film in
      let before = ap (λ o. cond (ltb p.k n) (32 * (n - p.k - 1) + turns_here o p.forced) 0) some ∙ turns_now n p.k (2 * d.rung + 1) low in
      let after = turns_now n p.k (2 * q + 2) low in
      omega (arith, before, after, lower)

module _ (c : Case) (is : IsCase c) (from : ℕ) where
  gives_sound : (p : Player) (d : Download) (o : Option ℕ) → Sound c from p → p.download ≡ Some d → ((q : ℕ) → o ≡ Some q → q < d.rung) → Sound c from (gives_up c p d o)
  gives_sound p d None h some lower = h
  gives_sound p d (Some q) h some lower =
      let runs : DownloadRuns c p.t d = subst (λ o. IfSome o (DownloadRuns c p.t)) some h.running in
      let next : d.segment ≡ p.k = subst (λ o. IfSome o (λ e. e.segment ≡ p.k)) some h.of_next in
      let segment = runs.segment in
      let rung = runs.rung in
      let low : p.k < segments_of c.film = omega (arith, segment, next) in
      let less = lower q refl in
      let fewer = gives_turns c from p d q low some less in
      let size = (asked_within c is p.t d runs).1 in
      let got = (runs_pace c is p.t d runs).0 in
      let wasted = h.wasted in
      let stalls = h.stalls in
      let spare : spare_stall (gives_up c p d (Some q)) ≡ spare_stall p = refl in
      record {
        position = h.position;
        loaded_end = h.loaded_end;
        next = h.next;
        idle = h.idle;
        more = h.more;
        running = tt;
        of_next = tt;
        free = λ some. absurd (false≢true some);
        forced = omega (arith, less, rung);
        last = h.last;
        loaded = h.loaded;
        room = h.room;
        played = h.played;
        times = h.times;
        begun = h.begun;
        wasted = omega (arith, wasted, fewer, got, size);
        stalls = omega (arith, stalls, fewer, spare);
      }

  gives_any_sound : (p : Player) (o : Option Download) → Sound c from p → p.download ≡ o → Sound c from (gives_up_any c p o)
  gives_any_sound p None h e = h
  gives_any_sound p (Some d) h e = gives_sound p d (abandonment c.film d.segment d.rung (progress_of c.film p.t d)) h e (λ q some. abandonment_lower c from c.film d.segment d.rung (progress_of c.film p.t d) q some)

  -- a sound player is sound after the abandonment
  pub abandon_sound : (p : Player) → Sound c from p → Sound c from (abandon c p)
  abandon_sound p h = cond_both c.setup.abandon (gives_up_any c p p.download) p (Sound c from) (λ e. gives_any_sound p p.download h refl) (λ e. h)

-- ---- 4. Seek

sizes_most : (f : Film) → IsFilm f → (qs : List Played) → All (IsOf f) qs → sum_by (λ q. size_of f q.segment q.rung) qs ≤ 200000000 * length qs
sizes_most f is [] all = omega arith
sizes_most f is (q ∷ qs) all =
    let first = All-head (IsOf f) q qs all in
    let size = (size_within f q.segment q.rung is first.of_segments first.of_rungs).1 in
    let more = sum_by-cons (λ (r : Played). size_of f r.segment r.rung) q qs in
    let rest = sizes_most f is qs (All-tail (IsOf f) q qs all) in
    omega (arith, size, more, rest)

module _ (c : Case) (is : IsCase c) where
  got_most : (p : Player) (o : Option Download) (from : ℕ) → Sound c from p → p.download ≡ o → option_map_or (λ d. got_of c.film d) o 0 ≤ 200000000
  got_most p None from h e = omega arith
  got_most p (Some d) from h e =
      let runs : DownloadRuns c p.t d = subst (λ o. IfSome o (DownloadRuns c p.t)) e h.running in
      let size = (asked_within c is p.t d runs).1 in
      let got = (runs_pace c is p.t d runs).0 in
      omega (arith, size, got)

  -- a seek wastes at most 200000000 bits for each segment of the film, and as many once more
  pub wasted_most : (from : ℕ) (p : Player) → Sound c from p → wasted_by c.film p ≤ 200000000 * (1 + segments_of c.film)
  wasted_most from p h =
      let got = got_most p p.download from h refl in
      let sizes = sizes_most c.film is.film p.loaded h.loaded in
      let room = h.room in
      let next = h.next in
      omega (arith, got, sizes, room, next)

  -- no seek at this instant
  later_sound : (p : Player) (t : ℕ) → Sound c t p → Sound c (t + 1) p
  later_sound p t h =
      let n = segments_of c.film in
      let fewer = seeks_fewer c.seeks t in
      let most = mul-le-mul_right (34 * n + 2) fewer in
      let less = mul-le-mul_right n fewer in
      let begun = h.begun in
      let wasted = h.wasted in
      let stalls = h.stalls in
      record {
        position = h.position;
        loaded_end = h.loaded_end;
        next = h.next;
        idle = h.idle;
        more = h.more;
        running = h.running;
        of_next = h.of_next;
        free = h.free;
        forced = h.forced;
        last = h.last;
        loaded = h.loaded;
        room = h.room;
        played = h.played;
        times = h.times;
        begun = omega (arith, begun, less);
        wasted = omega (arith, wasted, most);
        stalls = omega (arith, stalls, most);
      }

  -- the turns that a seek takes off: its own, and so many as bound what it wastes
  pub seeks_turns : (p : Player) (s : Seek) (t : ℕ) → s.to < segments_of c.film → seeks_left c.seeks (t + 1) + 1 ≤ seeks_left c.seeks t → turns_left c (t + 1) (seeks_to c p (Some s)) + 2 + segments_of c.film ≤ turns_left c t p
  seeks_turns p s t low less =
      let n = segments_of c.film in
      let after = turns_now n s.to 32 low in
      let most = row_fits (seeks_left c.seeks (t + 1)) (34 * n + 2) (seeks_left c.seeks t) (34 * n + 2) (omega (arith, less)) (omega arith) in
      omega (arith, after, most, low)

  seeks_sound : (p : Player) (o : Option Seek) → Sound c p.t p → seek_at c.seeks p.t ≡ o → Sound c (p.t + 1) (seeks_to c p o)
  seeks_sound p None h e = later_sound p p.t h
  seeks_sound p (Some s) h e =
      let n = segments_of c.film in
      let low : s.to < n = subst (λ o. IfSome o (λ q. q.to < n)) e (seek_fits (λ q. q.to < n) c.seeks p.t is.seeks.targets) in
      let less : seeks_left c.seeks (p.t + 1) + 1 ≤ seeks_left c.seeks p.t = subst (λ o. IfSome o (λ q. seeks_left c.seeks (p.t + 1) + 1 ≤ seeks_left c.seeks p.t)) e (seeks_one c.seeks p.t) in
      let fewer = seeks_turns p s p.t low less in
      let position = h.position in
      let loaded_end = h.loaded_end in
      let next = mul-le-mul_right c.film.seg_ms h.next in
      let some = is.film.seg_ms.0 in
      let before = begun_most c.film p.x n some (omega (arith, position, loaded_end, next)) in
      let rows = row_fits (seeks_left c.seeks (p.t + 1)) n (seeks_left c.seeks p.t) n (omega (arith, less)) (omega arith) in
      let begun = h.begun in
      let wasted = h.wasted in
      let stalls = h.stalls in
      let waste = wasted_most p.t p h in
      let spare = spare_most (seeks_to c p (Some s)) in
      record {
        position = omega arith;
        loaded_end = refl;
        next = omega (arith, low);
        idle = λ waits. refl;
        more = λ waits. low;
        running = tt;
        of_next = tt;
        free = λ some. absurd (false≢true some);
        forced = tt;
        last = h.last;
        loaded = All-nil (IsOf c.film);
        room = omega arith;
        played = h.played;
        times = h.times;
        begun = omega (arith, begun, before, rows);
        wasted = omega (arith, wasted, fewer, waste);
        stalls = omega (arith, stalls, fewer, spare);
      }

  -- after a seek it is sound, with the seeks from the next instant on to come
  pub seek_sound : (p : Player) → Sound c p.t p → Sound c (p.t + 1) (seek c p)
  seek_sound p h = seeks_sound p (seek_at c.seeks p.t) h refl

-- ---- 5. Request

-- where no download is there, it is the empty option
pub none_is : (o : Option Download) → is_some o ≡ false → o ≡ None
none_is None e = refl
none_is (Some d) e = absurd (true≢false e)

forced_fits : (o : Option ℕ) (rung n : ℕ) → IfSome o (λ q. q < n) → rung < n → unwrap_or o rung < n
forced_fits None rung n h low = low
forced_fits (Some q) rung n h low = h

forced_turns : (o : Option ℕ) (rung : ℕ) → rung ≤ 15 → 2 * unwrap_or o rung + 2 ≤ turns_here None o
forced_turns None rung low = omega (arith, low)
forced_turns (Some q) rung low = omega arith

-- what asking wants
pub record Asks (c : Case) (p : Player) : Type 0 where
  pub free : p.download ≡ None
  pub next : p.k < segments_of c.film
  pub fits : p.y - p.x + c.film.seg_ms ≤ c.setup.buffer_ms
  pub there : available_at c.film c.ahead p.k ≤ p.t

-- where it can ask, it has what asking wants
pub can_ask_true : (c : Case) (p : Player) → can_ask c p ≡ true → Asks c p
can_ask_true c p e =
    let fits = leb (p.y - p.x + c.film.seg_ms) c.setup.buffer_ms in
    let there = leb (available_at c.film c.ahead p.k) p.t in
    let three = and_parts ((not (is_some p.download) && ltb p.k (segments_of c.film)) && fits) there e in
    let two = and_parts (not (is_some p.download) && ltb p.k (segments_of c.film)) fits three.0 in
    let one = and_parts (not (is_some p.download)) (ltb p.k (segments_of c.film)) two.0 in
    record {
      free = none_is p.download (not-true (is_some p.download) one.0);
      next = ltb-true p.k (segments_of c.film) one.1;
      fits = leb-true (p.y - p.x + c.film.seg_ms) c.setup.buffer_ms two.1;
      there = leb-true (available_at c.film c.ahead p.k) p.t three.1;
    }

module _ (c : Case) (is : IsCase c) (from : ℕ) where
  -- the rung that is chosen for the next segment is one of the film
  pub rung_fits : (p : Player) → Sound c from p → p.k < segments_of c.film → rung_for c p < rungs_of c.film
  rung_fits p h low = forced_fits p.forced (choice c.rule c.film c.setup (context_of p) p.history) (rungs_of c.film) h.forced (choice_fits c.rule c.film c.setup (context_of p) p.history is.film is.rule low)

  -- asking takes a turn
  pub asks_turns : (p : Player) → Sound c from p → Asks c p → turns_left c from (asks c p (rung_for c p)) + 1 ≤ turns_left c from p
  asks_turns p h can =
      let n = segments_of c.film in
      let chosen = choice c.rule c.film c.setup (context_of p) p.history in
      let few = choice_fits c.rule c.film c.setup (context_of p) p.history is.film is.rule can.next in
      let most = is.film.rungs.1 in
      let before = ap (λ o. cond (ltb p.k n) (32 * (n - p.k - 1) + turns_here o p.forced) 0) can.free ∙ turns_now n p.k (turns_here None p.forced) can.next in
      let after = turns_now n p.k (2 * rung_for c p + 1) can.next in
      let here = forced_turns p.forced chosen (omega (arith, few, most)) in
      omega (arith, before, after, here)

  asks_sound : (p : Player) → Sound c from p → Asks c p → Sound c from (asks c p (rung_for c p))
  asks_sound p h can =
      let low = can.next in
      let fits = rung_fits p h low in
      let fewer = asks_turns p h can in
      let wasted = h.wasted in
      let stalls = h.stalls in
      let spare : spare_stall (asks c p (rung_for c p)) ≡ spare_stall p = refl in
      record {
        position = h.position;
        loaded_end = h.loaded_end;
        next = h.next;
        idle = h.idle;
        more = h.more;
        running = runs_start c is p.t p.k (rung_for c p) low fits;
        of_next = refl;
        free = λ some. refl;
        forced = tt;
        last = h.last;
        loaded = h.loaded;
        room = h.room;
        played = h.played;
        times = h.times;
        begun = h.begun;
        wasted = omega (arith, wasted, fewer);
        stalls = omega (arith, stalls, fewer, spare);
      }

  -- a sound player is sound after the request
  pub request_sound : (p : Player) → Sound c from p → Sound c from (request c p)
  request_sound p h = cond_both (can_ask c p) (asks c p (rung_for c p)) p (Sound c from) (λ e. asks_sound p h (can_ask_true c p e)) (λ e. h)

-- ---- after the arrival something is left of a running download

-- something is left of the download, if one runs
abbrev pub IsOpen : Player → Type 0
IsOpen p = IfSome p.download (λ d. eqb d.job.left 0 ≡ false)

module _ (c : Case) where
  arrives_open : (p : Player) (o : Option Download) → p.download ≡ o → IsOpen (arrives c p o)
  arrives_open p None e = subst (λ o. IfSome o (λ d. eqb d.job.left 0 ≡ false)) (sym e) tt
  arrives_open p (Some d) e = cond_both (eqb d.job.left 0) (loads c p d) p IsOpen (λ z. tt) (λ z. subst (λ o. IfSome o (λ d. eqb d.job.left 0 ≡ false)) (sym e) z)

  -- after the arrival something is left of a running download
  pub arrival_open : (p : Player) → IsOpen (arrival c p)
  arrival_open p = arrives_open p p.download refl

  -- that stays so after the end
  pub finish_open : (p : Player) → IsOpen p → IsOpen (finish c p)
  finish_open p h = cond_both (is_playing p.mode && eqb p.x (segments_of c.film * c.film.seg_ms)) (record p { mode = ended; events = p.events ++ event.End p.t ∷ [] }) p IsOpen (λ e. h) (λ e. h)

  gives_open : (p : Player) (d : Download) (o : Option ℕ) → IsOpen p → IsOpen (gives_up c p d o)
  gives_open p d None h = h
  gives_open p d (Some q) h = tt

  gives_any_open : (p : Player) (o : Option Download) → IsOpen p → IsOpen (gives_up_any c p o)
  gives_any_open p None h = h
  gives_any_open p (Some d) h = gives_open p d (abandonment c.film d.segment d.rung (progress_of c.film p.t d)) h

  -- and after the abandonment
  pub abandon_open : (p : Player) → IsOpen p → IsOpen (abandon c p)
  abandon_open p h = cond_both c.setup.abandon (gives_up_any c p p.download) p IsOpen (λ e. gives_any_open p p.download h) (λ e. h)

  seeks_open : (p : Player) (o : Option Seek) → IsOpen p → IsOpen (seeks_to c p o)
  seeks_open p None h = h
  seeks_open p (Some s) h = tt

  -- and after the seek
  pub seek_open : (p : Player) → IsOpen p → IsOpen (seek c p)
  seek_open p h = seeks_open p (seek_at c.seeks p.t) h

module _ (c : Case) (is : IsCase c) (from : ℕ) where
  -- and after the request
  pub request_open : (p : Player) → Sound c from p → IsOpen p → IsOpen (request c p)
  request_open p h some =
      cond_both (can_ask c p) (asks c p (rung_for c p)) p IsOpen
      (λ e. let can = can_ask_true c p e in starts_full c is p.k (rung_for c p) can.next (rung_fits c is from p h can.next)) (λ e. some)

-- ---- the millisecond passes

-- the player a millisecond later, with what the mode changes
abbrev pub later : Case → Player → ℕ → ℕ → ℕ → ℕ → ℕ → Bool → List Played → List Played → List Event → Player
later c p x startup_ms stall_ms seek_ms stalls stalling loaded played events =
    record p { t = p.t + 1; x = x; download = option_map (takes c p.t) p.download; startup_ms = startup_ms; stall_ms = stall_ms; seek_ms = seek_ms; stalls = stalls; stalling = stalling; loaded = loaded; played = played; events = events }

-- a network millisecond takes no turns of a download
pub taken_turns : (c : Case) (t : ℕ) (o : Option Download) (forced : Option ℕ) → turns_here (option_map (takes c t) o) forced ≡ turns_here o forced
taken_turns c t None forced = refl
taken_turns c t (Some d) forced = refl

taken_some : (c : Case) (t : ℕ) (o : Option Download) → is_some (option_map (takes c t) o) ≡ is_some o
taken_some c t None = refl
taken_some c t (Some d) = refl

taken_of : (c : Case) (t k : ℕ) (o : Option Download) → IfSome o (λ d. d.segment ≡ k) → IfSome (option_map (takes c t) o) (λ d. d.segment ≡ k)
taken_of c t k None h = tt
taken_of c t k (Some d) h = h

taken_runs : (c : Case) → IsCase c → (t : ℕ) (o : Option Download) → IfSome o (DownloadRuns c t) → IfSome o (λ d. eqb d.job.left 0 ≡ false) → IfSome (option_map (takes c t) o) (DownloadRuns c (t + 1))
taken_runs c is t None h some = tt
taken_runs c is t (Some d) h some = runs_next c is t d h some

-- what a mode's millisecond must keep
record Keeps (c : Case) (from : ℕ) (p q : Player) : Type 0 where
  position : q.x ≤ p.y
  idle : is_waiting p.mode ≡ true → q.x ≡ p.y
  loaded : All (IsOf c.film) q.loaded
  room : length q.loaded ≤ p.k
  played : All (IsOf c.film) q.played
  times : q.startup_ms + q.stall_ms + q.seek_ms ≤ p.t + 1
  begun : length q.played + seeks_left c.seeks from * segments_of c.film ≤ 16 * segments_of c.film + begun_before c.film q.x
  stalls : q.stalls + spare_stall q ≤ p.stalls + spare_stall p

module _ (c : Case) (is : IsCase c) (from : ℕ) (p : Player) (h : Sound c from p) (some : IsOpen p) where
  later_turns : (x startup_ms stall_ms seek_ms stalls : ℕ) (stalling : Bool) (loaded played : List Played) (events : List Event)
      → turns_left c from (later c p x startup_ms stall_ms seek_ms stalls stalling loaded played events) ≡ turns_left c from p
  later_turns x startup_ms stall_ms seek_ms stalls stalling loaded played events =
      ap (λ t. seeks_left c.seeks from * (34 * segments_of c.film + 2) + cond (ltb p.k (segments_of c.film)) (32 * (segments_of c.film - p.k - 1) + t) 0) (taken_turns c p.t p.download p.forced)

  later_keeps : (x startup_ms stall_ms seek_ms stalls : ℕ) (stalling : Bool) (loaded played : List Played) (events : List Event)
      → Keeps c from p (later c p x startup_ms stall_ms seek_ms stalls stalling loaded played events)
      → Sound c from (later c p x startup_ms stall_ms seek_ms stalls stalling loaded played events)
  later_keeps x startup_ms stall_ms seek_ms stalls stalling loaded played events k =
      let same = later_turns x startup_ms stall_ms seek_ms stalls stalling loaded played events in
      let wasted = h.wasted in
      let stalled = h.stalls in
      let spare = k.stalls in
      record {
        position = k.position;
        loaded_end = h.loaded_end;
        next = h.next;
        idle = k.idle;
        more = h.more;
        running = taken_runs c is p.t p.download h.running some;
        of_next = taken_of c p.t p.k p.download h.of_next;
        free = λ runs. h.free (sym (taken_some c p.t p.download) ∙ runs);
        forced = h.forced;
        last = h.last;
        loaded = k.loaded;
        room = k.room;
        played = k.played;
        times = k.times;
        begun = k.begun;
        wasted = omega (arith, wasted, same);
        stalls = omega (arith, stalled, same, spare);
      }

  same_keeps : (startup_ms stall_ms seek_ms : ℕ) → is_waiting p.mode ≡ true → startup_ms + stall_ms + seek_ms ≤ p.t + 1
      → Sound c from (later c p p.x startup_ms stall_ms seek_ms p.stalls false p.loaded p.played p.events)
  same_keeps startup_ms stall_ms seek_ms waits times =
      let spare = spare_waiting p waits in
      later_keeps p.x startup_ms stall_ms seek_ms p.stalls false p.loaded p.played p.events
      (record { position = h.position; idle = h.idle; loaded = h.loaded; room = h.room; played = h.played; times = times; begun = h.begun; stalls = omega (arith, spare) })

  -- a millisecond of play, within a segment and at the beginning of one
  within_keeps : p.mode ≡ playing → p.x < p.y → Sound c from (later c p (p.x + 1) p.startup_ms p.stall_ms p.seek_ms p.stalls false p.loaded p.played p.events)
  within_keeps on low =
      let spare = spare_inside p low in
      let times = h.times in
      let begun = h.begun in
      let grows = begun_grows c.film p.x is.film.seg_ms.0 in
      later_keeps (p.x + 1) p.startup_ms p.stall_ms p.seek_ms p.stalls false p.loaded p.played p.events
      (record { position = omega (arith, low); idle = λ waits. absurd (playing_still p.mode on waits); loaded = h.loaded; room = h.room; played = h.played; times = omega (arith, times); begun = omega (arith, begun, grows); stalls = omega (arith, spare) })

  first_keeps : (q : Played) (qs : List Played) → p.loaded ≡ q ∷ qs → p.mode ≡ playing → p.x < p.y → p.x % c.film.seg_ms ≡ 0
      → Sound c from (later c p (p.x + 1) p.startup_ms p.stall_ms p.seek_ms p.stalls false qs (p.played ++ q ∷ []) (p.events ++ event.Play p.t q.segment q.rung ∷ []))
  first_keeps q qs is_first on low start =
      let spare = spare_inside p low in
      let times = h.times in
      let begun = h.begun in
      let room = h.room in
      let all = subst (All (IsOf c.film)) is_first h.loaded in
      let size = ap length is_first in
      let more = length-append p.played (q ∷ []) in
      let grows = begun_one c.film p.x is.film.seg_ms.0 start in
      later_keeps (p.x + 1) p.startup_ms p.stall_ms p.seek_ms p.stalls false qs (p.played ++ q ∷ []) (p.events ++ event.Play p.t q.segment q.rung ∷ [])
      (record {
        position = omega (arith, low);
        idle = λ waits. absurd (playing_still p.mode on waits);
        loaded = All-tail (IsOf c.film) q qs all;
        room = omega (arith, room, size);
        played = All-push (IsOf c.film) p.played q h.played (All-head (IsOf c.film) q qs all);
        times = omega (arith, times);
        begun = omega (arith, begun, grows, more);
        stalls = omega (arith, spare);
      })

  -- a millisecond of stall, of one that goes on and of a new one
  goes_keeps : p.stalling ≡ true → p.mode ≡ playing → Sound c from (later c p p.x p.startup_ms (p.stall_ms + 1) p.seek_ms p.stalls p.stalling p.loaded p.played p.events)
  goes_keeps stalled on =
      let times = h.times in
      later_keeps p.x p.startup_ms (p.stall_ms + 1) p.seek_ms p.stalls p.stalling p.loaded p.played p.events
      (record { position = h.position; idle = h.idle; loaded = h.loaded; room = h.room; played = h.played; times = omega (arith, times); begun = h.begun; stalls = omega arith })

  new_keeps : p.stalling ≡ false → p.mode ≡ playing → p.y ≤ p.x
      → Sound c from (later c p p.x p.startup_ms (p.stall_ms + 1) p.seek_ms (p.stalls + 1) true p.loaded p.played (p.events ++ event.Stall p.t ∷ []))
  new_keeps calm on late =
      let times = h.times in
      let position = h.position in
      let spare = spare_calm p calm in
      let none = spare_at_end p on (omega (arith, late, position)) in
      later_keeps p.x p.startup_ms (p.stall_ms + 1) p.seek_ms (p.stalls + 1) true p.loaded p.played (p.events ++ event.Stall p.t ∷ [])
      (record { position = h.position; idle = h.idle; loaded = h.loaded; room = h.room; played = h.played; times = omega (arith, times); begun = h.begun; stalls = omega (arith, spare, none) })

-- the instant that follows
abbrev pub ticked : Player → Player
ticked r = record r { t = r.t + 1 }

module _ (c : Case) (is : IsCase c) (from : ℕ) (p : Player) (h : Sound c from p) (some : IsOpen p) where
  begins_sound : (qs : List Played) → p.loaded ≡ qs → p.mode ≡ playing → p.x < p.y → p.x % c.film.seg_ms ≡ 0
      → Sound c from (ticked (record (begins (takes_any c p) qs) { x = (begins (takes_any c p) qs).x + 1; stalling = false }))
  begins_sound [] e on low start = within_keeps c is from p h some on low
  begins_sound (q ∷ qs) e on low start = first_keeps c is from p h some q qs e on low start

  plays_sound : p.mode ≡ playing → p.x < p.y → Sound c from (ticked (plays c (takes_any c p)))
  plays_sound on low =
      cond_both (eqb (p.x % c.film.seg_ms) 0) (begins (takes_any c p) p.loaded) (takes_any c p) (λ r. Sound c from (ticked (record r { x = r.x + 1; stalling = false })))
      (λ e. begins_sound p.loaded refl on low (eqb-true (p.x % c.film.seg_ms) 0 e)) (λ e. within_keeps c is from p h some on low)

  stalls_sound : p.mode ≡ playing → p.y ≤ p.x → Sound c from (ticked (stalls_on (takes_any c p)))
  stalls_sound on late =
      cond_both p.stalling (record (takes_any c p) { stall_ms = p.stall_ms + 1 })
      (record (takes_any c p) { stall_ms = p.stall_ms + 1; stalls = p.stalls + 1; stalling = true; events = p.events ++ event.Stall p.t ∷ [] }) (λ r. Sound c from (ticked r))
      (λ e. goes_keeps c is from p h some e on) (λ e. new_keeps c is from p h some e on late)

  passes_sound : (m : Mode) → p.mode ≡ m → is_ended m ≡ false → Sound c from (ticked (passes_in c (takes_any c p) m))
  passes_sound starting e go = let times = h.times in same_keeps c is from p h some (p.startup_ms + 1) p.stall_ms p.seek_ms (ap is_waiting e) (omega (arith, times))
  passes_sound seeking e go = let times = h.times in same_keeps c is from p h some p.startup_ms p.stall_ms (p.seek_ms + 1) (ap is_waiting e) (omega (arith, times))
  passes_sound ended e go = absurd (true≢false go)
  passes_sound playing e go =
      cond_both (ltb p.x p.y) (plays c (takes_any c p)) (stalls_on (takes_any c p)) (λ r. Sound c from (ticked r))
      (λ low. plays_sound e (ltb-true p.x p.y low)) (λ late. stalls_sound e (ltb-false p.x p.y late))

  -- a sound player is sound after a millisecond
  pub pass_sound : is_ended p.mode ≡ false → Sound c from (pass_ms c p)
  pass_sound go = passes_sound p.mode refl go
