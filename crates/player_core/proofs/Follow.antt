-- The body stands for the model's player, part by part, and what is true of the player serves the body.
use Rattle.std.proofs.Common.{◌≡◌, ◌∙◌, ℕ, zero, suc, ◌+◌, ◌-◌, ◌<◌, ◌≤◌, inl, inr, List, [], length, true, false, Option, Some, None, Result, Ok, Err, sym, ap, subst, ⊎_elim, arith, eqb}
use Rattle.lab_model.specs.Limits.{longest_film}
use Rattle.std.specs.Option.{IfSome, option_map}
use Rattle.std.specs.Result.{IfOk}
use Rattle.std.proofs.lemmas.Bool.{cases_lt, true≢false}
use Rattle.lab_model.specs.declared.trace.Period.{Period}
use Rattle.lab_model.specs.Film.{Film, most_segments}
use Rattle.network_clock.specs.declared.job.Job.{Job}
use Rattle.network_clock.specs.Network.{job_on, pass, start_job}
use Rattle.network_clock.proofs.Laws.{job_next, job_start, left_falls}
use Rattle.abandonment.specs.Progress.{longest_elapsed}
use Rattle.player_core.specs.Limits.{latest_ms, most_wasted}
use Rattle.player_core.specs.declared.body.Body.{Body}
use Rattle.player_core.specs.declared.running.Running.{Running}
use Rattle.player_core.specs.State.{Case, Download, Player}
use Rattle.player_core.specs.Sound.{IsCase, DownloadRuns, Sound, asked_size}
use Rattle.player_core.specs.Seen.{CanGlide, CanIdle, CanRest, CanTake, IsTimed, SameRequest, StandsFor, Step, download_of, seen, CanArrive}
use Rattle.player_core.specs.Available.{available_at}
use Rattle.player_core.specs.Parts.{is_playing}
use Rattle.player_core.specs.Ready.{CanJudge, CanLoad, CanPass, CanRequest}
use Rattle.player_core.proofs.Bounds.{end_most, loaded_most, stalls_most, wasted_small}
use Rattle.player_core.proofs.Runs.{asked_within, bit_ms_is, bit_ms_short, done_soon, runs_begun, runs_on, runs_pace, runs_short}
use Rattle.player_core.proofs.Soundness.{IsOpen}
use Rattle.player_core.proofs.Waits.{IsStill, asks_true}

-- ---- a part of a millisecond

-- a part that does the same to this body
pub step_as : (f g : Player → Player) (old new : Body) → ((h : List ℕ) → f (seen old h) ≡ g (seen old h)) → Step f old new → Step g old new
step_as f g old new same step = record { follows = λ h. subst (λ (r : Player). seen new r.history ≡ r) (same h) (step.follows h); timed = step.timed }

-- one part after another
pub step_then : (f g : Player → Player) (old mid new : Body) → Step f old mid → Step g mid new → Step (λ p. g (f p)) old new
step_then f g old mid new first next = record {
  follows = λ h. subst (λ (r : Player). seen new (g r).history ≡ g r) (first.follows h) (next.follows (f (seen old h)).history);
  timed = λ film network was. next.timed film network (first.timed film network was);
}

-- a download that was asked for as another was knows its instants where that one does
pub same_timed : (f : Film) (network : ℕ → Period) (old new : Running) → SameRequest old new → IsTimed f network (Some old) → IsTimed f network (Some new)
same_timed f network old new same was = (cc, cc)

-- at an instant the body stands for a sound player
pub record Now (c : Case) (n from : ℕ) (p : Player) (b : Body) : Type 0 where
  pub sound : Sound c from p
  pub instant : p.t ≡ n
  pub same : StandsFor p b

-- where the body goes through a part that leaves the player sound and in its instant, it stands for the player after it
pub now_step : (c : Case) (n from to : ℕ) (part : Player → Player) (p : Player) (old new : Body)
    → Now c n from p old → Step part old new → Sound c to (part p) → (part p).t ≡ n → Now c n to (part p) new
now_step c n from to part p old new now step sound instant = record {
  sound = sound;
  instant = instant;
  same = subst (λ (q : Player). seen new (part q).history ≡ part q) now.same (step.follows p.history);
}

-- the history has no part in being sound
pub any_history : (c : Case) (from : ℕ) (b : Body) (g h : List ℕ) → Sound c from (seen b g) → Sound c from (seen b h)
any_history c from b g h s = record {
  position = s.position;
  loaded_end = s.loaded_end;
  next = s.next;
  idle = s.idle;
  more = s.more;
  running = s.running;
  of_next = s.of_next;
  free = s.free;
  forced = s.forced;
  last = s.last;
  loaded = s.loaded;
  room = s.room;
  played = s.played;
  times = s.times;
  begun = s.begun;
  wasted = s.wasted;
  stalls = s.stalls;
}

-- the body itself is sound
pub body_sound : (c : Case) (n from : ℕ) (p : Player) (b : Body) → Now c n from p b → Sound c from (seen b [])
body_sound c n from p b now = any_history c from b p.history [] (subst (Sound c from) (sym now.same) now.sound)

-- the body is at that instant
pub body_instant : (c : Case) (n from : ℕ) (p : Player) (b : Body) → Now c n from p b → b.t ≡ n
body_instant c n from p b now = ap (λ (q : Player). q.t) now.same ∙ now.instant

-- both of two things that hold of a result's value
pub ok_both : {T E : Type 0} (r : Result T E) (P Q : T → Type 0) → IfOk r P → IfOk r Q → IfOk r (λ v. P v × Q v)
ok_both (Ok v) P Q p q = (p, q)
ok_both (Err e) P Q p q = tt

-- ---- what the parts of a millisecond need

judge_is : (c : Case) → IsCase c → (t : ℕ) (d : Download) → DownloadRuns c t d → CanJudge c.film t d
judge_is c is t d runs = record {
  segment = runs.segment;
  rung = runs.rung;
  asked = runs.asked;
  progress = record {
    elapsed = runs_short c is t d runs;
    bit_ms = bit_ms_short c is t d runs;
    pace = (runs_pace c is t d runs).1;
  };
}

load_of : (c : Case) → IsCase c → (p : Player) → p.y ≤ longest_film → (o : Option Running)
    → IfSome (option_map download_of o) (DownloadRuns c p.t) → IfSome (option_map download_of o) (λ d. d.segment ≡ p.k)
    → IfSome o (λ r. r.job.left ≡ 0 → CanLoad c.film p (download_of r))
load_of c is p end None runs next = tt
load_of c is p end (Some r) runs next = λ none.
    let d = download_of r in
    let begun = runs_begun c is p.t d runs none in
    let early = begun.0 in
    let ms = bit_ms_is c is p.t d runs in
    let there = runs.segment in
    let count = is.film.segments.1 in
    record {
      judge = judge_is c is p.t d runs;
      waited = omega (arith, early, ms);
      end = end;
      next = omega (arith, next, there, count);
    }

-- the download of a sound body can be loaded where it has arrived
pub load_ready : (c : Case) → IsCase c → (from : ℕ) (b : Body) → Sound c from (seen b [])
    → CanArrive c.film b
load_ready c is from b s = load_of c is (seen b []) (end_most c is from (seen b []) s) b.download s.running s.of_next

judge_of : (c : Case) → IsCase c → (t : ℕ) (o : Option Running) → IfSome (option_map download_of o) (DownloadRuns c t)
    → IfSome o (λ r. CanJudge c.film t (download_of r))
judge_of c is t None runs = tt
judge_of c is t (Some r) runs = judge_is c is t (download_of r) runs

-- its running download can be judged for abandonment
pub judge_ready : (c : Case) → IsCase c → (from : ℕ) (b : Body) → Sound c from (seen b []) → IfSome b.download (λ r. CanJudge c.film b.t (download_of r))
judge_ready c is from b s = judge_of c is b.t b.download s.running

-- it has wasted at most 10 ^ 15 bits
pub wasted_ready : (c : Case) → IsCase c → (from : ℕ) (b : Body) → Sound c from (seen b []) → b.wasted ≤ most_wasted
wasted_ready c is from b s = let small = wasted_small c is from (seen b []) s in omega (arith, small)

-- it has at most 2000 segments loaded
pub room_ready : (c : Case) → IsCase c → (from : ℕ) (b : Body) → Sound c from (seen b []) → length b.loaded.items ≤ most_segments
room_ready c is from b s = loaded_most c is from (seen b []) s

-- a body that stands for a sound player can make a request, where there is cause for one
pub request_ready : (c : Case) → IsCase c → (n from : ℕ) (p : Player) (b : Body) → n < latest_ms → Now c n from p b → CanRequest c (seen b [])
request_ready c is n from p b low now =
    let s = body_sound c n from p b now in
    let here = body_instant c n from p b now in
    record {
      kind_fits = is.rule;
      position = s.position;
      end = end_most c is from (seen b []) s;
      instant = omega (arith, here, low);
      last = s.last;
      forced = s.forced;
    }

-- a millisecond can pass for it
pub pass_ready : (c : Case) → IsCase c → (n from : ℕ) (p : Player) (b : Body) → n < latest_ms → Now c n from p b → CanPass (seen b [])
pass_ready c is n from p b low now =
    let s = body_sound c n from p b now in
    let here = body_instant c n from p b now in
    record {
      position = s.position;
      end = end_most c is from (seen b []) s;
      instant = omega (arith, here, low);
      times = s.times;
      stalls = let few = stalls_most c is from (seen b []) s in omega (arith, few);
    }

-- ---- a network millisecond of the download

credit_falls : (net : ℕ → Period) (from n : ℕ) (j : Job) → (job_on net from n j).credit ≤ j.credit
credit_falls net from zero j = let e = ap (λ (x : Job). x.credit) (job_start net from j) in omega (arith, e)
credit_falls net from (suc n) j =
    let e = ap (λ (x : Job). x.credit) (job_next net from n j) in
    let before = credit_falls net from n j in
    let fell = pass_falls (net (from + n)) (job_on net from n j) in
    omega (arith, e, before, fell)
  where
    pass_falls : (p : Period) (k : Job) → (pass p k).credit ≤ k.credit
    pass_falls p k = grind arith

take_of : (c : Case) → IsCase c → (t : ℕ) (o : Option Running) → IfSome (option_map download_of o) (DownloadRuns c t) → IfSome o CanTake
take_of c is t None runs = tt
take_of c is t (Some r) runs =
    let d = download_of r in
    let size = (asked_within c is t d runs).1 in
    let job = runs.job in
    let credit = credit_falls c.network d.asked (t - d.asked) (start_job (asked_size c d)) in
    let left = left_falls c.network d.asked (t - d.asked) (start_job (asked_size c d)) in
    let credit_is = ap (λ (j : Job). j.credit) job in
    let left_is = ap (λ (j : Job). j.left) job in
    record {
      credit = omega (arith, credit, credit_is);
      left = omega (arith, left, left_is, size);
    }

-- its running download can take its network milliseconds
pub take_ready : (c : Case) → IsCase c → (n from : ℕ) (p : Player) (b : Body) → Now c n from p b → IfSome b.download CanTake
take_ready c is n from p b now = take_of c is b.t b.download (body_sound c n from p b now).running

-- ---- a stretch in which nothing happens

rest_of : (c : Case) → IsCase c → (t : ℕ) (o : Option Running) → IfSome (option_map download_of o) (DownloadRuns c t) → IfSome (option_map download_of o) (λ d. eqb d.job.left 0 ≡ false)
    → IsTimed c.film c.network o → IfSome o (λ r. (t < r.done) × (r.done ≤ r.asked + longest_elapsed))
rest_of c is t None runs some timed = tt
rest_of c is t (Some r) runs some timed =
    let d = download_of r in
    let done = timed.1 in
    let early = runs_on c is t d runs some in
    let soon = done_soon c is t d runs in
    (omega (arith, done, early), omega (arith, done, soon, is.short))

-- where it has no cause to ask, the milliseconds can be counted in which it asks for nothing and nothing begins
pub idle_ready : (c : Case) → IsCase c → (n from : ℕ) (p : Player) (b : Body) → Now c n from p b → IsStill c p → CanIdle c.film c.setup c.ahead b
idle_ready c is n from p b now still =
    let s = body_sound c n from p b now in
    let waits = (subst (IsStill c) (sym now.same) still).waits in
    record {
      position = s.position;
      end = end_most c is from (seen b []) s;
      waits = λ none next.
          ⊎_elim (λ full. inl full)
          (λ fits. ⊎_elim (λ early. inr early)
          (λ there. absurd (true≢false (sym (asks_true c (seen b p.history) (ap (option_map download_of) none) next fits there) ∙ waits (ap (option_map download_of) none)))) (cases_lt b.t (available_at c.film c.ahead b.k)))
          (cases_lt c.setup.buffer_ms (b.y - b.x + c.film.seg_ms));
    }

-- and where nothing has arrived, those in which nothing happens to it
pub rest_ready : (c : Case) → IsCase c → (n from : ℕ) (p : Player) (b : Body) → n < latest_ms → Now c n from p b → IsTimed c.film c.network b.download → IsOpen p → IsStill c p
    → CanRest c.film c.setup c.ahead b
rest_ready c is n from p b low now timed some still =
    let s = body_sound c n from p b now in
    let here = body_instant c n from p b now in
    record {
      idles = idle_ready c is n from p b now still;
      instant = omega (arith, here, low);
      runs = rest_of c is b.t b.download s.running (subst IsOpen (sym now.same) some) timed;
      judge = judge_ready c is from b s;
    }

-- so many milliseconds can pass at once for it that do not take play past the end of what is loaded
pub glide_ready : (c : Case) → IsCase c → (n from ms : ℕ) (p : Player) (b : Body) → n ≤ latest_ms → ms ≤ latest_ms → Now c n from p b → (is_playing p.mode ≡ true → p.x < p.y → p.x + ms ≤ p.y) → CanGlide b ms
glide_ready c is n from ms p b low few now ahead =
    let s = body_sound c n from p b now in
    let here = body_instant c n from p b now in
    record {
      moves = record {
        end = end_most c is from (seen b []) s;
        instant = omega (arith, here, low, few);
        times = s.times;
        moves = subst (λ (q : Player). is_playing q.mode ≡ true → q.x < q.y → q.x + ms ≤ q.y) (sym now.same) ahead;
      };
      jobs = take_ready c is n from p b now;
    }
