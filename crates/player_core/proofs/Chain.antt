-- The parts of a turn, one after the other, with what is true after each.
use Rattle.std.proofs.Common.{◌≡◌, ◌∙◌, ℕ, ◌+◌, ◌-◌, ◌<◌, ◌≤◌, List, [], IfSome, length, true, false, refl, sym, ap, subst, ⊎_elim, add-one, below_more, arith}
use Rattle.lab_model.specs.Limits.{longest_film}
use Rattle.std.proofs.lemmas.Bool.{cases_lt, true≢false}
use Rattle.std.specs.List.{All}
use Rattle.lab_model.specs.declared.trace.Period.{Period}
use Rattle.lab_model.specs.declared.setup.Setup.{Setup}
use Rattle.lab_model.specs.declared.context.Seek.{Seek}
use Rattle.lab_model.specs.Cycle.{IsTrace}
use Rattle.lab_model.specs.Film.{Film, IsFilm, rungs_of, segments_of}
use Rattle.lab_model.specs.Fit.{SetupFits}
use Rattle.lab_model.specs.Rules.{KindFits, RuleKind}
use Rattle.lab_model.specs.Seeks.{SeeksFit}
use Rattle.player_core.specs.Limits.{latest_ms}
use Rattle.player_core.specs.declared.body.Body.{Body}
use Rattle.player_core.specs.declared.session.Session.{Session}
use Rattle.player_core.specs.State.{Case, Player, case_of, first_player}
use Rattle.player_core.specs.Parts.{abandon, gone_on, instant, is_ended, pass_ms, request, seek, seek_at, stopped}
use Rattle.player_core.specs.Session.{Shown, end_of, ends_at, last_player, player_after, session_of, shown, shown_by}
use Rattle.player_core.specs.Sound.{IsCase, DownloadRuns, Sound}
use Rattle.player_core.specs.Scene.{IsTask, Task, task_of}
use Rattle.player_core.specs.Quiet.{IsUneventful, glides}
use Rattle.player_core.specs.Seen.{CanGlide, CanRest, Follows, GoesOn, IsTimed, LeftAt, StandsAt, StandsFor, Step, Waits, mode_of, seen}
use Rattle.player_core.specs.Ready.{CanPass, CanRequest}
use Rattle.network_clock.proofs.Flows.{trace_flows}
use Rattle.player_core.proofs.Counts.{turns_first}
use Rattle.player_core.proofs.Bounds.{last_count, last_rungs, last_times}
use Rattle.player_core.proofs.Ends.{end_early, end_is, last_t, sessions_end}
use Rattle.player_core.proofs.Follow.{Now, any_history, body_instant, body_sound, glide_ready, now_step, pass_ready, rest_ready}
use Rattle.player_core.proofs.Players.{abandon_t, gone_on_sound, gone_on_t, instant_ended, instant_goes, instant_sound, instant_t, pass_t, player_next, player_sound, seeks_t, sought_sound, stopped_sound, stopped_t}
use Rattle.player_core.proofs.Soundness.{IsOpen, abandon_sound, pass_sound}
use Rattle.player_core.proofs.Stretch.{pass_next, rests_ahead, uneventful_stretch}
use Rattle.player_core.proofs.Turned.{none_timed, pass_told, player_first, request_told, seek_told}
use Rattle.player_core.proofs.Waits.{IsStill, instant_still}

-- what the player is called with keeps the limits
pub is_case : (f : Film) (ps : List Period) (set : Setup) (seeks : List Seek) (ahead : ℕ) (kind : RuleKind) → IsFilm f → IsTrace ps → SetupFits set f → SeeksFit seeks (segments_of f) → ahead ≤ longest_film → KindFits kind f
    → IsCase (case_of f ps set seeks ahead kind)
is_case f ps set seeks ahead kind film trace setup script most rule =
    let c = case_of f ps set seeks ahead kind in
    let turns = turns_first c film script in
    let count = film.segments.1 in
    record {
      film = film;
      longest = 300000000;
      network = trace_flows ps trace;
      long = omega arith;
      short = omega arith;
      lasts = omega (arith, turns, count);
      setup = setup;
      seeks = script;
      ahead = most;
      rule = rule;
    }

-- so does a task with a script and a rule that fit its film
pub task_case : (g : Task) (seeks : List Seek) (kind : RuleKind) → IsTask g → SeeksFit seeks (segments_of g.film) → KindFits kind g.film → IsCase (case_of g.film g.periods g.setup seeks g.ahead kind)
task_case g seeks kind is script rule = is_case g.film g.periods g.setup seeks g.ahead kind is.film is.trace is.setup script is.ahead rule

-- and its parts
pub parts_case : (f : Film) (ps : List Period) (set : Setup) (seeks : List Seek) (ahead : ℕ) (kind : RuleKind) (g : Task) → g ≡ task_of f ps set ahead → IsTask g → SeeksFit seeks (segments_of f) → KindFits kind f
    → IsCase (case_of f ps set seeks ahead kind)
parts_case f ps set seeks ahead kind g e is script rule = task_case (task_of f ps set ahead) seeks kind (subst IsTask e is) script rule

-- ---- the parts of an instant that goes on

-- what the parts of an instant need that goes on, and what a part has made of it
module _ (c : Case) (is : IsCase c) (b : Body) (sound : Sound c b.t (seen b [])) (a : Body) (given : Step (abandon c) b a) where
  now_given : (h : List ℕ) → Now c b.t b.t (abandon c (seen b h)) a
  now_given h =
      let top : Now c b.t b.t (seen b h) b = record { sound = any_history c b.t b [] h sound; instant = refl; same = refl } in
      now_step c b.t b.t b.t (abandon c) (seen b h) b a top given (abandon_sound c is b.t (seen b h) top.sound) (abandon_t c (seen b h))

  -- after the abandonment the body stands for a sound player
  pub sound_given : Sound c b.t (seen a [])
  sound_given = body_sound c b.t b.t (abandon c (seen b [])) a (now_given [])

  -- a seek tells the rule nothing
  told_left : (h : List ℕ) (told : List ℕ → Type 0) → told (abandon c (seen b h)).history → told (seek c (abandon c (seen b h))).history
  told_left h told here = subst told (sym (seek_told c (abandon c (seen b h)))) here

  -- what is true of the history after the abandonment is true of it after the seek and the request
  pub goes_on_told : (h : List ℕ) (told : List ℕ → Type 0) → told (abandon c (seen b h)).history → told (gone_on c (seen b h)).history
  goes_on_told h told here = subst told (sym (request_told c (seek c (abandon c (seen b h))))) (told_left h told here)

  module _ (s : Body) (sought : Step (seek c) a s) where
    -- after the seek the body stands for the player after it
    pub now_left : (h : List ℕ) → Now c b.t (b.t + 1) (seek c (abandon c (seen b h))) s
    now_left h =
        let p = abandon c (seen b h) in
        let now = now_given h in
        now_step c b.t b.t (b.t + 1) (seek c) p a s now sought (sought_sound c is b.t p now.instant now.sound) (seeks_t c p (seek_at c.seeks p.t) ∙ now.instant)

    -- a request follows
    pub goes_on_same : (r : Body) (h : List ℕ) (told : List ℕ → Type 0) → ((g : List ℕ) → told g → seen r g ≡ request c (seen s g)) → told (abandon c (seen b h)).history → GoesOn c h b r
    goes_on_same r h told asked here =
        let p = abandon c (seen b h) in
        ap (seen r) (request_told c (seek c p)) ∙ asked (seek c p).history (told_left h told here) ∙ ap (request c) (now_left h).same

-- ---- a turn of the loop

-- a case and the same whose rule is this one
module _ (c : Case) (is : IsCase c) (kind : RuleKind) (ruled : kind ≡ c.rule) where
  -- with this rule the case keeps the limits
  pub ruled_case : IsCase (record c { rule = kind })
  ruled_case = subst (λ r. IsCase (record c { rule = r })) (sym ruled) is

  -- a request with this rule is one with the case's own
  pub ruled_request : (s r : Body) (h : List ℕ) → seen r h ≡ request (record c { rule = kind }) (seen s h) → seen r h ≡ request c (seen s h)
  ruled_request s r h asked = subst (λ k. seen r h ≡ request (record c { rule = k }) (seen s h)) ruled asked

  -- one that can be made with the case's own can be made with this rule
  pub ruled_ready : (s : Body) → CanRequest c (seen s []) → CanRequest (record c { rule = kind }) (seen s [])
  ruled_ready s ready = subst (λ k. CanRequest (record c { rule = k }) (seen s [])) (sym ruled) ready

-- where no instant before it was the end, an instant is early
early_before : (c : Case) → IsCase c → (n : ℕ) → ((k : ℕ) → k < n → ends_at c k ≡ false) → n < latest_ms
early_before c is n going =
    let last = sessions_end c is in
    let early = last.1 in
    ⊎_elim (λ (past : last.0 < n). absurd (true≢false (sym last.2 ∙ going last.0 past))) (λ (before : n ≤ last.0). omega (arith, before, early)) (cases_lt last.0 n)

-- the player at the first instant that is the end is the last one
last_at : (c : Case) → (n : ℕ) → n < latest_ms → ((k : ℕ) → k < n → ends_at c k ≡ false) → ends_at c n ≡ true → last_player c ≡ instant c (player_after c n)
unfolding last_player
last_at c n low before h = ap (λ (m : ℕ). instant c (player_after c m)) (sym (end_is c n low h before))

-- the body at the start
pub start_stands : (c : Case) (b : Body) → seen b [] ≡ first_player → StandsAt c b
start_stands c b e =
    let none : b.t ≡ 0 = ap (λ (p : Player). p.t) e in
    let first : player_after c b.t ≡ first_player = ap (player_after c) none ∙ player_first c in
    record {
      stands = subst (λ (p : Player). seen b p.history ≡ p) (sym first) e;
      timed = none_timed c b e;
      going = λ k low. absurd (omega (arith, low, none));
    }

-- what is true of an empty history is true of that at the start
pub start_told : (c : Case) (b : Body) → seen b [] ≡ first_player → (told : List ℕ → Type 0) → told [] → told (player_after c b.t).history
start_told c b e told h =
    let none : b.t ≡ 0 = ap (λ (p : Player). p.t) e in
    subst (λ (p : Player). told p.history) (sym (ap (player_after c) none ∙ player_first c)) h

-- at the top of the turn, and after the arrival and the end
module _ (c : Case) (is : IsCase c) (b : Body) (here : StandsAt c b) where
  -- at the top of the turn the body stands for a sound player
  pub at_top : Now c b.t b.t (player_after c b.t) b
  at_top = let sound = player_sound c is b.t here.going in record { sound = sound.0; instant = sound.1; same = here.stands }

  -- the instant of the body is before the latest one
  pub at_early : b.t < latest_ms
  at_early = early_before c is b.t here.going

  -- a body that stands for what the parts leave
  lefts_at : (q : Player) (a : Body) → (from : ℕ) → Now c b.t from q a → IsTimed c.film c.network a.download → instant c (player_after c b.t) ≡ q → LeftAt c a × (a.t ≡ b.t)
  lefts_at q a from now timed same =
      let at : a.t ≡ b.t = body_instant c b.t from q a now in (
        record {
          stands = subst (λ n. StandsFor (instant c (player_after c n)) a) (sym at) (subst (λ p. StandsFor p a) (sym same) now.same);
          timed = timed;
          going = λ k low. here.going k (omega (arith, low, at));
        },
        at,
      )

  -- after the arrival and the end the body stands for the player after them
  pub at_stop : (s : Body) → Step (stopped c) b s → Now c b.t b.t (stopped c (player_after c b.t)) s
  at_stop s stop =
      let p = player_after c b.t in
      let top = at_top in
      now_step c b.t b.t b.t (stopped c) p b s top stop (stopped_sound c b.t p top.sound) (stopped_t c p ∙ top.instant)

  -- and that player is sound with a rule that is the case's
  pub ruled_sound : (s : Body) → Now c b.t b.t (stopped c (player_after c b.t)) s → (kind : RuleKind) → kind ≡ c.rule → Sound (record c { rule = kind }) s.t (seen s [])
  ruled_sound s stop kind ruled =
      let at = body_instant c b.t b.t (stopped c (player_after c b.t)) s stop in
      subst (λ r. Sound (record c { rule = r }) s.t (seen s [])) (sym ruled) (subst (λ n. Sound c n (seen s [])) (sym at) (body_sound c b.t b.t (stopped c (player_after c b.t)) s stop))

  -- where the session has ended, that is what the parts leave
  pub left_ended : (s : Body) → Now c b.t b.t (stopped c (player_after c b.t)) s → IsTimed c.film c.network s.download → is_ended (mode_of s.mode) ≡ true → LeftAt c s × (s.t ≡ b.t)
  left_ended s stop timed ended =
      let over = sym (ap (λ (q : Player). is_ended q.mode) stop.same) ∙ ended in
      lefts_at (stopped c (player_after c b.t)) s b.t stop timed (instant_ended c (player_after c b.t) over)

  -- and where it goes on, what the other parts make of it
  module _ (s : Body) (stop : Now c b.t b.t (stopped c (player_after c b.t)) s) (on : is_ended (mode_of s.mode) ≡ false) where
    goes : is_ended (stopped c (player_after c b.t)).mode ≡ false
    goes = sym (ap (λ (q : Player). is_ended q.mode) stop.same) ∙ on

    -- a body that the other parts made of this one is what they leave, at the same instant
    pub left_gone : (kind : RuleKind) → kind ≡ c.rule → (a : Body) → GoesOn (record c { rule = kind }) (stopped c (player_after c b.t)).history s a → IsTimed c.film c.network a.download → LeftAt c a × (a.t ≡ b.t)
    left_gone kind ruled a gone timed =
        let p = stopped c (player_after c b.t) in
        lefts_at (gone_on c p) a (b.t + 1)
        (record {
          sound = gone_on_sound c is b.t p stop.instant stop.sound;
          instant = gone_on_t c p ∙ stop.instant;
          same = subst (λ (q : Player). seen a (gone_on c q).history ≡ gone_on c q) stop.same (subst (λ r. GoesOn (record c { rule = r }) p.history s a) ruled gone);
        })
        timed
        (instant_goes c (player_after c b.t) goes)

-- what the rule was told before the other parts
pub told_stop : (c : Case) (b : Body) → StandsAt c b → (heard : List ℕ → Type 0) → heard (stopped c (seen b (player_after c b.t).history)).history → heard (stopped c (player_after c b.t)).history
told_stop c b here heard h = subst (λ (p : Player). heard (stopped c p).history) here.stands h

-- what the rule was told in an instant, with any history
module _ (c : Case) (b s : Body) (step : Step (stopped c) b s) (h : List ℕ) (told : List ℕ → Type 0) where
  ends_as : is_ended (stopped c (seen b h)).mode ≡ is_ended (mode_of s.mode)
  ends_as = sym (ap (λ (q : Player). is_ended q.mode) (step.follows h))

  -- where the session has ended, what is true of the history so far is true of it after the instant
  pub told_ended : is_ended (mode_of s.mode) ≡ true → told (stopped c (seen b h)).history → told (instant c (seen b h)).history
  told_ended ended here = subst (λ (q : Player). told q.history) (sym (instant_ended c (seen b h) (ends_as ∙ ended))) here

  -- and where it goes on, what is true of it after the other parts
  pub told_gone : is_ended (mode_of s.mode) ≡ false → (kind : RuleKind) → kind ≡ c.rule
      → told (gone_on (record c { rule = kind }) (seen s (stopped c (seen b h)).history)).history → told (instant c (seen b h)).history
  told_gone on kind ruled here =
      let p = stopped c (seen b h) in
      subst (λ (q : Player). told q.history) (sym (instant_goes c (seen b h) (ends_as ∙ on)))
      (subst (λ r. told (gone_on (record c { rule = r }) p).history) ruled (subst (λ (q : Player). told (gone_on (record c { rule = kind }) q).history) (step.follows h) here))

-- ---- a wait

-- what a wait needs, and where it ends: a millisecond later, and after the stretch
module _ (c : Case) (is : IsCase c) (a : Body) (left : LeftAt c a) where
  at_left_early : a.t < latest_ms
  at_left_early = early_before c is a.t left.going

  -- the session that the body shows where it has ended
  pub session_is : (e : Session) → is_ended (mode_of a.mode) ≡ true → ((h : List ℕ) → shown e ≡ shown_by (seen a h)) → shown e ≡ session_of c
  session_is e ended shows =
      let q = instant c (player_after c a.t) in
      let over = sym (ap (λ (r : Player). is_ended r.mode) left.stands) ∙ ended in
      shows q.history ∙ ap shown_by left.stands ∙ ap shown_by (sym (last_at c a.t at_left_early left.going over))

  module _ (on : is_ended (mode_of a.mode) ≡ false) where
    left_goes : ends_at c a.t ≡ false
    left_goes = sym (ap (λ (r : Player). is_ended r.mode) left.stands) ∙ on

    left_both : Sound c (a.t + 1) (instant c (player_after c a.t)) × IsOpen (instant c (player_after c a.t))
    left_both = let start = player_sound c is a.t left.going in instant_sound c is a.t (player_after c a.t) start.1 start.0 left_goes

    left_still : IsStill c (instant c (player_after c a.t))
    left_still = instant_still c (player_after c a.t) left_goes

    at_left : Now c a.t (a.t + 1) (instant c (player_after c a.t)) a
    at_left = record {
      sound = left_both.0;
      instant = instant_t c (player_after c a.t) ∙ (player_sound c is a.t left.going).1;
      same = left.stands;
    }

    -- the milliseconds can be counted in which nothing happens
    pub rest_left : CanRest c.film c.setup c.ahead a
    rest_left = rest_ready c is a.t (a.t + 1) (instant c (player_after c a.t)) a at_left_early at_left left.timed left_both.1 left_still

    -- a millisecond can pass
    pub pass_left : CanPass (seen a [])
    pass_left = pass_ready c is a.t (a.t + 1) (instant c (player_after c a.t)) a at_left_early at_left

    module _ (b : Body) (passes : Step (pass_ms c) a b) where
      next_timed : IsTimed c.film c.network b.download
      next_timed = passes.timed c.film c.network left.timed

      at_next : Now c (a.t + 1) (a.t + 1) (pass_ms c (instant c (player_after c a.t))) b
      at_next =
          let q = instant c (player_after c a.t) in
          record {
            sound = pass_sound c is (a.t + 1) q left_both.0 left_both.1 left_goes;
            instant = pass_t c q ∙ ap (λ k. k + 1) at_left.instant;
            same = subst (λ (p : Player). seen b (pass_ms c p).history ≡ pass_ms c p) left.stands (passes.follows q.history);
          }

      -- one millisecond alone is a wait too
      pub passes_left : Waits c a b
      passes_left =
          let q = instant c (player_after c a.t) in
          let next = body_instant c (a.t + 1) (a.t + 1) (pass_ms c q) b at_next in
          let same : player_after c b.t ≡ pass_ms c q = ap (player_after c) (next ∙ add-one a.t) ∙ player_next c a.t left_goes in
          record {
            later = omega (arith, next);
            stands = record {
              stands = subst (λ (p : Player). seen b p.history ≡ p) (sym same) at_next.same;
              timed = next_timed;
              going = λ k low. below_more (λ n. ends_at c n ≡ false) a.t left.going left_goes k (omega (arith, low, next));
            };
            told = ap (λ (p : Player). p.history) same ∙ pass_told c q;
          }

      module _ (ms : ℕ) (few : ms ≤ latest_ms) (quiet : IsTimed c.film c.network a.download → (h : List ℕ) → IfSome (seen a h).download (DownloadRuns c a.t) → IsUneventful c (seen a h) ms) where
        left_quiet : IsUneventful c (instant c (player_after c a.t)) ms
        left_quiet =
            let q = instant c (player_after c a.t) in
            subst (λ p. IsUneventful c p ms) left.stands (quiet left.timed q.history (body_sound c a.t (a.t + 1) q a at_left).running)

        -- the rest of a quiet stretch can pass at once
        pub glide_left : CanGlide b (ms - 1)
        glide_left =
            let q = instant c (player_after c a.t) in
            let early = at_left_early in
            glide_ready c is (a.t + 1) (a.t + 1) (ms - 1) (pass_ms c q) b (omega (arith, early)) (omega (arith, few)) at_next
            (rests_ahead c is (a.t + 1) q (pass_ms c q) ms left_both.0 left_goes left_still left_quiet (pass_next c q left_goes))

        -- a millisecond and then the rest of a quiet stretch at once are a wait
        pub waits_left : (r : Body) → (IsTimed c.film c.network b.download → Follows (glides c (ms - 1)) b r) → r.t ≡ b.t + (ms - 1)
            → (IsTimed c.film c.network b.download → IsTimed c.film c.network r.download) → Waits c a r
        waits_left r glide t in_time =
            let q = instant c (player_after c a.t) in
            let some = left_quiet.untouched.some in
            let next = body_instant c (a.t + 1) (a.t + 1) (pass_ms c q) b at_next in
            let there : a.t + ms ≡ r.t = omega (arith, some, next, t) in
            let law = uneventful_stretch c is a.t ms left.going left_goes left_quiet in
            let same : player_after c r.t ≡ glides c (ms - 1) (pass_ms c q) = ap (player_after c) (sym there) ∙ law.1 in
            let seen_there = subst (λ (p : Player). seen r (glides c (ms - 1) p).history ≡ glides c (ms - 1) p) at_next.same (glide next_timed (pass_ms c q).history) in
            record {
              later = omega (arith, some, next, t);
              stands = record {
                stands = subst (λ (p : Player). seen r p.history ≡ p) (sym same) seen_there;
                timed = in_time next_timed;
                going = λ k low. law.0 k (omega (arith, low, there));
              };
              told = ap (λ (p : Player). p.history) same ∙ pass_told c q;
            }

-- what a session that is the model's keeps
module _ (c : Case) (is : IsCase c) (s : Session) (e : shown s ≡ session_of c) where
  -- all that it played is of a segment and a rung of the film
  pub session_rungs : All (λ p. (p.rung < rungs_of c.film) × (p.segment < segments_of c.film)) s.played.items
  session_rungs = subst (λ (v : Shown). All (λ p. (p.rung < rungs_of c.film) × (p.segment < segments_of c.film)) v.played) (sym e) (last_rungs c is)

  -- it played at most 34000 segments
  pub session_count : length s.played.items ≤ 34000
  session_count = subst (λ (v : Shown). length v.played ≤ 34000) (sym e) (last_count c is)

  session_end : s.end ≡ end_of c
  session_end = ap (λ (v : Shown). v.ended) e ∙ last_t c is

  -- it ends before the latest instant
  pub session_ends : s.end < latest_ms
  session_ends = let at = session_end in let early = end_early c is in omega (arith, at, early)

  -- its milliseconds before the start, in stalls and in seeks are at most those up to its end
  pub session_times : s.startup_ms + s.stall_ms + s.seek_ms ≤ s.end
  session_times =
      let times = last_times c is in
      let at = session_end in
      let startup = ap (λ (v : Shown). v.startup_ms) e in
      let stall = ap (λ (v : Shown). v.stall_ms) e in
      let seek = ap (λ (v : Shown). v.seek_ms) e in
      omega (arith, times, at, startup, stall, seek)
