-- Calm stretches: as long as nothing happens to any player the takers stay, so the share of the link is a lane, and each player's milliseconds pass at once.
use Rattle.std.proofs.Common.{◌≡◌, ◌∙◌, ℕ, zero, suc, ◌+◌, ◌-◌, ◌<◌, ◌≤◌, true, false, eqb, cond, ltb, Option, Some, None, IfSome, option_map, refl, sym, ap, ap₂, subst, eq-eqb, ⊎_elim, below_more, arith}
use Rattle.std.specs.Option.{option_map_or}
use Rattle.std.proofs.lemmas.Bool.{cases_Bool, cases_eq, cases_lt, false_from_ne_true}
use Rattle.lab_model.specs.declared.trace.Period.{Period}
use Rattle.network_clock.specs.declared.job.Job.{Job}
use Rattle.network_clock.specs.Network.{done_on, first_at, first_on, job_on, lands_on, lane_at, longest_ms, parted, period_at, spends, start_job}
use Rattle.network_clock.proofs.Downloads.{done_found, first_not_before, first_same}
use Rattle.network_clock.proofs.Laws.{job_apart, left_after, same_jobs}
use Rattle.network_clock.proofs.Search.{least_before}
use Rattle.player_core.specs.Parts.{instant, is_ended, pass_ms, takes, takes_any}
use Rattle.player_core.specs.Quiet.{IsQuiet, IsUntouched, glides, moves_in, taken_ms}
use Rattle.player_core.specs.Session.{ends_at, player_after}
use Rattle.player_core.specs.Sound.{IsCase, DownloadRuns, asked_size}
use Rattle.player_core.specs.State.{Case, Download, Player}
use Rattle.player_core.proofs.Over.{after_end, last_idle}
use Rattle.player_core.proofs.Players.{instant_sound, instant_t, pass_t, player_sound}
use Rattle.player_core.proofs.Runs.{asked_within, begins_before}
use Rattle.player_core.proofs.Stretch.{quiet_alone, stretch, stretch_idle, untouched_less}
use Rattle.player_core.proofs.Waits.{passes_passed}
use Rattle.shared_link.specs.Calm.{AreCalm, IsCalm, takers_at}
use Rattle.shared_link.specs.Joint.{IsJoint, JointCase, case_at, instants, players_after, players_of, takes_bits}
use Rattle.shared_link.specs.Laws.{own_case, share_at}
use Rattle.shared_link.proofs.Own.{after_last, end_by, going_before, own, own_instant, own_is_case}
use Rattle.shared_link.proofs.Takers.{takers_same}

-- at an instant before that at which a job lands something is left of it
lands_not_before : (net : ℕ → Period) (from : ℕ) (j : Job) (n : ℕ) → from + n < lands_on net from j → (job_on net from n j).left ≡ 0 → ⊥
unfolding lands_on
lands_not_before net from j n early none = least_before longest_ms (λ m. eqb (job_on net from m j).left 0) n (omega (arith, early)) (eq-eqb _ 0 none)

-- ---- one download on the share of a link

module _ (c : Case) (is : IsCase c) (lane : ℕ → Period) (t : ℕ) (d : Download) (runs : DownloadRuns c t d) where
  -- the job of the download after some milliseconds more
  later_job : (n : ℕ) → job_on c.network d.asked ((t + n) - d.asked) (start_job (asked_size c d)) ≡ job_on c.network t n d.job
  later_job n =
      let asked = runs.asked in
      let here : d.asked + (t - d.asked) ≡ t = omega (arith, asked) in
      let parts : (t + n) - d.asked ≡ (t - d.asked) + n = omega (arith, asked) in
      ap (λ m. job_on c.network d.asked m (start_job (asked_size c d))) parts
      ∙ job_apart c.network d.asked (t - d.asked) n (start_job (asked_size c d))
      ∙ ap (λ m. job_on c.network m n (job_on c.network d.asked (t - d.asked) (start_job (asked_size c d)))) here
      ∙ ap (job_on c.network t n) (sym runs.job)

  -- where the share was the lane so far, the download is not done before it lands on the lane
  not_done : (n : ℕ) → ((k : ℕ) → k < n → c.network (t + k) ≡ lane (t + k)) → t + n < lands_on lane t d.job → t + n < done_on c.network d.asked (asked_size c d)
  not_done n same early =
      let done = done_on c.network d.asked (asked_size c d) in
      let n' = done - t in
      let not_past = runs.done in
      ⊎_elim (λ (alive : t + n < done). alive)
      (λ (late : done ≤ t + n).
      let there : t + n' ≡ done = omega (arith, not_past) in
      let none = (done_found c.network is.network is.short d.asked (asked_size c d) (asked_within c is t d runs).1).1 in
      let whole = later_job n' in
      let lane_job = same_jobs c.network lane t n' d.job (λ k low. same k (omega (arith, low, late, not_past))) in
      let left : (job_on lane t n' d.job).left ≡ 0 =
      ap (λ (j : Job). j.left) (sym lane_job ∙ sym whole ∙ ap (λ m. job_on c.network d.asked (m - d.asked) (start_job (asked_size c d))) there) ∙ none in
      absurd (lands_not_before lane t d.job n' (omega (arith, there, late, early)) left))
      (cases_lt (t + n) done)

-- ---- one player that goes on, as long as the share is the lane

module _ (j : JointCase) (is : IsJoint j) (t : ℕ) where
  module _ (i : ℕ) (low : i < players_of j) (goes : ends_at (own_case j i) t ≡ false) (ms : ℕ) (calm : IsCalm j (takers_at j t) t ms (case_at j i) (instants j (players_after j t) i)) where
    going : (k : ℕ) → k < t → ends_at (own_case j i) k ≡ false
    going = going_before (own_case j i) (own_is_case j is i low) t goes

    at : (instant (own_case j i) (player_after (own_case j i) t)).t ≡ t
    at = let c = own_case j i in instant_t c (player_after c t) ∙ (player_sound c (own_is_case j is i low) t going).1

    own_calm : IsCalm j (takers_at j t) t ms (case_at j i) (instant (own_case j i) (player_after (own_case j i) t))
    own_calm = subst (IsCalm j (takers_at j t) t ms (case_at j i)) (own_instant j is i low t) calm

    untouched : IsUntouched (own_case j i) (instant (own_case j i) (player_after (own_case j i) t)) ms
    untouched = let own = own_calm.untouched in record { some = own.some; asks = own.asks; plays = own.plays }

    begins_same : (start bits : ℕ) → first_on (share_at j) start bits ≡ first_at j.periods start bits
    begins_same start bits =
        let case = own_is_case j is i low in
        first_same (share_at j) (period_at j.periods) case.network case.short (λ s. refl) start bits

    open_of : (n : ℕ) (o : Option Download) → n < ms → ((k : ℕ) → k < n → share_at j (t + k) ≡ lane_at j.periods (takers_at j t) (t + k)) → IfSome o (DownloadRuns (own_case j i) t)
        → (option_map_or (λ (d : Download). spends (period_at j.periods t) d.job) o false ≡ true → IfSome o (λ d. t + ms ≤ lands_on (lane_at j.periods (takers_at j t)) t d.job))
        → (option_map_or (λ (d : Download). spends (period_at j.periods t) d.job) o false ≡ false → IfSome o (λ d. t + ms ≤ first_at j.periods d.asked (asked_size (case_at j i) d)))
        → IfSome o (λ d. t + (n + 1) ≤ done_on (share_at j) d.asked (asked_size (own_case j i) d))
    open_of n None few same runs lands begins = tt
    open_of n (Some d) few same runs lands begins =
        let c = own_case j i in
        let case = own_is_case j is i low in
        ⊎_elim
        (λ (spent : spends (period_at j.periods t) d.job ≡ true).
        let past = lands spent in
        let alive = not_done c case (lane_at j.periods (takers_at j t)) t d runs n same (omega (arith, past, few)) in
        omega (arith, alive))
        (λ (delay : spends (period_at j.periods t) d.job ≡ false).
        let past = begins delay in
        let first = begins_same d.asked (asked_size c d) in
        let before = begins_before c case t d runs in
        omega (arith, past, first, before, few))
        (cases_Bool (spends (period_at j.periods t) d.job))

    -- nothing happens to it for one millisecond more than the share was the lane
    pub calm_quiet : (n : ℕ) → n < ms → ((k : ℕ) → k < n → share_at j (t + k) ≡ lane_at j.periods (takers_at j t) (t + k)) → IsQuiet (own_case j i) (instant (own_case j i) (player_after (own_case j i) t)) (n + 1)
    calm_quiet n few same =
        let c = own_case j i in
        let case = own_is_case j is i low in
        let q = instant c (player_after c t) in
        let start = player_sound c case t going in
        let sound = instant_sound c case t (player_after c t) start.1 start.0 goes in
        let runs : IfSome q.download (DownloadRuns c t) = subst (λ s. IfSome q.download (DownloadRuns c s)) at sound.0.running in
        quiet_alone c q (n + 1) is.keeps refl (untouched_less c q ms (n + 1) untouched (omega arith) (omega (arith, few)))
        (subst (λ s. IfSome q.download (λ d. s + (n + 1) ≤ done_on (share_at j) d.asked (asked_size c d))) (sym at) (open_of n q.download few same runs own_calm.lands own_calm.begins))

    takes_of : (n m s u : ℕ) (o : Option Download) → n < ms → IfSome o (DownloadRuns (own_case j i) t) → IfSome (option_map (taken_ms (own_case j i) s m) (option_map (takes (own_case j i) u) o)) (DownloadRuns (own_case j i) (t + n))
        → (option_map_or (λ (d : Download). spends (period_at j.periods t) d.job) o false ≡ false → IfSome o (λ d. t + ms ≤ first_at j.periods d.asked (asked_size (case_at j i) d)))
        → option_map_or (λ (d : Download). spends (period_at j.periods (t + n)) d.job) (option_map (taken_ms (own_case j i) s m) (option_map (takes (own_case j i) u) o)) false ≡ option_map_or (λ (d : Download). spends (period_at j.periods t) d.job) o false
    takes_of n m s u None few runs later begins = refl
    takes_of n m s u (Some d) few runs later begins =
        let c = own_case j i in
        let e = taken_ms c s m (takes c u d) in
        let job : e.job ≡ job_on (share_at j) t n d.job = later.job ∙ later_job c (own_is_case j is i low) (share_at j) t d runs n in
        let asked = later.asked in
        let here : d.asked + ((t + n) - d.asked) ≡ t + n = omega (arith, asked) in
        ⊎_elim
        (λ (spent : spends (period_at j.periods t) d.job ≡ true).
        ap (λ k. spends (period_at j.periods (t + n)) k) job ∙ (left_after (share_at j) t n d.job spent).0 ∙ sym spent)
        (λ (delay : spends (period_at j.periods t) d.job ≡ false).
        let past = begins delay in
        let first = begins_same d.asked (asked_size c d) in
        false_from_ne_true (spends (period_at j.periods (t + n)) e.job)
        (λ spent. first_not_before (share_at j) d.asked (asked_size c d) ((t + n) - d.asked) (omega (arith, here, past, first, few))
        (ap (λ k. spends (share_at j k) (job_on (share_at j) d.asked ((t + n) - d.asked) (start_job (asked_size c d)))) here ∙ ap (λ k. spends (share_at j (t + n)) k) (sym later.job) ∙ spent))
        ∙ sym delay)
        (cases_Bool (spends (period_at j.periods t) d.job))

    -- and it takes bits where it did
    takes_stay : (n : ℕ) → 1 ≤ n → n < ms → ((k : ℕ) → k < n → share_at j (t + k) ≡ lane_at j.periods (takers_at j t) (t + k))
        → takes_bits (period_at j.periods (t + n)) (instant (own_case j i) (player_after (own_case j i) (t + n))) ≡ takes_bits (period_at j.periods t) (instant (own_case j i) (player_after (own_case j i) t))
    takes_stay n some few same =
        let c = own_case j i in
        let case = own_is_case j is i low in
        let q = instant c (player_after c t) in
        let r = pass_ms c q in
        let longer = calm_quiet n few same in
        let one : (n - 1) + 1 ≡ n = omega (arith, some) in
        let quiet : IsQuiet c q n = subst (IsQuiet c q) one (calm_quiet (n - 1) (omega (arith, few)) (λ k less. same k (omega (arith, less)))) in
        let idle = stretch_idle c case t (n + 1) going goes longer n some (omega arith) in
        let there = (stretch c case t n going goes quiet).1 in
        let before = (stretch c case t (n + 1) going goes longer).0 in
        let sound = player_sound c case (t + n) (λ k less. before k (omega (arith, less))) in
        let start = player_sound c case t going in
        let runs : IfSome q.download (DownloadRuns c t) = subst (λ s. IfSome q.download (DownloadRuns c s)) at (instant_sound c case t (player_after c t) start.1 start.0 goes).0.running in
        let loads : r.download ≡ option_map (takes c q.t) q.download = (passes_passed c (takes_any c q) q.mode).download in
        let download : (player_after c (t + n)).download ≡ option_map (taken_ms c r.t (n - 1)) (option_map (takes c q.t) q.download) =
        ap (λ (p : Player). p.download) there ∙ ap (option_map (taken_ms c r.t (n - 1))) loads in
        let later : IfSome (player_after c (t + n)).download (DownloadRuns c (t + n)) = subst (λ s. IfSome (player_after c (t + n)).download (DownloadRuns c s)) sound.1 sound.0.running in
        ap (takes_bits (period_at j.periods (t + n))) idle
        ∙ ap (λ o. option_map_or (λ (d : Download). spends (period_at j.periods (t + n)) d.job) o false) download
        ∙ takes_of n (n - 1) r.t q.t q.download few runs (subst (λ o. IfSome o (DownloadRuns c (t + n))) download later) own_calm.begins

  -- ---- all players

  -- a player that has ended takes no bits
  rests : (i : ℕ) → i < players_of j → ends_at (own_case j i) t ≡ true → (n : ℕ)
      → takes_bits (period_at j.periods (t + n)) (instant (own_case j i) (player_after (own_case j i) (t + n))) ≡ takes_bits (period_at j.periods t) (instant (own_case j i) (player_after (own_case j i) t))
  rests i low over n =
      let c = own_case j i in
      let case = own_is_case j is i low in
      let late = end_by c case t over in
      let none = last_idle c case in
      let idle = λ (period : Period). ap (λ (o : Option Download). option_map_or (λ (d : Download). spends period d.job) o false) none in
      ap (takes_bits (period_at j.periods (t + n))) (after_end c case (t + n) (omega (arith, late))) ∙ idle (period_at j.periods (t + n))
      ∙ sym (idle (period_at j.periods t)) ∙ sym (ap (takes_bits (period_at j.periods t)) (after_end c case t late))

  module _ (ms : ℕ) (calm : AreCalm j t ms) where
    stays_one : (n i : ℕ) → n < ms → i < players_of j → ((k : ℕ) → k < n → share_at j (t + k) ≡ lane_at j.periods (takers_at j t) (t + k))
        → takes_bits (period_at j.periods (t + n)) (instants j (players_after j (t + n)) i) ≡ takes_bits (period_at j.periods t) (instants j (players_after j t) i)
    stays_one n i few low same =
        let c = own_case j i in
        let here = own_instant j is i low t in
        ap (takes_bits (period_at j.periods (t + n))) (own_instant j is i low (t + n))
        ∙ ⊎_elim
        (λ (over : ends_at c t ≡ true). rests i low over n)
        (λ (goes : ends_at c t ≡ false).
        ⊎_elim
        (λ (first : n ≡ 0). let at : t + n ≡ t = omega (arith, first) in ap (λ s. takes_bits (period_at j.periods s) (instant c (player_after c s))) at)
        (λ (later : n ≡ 0 → ⊥). takes_stay i low goes ms (calm i low (ap (λ (p : Player). is_ended p.mode) here ∙ goes)) n (omega (arith, later)) few same)
        (cases_eq n 0))
        (cases_Bool (ends_at c t))
        ∙ ap (takes_bits (period_at j.periods t)) (sym here)

    -- the law: in a calm stretch the share of the link is the lane of those that take at its beginning
    pub calm_share : (n : ℕ) → n ≤ ms → (k : ℕ) → k < n → share_at j (t + k) ≡ lane_at j.periods (takers_at j t) (t + k)
    calm_share zero few k low = absurd (omega arith)
    calm_share (suc n) few k low =
        let before = calm_share n (omega (arith, few)) in
        let here : share_at j (t + n) ≡ lane_at j.periods (takers_at j t) (t + n) =
        ap (λ takers. parted takers (period_at j.periods (t + n)))
        (takers_same (period_at j.periods (t + n)) (period_at j.periods t) (instants j (players_after j (t + n))) (instants j (players_after j t)) (players_of j)
        (λ i inside. stays_one n i (omega (arith, few)) inside before)) in
        below_more (λ m. share_at j (t + m) ≡ lane_at j.periods (takers_at j t) (t + m)) n before here k (omega (arith, low))

    -- nothing happens to a player that goes on in the whole stretch
    pub calm_whole : (i : ℕ) → i < players_of j → ends_at (own_case j i) t ≡ false → 1 ≤ ms → IsQuiet (own_case j i) (instant (own_case j i) (player_after (own_case j i) t)) ms
    calm_whole i low goes some =
        let c = own_case j i in
        let last : (ms - 1) + 1 ≡ ms = omega (arith, some) in
        let here = own_instant j is i low t in
        subst (IsQuiet c (instant c (player_after c t))) last
        (calm_quiet i low goes ms (calm i low (ap (λ (p : Player). is_ended p.mode) here ∙ goes)) (ms - 1) (omega (arith, some)) (calm_share (ms - 1) (omega (arith, some))))

    -- on the lane and on the share a download comes to the same
    taken_same : (i m : ℕ) (o : Option Download) → i < players_of j → suc m ≤ ms → option_map (taken_ms (own_case j i) (t + 1) m) o ≡ option_map (taken_ms (record (case_at j i) { network = lane_at j.periods (takers_at j t) }) (t + 1) m) o
    taken_same i m None low few = refl
    taken_same i m (Some d) low few =
        let c = own_case j i in
        let case = own_is_case j is i low in
        let size = asked_size c d in
        let first = first_same (share_at j) (lane_at j.periods (takers_at j t)) case.network case.short (λ s. refl) d.asked size in
        let jobs = same_jobs (share_at j) (lane_at j.periods (takers_at j t)) (t + 1) m d.job
        (λ k less. let at : (t + 1) + k ≡ t + (1 + k) = omega arith in
        ap (share_at j) at ∙ calm_share ms (omega arith) (1 + k) (omega (arith, less, few)) ∙ ap (λ s. lane_at j.periods (takers_at j t) s) (sym at)) in
        ap₂ (λ (job : Job) (f : ℕ). Some (record d { job = job; first = cond (ltb f ((t + 1) + m)) (Some f) None })) jobs first

    -- the law: at its end a player that goes on is what its milliseconds make of it at once on the lane
    pub calm_player : (i : ℕ) → i < players_of j → ends_at (own_case j i) t ≡ false → 1 ≤ ms
        → players_after j (t + ms) i ≡ glides (record (case_at j i) { network = lane_at j.periods (takers_at j t) }) (ms - 1) (pass_ms (own_case j i) (instant (own_case j i) (player_after (own_case j i) t)))
    calm_player i low goes some =
        let c = own_case j i in
        let case = own_is_case j is i low in
        let here = own_instant j is i low t in
        let calm_here = calm i low (ap (λ (p : Player). is_ended p.mode) here ∙ goes) in
        let q = instant c (player_after c t) in
        let r = pass_ms c q in
        let m = ms - 1 in
        let start = instant_t c (player_after c t) ∙ (player_sound c case t (going_before c case t goes)).1 in
        let next : r.t ≡ t + 1 = pass_t c q ∙ ap (λ s. s + 1) start in
        let law = (stretch c case t ms (going_before c case t goes) goes (calm_whole i low goes some)).1 in
        let lane = λ (s : ℕ). lane_at j.periods (takers_at j t) s in
        let downloads : option_map (taken_ms c r.t m) r.download ≡ option_map (taken_ms (record (case_at j i) { network = lane }) r.t m) r.download =
        subst (λ s. option_map (taken_ms c s m) r.download ≡ option_map (taken_ms (record (case_at j i) { network = lane }) s m) r.download) (sym next) (taken_same i m r.download low (omega (arith, some))) in
        own j is i low (t + ms) ∙ law ∙ ap (λ (o : Option Download). let p = moves_in m (record r { download = o }) r.mode in record p { t = p.t + m }) downloads

    -- and one that has ended stays as it is
    pub calm_ended : (i : ℕ) → i < players_of j → ends_at (own_case j i) t ≡ true → 1 ≤ ms → players_after j (t + ms) i ≡ instants j (players_after j t) i
    calm_ended i low over some =
        let c = own_case j i in
        let case = own_is_case j is i low in
        let late = end_by c case t over in
        own j is i low (t + ms) ∙ after_last c case (t + ms) (omega (arith, late, some)) ∙ sym (after_end c case t late) ∙ sym (own_instant j is i low t)
