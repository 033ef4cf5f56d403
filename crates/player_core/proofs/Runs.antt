-- A running download: it goes on, it ends, and how fast it can come.
use Rattle.std.proofs.Common.{◌≡◌, ℕ, ◌+◌, ◌-◌, ◌*◌, ◌<◌, ◌≤◌, true, false, cond, eqb, ltb, Some, None, is_some, refl, sym, ◌∙◌, ap, subst, ◌⊎◌, inl, inr, ⊎_elim, lt-ltb, le-ltb, arith}
use Rattle.std.specs.Int.{div_ceil}
use Rattle.std.specs.Option.{option_map_or}
use Rattle.std.proofs.lemmas.Bool.{cases_lt, eqb-false, cond-true, cond-false, ne_eqb, false_from_ne_true}
use Rattle.std.proofs.lemmas.Nat.{mul-add-lt}
use Rattle.lab_model.specs.Film.{Film, IsFilm, IsWithin, rungs_of, segments_of, size_of}
use Rattle.network_clock.specs.declared.job.Job.{Job}
use Rattle.network_clock.specs.Network.{done_on, first_on, job_on, pass, spends, start_job}
use Rattle.network_clock.proofs.Laws.{job_start, job_more_at, left_waits, job_apart}
use Rattle.network_clock.proofs.Downloads.{first_from, first_found, first_not_before, done_from, done_found, done_not_before, first_before_done}
use Rattle.network_clock.proofs.Pace.{left_slow}
use Rattle.player_core.specs.State.{Case, Download}
use Rattle.player_core.specs.Parts.{bit_ms_of, got_of, takes}
use Rattle.abandonment.specs.Progress.{longest_elapsed}
use Rattle.player_core.specs.Sound.{IsCase, DownloadRuns, asked_size}

-- ---- sizes

-- each size of a film keeps its limits
pub size_within : (f : Film) (segment rung : ℕ) → IsFilm f → segment < segments_of f → rung < rungs_of f → IsWithin 1 200000000 (size_of f segment rung)
size_within f segment rung h s r =
    let place = mul-add-lt segment (rungs_of f) rung (segments_of f) s r in
    let whole = h.whole in
    h.sizes (segment * rungs_of f + rung) 0 (omega (arith, place, whole))

module _ (c : Case) (is : IsCase c) where
  -- a running download asked for a size that keeps them
  pub asked_within : (t : ℕ) (d : Download) → DownloadRuns c t d → IsWithin 1 200000000 (asked_size c d)
  asked_within t d h = size_within c.film d.segment d.rung is.film h.segment h.rung

  -- the instants of a download: it begins to take bits before it is done, and is done soon
  pub begins_before : (t : ℕ) (d : Download) → DownloadRuns c t d → first_on c.network d.asked (asked_size c d) < done_on c.network d.asked (asked_size c d)
  begins_before t d h = let size = asked_within t d h in first_before_done c.network is.network is.short d.asked (asked_size c d) size.0 size.1

  -- it is done within 10000 milliseconds and the longest stretch of bits
  pub done_soon : (t : ℕ) (d : Download) → DownloadRuns c t d → done_on c.network d.asked (asked_size c d) ≤ d.asked + (is.longest + 10000)
  done_soon t d h = let size = asked_within t d h in (done_found c.network is.network is.short d.asked (asked_size c d) size.1).0

  -- it was asked for so short ago that it can be judged
  pub runs_short : (t : ℕ) (d : Download) → DownloadRuns c t d → t - d.asked ≤ longest_elapsed
  runs_short t d h = let soon = done_soon t d h in let done = h.done in omega (arith, soon, done, is.short)

  -- a download that was just asked for
  pub runs_start : (t segment rung : ℕ) → segment < segments_of c.film → rung < rungs_of c.film
      → DownloadRuns c t (record { segment = segment; rung = rung; asked = t; job = start_job (size_of c.film segment rung); first = None })
  runs_start t segment rung s r =
      let bits = size_of c.film segment rung in
      let none : t - t ≡ 0 = omega arith in
      record {
        segment = s;
        rung = r;
        asked = omega arith;
        job = sym (ap (λ n. job_on c.network t n (start_job bits)) none ∙ job_start c.network t (start_job bits));
        first = rw (le-ltb (first_on c.network t bits) t (first_from c.network t bits)) refl;
        done = done_from c.network t bits;
      }

  -- something is left of a download at its request
  pub starts_full : (segment rung : ℕ) → segment < segments_of c.film → rung < rungs_of c.film → eqb (start_job (size_of c.film segment rung)).left 0 ≡ false
  starts_full segment rung s r = let size = size_within c.film segment rung is.film s r in let some = size.0 in ne_eqb _ 0 (λ e. absurd (omega (arith, e, some)))

  -- where nothing is left it is done, and where something is left it is not
  pub runs_done : (t : ℕ) (d : Download) → DownloadRuns c t d → d.job.left ≡ 0 → t ≡ done_on c.network d.asked (asked_size c d)
  runs_done t d h none =
      let left = ap (λ (j : Job). j.left) h.job in
      let here : d.asked + (t - d.asked) ≡ t = let a = h.asked in omega (arith, a) in
      let done = h.done in
      ⊎_elim (λ early. absurd (done_not_before c.network d.asked (asked_size c d) (t - d.asked) (omega (arith, here, early)) (omega (arith, left, none))))
      (λ late. omega (arith, late, done)) (cases_lt t (done_on c.network d.asked (asked_size c d)))

  -- where something is left of a running download, it is not done yet
  pub runs_on : (t : ℕ) (d : Download) → DownloadRuns c t d → eqb d.job.left 0 ≡ false → t < done_on c.network d.asked (asked_size c d)
  runs_on t d h some =
      let size = asked_within t d h in
      let left = ap (λ (j : Job). j.left) h.job in
      let found = (done_found c.network is.network is.short d.asked (asked_size c d) size.1).1 in
      let done = h.done in
      ⊎_elim (λ early. early)
      (λ late. let same : t ≡ done_on c.network d.asked (asked_size c d) = omega (arith, late, done) in
      let there = ap (λ m. (job_on c.network d.asked (m - d.asked) (start_job (asked_size c d))).left) same in
      absurd (eqb-false d.job.left 0 some (omega (arith, left, there, found)))) (cases_lt t (done_on c.network d.asked (asked_size c d)))

  -- the first instant spent on bits has passed, or it is still to come
  pub first_cases : (t : ℕ) (d : Download) → DownloadRuns c t d
      → ((first_on c.network d.asked (asked_size c d) < t) × (d.first ≡ Some (first_on c.network d.asked (asked_size c d)))) ⊎ ((t ≤ first_on c.network d.asked (asked_size c d)) × (d.first ≡ None))
  first_cases t d h =
      let first = first_on c.network d.asked (asked_size c d) in
      elim (cases_lt first t) [ inl past ↦ inl (past, h.first ∙ rw (lt-ltb first t past) refl) | inr ahead ↦ inr (ahead, h.first ∙ rw (le-ltb first t ahead) refl) ]

  here_is : (t : ℕ) (d : Download) → DownloadRuns c t d → d.asked + (t - d.asked) ≡ t
  here_is t d h = let asked = h.asked in omega (arith, asked)

  -- whether the millisecond is spent on bits, where none was before
  spent_now : (t : ℕ) (d : Download) → DownloadRuns c t d → t ≤ first_on c.network d.asked (asked_size c d)
      → cond (spends (c.network t) d.job) (Some t) None ≡ cond (ltb (first_on c.network d.asked (asked_size c d)) (t + 1)) (Some (first_on c.network d.asked (asked_size c d))) None
  spent_now t d h ahead =
      let net = c.network in
      let bits = asked_size c d in
      let first = first_on net d.asked bits in
      ⊎_elim (λ (later : t < first).
      let before = false_from_ne_true (spends (net t) d.job) (λ e. first_not_before net d.asked bits (t - d.asked) (let here = here_is t d h in omega (arith, here, later))
      (ap (λ m. spends (net m) (job_on net d.asked (t - d.asked) (start_job bits))) (here_is t d h) ∙ ap (λ j. spends (net t) j) (sym h.job) ∙ e)) in
      cond-false (spends (net t) d.job) (Some t) None before ∙ sym (cond-false (ltb first (t + 1)) (Some first) None (le-ltb first (t + 1) (omega (arith, later)))))
      (λ (now : first ≤ t).
      let same : first ≡ t = omega (arith, now, ahead) in
      let spent = subst (λ m. spends (net m) (job_on net d.asked (m - d.asked) (start_job bits)) ≡ true) same (first_found net is.network is.short d.asked bits).1 in
      cond-true (spends (net t) d.job) (Some t) None (ap (λ j. spends (net t) j) h.job ∙ spent) ∙ ap Some (sym same) ∙ sym (cond-true (ltb first (t + 1)) (Some first) None (lt-ltb first (t + 1) (omega (arith, same)))))
      (cases_lt t first)

  -- the first instant spent on bits, after the millisecond
  pub first_next : (t : ℕ) (d : Download) → DownloadRuns c t d
      → cond (is_some d.first) d.first (cond (spends (c.network t) d.job) (Some t) None) ≡ cond (ltb (first_on c.network d.asked (asked_size c d)) (t + 1)) (Some (first_on c.network d.asked (asked_size c d))) None
  first_next t d h =
      let net = c.network in
      let bits = asked_size c d in
      let first = first_on net d.asked bits in
      let after = cond (ltb first (t + 1)) (Some first) None in
      let spent = cond (spends (net t) d.job) (Some t) None in
      ⊎_elim (λ (past : (first < t) × (d.first ≡ Some first)).
      let low = past.0 in subst (λ o. cond (is_some o) o spent ≡ after) (sym past.1) (rw (lt-ltb first (t + 1) (omega (arith, low))) refl))
      (λ (ahead : (t ≤ first) × (d.first ≡ None)).
      let low = ahead.0 in subst (λ o. cond (is_some o) o spent ≡ after) (sym ahead.1) (spent_now t d h low)) (first_cases t d h)

  -- where something is left of it, it runs a millisecond later
  pub runs_next : (t : ℕ) (d : Download) → DownloadRuns c t d → eqb d.job.left 0 ≡ false → DownloadRuns c (t + 1) (takes c t d)
  runs_next t d h some =
      let on = runs_on t d h some in
      let asked = h.asked in
      record {
        segment = h.segment;
        rung = h.rung;
        asked = omega (arith, asked);
        job = ap (λ j. pass (c.network t) j) h.job ∙ sym (job_more_at c.network d.asked t (start_job (asked_size c d)) asked);
        first = first_next t d h;
        done = omega (arith, on);
      }

  -- where nothing is left, its first millisecond that was spent on bits is past, and it knows which
  pub runs_begun : (t : ℕ) (d : Download) → DownloadRuns c t d → d.job.left ≡ 0 → (first_on c.network d.asked (asked_size c d) < t) × (d.first ≡ Some (first_on c.network d.asked (asked_size c d)))
  runs_begun t d h none =
      let done = runs_done t d h none in
      let before = begins_before t d h in
      let begun : first_on c.network d.asked (asked_size c d) < t = omega (arith, done, before) in
      (begun, h.first ∙ rw (lt-ltb _ t begun) refl)

  -- the milliseconds since the first one spent on bits
  pub bit_ms_is : (t : ℕ) (d : Download) → DownloadRuns c t d → bit_ms_of t d ≡ t - first_on c.network d.asked (asked_size c d)
  bit_ms_is t d h =
      let first = first_on c.network d.asked (asked_size c d) in
      ⊎_elim (λ (past : (first < t) × (d.first ≡ Some first)). ap (λ o. option_map_or (λ f. t - f) o 0) past.1)
      (λ (ahead : (t ≤ first) × (d.first ≡ None)). let low = ahead.0 in ap (λ o. option_map_or (λ f. t - f) o 0) ahead.1 ∙ omega (arith, low)) (first_cases t d h)

  -- its first millisecond that was spent on bits is no longer ago than its request
  pub bit_ms_short : (t : ℕ) (d : Download) → DownloadRuns c t d → bit_ms_of t d ≤ t - d.asked
  bit_ms_short t d h = let is = bit_ms_is t d h in let from = first_from c.network d.asked (asked_size c d) in omega (arith, is, from)

  -- what is left, before the first bits and after
  left_before : (t : ℕ) (d : Download) → DownloadRuns c t d → (n : ℕ) → d.asked + n ≤ first_on c.network d.asked (asked_size c d) → (job_on c.network d.asked n (start_job (asked_size c d))).left ≡ 1000 * asked_size c d
  left_before t d h n low = left_waits c.network d.asked n (start_job (asked_size c d)) (λ k l. first_not_before c.network d.asked (asked_size c d) k (omega (arith, l, low)))

  left_least : (t : ℕ) (d : Download) → DownloadRuns c t d → 1000 * asked_size c d ≤ d.job.left + 10000000000 * (t - first_on c.network d.asked (asked_size c d))
  left_least t d h =
      let net = c.network in
      let bits = asked_size c d in
      let first = first_on net d.asked bits in
      let from = first_from net d.asked bits in
      let here = here_is t d h in
      ⊎_elim (λ (past : first < t).
      let n = first - d.asked in
      let waits = left_before t d h n (omega (arith, from)) in
      let parts : t - d.asked ≡ n + (t - first) = omega (arith, from, past) in
      let whole = ap (λ (j : Job). j.left) (h.job ∙ ap (λ m. job_on net d.asked m (start_job bits)) parts ∙ job_apart net d.asked n (t - first) (start_job bits)) in
      let slow = left_slow net is.network (d.asked + n) (t - first) (job_on net d.asked n (start_job bits)) in
      omega (arith, waits, whole, slow))
      (λ (ahead : t ≤ first).
      let waits = left_before t d h (t - d.asked) (omega (arith, here, ahead)) in
      let whole = ap (λ (j : Job). j.left) h.job in
      omega (arith, waits, whole)) (cases_lt first t)

  got_least : (bits left ms : ℕ) → 1000 * bits ≤ left + 10000000000 * ms → bits - div_ceil left 1000 ≤ 10000000 * ms
  got_least bits left ms h = omega (arith, h)

  -- it has no more bits than it asked for, and at most 10000000 for each millisecond from that first one on
  pub runs_pace : (t : ℕ) (d : Download) → DownloadRuns c t d → (got_of c.film d ≤ asked_size c d) × (got_of c.film d ≤ 10000000 * bit_ms_of t d)
  runs_pace t d h =
      let is = bit_ms_is t d h in
      (omega arith, subst (λ ms. got_of c.film d ≤ 10000000 * ms) (sym is) (got_least (asked_size c d) d.job.left (t - first_on c.network d.asked (asked_size c d)) (left_least t d h)))
