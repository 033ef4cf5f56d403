-- Tests for abandonment that keep a download: on the lowest rung, where none is due, where no target is smaller than what is left, and where it is not late.
use Rattle.std.proofs.Common.{◌≡◌, ◌∙◌, ℕ, zero, suc, ◌+◌, ◌-◌, ◌*◌, ◌/◌, ◌<◌, ◌≤◌, ⊎_elim, Bool, true, false, ◌&&◌, leb, ltb, Some, None, sym, ap, ap₂, subst, mul-le-mul_left, mul-le-mul_right, add-one, lt-ltb, le-ltb, arith}
use Rattle.std.specs.Option.{option_map_or}
use Rattle.std.proofs.lemmas.Grind.{div_ceil_times}
use Rattle.std.proofs.lemmas.Bool.{and_left, and_right, cond-true, cond-false, cases_Bool, cases_lt, le-leb, true≢false}
use Rattle.std.proofs.Math.Nat.{div-mul-le_self}
use Rattle.std.proofs.lemmas.Nat.{le-div}
use Rattle.lab_model.specs.Film.{Film, bitrate_of, rungs_of, size_of}
use Rattle.lab_model.specs.Rates.{rate_of}
use Rattle.lab_model.specs.Ladder.{greatest_rung}
use Rattle.lab_model.proofs.Rungs.{greatest_more}
use Rattle.network_clock.specs.declared.job.Job.{Job}
use Rattle.network_clock.specs.Network.{first_on, job_on, start_job}
use Rattle.network_clock.proofs.Laws.{job_apart, left_falls}
use Rattle.abandonment.specs.Progress.{Received}
use Rattle.abandonment.specs.Test.{IsEnough, abandonment, is_better, is_due, is_due_ms, is_late, left_of, rate_now, target_of}
use Rattle.player_core.specs.State.{Case, Download}
use Rattle.player_core.specs.Parts.{bit_ms_of, got_of, progress_of}
use Rattle.player_core.specs.Ready.{KeepsFor}
use Rattle.player_core.specs.Sound.{IsCase, DownloadRuns, asked_size}
use Rattle.player_core.specs.Quiet.{IsHeldFrom, IsKeptAt, running_at}
use Rattle.player_core.proofs.Runs.{bit_ms_is}

-- a rung that passes is at most the greatest that does
greatest_least : (passes : ℕ → Bool) (q count : ℕ) → passes q ≡ true → q < count → q ≤ greatest_rung passes count
greatest_least passes q zero passed low = absurd (omega (arith, low))
greatest_least passes q (suc n) passed low =
    let more = ap (greatest_rung passes) (sym (add-one n)) ∙ greatest_more passes n in
    ⊎_elim
    (λ (last : passes n ≡ true). let here = cond-true (passes n) n (greatest_rung passes n) last in omega (arith, more, here, low))
    (λ (not_last : passes n ≡ false).
    let here = cond-false (passes n) n (greatest_rung passes n) not_last in
    let other : q ≡ n → ⊥ = λ e. true≢false (sym passed ∙ ap passes e ∙ not_last) in
    let before = greatest_least passes q n passed (omega (arith, low, other)) in
    omega (arith, more, here, before))
    (cases_Bool (passes n))

module _ (f : Film) (segment rung : ℕ) (p : Received) where
  -- where no test is due, none gives the download up
  not_due : is_due p ≡ false → abandonment f segment rung p ≡ None
  not_due off =
      cond-false ((is_due p && is_late f segment rung p) && is_better f segment rung p) (Some (target_of f p)) None
      (and_left (is_due p && is_late f segment rung p) (is_better f segment rung p) (and_left (is_due p) (is_late f segment rung p) off))

  -- nor where the target is no lower
  not_lower : rung ≤ target_of f p → abandonment f segment rung p ≡ None
  not_lower low =
      cond-false ((is_due p && is_late f segment rung p) && is_better f segment rung p) (Some (target_of f p)) None
      (and_right (is_due p && is_late f segment rung p) (is_better f segment rung p)
      (and_left (ltb (target_of f p) rung) (ltb (size_of f segment (target_of f p)) (left_of f segment rung p)) (le-ltb (target_of f p) rung low)))

  -- the lowest rung is kept
  pub lowest_kept : rung ≡ 0 → abandonment f segment rung p ≡ None
  lowest_kept lowest = not_lower (omega (arith, lowest))

  -- a target keeps it below which all rungs are as large as what is still to come
  pub held_kept : (got from : ℕ) → IsHeldFrom f segment rung got from → got ≤ p.got → from ≤ target_of f p → abandonment f segment rung p ≡ None
  held_kept got from holds more reached =
      ⊎_elim
      (λ (lower : target_of f p < rung).
      let large = holds (target_of f p) reached lower in
      cond-false ((is_due p && is_late f segment rung p) && is_better f segment rung p) (Some (target_of f p)) None
      (and_right (is_due p && is_late f segment rung p) (is_better f segment rung p)
      (and_right (ltb (target_of f p) rung) (ltb (size_of f segment (target_of f p)) (left_of f segment rung p)) (le-ltb (size_of f segment (target_of f p)) (left_of f segment rung p) (omega (arith, large, more))))))
      (λ (same : rung ≤ target_of f p). not_lower same)
      (cases_lt (target_of f p) rung)

  -- a rate that is enough for a rung has no lower target
  pub enough_reaches : (q : ℕ) → q < rungs_of f → IsEnough f q (rate_now p) → q ≤ target_of f p
  enough_reaches q low enough = greatest_least (λ r. leb (10000 * bitrate_of f r) (9 * rate_now p)) q (rungs_of f) (le-leb _ _ enough) low

  -- nor is a download given up that is not late
  pub on_time_kept : is_late f segment rung p ≡ false → abandonment f segment rung p ≡ None
  on_time_kept off =
      cond-false ((is_due p && is_late f segment rung p) && is_better f segment rung p) (Some (target_of f p)) None
      (and_left (is_due p && is_late f segment rung p) (is_better f segment rung p) (and_right (is_due p) (is_late f segment rung p) off))

  -- a download that isn't looked at is kept
  pub early_kept : is_due_ms p.elapsed_ms ≡ false → abandonment f segment rung p ≡ None
  early_kept early = not_due (and_left (is_due_ms p.elapsed_ms) (leb 1 p.bit_ms) early)

  -- nor one of which no millisecond was spent on bits
  pub waiting_kept : p.bit_ms ≡ 0 → abandonment f segment rung p ≡ None
  waiting_kept none = not_due (and_right (is_due_ms p.elapsed_ms) (leb 1 p.bit_ms) (ap (leb 1) none))

-- no fewer bits in no more milliseconds have no lower rate
rate_least : (got more ms most : ℕ) → got ≤ more → 1 ≤ ms → ms ≤ most → 1000 * got / most ≤ rate_of more ms
rate_least got more ms most low some few =
    let rate = 1000 * got / most in
    let whole = div-mul-le_self (1000 * got) most in
    let fewer : ms * rate ≤ most * rate = mul-le-mul_right rate few in
    let there : rate ≤ 1000 * more / ms = le-div rate (1000 * more) ms some (omega (arith, whole, fewer, low)) in
    omega (arith, there)

-- bits that come in so few milliseconds come at a rate that is no lower than this
pub rate_within : (got more ms least : ℕ) → 1 ≤ least → got ≤ more → 1 ≤ ms → ms ≤ 1000 * got / least → least ≤ rate_of more ms
rate_within got more ms least low no_fewer some few =
    let whole = div-mul-le_self (1000 * got) least in
    let within : least * ms ≤ least * (1000 * got / least) = mul-le-mul_left least few in
    let there : least ≤ 1000 * more / ms = le-div least (1000 * more) ms some (omega (arith, whole, within, no_fewer)) in
    omega (arith, there)

-- what is spared at a rate is enough for what is left, and so it is at a greater one
spared_more : (spent k later left less low rate : ℕ) → 5000 * left < k * low → later ≤ spent → less ≤ left → low ≤ rate → later * rate + 5000 * less ≤ (spent + k) * rate
spared_more spent k later left less low rate enough early fewer more =
    let one : later * rate ≤ spent * rate = mul-le-mul_right rate early in
    let two : low * k ≤ rate * k = mul-le-mul_right k more in
    omega (arith, one, two, enough, fewer)

spared_from : (all spent later left less low rate : ℕ) → 5000 * left < (all - spent) * low → later ≤ spent → less ≤ left → low ≤ rate → later * rate + 5000 * less ≤ all * rate
spared_from all spent later left less low rate enough early fewer more =
    ⊎_elim
    (λ (past : all < spent). let none : all - spent ≡ 0 = omega (arith, past) in let zero_left = ap (λ n. n * low) none in absurd (omega (arith, enough, zero_left)))
    (λ (within : spent ≤ all). let whole : spent + (all - spent) ≡ all = omega (arith, within) in subst (λ n. later * rate + 5000 * less ≤ n * rate) whole (spared_more spent (all - spent) later left less low rate enough early fewer more))
    (cases_lt all spent)

-- a download is not late where at the end of so many milliseconds the bits that have come would keep it from that
pub on_time_within : (f : Film) (segment rung got bit_ms elapsed : ℕ) (p : Received) → 5000 * (size_of f segment rung - got) < (9 * f.seg_ms - 5 * elapsed) * (1000 * got / bit_ms) → got ≤ p.got → p.bit_ms ≤ bit_ms → p.elapsed_ms ≤ elapsed
    → abandonment f segment rung p ≡ None
on_time_within f segment rung got bit_ms elapsed p enough more few soon =
    ⊎_elim
    (λ (begun : 0 < p.bit_ms).
    let rate = rate_now p in
    let low = rate_least got p.got p.bit_ms bit_ms more (omega (arith, begun)) few in
    let spared = spared_from (9 * f.seg_ms) (5 * elapsed) (5 * p.elapsed_ms) (size_of f segment rung - got) (left_of f segment rung p) (1000 * got / bit_ms) rate enough (omega (arith, soon)) (omega (arith, more)) low in
    on_time_kept f segment rung p (le-ltb (9 * f.seg_ms * rate) (5 * (p.elapsed_ms * rate + 1000 * left_of f segment rung p)) (omega (arith, spared))))
    (λ (none : p.bit_ms ≤ 0). waiting_kept f segment rung p (omega (arith, none)))
    (cases_lt 0 p.bit_ms)

-- a download that runs has no fewer bits later, and one millisecond on bits more for each at most
module _ (c : Case) (is : IsCase c) (t m : ℕ) (d : Download) (runs : DownloadRuns c t d) (later : t ≤ m) where
  left_later : (running_at c m d).job.left ≤ d.job.left
  left_later =
      let asked = runs.asked in
      let bits = start_job (asked_size c d) in
      let parts : m - d.asked ≡ (t - d.asked) + (m - t) = omega (arith, asked, later) in
      let whole = ap (λ (j : Job). j.left) (ap (λ n. job_on c.network d.asked n bits) parts ∙ job_apart c.network d.asked (t - d.asked) (m - t) bits) in
      let falls = left_falls c.network (d.asked + (t - d.asked)) (m - t) (job_on c.network d.asked (t - d.asked) bits) in
      let here = ap (λ (j : Job). j.left) runs.job in
      omega (arith, whole, falls, here)

  -- it has no fewer bits
  pub got_later : got_of c.film d ≤ got_of c.film (running_at c m d)
  got_later = let left = left_later in grind (arith, div_ceil_times, left)

  -- and at most so many more milliseconds from the first one spent on bits
  pub bit_ms_later : bit_ms_of m (running_at c m d) ≤ bit_ms_of t d + (m - t)
  bit_ms_later =
      let first = first_on c.network d.asked (asked_size c d) in
      let here = bit_ms_is c is t d runs in
      ⊎_elim
      (λ (past : first < m). let there = ap (λ o. option_map_or (λ f. m - f) o 0) (cond-true (ltb first m) (Some first) None (lt-ltb first m past)) in omega (arith, here, there))
      (λ (ahead : m ≤ first). let there = ap (λ o. option_map_or (λ f. m - f) o 0) (cond-false (ltb first m) (Some first) None (le-ltb first m ahead)) in omega (arith, here, there))
      (cases_lt first m)

-- what a running download is at its instant is what it is from its request on
pub running_is : (c : Case) (t : ℕ) (d : Download) → DownloadRuns c t d → d ≡ running_at c t d
running_is c t d runs = ap₂ (λ j o. record d { job = j; first = o }) runs.job runs.first

-- where no test gives a download up for so many milliseconds, none does for fewer
pub keeps_less : (f : Film) (t : ℕ) (d : Download) (ms fewer : ℕ) → KeepsFor f t d ms → fewer ≤ ms → KeepsFor f t d fewer
keeps_less f t d ms fewer keeps less = λ p more few soon some. keeps p more (omega (arith, few, less)) (omega (arith, soon, less)) (omega (arith, some, less))

-- where no test gives a download up for so many milliseconds, whatever bits come, and where none is due for some after them, it is kept
pub kept_until : (c : Case) → IsCase c → (t kept due : ℕ) (d : Download) → DownloadRuns c t d
    → KeepsFor c.film t d kept
    → ((n : ℕ) → (t + kept) - d.asked < n → n < ((t + kept) - d.asked) + due → is_due_ms n ≡ false)
    → (m : ℕ) → t < m → m < t + (kept + due) → IsKeptAt c m d
kept_until c is t kept due d runs keeps early m after before =
    let p = progress_of c.film m (running_at c m d) in
    let asked = runs.asked in
    ⊎_elim
    (λ (late : t + kept < m). early_kept c.film d.segment d.rung p (early (m - d.asked) (omega (arith, late, asked)) (omega (arith, late, before, asked))))
    (λ (soon : m ≤ t + kept).
    let got = got_later c is t m d runs (omega (arith, after)) in
    let bits = bit_ms_later c is t m d runs (omega (arith, after)) in
    keeps p got (omega (arith, bits, soon, after)) (omega (arith, soon, after, asked)) (omega (arith, soon, after)))
    (cases_lt (t + kept) m)
