use Rattle.std.proofs.Common.{◌≡◌, ℕ, ◌+◌, ◌≤◌, ◌<◌, None, Some, IfSome, option_map, sym, ap, subst, arith}
use Rattle.network_clock.specs.Network.{done_on}
use Rattle.player_core.specs.Course.{case_on}
use Rattle.player_core.specs.Sound.{DownloadRuns, asked_size}
use Rattle.player_core.specs.Quiet.{IsKeptAt}
use Rattle.player_core.specs.Seen.{IsTimed, download_of, seen}
use Rattle.player_core.proofs.Stretch.{untouched_less}
use Rattle.player_core.proofs.body.Body.quiet_ms.Goals as goal

pub returns-in-Some-clause-some : goal.returns-in-Some-clause-some
returns-in-Some-clause-some c = omega (arith, c.untouched_ms.ensures.some, c.seek_in.ensures.some, c.quiet_ms.ensures.some, c.min-own.ensures, c.min.ensures)

pub returns-in-Some-clause-quiet : goal.returns-in-Some-clause-quiet
returns-in-Some-clause-quiet c = λ knows kind history is running.
    let k = case_on c.args.course.now kind in
    let q = seen c.args.self.now history in
    let ms = c.min.result in
    let d = download_of c.in-Some.d in
    let some : 1 ≤ ms = returns-in-Some-clause-some c in
    let runs : Some d ≡ q.download = sym (ap (option_map download_of) c.in-Some.is) in
    let run : DownloadRuns k q.t d = subst (λ o. IfSome o (DownloadRuns k q.t)) (sym runs) running in
    let done = (subst (IsTimed k.film k.network) c.in-Some.is knows).1 in
    let arrives : q.t + ms ≤ done_on k.network d.asked (asked_size k d) = omega (arith, done, c.quiet_ms.ensures.arrives, c.min.ensures) in
    record {
      untouched = untouched_less k q c.untouched_ms.result ms (c.untouched_ms.ensures.untouched kind history) some (omega (arith, c.min-own.ensures, c.min.ensures));
      arrives = subst (λ o. IfSome o (λ e. q.t + ms ≤ done_on k.network e.asked (asked_size k e))) runs arrives;
      keeps = λ on. subst (λ o. IfSome o (λ e. (m : ℕ) → q.t < m → m < q.t + ms → IsKeptAt k m e)) runs
          (λ m after low. c.quiet_ms.ensures.keeps on kind is run m after (omega (arith, low, c.min.ensures)));
      seeks = λ m after low. c.seek_in.ensures.none_before m after (omega (arith, low, c.min-own.ensures, c.min.ensures));
    }

pub returns-in-None-clause-some : goal.returns-in-None-clause-some
returns-in-None-clause-some c = omega (arith, c.untouched_ms.ensures.some, c.seek_in.ensures.some, c.min-own.ensures)

pub returns-in-None-clause-quiet : goal.returns-in-None-clause-quiet
returns-in-None-clause-quiet c = λ knows kind history is running.
    let k = case_on c.args.course.now kind in
    let q = seen c.args.self.now history in
    let ms = c.min-own.result in
    let runs : None ≡ q.download = sym (ap (option_map download_of) c.in-None.is) in
    record {
      untouched = untouched_less k q c.untouched_ms.result ms (c.untouched_ms.ensures.untouched kind history) (returns-in-None-clause-some c) (omega (arith, c.min-own.ensures));
      arrives = subst (λ o. IfSome o (λ e. q.t + ms ≤ done_on k.network e.asked (asked_size k e))) runs tt;
      keeps = λ on. subst (λ o. IfSome o (λ e. (m : ℕ) → q.t < m → m < q.t + ms → IsKeptAt k m e)) runs tt;
      seeks = λ m after low. c.seek_in.ensures.none_before m after (omega (arith, low, c.min-own.ensures));
    }
