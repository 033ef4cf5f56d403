-- How long nothing happens to a body, and its download at the end of such a stretch.
use Rattle.std.proofs.Common.{◌≡◌, ◌∙◌, ℕ, ◌+◌, ◌-◌, ◌<◌, ◌≤◌, true, false, cond, ltb, List, length, get_or, ⊎_elim, Option, Some, None, IfSome, refl, sym, ap, subst, lt-ltb, le-ltb, arith}
use Rattle.std.proofs.lemmas.Bool.{cases_eq, cond-true, cond-false, true≢false}
use Rattle.std.proofs.lemmas.List.{get_or_read}
use Rattle.lab_model.specs.declared.trace.Period.{Period}
use Rattle.lab_model.specs.Cycle.{IsTrace}
use Rattle.lab_model.specs.Rules.{RuleKind}
use Rattle.network_clock.specs.Network.{first_at, first_on, lands_on, lane_at, period_at, spends}
use Rattle.network_clock.proofs.Downloads.{first_same, lands_free}
use Rattle.network_clock.proofs.Flows.{trace_flows}
use Rattle.player_core.specs.declared.body.Body.{Body}
use Rattle.player_core.specs.declared.course.Course.{Course}
use Rattle.player_core.specs.declared.running.Running.{Running}
use Rattle.player_core.specs.Course.{case_on}
use Rattle.player_core.specs.Quiet.{IsUntouched}
use Rattle.player_core.specs.Seen.{seen}
use Rattle.player_core.proofs.Stretch.{untouched_less}
use Rattle.shared_link.specs.Calm.{StaysCalm}
use Rattle.shared_link.specs.Table.{BodyGoesOn}

module _ (o : Course) (takers until : ℕ) (b : Body) where
  -- where nothing of the body's own happens, and its download neither lands nor begins
  stays_with : (own : ℕ) (d : Option Running) → b.download ≡ d → ((kind : RuleKind) (history : List ℕ) → IsUntouched (case_on o kind) (seen b history) own) → b.t < until → until ≤ b.t + own
      → IfSome d (λ r. spends (period_at o.scene.now.periods b.t) r.job ≡ true → until ≤ lands_on (lane_at o.scene.now.periods takers) b.t r.job)
      → IfSome d (λ r. spends (period_at o.scene.now.periods b.t) r.job ≡ false → until ≤ r.begins) → StaysCalm o takers until b
  stays_with own d download untouched later few lands begins = record {
    later = later;
    untouched = λ kind history. untouched_less (case_on o kind) (seen b history) own (until - b.t) (untouched kind history) (omega (arith, later)) (omega (arith, few));
    lands = subst (λ d. IfSome d (λ r. spends (period_at o.scene.now.periods b.t) r.job ≡ true → until ≤ lands_on (lane_at o.scene.now.periods takers) b.t r.job)) (sym download) lands;
    begins = subst (λ d. IfSome d (λ r. spends (period_at o.scene.now.periods b.t) r.job ≡ false → until ≤ r.begins)) (sym download) begins;
  }

  -- of a body without a download
  pub stays_none : (own : ℕ) → b.download ≡ None → 1 ≤ own → ((kind : RuleKind) (history : List ℕ) → IsUntouched (case_on o kind) (seen b history) own) → until ≡ b.t + own → StaysCalm o takers until b
  stays_none own none some untouched at = stays_with own None none untouched (omega (arith, some, at)) (omega (arith, at)) tt tt

  module _ (own : ℕ) (r : Running) (download : b.download ≡ Some r) (some : 1 ≤ own) (untouched : (kind : RuleKind) (history : List ℕ) → IsUntouched (case_on o kind) (seen b history) own)
      (period : Period) (here : period ≡ period_at o.scene.now.periods b.t) where
    -- of a body that takes bits
    pub stays_taker : (ps : List Period) (lands : ℕ) → ps ≡ o.scene.now.periods → spends period r.job ≡ true → b.t < lands → lands ≡ lands_on (lane_at ps takers) b.t (record { credit = 0; left = r.job.left })
        → b.t < until → until ≤ b.t + own → until ≤ lands → StaysCalm o takers until b
    stays_taker ps lands same spent late is later few most =
        let spent_here : spends (period_at o.scene.now.periods b.t) r.job ≡ true = subst (λ p. spends p r.job ≡ true) here spent in
        let lane_is = is ∙ ap (λ qs. lands_on (lane_at qs takers) b.t (record { credit = 0; left = r.job.left })) same in
        let free = lands_free (lane_at o.scene.now.periods takers) b.t r.job spent_here in
        stays_with own (Some r) download untouched later few (λ s. omega (arith, most, lane_is, free)) (λ delay. absurd (true≢false (sym spent_here ∙ delay)))

    -- and of one whose download waits
    pub stays_waiter : spends period r.job ≡ false → b.t < until → until ≤ b.t + own → until ≤ r.begins → StaysCalm o takers until b
    stays_waiter delay later few most =
        let delay_here : spends (period_at o.scene.now.periods b.t) r.job ≡ false = subst (λ p. spends p r.job ≡ false) here delay in
        stays_with own (Some r) download untouched later few (λ spent. absurd (true≢false (sym spent ∙ delay_here))) (λ d. most)

-- what stays so for some milliseconds does for fewer
pub stays_less : (o : Course) (takers until sooner : ℕ) (b : Body) → StaysCalm o takers until b → b.t < sooner → sooner ≤ until → StaysCalm o takers sooner b
stays_less o takers until sooner b calm later less =
    let past = calm.later in
    record {
      later = later;
      untouched = λ kind history. untouched_less (case_on o kind) (seen b history) (until - b.t) (sooner - b.t) (calm.untouched kind history) (omega (arith, later)) (omega (arith, less));
      lands = lands_less b.download calm.lands;
      begins = begins_less b.download calm.begins;
    }
  where
    lands_less : (d : Option Running) → IfSome d (λ r. spends (period_at o.scene.now.periods b.t) r.job ≡ true → until ≤ lands_on (lane_at o.scene.now.periods takers) b.t r.job)
        → IfSome d (λ r. spends (period_at o.scene.now.periods b.t) r.job ≡ true → sooner ≤ lands_on (lane_at o.scene.now.periods takers) b.t r.job)
    lands_less None h = tt
    lands_less (Some r) h = λ spent. let most = h spent in omega (arith, most, less)

    begins_less : (d : Option Running) → IfSome d (λ r. spends (period_at o.scene.now.periods b.t) r.job ≡ false → until ≤ r.begins) → IfSome d (λ r. spends (period_at o.scene.now.periods b.t) r.job ≡ false → sooner ≤ r.begins)
    begins_less None h = tt
    begins_less (Some r) h = λ delay. let most = h delay in omega (arith, most, less)

-- ---- of several bodies

-- one body more: it has ended, or nothing happens to it so long
pub calm_next : (o : Course) (takers until sooner n t : ℕ) (bs : List Body) (b : Body) → ((i : ℕ) (d : Body) → i < n → BodyGoesOn (get_or bs i d) → StaysCalm o takers until (get_or bs i d)) → ((i : ℕ) (d : Body) → i < length bs → BodyGoesOn (get_or bs i d) → (get_or bs i d).t ≡ t)
    → n < length bs → b ≡ get_or bs n b → t < sooner → sooner ≤ until → (BodyGoesOn b → StaysCalm o takers sooner b)
    → (i : ℕ) (d : Body) → i < n + 1 → BodyGoesOn (get_or bs i d) → StaysCalm o takers sooner (get_or bs i d)
calm_next o takers until sooner n t bs b before times inside here later less now i d low on =
    ⊎_elim
    (λ (last : i ≡ n).
    let place = ap (λ k. get_or bs k d) last in
    let same : b ≡ get_or bs i d = get_or_read bs n b inside here d ∙ sym place in
    subst (StaysCalm o takers sooner) same (now (subst BodyGoesOn (sym same) on)))
    (λ (other : i ≡ n → ⊥).
    let early : i < n = omega (arith, low, other) in
    let at = times i d (omega (arith, early, inside)) on in
    stays_less o takers until sooner (get_or bs i d) (before i d early on) (omega (arith, at, later)) less)
    (cases_eq i n)

-- ---- the first instant spent on bits, at the end of a stretch

module _ (ps : List Period) (trace : IsTrace ps) (takers asked size begins from until : ℕ) (is : begins ≡ first_at ps asked size) (later : from ≤ until) where
  lane_first : begins ≡ first_on (lane_at ps takers) asked size
  lane_first = is ∙ first_same (period_at ps) (lane_at ps takers) (trace_flows ps trace) (omega arith) (λ t. refl) asked size

  -- it is past
  pub first_past : begins < until → Some begins ≡ cond (ltb (first_on (lane_at ps takers) asked size) (from + (until - from))) (Some (first_on (lane_at ps takers) asked size)) None
  first_past past =
      let first = first_on (lane_at ps takers) asked size in
      let same = lane_first in
      ap Some same ∙ sym (cond-true (ltb first (from + (until - from))) (Some first) None (lt-ltb first (from + (until - from)) (omega (arith, past, same, later))))

  -- it is still to come
  pub first_ahead : until ≤ begins → None ≡ cond (ltb (first_on (lane_at ps takers) asked size) (from + (until - from))) (Some (first_on (lane_at ps takers) asked size)) None
  first_ahead ahead =
      let first = first_on (lane_at ps takers) asked size in
      let same = lane_first in
      sym (cond-false (ltb first (from + (until - from))) (Some first) None (le-ltb first (from + (until - from)) (omega (arith, ahead, same, later))))
