-- A whole turn of the joint session from event to event: what can come after an instant, and what a calm stretch leaves.
use Rattle.std.proofs.Common.{◌≡◌, ◌∙◌, ℕ, suc, ◌+◌, ◌-◌, ◌<◌, ◌≤◌, true, false, eqb, List, length, get_or, Option, Some, None, IfSome, option_map, refl, sym, ap, subst, ⊎_elim, arith}
use Rattle.network_clock.specs.Limits.{most_left}
use Rattle.std.specs.List.{All}
use Rattle.std.specs.Option.{option_map_or}
use Rattle.std.proofs.lemmas.Bool.{cases_Bool, cases_lt, cond-true, eqb-false, false_from_ne_true, true≢false}
use Rattle.lab_model.specs.declared.trace.Period.{Period}
use Rattle.lab_model.specs.Film.{IsWithin}
use Rattle.lab_model.specs.Rules.{RuleKind, fixed}
use Rattle.network_clock.specs.Network.{first_at, first_on, job_on, lands_on, lane_at, period_at, spends, start_job}
use Rattle.network_clock.proofs.Downloads.{first_found, first_from, first_same}
use Rattle.network_clock.proofs.Laws.{job_apart, left_after}
use Rattle.player_core.specs.declared.body.Body.{Body}
use Rattle.player_core.specs.declared.course.Course.{Course}
use Rattle.player_core.specs.declared.running.Running.{Running}
use Rattle.player_core.specs.Limits.{latest_ms}
use Rattle.player_core.specs.Parts.{instant, is_ended, pass_in, pass_ms, takes_any}
use Rattle.player_core.specs.Quiet.{IsUntouched, glides}
use Rattle.player_core.specs.Seen.{CanGlide, CanIdle, CanTake, IsTimed, KnowsEnd, StandsFor, download_of, mode_of, seen}
use Rattle.player_core.specs.Session.{ends_at, player_after}
use Rattle.player_core.specs.Sound.{IsCase, DownloadRuns, asked_size}
use Rattle.player_core.specs.State.{Case, Download, Player}
use Rattle.player_core.proofs.Follow.{Now, body_instant, body_sound, glide_ready, idle_ready, take_ready}
use Rattle.player_core.proofs.Players.{pass_t, player_next}
use Rattle.player_core.proofs.Soundness.{IsOpen, pass_sound}
use Rattle.player_core.proofs.Stretch.{next_ahead, pass_next, stretch}
use Rattle.player_core.proofs.Waits.{passes_passed}
use Rattle.shared_link.specs.Calm.{AllGlide, AreCalm, CanCome, CanRestTogether, Glides, IsCalm, StaysCalm, lane_case, takers_at}
use Rattle.shared_link.specs.Joint.{IsJoint, all_end_at, case_at, instants, players_after}
use Rattle.shared_link.specs.Laws.{own_case, share_at}
use Rattle.shared_link.specs.Table.{AllPass, BodyGoesOn, HasEnded, IsPlainCourse, joint_on_course}
use Rattle.shared_link.proofs.Stretches.{calm_ended, calm_player, calm_whole}
use Rattle.shared_link.proofs.Ended.{each_from_all, one_goes}
use Rattle.shared_link.proofs.Own.{going_before, own, own_instant, own_is_case}
use Rattle.shared_link.proofs.Top.{AtTop, Sit, own_at, own_goes, own_now, own_sound, own_still, plain_case, players_next, some_of}

-- at the top of a turn not all have ended after an earlier instant, and each turn took a millisecond
pub record AtEvent {R : Type 0} (kind : R → RuleKind) (stands_for : R → List ℕ → Type 0) (o : Course) (kinds : List RuleKind) (turns n : ℕ) (bs : List Body) (rs : List R) : Type 0 where
  pub top : AtTop kind stands_for o kinds n bs rs
  pub later : turns ≤ n

-- ---- what a turn needs of a body

left_of : (o : Option Running) → IfSome (option_map download_of o) (λ d. eqb d.job.left 0 ≡ false) → IfSome o CanTake → IfSome o (λ r. IsWithin 1 most_left r.job.left)
left_of None some can = tt
left_of (Some r) some can = let none = eqb-false r.job.left 0 some in let most = can.left in (omega (arith, none), most)

module _ (c : Case) (is : IsCase c) (n : ℕ) (d : Download) (runs : DownloadRuns c n d) where
  -- a download whose millisecond is not spent on bits begins later
  begins_later : spends (c.network n) d.job ≡ false → n < first_on c.network d.asked (asked_size c d)
  begins_later delay =
      let net = c.network in
      let bits = asked_size c d in
      let first = first_on net d.asked bits in
      let from = first_from net d.asked bits in
      ⊎_elim (λ (early : n < first). early)
      (λ (late : first ≤ n).
      let asked = runs.asked in
      let spent = (first_found net is.network is.short d.asked bits).1 in
      let after = (left_after net first (n - first) (job_on net d.asked (first - d.asked) (start_job bits)) spent).0 in
      let there : first + (n - first) ≡ n = omega (arith, late) in
      let begin : d.asked + (first - d.asked) ≡ first = omega (arith, from) in
      let parts : (first - d.asked) + (n - first) ≡ n - d.asked = omega (arith, from, late) in
      let whole : job_on net first (n - first) (job_on net d.asked (first - d.asked) (start_job bits)) ≡ d.job =
      ap (λ m. job_on net m (n - first) (job_on net d.asked (first - d.asked) (start_job bits))) (sym begin)
      ∙ sym (job_apart net d.asked (first - d.asked) (n - first) (start_job bits)) ∙ ap (λ m. job_on net d.asked m (start_job bits)) parts ∙ sym runs.job in
      absurd (true≢false (sym (ap (λ m. spends (net m) (job_on net first (n - first) (job_on net d.asked (first - d.asked) (start_job bits)))) (sym there) ∙ after) ∙ ap (λ k. spends (net n) k) whole ∙ delay)))
      (cases_lt n first)

module _ (o : Course) (kinds : List RuleKind) (is : IsJoint (joint_on_course o kinds)) (plain : IsPlainCourse o) where
  begins_of : (i n : ℕ) → i < length kinds → (r : Option Running) → IfSome (option_map download_of r) (DownloadRuns (own_case (joint_on_course o kinds) i) n) → IsTimed o.scene.now.film (period_at o.scene.now.periods) r
      → IfSome r (λ r. spends (period_at o.scene.now.periods n) r.job ≡ false → n < r.begins)
  begins_of i n low None runs knows = tt
  begins_of i n low (Some r) runs knows = λ delay.
      let j = joint_on_course o kinds in
      let c = own_case j i in
      let case = own_is_case j is i low in
      let d = download_of r in
      let later = begins_later c case n d runs delay in
      let first = first_same (share_at j) (period_at j.periods) case.network case.short (λ s. refl) d.asked (asked_size c d) in
      let begins = knows.0 in
      omega (arith, later, first, begins)

  -- the milliseconds of a body can be counted
  pub can_rest : (i n : ℕ) → i < length kinds → (b : Body) → StandsFor (instants (joint_on_course o kinds) (players_after (joint_on_course o kinds) n) i) b → KnowsEnd o b → BodyGoesOn b → (b.t ≡ n) × CanRestTogether o (period_at o.scene.now.periods n) b
  can_rest i n low b stands knows on =
      let j = joint_on_course o kinds in
      let c = own_case j i in
      let case = own_is_case j is i low in
      let q = instant c (player_after c n) in
      let now = own_now o kinds is plain i n low b stands on in
      let alive = (own_sound o kinds is plain i n low b stands on).1 in
      let at : b.t ≡ n = body_instant c n (n + 1) q b now in
      let sound = body_sound c n (n + 1) q b now in
      let runs : IfSome (option_map download_of b.download) (DownloadRuns c n) = subst (λ s. IfSome (option_map download_of b.download) (DownloadRuns c s)) at sound.running in (
        at,
        record {
          idles = subst (λ a. CanIdle o.scene.now.film o.scene.now.setup a b) (sym plain.ahead) (idle_ready c case n (n + 1) q b now (own_still o kinds is plain i n low b stands on));
          left = left_of b.download (subst IsOpen (sym now.same) alive) (take_ready c case n (n + 1) q b now);
          begins = subst (λ s. IfSome b.download (λ r. spends (period_at o.scene.now.periods n) r.job ≡ false → s < r.begins)) (sym at) (begins_of i n low b.download runs knows);
        },
      )

  -- ---- the stretch is calm

  lands_of : (lane : ℕ → Period) (n until : ℕ) (r : Option Running) → n < until → IfSome r (λ r. spends (period_at o.scene.now.periods n) r.job ≡ true → until ≤ lands_on lane n r.job)
      → option_map_or (λ (d : Download). spends (period_at o.scene.now.periods n) d.job) (option_map download_of r) false ≡ true → IfSome (option_map download_of r) (λ d. n + (until - n) ≤ lands_on lane n d.job)
  lands_of lane n until None later h spent = tt
  lands_of lane n until (Some r) later h spent = let most = h spent in omega (arith, later, most)

  waits_of : (n until : ℕ) (r : Option Running) → n < until → IfSome r (λ r. spends (period_at o.scene.now.periods n) r.job ≡ false → until ≤ r.begins) → IsTimed o.scene.now.film (period_at o.scene.now.periods) r
      → option_map_or (λ (d : Download). spends (period_at o.scene.now.periods n) d.job) (option_map download_of r) false ≡ false
      → IfSome (option_map download_of r) (λ d. n + (until - n) ≤ first_at o.scene.now.periods d.asked (asked_size (case_at (joint_on_course o kinds) 0) d))
  waits_of n until None later h knows delay = tt
  waits_of n until (Some r) later h knows delay = let most = h delay in let begins = knows.0 in omega (arith, later, most, begins)

  -- where it is for a body, it is for its player
  calm_of : (i n takers until : ℕ) → (b : Body) (q : Player) → StandsFor q b → KnowsEnd o b → b.t ≡ n → StaysCalm o takers until b → IsCalm (joint_on_course o kinds) takers n (until - n) (case_at (joint_on_course o kinds) i) q
  calm_of i n takers until b q stands knows at calm =
      let j = joint_on_course o kinds in
      let kind = get_or kinds i (fixed 0) in
      let past = calm.later in
      let later : n < until = omega (arith, past, at) in
      let download = ap (λ (p : Player). p.download) stands in
      let own = calm.untouched kind q.history in
      record {
        untouched = subst (λ s. IsUntouched (case_at j i) q (until - s)) at (subst (λ p. IsUntouched (case_at j i) p (until - b.t)) stands (subst (λ a. IsUntouched a (seen b q.history) (until - b.t)) (plain_case o plain kind) own));
        lands = subst (λ d. option_map_or (λ (e : Download). spends (period_at o.scene.now.periods n) e.job) d false ≡ true → IfSome d (λ e. n + (until - n) ≤ lands_on (lane_at o.scene.now.periods takers) n e.job)) download
            (lands_of (lane_at o.scene.now.periods takers) n until b.download later (subst (λ s. IfSome b.download (λ r. spends (period_at o.scene.now.periods s) r.job ≡ true → until ≤ lands_on (lane_at o.scene.now.periods takers) s r.job)) at calm.lands));
        begins = subst (λ d. option_map_or (λ (e : Download). spends (period_at o.scene.now.periods n) e.job) d false ≡ false → IfSome d (λ e. n + (until - n) ≤ first_at o.scene.now.periods e.asked (asked_size (case_at j i) e))) download
            (waits_of n until b.download later (subst (λ s. IfSome b.download (λ r. spends (period_at o.scene.now.periods s) r.job ≡ false → until ≤ r.begins)) at calm.begins) knows);
      }

  module _ {R : Type 0} (kind : R → RuleKind) (stands_for : R → List ℕ → Type 0) (n takers until : ℕ) (bs : List Body) (rs : List R)
      (sit : Sit kind stands_for o kinds (instants (joint_on_course o kinds) (players_after (joint_on_course o kinds) n)) bs rs) where
    -- the milliseconds of each body can be counted
    pub all_can_rest : (i : ℕ) (b : Body) → i < length bs → BodyGoesOn (get_or bs i b) → ((get_or bs i b).t ≡ n) × CanRestTogether o (period_at o.scene.now.periods n) (get_or bs i b)
    all_can_rest i b low on =
        let count = sit.count in
        let inside : i < length kinds = omega (arith, low, count) in
        can_rest i n inside (get_or bs i b) (sit.stand i b low) (sit.timed i b inside) on

    module _ (same_takers : takers ≡ takers_at (joint_on_course o kinds) n) (stays : All (λ b. BodyGoesOn b → StaysCalm o takers until b) bs) where
      -- the whole stretch is calm
      pub are_calm : AreCalm (joint_on_course o kinds) n (until - n)
      are_calm i low on =
          let j = joint_on_course o kinds in
          let count = sit.count in
          let there : i < length bs = omega (arith, low, count) in
          let b = some_of bs i there in
          let body = get_or bs i b in
          let stands = sit.stand i b there in
          let goes : BodyGoesOn body = ap (λ (p : Player). is_ended p.mode) stands ∙ on in
          let rest = all_can_rest i b there goes in
          subst (λ k. IsCalm j k n (until - n) (case_at j i) (instants j (players_after j n) i)) same_takers
          (calm_of i n takers until body (instants j (players_after j n) i) stands (sit.timed i b low) rest.0 (stays i b there goes))

      module _ (later : n < until) (early : n < latest_ms) (most : until ≤ n + latest_ms) where
        some_ms : 1 ≤ until - n
        some_ms = omega (arith, later)

        -- not all have ended before its end
        pub going_on : all_end_at (joint_on_course o kinds) n ≡ false → (k : ℕ) → k < until → all_end_at (joint_on_course o kinds) k ≡ false
        going_on some k low =
            let j = joint_on_course o kinds in
            let one = one_goes (instants j (players_after j n)) (length kinds) some in
            let i = one.0 in
            let inside = one.1 in
            let c = own_case j i in
            let case = own_is_case j is i inside in
            let goes : ends_at c n ≡ false = sym (ap (λ (p : Player). is_ended p.mode) (own_instant j is i inside n)) ∙ one.2 in
            let law = (stretch c case n (until - n) (going_before c case n goes) goes (calm_whole j is n (until - n) are_calm i inside goes some_ms)).0 k (omega (arith, low, later)) in
            false_from_ne_true (all_end_at j k)
            (λ over. true≢false (sym (ap (λ (p : Player). is_ended p.mode) (sym (own_instant j is i inside k)) ∙ each_from_all (instants j (players_after j k)) (length kinds) over i inside) ∙ law))

        module _ (mids : List Body) (passed : AllPass o (share_at (joint_on_course o kinds) n) bs mids) (mid : Sit kind stands_for o kinds (players_after (joint_on_course o kinds) (suc n)) mids rs) where
          -- a body that goes on after the millisecond went on before it
          mid_goes : (i : ℕ) (b : Body) → i < length kinds → BodyGoesOn (get_or mids i b) → BodyGoesOn (get_or bs i b)
          mid_goes i b inside on =
              let count = sit.count in
              let pass = passed.each i b (omega (arith, inside, count)) in
              ⊎_elim (λ (over : HasEnded (get_or bs i b)). absurd (true≢false (sym (subst HasEnded (sym (pass.over over)) over) ∙ on)))
              (λ (goes : BodyGoesOn (get_or bs i b)). goes) (cases_Bool (is_ended (mode_of (get_or bs i b).mode)))

          -- each that goes on can come to its end at once
          pub all_can_come : All (λ b. BodyGoesOn b → CanCome until b) mids
          all_can_come i b low on =
              let j = joint_on_course o kinds in
              let count = mid.count in
              let before = sit.count in
              let inside : i < length kinds = omega (arith, low, count) in
              let there : i < length bs = omega (arith, inside, before) in
              let old = get_or bs i b in
              let new = get_or mids i b in
              let stands = sit.stand i b there in
              let goes = mid_goes i b inside on in
              let c = own_case j i in
              let case = own_is_case j is i inside in
              let q = instant c (player_after c n) in
              let ends = own_goes o kinds is plain i n inside old stands goes in
              let both = own_sound o kinds is plain i n inside old stands goes in
              let at = own_at o kinds is plain i n inside old stands goes in
              let next : players_after j (suc n) i ≡ pass_ms c q = own j is i inside (suc n) ∙ player_next c n ends in
              let now : Now c (n + 1) (n + 1) (pass_ms c q) new = record {
                sound = pass_sound c case (n + 1) q both.0 both.1 ends;
                instant = pass_t c q ∙ ap (λ s. s + 1) at;
                same = subst (λ p. StandsFor p new) next (mid.stand i b low);
              } in
              let t : new.t ≡ n + 1 = body_instant c (n + 1) (n + 1) (pass_ms c q) new now in
              let quiet = calm_whole j is n (until - n) are_calm i inside ends some_ms in
              let less : (until - n) - 1 ≡ until - new.t = omega (arith, t) in
              record {
                later = omega (arith, t, later);
                glides = subst (CanGlide new) less
                    (glide_ready c case (n + 1) (n + 1) ((until - n) - 1) (pass_ms c q) new (omega (arith, early)) (omega (arith, most)) now
                    (next_ahead c case (n + 1) q (pass_ms c q) (until - n) both.0 ends (own_still o kinds is plain i n inside old stands goes) quiet (pass_next c q ends)));
              }

          -- a body at the end of the stretch stands for the player there
          glide_stands : (i : ℕ) (b : Body) → i < length kinds → (new : Body) → Glides o takers until (get_or mids i b) new → StandsFor (players_after (joint_on_course o kinds) until i) new
          glide_stands i b inside new glide =
              let j = joint_on_course o kinds in
              let count = mid.count in
              let before = sit.count in
              let there : i < length bs = omega (arith, inside, before) in
              let on_time : i < length mids = omega (arith, inside, count) in
              let old = get_or bs i b in
              let body = get_or mids i b in
              let stands = mid.stand i b on_time in
              let c = own_case j i in
              let case = own_is_case j is i inside in
              let q = instant c (player_after c n) in
              let here = own_instant j is i inside n in
              let whole : n + (until - n) ≡ until = omega (arith, later) in
              let was : StandsFor (instants j (players_after j n) i) old = sit.stand i b there in
              let mode : is_ended (mode_of old.mode) ≡ ends_at c n = ap (λ (p : Player). is_ended p.mode) (was ∙ here) in
              let pass = passed.each i b there in
              ⊎_elim
              (λ (over : ends_at c n ≡ true).
              let same : body ≡ old = pass.over (mode ∙ over) in
              let ended : HasEnded body = subst HasEnded (sym same) (mode ∙ over) in
              subst (λ p. StandsFor p new) (sym (calm_ended j is n (until - n) are_calm i inside over some_ms) ∙ ap (λ m. players_after j m i) whole)
              (subst (StandsFor (instants j (players_after j n) i)) (sym (glide.over ended ∙ same)) was))
              (λ (goes : ends_at c n ≡ false).
              let kind = get_or kinds i (fixed 0) in
              let next : players_after j (suc n) i ≡ pass_ms c q = own j is i inside (suc n) ∙ player_next c n goes in
              let r = pass_ms c q in
              let same : StandsFor r body = subst (λ p. StandsFor p body) next stands in
              let q_on : is_ended (instants j (players_after j n) i).mode ≡ false = ap (λ (p : Player). is_ended p.mode) here ∙ goes in
              let at : r.t ≡ n + 1 = pass_t c q ∙ ap (λ s. s + 1) (own_at o kinds is plain i n inside old was (mode ∙ goes)) in
              let time : body.t ≡ r.t = ap (λ (p : Player). p.t) same in
              let on : BodyGoesOn body = ap (λ (p : Player). is_ended p.mode) same ∙ ap is_ended (passes_passed c (takes_any c q) q.mode).mode ∙ goes in
              let less : until - body.t ≡ (until - n) - 1 = omega (arith, time, at) in
              let glided = glide.glides on (mid.timed i b inside) kind r.history in
              let seen_there = subst (λ (p : Player). seen new (glides (lane_case o takers kind) (until - body.t) p).history ≡ glides (lane_case o takers kind) (until - body.t) p) same glided in
              let in_case = subst (λ (a : Case). seen new r.history ≡ glides (record a { network = λ s. lane_at o.scene.now.periods takers s }) (until - body.t) r) (plain_case o plain kind) seen_there in
              let in_time = subst (λ m. seen new r.history ≡ glides (record (case_at j i) { network = λ s. lane_at o.scene.now.periods takers s }) m r) less in_case in
              let in_lane = subst (λ k. seen new r.history ≡ glides (record (case_at j i) { network = λ s. lane_at o.scene.now.periods k s }) ((until - n) - 1) r) same_takers in_time in
              let law = calm_player j is n (until - n) are_calm i inside goes some_ms in
              subst (λ p. StandsFor p new) (sym law ∙ ap (λ m. players_after j m i) whole) in_lane)
              (cases_Bool (ends_at c n))

          -- on the way the rule was told nothing
          glide_told : (i : ℕ) → i < length kinds → (players_after (joint_on_course o kinds) until i).history ≡ (players_after (joint_on_course o kinds) (suc n) i).history
          glide_told i inside =
              let j = joint_on_course o kinds in
              let c = own_case j i in
              let q = instant c (player_after c n) in
              let here = own_instant j is i inside n in
              let whole : until ≡ n + (until - n) = omega (arith, later) in
              ap (λ m. (players_after j m i).history) whole
              ∙ ⊎_elim
              (λ (over : ends_at c n ≡ true).
              let q_over : is_ended (instants j (players_after j n) i).mode ≡ true = ap (λ (p : Player). is_ended p.mode) here ∙ over in
              let stays = cond-true (is_ended (instants j (players_after j n) i).mode) (instants j (players_after j n) i) (pass_in (case_at j i) (share_at j n) (instants j (players_after j n) i)) q_over in
              ap (λ (p : Player). p.history) (calm_ended j is n (until - n) are_calm i inside over some_ms ∙ sym stays ∙ sym (players_next j n i)))
              (λ (goes : ends_at c n ≡ false).
              let next : players_after j (suc n) i ≡ pass_ms c q = own j is i inside (suc n) ∙ player_next c n goes in
              ap (λ (p : Player). p.history) (calm_player j is n (until - n) are_calm i inside goes some_ms) ∙ ap (λ (p : Player). p.history) (sym next))
              (cases_Bool (ends_at c n))

          -- so do all, and the rules
          pub top_glided : (news : List Body) → AllGlide o takers until mids news → Sit kind stands_for o kinds (players_after (joint_on_course o kinds) until) news rs
          top_glided news all =
              let j = joint_on_course o kinds in
              let count = mid.count in
              let longer = all.count in
              record {
                count = longer ∙ count;
                many = mid.many;
                stand = λ i b low.
                    let inside : i < length kinds = omega (arith, low, longer, count) in
                    glide_stands i b inside (get_or news i b) (all.each i b (omega (arith, inside, count)));
                timed = λ i b inside. (all.each i b (omega (arith, inside, count))).timed (mid.timed i b inside);
                ruled = mid.ruled;
                told = λ i r inside. subst (stands_for (get_or rs i r)) (sym (glide_told i inside)) (mid.told i r inside);
              }
