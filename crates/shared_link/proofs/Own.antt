-- A joint session is single sessions on one network, the share of the link: so it ends, and of one rule it is that rule's session.
use Rattle.std.proofs.Common.{◌≡◌, ◌∙◌, ℕ, zero, suc, ◌<◌, ◌≤◌, max, true, false, cond, [], ◌∷◌, get_or, refl, sym, ap, subst, ⊎_elim, arith}
use Rattle.std.proofs.lemmas.Bool.{cases_Bool, cases_lt, cond-true, cond-false, false_from_ne_true, true≢false}
use Rattle.std.proofs.lemmas.List.Elements.{All-nil}
use Rattle.lab_model.specs.declared.trace.Period.{Period}
use Rattle.lab_model.specs.declared.context.Seek.{Seek}
use Rattle.lab_model.specs.Film.{segments_of}
use Rattle.lab_model.specs.Rules.{fixed}
use Rattle.lab_model.specs.Seeks.{SeeksFit}
use Rattle.network_clock.specs.Flow.{IsFlowing}
use Rattle.network_clock.specs.Network.{parted, period_at}
use Rattle.network_clock.proofs.Lanes.{lane_whole}
use Rattle.network_clock.proofs.Search.{least_before, least_found, least_same}
use Rattle.network_clock.proofs.Shares.{share_flows}
use Rattle.player_core.specs.Limits.{latest_ms}
use Rattle.player_core.specs.Parts.{instant, is_ended, pass_in, pass_ms, player_ms}
use Rattle.player_core.specs.Session.{end_of, ends_at, last_player, player_after, session_of, shown_by}
use Rattle.player_core.specs.Sound.{IsCase, Sound}
use Rattle.player_core.specs.State.{Case, Player}
use Rattle.player_core.proofs.Counts.{turns_now}
use Rattle.player_core.proofs.Ends.{end_before, end_early, end_found, last_sound, last_t}
use Rattle.player_core.proofs.Over.{after_end}
use Rattle.player_core.proofs.Players.{instant_t, player_sound}
use Rattle.shared_link.specs.Calm.{takers_at}
use Rattle.shared_link.specs.Joint.{IsJoint, JointCase, all_end_at, case_at, instants, joint_end, joint_session, passes, players_after, players_of}
use Rattle.shared_link.specs.Laws.{AloneIsLone, JointEnds, own_case, share_at}
use Rattle.shared_link.proofs.Ended.{all_from_each, each_from_all}
use Rattle.shared_link.proofs.Takers.{takers_few}

-- ---- a session before and after its end

module _ (c : Case) (is : IsCase c) where
  -- at its end a player has ended
  pub last_ended : is_ended (last_player c).mode ≡ true
  last_ended = sym (ap (λ (p : Player). is_ended p.mode) (after_end c is (end_of c) (omega arith))) ∙ end_found c is

  -- an instant after which it has ended is not before its end
  pub end_by : (n : ℕ) → ends_at c n ≡ true → end_of c ≤ n
  end_by n over =
      ⊎_elim (λ (early : n < end_of c). absurd (true≢false (sym over ∙ end_before c n early)))
      (λ (late : end_of c ≤ n). late) (cases_lt n (end_of c))

  -- an instant after which it goes on is before its end
  pub before_end : (n : ℕ) → ends_at c n ≡ false → n < end_of c
  before_end n goes =
      ⊎_elim (λ (early : n < end_of c). early)
      (λ (late : end_of c ≤ n). absurd (true≢false (sym last_ended ∙ sym (ap (λ (p : Player). is_ended p.mode) (after_end c is n late)) ∙ goes))) (cases_lt n (end_of c))

  -- where it goes on after an instant, it went on after each before
  pub going_before : (n : ℕ) → ends_at c n ≡ false → (k : ℕ) → k < n → ends_at c k ≡ false
  going_before n goes k low = let early = before_end n goes in end_before c k (omega (arith, low, early))

  -- after its end the player is the last one, also before the instant
  pub after_last : (n : ℕ) → end_of c < n → player_after c n ≡ last_player c
  unfolding player_after
  after_last zero late = absurd (omega (arith, late))
  after_last (suc n) late =
      let q = instant c (player_after c n) in
      let last = after_end c is n (omega (arith, late)) in
      cond-true (is_ended q.mode) q (pass_ms c q) (ap (λ (p : Player). is_ended p.mode) last ∙ last_ended) ∙ last

  -- at any instant the player is sound, and its own instant is before the latest one
  pub any_sound : (n : ℕ) → (from : ℕ) × Sound c from (player_after c n) × ((player_after c n).t < latest_ms)
  any_sound n =
      let early = end_early c is in
      ⊎_elim
      (λ (late : end_of c < n).
      let same = after_last n late in
      let sound = last_sound c is in
      let at = ap (λ (p : Player). p.t) same ∙ last_t c is in
      (sound.0, subst (Sound c sound.0) (sym same) sound.1, omega (arith, at, early)))
      (λ (before : n ≤ end_of c).
      let sound = player_sound c is n (λ k low. end_before c k (omega (arith, low, before))) in
      let at = sound.1 in
      (n, sound.0, omega (arith, at, before, early)))
      (cases_lt (end_of c) n)

-- ---- the share of the link is a network

no_seeks : (segments : ℕ) → SeeksFit [] segments
no_seeks segments = record {
  count = omega arith;
  instants = All-nil (λ (s : Seek). s.at_ms ≤ 1000000000);
  rising = λ k low. absurd (omega (arith, low));
  targets = All-nil (λ (s : Seek). s.to < segments);
}

module _ (j : JointCase) (is : IsJoint j) where
  -- at most eight take at once
  pub takers_most : (t : ℕ) → takers_at j t ≤ 8
  takers_most t = let few = takers_few (period_at j.periods t) (instants j (players_after j t)) (players_of j) in let most = is.players.1 in omega (arith, few, most)

  -- bits come on the share
  pub own_flows : IsFlowing 1713000000 (share_at j)
  own_flows = share_flows j.periods is.trace (takers_at j) takers_most

  -- each player's case on its share of the link keeps the limits
  pub own_is_case : (i : ℕ) → i < players_of j → IsCase (own_case j i)
  own_is_case i low =
      let n = segments_of j.film in
      let some = is.film.segments.0 in
      let count = is.film.segments.1 in
      let turns = turns_now n 0 32 (omega (arith, some)) in
      record {
        film = is.film;
        longest = 1713000000;
        network = own_flows;
        long = omega arith;
        short = omega arith;
        lasts = omega (arith, turns, count);
        setup = is.setup;
        seeks = no_seeks n;
        ahead = omega arith;
        rule = is.rules i (fixed 0) low;
      }

  -- ---- each player is that of its own session

  module _ (i : ℕ) (low : i < players_of j) where
    passes_own : (n : ℕ) → passes j (share_at j n) i (instant (own_case j i) (player_after (own_case j i) n)) ≡ player_ms (own_case j i) (player_after (own_case j i) n)
    passes_own n =
        let c = own_case j i in
        let q = instant c (player_after c n) in
        ⊎_elim
        (λ (over : is_ended q.mode ≡ true). cond-true (is_ended q.mode) q (pass_in c (share_at j n) q) over ∙ sym (cond-true (is_ended q.mode) q (pass_ms c q) over))
        (λ (goes : is_ended q.mode ≡ false).
        let sound = player_sound c (own_is_case i low) n (going_before c (own_is_case i low) n goes) in
        let at : q.t ≡ n = instant_t c (player_after c n) ∙ sound.1 in
        cond-false (is_ended q.mode) q (pass_in c (share_at j n) q) goes ∙ ap (λ t. pass_in c (share_at j t) q) (sym at) ∙ sym (cond-false (is_ended q.mode) q (pass_ms c q) goes))
        (cases_Bool (is_ended q.mode))

    -- after any number of milliseconds
    pub own : (n : ℕ) → players_after j n i ≡ player_after (own_case j i) n
    unfolding players_after player_after
    own zero = refl
    own (suc n) = ap (λ p. passes j (share_at j n) i (instant (own_case j i) p)) (own n) ∙ passes_own n

    -- and so after the instant
    pub own_instant : (n : ℕ) → instants j (players_after j n) i ≡ instant (own_case j i) (player_after (own_case j i) n)
    own_instant n = ap (instant (own_case j i)) (own n)

  -- ---- joint sessions end

  ends_by : (n : ℕ) → n ≤ players_of j → (e : ℕ) × (e < latest_ms) × ((i : ℕ) → i < n → end_of (own_case j i) ≤ e)
  ends_by zero few = (0, omega arith, λ i low. absurd (omega arith))
  ends_by (suc n) few =
      let before = ends_by n (omega (arith, few)) in
      let here = end_early (own_case j n) (own_is_case n (omega (arith, few))) in
      let early = before.1 in (
        max before.0 (end_of (own_case j n)),
        omega (arith, early, here),
        λ i low. ⊎_elim (λ (less : i < n). let most = before.2 i less in omega (arith, most))
            (λ (last : n ≤ i). let same : i ≡ n = omega (arith, low, last) in let at = ap (λ k. end_of (own_case j k)) same in omega (arith, at)) (cases_lt i n),
      )

  -- at an instant by which each session has ended all have
  all_by : (e : ℕ) → ((i : ℕ) → i < players_of j → end_of (own_case j i) ≤ e) → all_end_at j e ≡ true
  all_by e late =
      all_from_each (instants j (players_after j e)) (players_of j)
      (λ i low.
      let over = ap (λ (p : Player). is_ended p.mode) (own_instant i low e ∙ after_end (own_case j i) (own_is_case i low) e (late i low)) in
      over ∙ last_ended (own_case j i) (own_is_case i low))

  -- a joint session ends before the latest instant
  pub joint_ends : JointEnds j
  unfolding joint_end
  joint_ends =
      let last = ends_by (players_of j) (omega arith) in
      let found = least_found latest_ms (all_end_at j) last.0 last.1 (all_by last.0 last.2) in
      let early = last.1 in
      let most = found.0 in
      record { early = omega (arith, early, most); ended = found.1 }

  -- at no instant before its end all have ended
  pub joint_before : (k : ℕ) → k < joint_end j → all_end_at j k ≡ false
  unfolding joint_end
  joint_before k low = false_from_ne_true (all_end_at j k) (least_before latest_ms (all_end_at j) k low)

  -- each player's part of it is the session of its own case
  pub session_own : (i : ℕ) → i < players_of j → joint_session j i ≡ session_of (own_case j i)
  unfolding joint_session
  session_own i low =
      let c = own_case j i in
      let n = joint_end j in
      let over = each_from_all (instants j (players_after j n)) (players_of j) joint_ends.ended i low in
      let late = end_by c (own_is_case i low) n (sym (ap (λ (p : Player). is_ended p.mode) (own_instant i low n)) ∙ over) in
      ap shown_by (own_instant i low n ∙ after_end c (own_is_case i low) n late)

-- ---- a player alone

module _ (a : Case) (net : ℕ → Period) (same : (t : ℕ) → net t ≡ a.network t) where
  -- on the same network a player goes the same way
  same_players : (n : ℕ) → player_after (record a { network = net }) n ≡ player_after a n
  unfolding player_after
  same_players zero = refl
  same_players (suc n) =
      let q = instant a (player_after a n) in
      ap (λ p. player_ms (record a { network = net }) p) (same_players n)
      ∙ ap (λ period. cond (is_ended q.mode) q (pass_in a period q)) (same q.t)

  same_end : end_of (record a { network = net }) ≡ end_of a
  unfolding end_of
  same_end = least_same latest_ms (ends_at (record a { network = net })) (ends_at a) (λ n. ap (λ p. is_ended (instant a p).mode) (same_players n))

  same_session : session_of (record a { network = net }) ≡ session_of a
  unfolding last_player
  same_session = ap (λ n. shown_by (instant a (player_after (record a { network = net }) n))) same_end ∙ ap (λ p. shown_by (instant a p)) (same_players (end_of a))

-- one taker gets all
parted_whole : (takers : ℕ) → takers ≤ 1 → (p : Period) → parted takers p ≡ p
parted_whole takers few p = ap (λ ps. get_or ps 0 p) (lane_whole takers few (p ∷ []))

-- the joint session of one rule is its session
pub alone_is_lone : AloneIsLone
alone_is_lone j is one =
    session_own j is 0 (omega (arith, one))
    ∙ same_session (case_at j 0) (share_at j)
    (λ t.
    let few = takers_few (period_at j.periods t) (instants j (players_after j t)) (players_of j) in
    parted_whole (takers_at j t) (omega (arith, few, one)) (period_at j.periods t))
