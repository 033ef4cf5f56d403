-- The turns of a joint session: what bodies and rules stand for at the top of each, after its instant and after its millisecond.
use Rattle.std.proofs.Common.{◌≡◌, ◌∙◌, ℕ, suc, ◌+◌, ◌<◌, ◌≤◌, true, false, List, [], ◌∷◌, length, get_or, map, refl, sym, ap, subst, ⊎_elim, arith}
use Rattle.lab_model.specs.Limits.{all_ahead}
use Rattle.std.specs.List.{All}
use Rattle.std.proofs.lemmas.Bool.{cases_Bool, cases_lt, cond-true, cond-false, false_from_ne_true, true≢false}
use Rattle.std.proofs.lemmas.List.{get_or-map, length-map}
use Rattle.lab_model.specs.declared.trace.Period.{Period}
use Rattle.lab_model.specs.Rules.{RuleKind, fixed}
use Rattle.network_clock.proofs.Search.{least_is}
use Rattle.player_core.specs.declared.body.Body.{Body}
use Rattle.player_core.specs.declared.course.Course.{Course}
use Rattle.player_core.specs.declared.session.Session.{Session}
use Rattle.player_core.specs.Course.{case_on}
use Rattle.player_core.specs.Limits.{latest_ms}
use Rattle.player_core.specs.Parts.{instant, is_ended, pass_in}
use Rattle.player_core.specs.Seen.{KnowsEnd, StandsFor, mode_of, seen}
use Rattle.player_core.specs.Session.{ends_at, player_after, shown_by}
use Rattle.player_core.specs.Sound.{IsCase, Sound}
use Rattle.player_core.specs.State.{Case, Player, case_of, first_player}
use Rattle.player_core.proofs.Follow.{Now, any_history, pass_ready}
use Rattle.player_core.proofs.Players.{instant_sound, instant_t, player_sound}
use Rattle.player_core.proofs.Soundness.{IsOpen}
use Rattle.player_core.proofs.Turned.{none_timed, pass_told}
use Rattle.player_core.proofs.Waits.{IsStill, instant_still}
use Rattle.shared_link.specs.Joint.{IsJoint, JointCase, all_end_at, case_at, instants, joint_end, joint_session, passes, players_after}
use Rattle.shared_link.specs.Laws.{own_case, share_at}
use Rattle.shared_link.specs.Table.{AllCanMeet, AllCanPass, AllMeet, AllPass, AreFirstBodies, AreSessions, AreShown, BodyGoesOn, HasEnded, IsPlainCourse, Passes, Stand, joint_on_course}
use Rattle.shared_link.proofs.Ended.{all_from_each, each_from_all}
use Rattle.shared_link.proofs.Own.{any_sound, going_before, joint_ends, own, own_instant, own_is_case}

-- bodies and rules stand for players with rules of these kinds
pub record Sit {R : Type 0} (kind : R → RuleKind) (stands_for : R → List ℕ → Type 0) (o : Course) (kinds : List RuleKind) (ps : ℕ → Player) (bs : List Body) (rs : List R) : Type 0 where
  pub count : length bs ≡ length kinds
  pub many : length rs ≡ length kinds
  pub stand : Stand ps bs
  pub timed : (i : ℕ) (b : Body) → i < length kinds → KnowsEnd o (get_or bs i b)
  pub ruled : (i : ℕ) (r : R) → i < length kinds → kind (get_or rs i r) ≡ get_or kinds i (fixed 0)
  pub told : (i : ℕ) (r : R) → i < length kinds → stands_for (get_or rs i r) (ps i).history

-- at the top of the turn of an instant they stand for the players before it, and not all have ended after an earlier one
pub record AtTop {R : Type 0} (kind : R → RuleKind) (stands_for : R → List ℕ → Type 0) (o : Course) (kinds : List RuleKind) (n : ℕ) (bs : List Body) (rs : List R) : Type 0 where
  pub sit : Sit kind stands_for o kinds (players_after (joint_on_course o kinds) n) bs rs
  pub going : (k : ℕ) → k < n → all_end_at (joint_on_course o kinds) k ≡ false

-- some element of a list that has one
pub some_of : {X : Type 0} (xs : List X) (i : ℕ) → i < length xs → X
some_of [] i low = absurd (omega (arith, low))
some_of (x ∷ xs) i low = x

-- one millisecond more
pub players_next : (j : JointCase) (n i : ℕ) → players_after j (suc n) i ≡ passes j (share_at j n) i (instants j (players_after j n) i)
unfolding players_after
players_next j n i = refl

-- at the start each is the first player
pub players_first : (j : JointCase) (i : ℕ) → players_after j 0 i ≡ first_player
unfolding players_after
players_first j i = refl

module _ (o : Course) (plain : IsPlainCourse o) where
  -- without seeks and on demand the case is that of the joint session
  pub plain_case : (kind : RuleKind) → case_on o kind ≡ case_of o.scene.now.film o.scene.now.periods o.scene.now.setup [] all_ahead kind
  plain_case kind =
      ap (λ seeks. case_of o.scene.now.film o.scene.now.periods o.scene.now.setup seeks o.scene.now.ahead kind) plain.seeks
      ∙ ap (λ a. case_of o.scene.now.film o.scene.now.periods o.scene.now.setup [] a kind) plain.ahead

module _ (o : Course) (kinds : List RuleKind) (is : IsJoint (joint_on_course o kinds)) (plain : IsPlainCourse o) where
  -- an instant before which not all have ended comes before the latest one
  pub top_early : (n : ℕ) → ((k : ℕ) → k < n → all_end_at (joint_on_course o kinds) k ≡ false) → n < latest_ms
  top_early n going =
      let j = joint_on_course o kinds in
      let ends = joint_ends j is in
      let early = ends.early in
      ⊎_elim (λ (late : joint_end j < n). absurd (true≢false (sym ends.ended ∙ going (joint_end j) late)))
      (λ (low : n ≤ joint_end j). omega (arith, low, early)) (cases_lt (joint_end j) n)

  -- ---- one body after an instant after which it goes on

  module _ (i n : ℕ) (low : i < length kinds) (b : Body) (stands : StandsFor (instants (joint_on_course o kinds) (players_after (joint_on_course o kinds) n) i) b) where
    -- it stands for the player of its own session
    pub own_stands : StandsFor (instant (own_case (joint_on_course o kinds) i) (player_after (own_case (joint_on_course o kinds) i) n)) b
    own_stands = subst (λ p. StandsFor p b) (own_instant (joint_on_course o kinds) is i low n) stands

    module _ (on : BodyGoesOn b) where
      pub own_goes : ends_at (own_case (joint_on_course o kinds) i) n ≡ false
      own_goes = sym (ap (λ (p : Player). is_ended p.mode) own_stands) ∙ on

      pub own_going : (k : ℕ) → k < n → ends_at (own_case (joint_on_course o kinds) i) k ≡ false
      own_going = going_before (own_case (joint_on_course o kinds) i) (own_is_case (joint_on_course o kinds) is i low) n own_goes

      pub own_sound : Sound (own_case (joint_on_course o kinds) i) (n + 1) (instant (own_case (joint_on_course o kinds) i) (player_after (own_case (joint_on_course o kinds) i) n)) × IsOpen (instant (own_case (joint_on_course o kinds) i) (player_after (own_case (joint_on_course o kinds) i) n))
      own_sound =
          let c = own_case (joint_on_course o kinds) i in
          let is_case = own_is_case (joint_on_course o kinds) is i low in
          let start = player_sound c is_case n own_going in
          instant_sound c is_case n (player_after c n) start.1 start.0 own_goes

      pub own_at : (instant (own_case (joint_on_course o kinds) i) (player_after (own_case (joint_on_course o kinds) i) n)).t ≡ n
      own_at =
          let c = own_case (joint_on_course o kinds) i in
          instant_t c (player_after c n) ∙ (player_sound c (own_is_case (joint_on_course o kinds) is i low) n own_going).1

      pub own_now : Now (own_case (joint_on_course o kinds) i) n (n + 1) (instant (own_case (joint_on_course o kinds) i) (player_after (own_case (joint_on_course o kinds) i) n)) b
      own_now = record { sound = own_sound.0; instant = own_at; same = own_stands }

      pub own_still : IsStill (own_case (joint_on_course o kinds) i) (instant (own_case (joint_on_course o kinds) i) (player_after (own_case (joint_on_course o kinds) i) n))
      own_still = let c = own_case (joint_on_course o kinds) i in instant_still c (player_after c n) own_goes

  -- ---- a millisecond of one body

  passes_told : (i : ℕ) (share : Period) (p : Player) → (passes (joint_on_course o kinds) share i p).history ≡ p.history
  passes_told i share p =
      let c = case_at (joint_on_course o kinds) i in
      ⊎_elim (λ (over : is_ended p.mode ≡ true). ap (λ (r : Player). r.history) (cond-true (is_ended p.mode) p (pass_in c share p) over))
      (λ (on : is_ended p.mode ≡ false). ap (λ (r : Player). r.history) (cond-false (is_ended p.mode) p (pass_in c share p) on) ∙ pass_told (record c { network = λ t. share }) p)
      (cases_Bool (is_ended p.mode))

  pass_stands : (i : ℕ) (share : Period) (p : Player) (old new : Body) → StandsFor p old → Passes o share old new → StandsFor (passes (joint_on_course o kinds) share i p) new
  pass_stands i share p old new stands h =
      let c = case_at (joint_on_course o kinds) i in
      let kind = get_or kinds i (fixed 0) in
      let mode : is_ended (mode_of old.mode) ≡ is_ended p.mode = ap (λ (r : Player). is_ended r.mode) stands in
      ⊎_elim
      (λ (over : is_ended p.mode ≡ true).
      subst (λ r. StandsFor r new) (sym (cond-true (is_ended p.mode) p (pass_in c share p) over)) (subst (StandsFor p) (sym (h.over (mode ∙ over))) stands))
      (λ (on : is_ended p.mode ≡ false).
      let step = ((h.passes (mode ∙ on)) kind).follows p.history in
      subst (λ r. StandsFor r new) (sym (cond-false (is_ended p.mode) p (pass_in c share p) on))
      (subst (λ (a : Case). seen new (pass_in a share p).history ≡ pass_in a share p) (plain_case o plain kind)
      (subst (λ (r : Player). seen new (pass_in (case_on o kind) share r).history ≡ pass_in (case_on o kind) share r) stands step)))
      (cases_Bool (is_ended p.mode))

  pass_timed : (share : Period) (old new : Body) → Passes o share old new → KnowsEnd o old → KnowsEnd o new
  pass_timed share old new h knows =
      ⊎_elim (λ (over : HasEnded old). subst (KnowsEnd o) (sym (h.over over)) knows)
      (λ (on : BodyGoesOn old).
      let kind = fixed 0 in
      let c = case_on o kind in
      ((h.passes on) kind).timed c.film c.network knows)
      (cases_Bool (is_ended (mode_of old.mode)))

  module _ {R : Type 0} (kind : R → RuleKind) (stands_for : R → List ℕ → Type 0) where
    -- at the top of the first turn
    pub top_first : (bs : List Body) (rs : List R) → kinds ≡ map kind rs → AreFirstBodies (length rs) bs → All (λ r. stands_for r []) rs → AtTop kind stands_for o kinds 0 bs rs
    top_first bs rs same first told =
        let j = joint_on_course o kinds in
        let count = first.many in
        let many : length rs ≡ length kinds = sym (ap length same ∙ length-map rs kind) in
        record {
          sit = record {
            count = count ∙ many;
            many = many;
            stand = λ i b low. subst (λ (p : Player). seen (get_or bs i b) p.history ≡ p) (sym (players_first j i)) (first.first i b low);
            timed = λ i b low. none_timed (case_on o (fixed 0)) (get_or bs i b) (first.first i b (omega (arith, low, count, many)));
            ruled = λ i r low. sym (ap (λ ks. get_or ks i (fixed 0)) same ∙ get_or-map kind rs i r (fixed 0) (omega (arith, low, many)));
            told = λ i r low. subst (λ (p : Player). stands_for (get_or rs i r) p.history) (sym (players_first j i)) (told i r (omega (arith, low, many)));
          };
          going = λ k low. absurd (omega (arith, low));
        }

    module _ (n : ℕ) (bs : List Body) (rs : List R) where
      -- the instant can come
      pub top_meets : AtTop kind stands_for o kinds n bs rs → AllCanMeet kind o bs rs
      top_meets top =
          let j = joint_on_course o kinds in
          let count = top.sit.count in
          record {
            count = top.sit.many ∙ sym count;
            each = λ i b r low.
                let inside : i < length kinds = omega (arith, low, count) in
                let c = own_case j i in
                let is_case = own_is_case j is i inside in
                let any = any_sound c is_case n in
                let p = players_after j n i in
                let body = get_or bs i b in
                let stands = top.sit.stand i b low ∙ own j is i inside n in
                let sound : Sound c any.0 (seen body []) = any_history c any.0 body p.history [] (subst (Sound c any.0) (sym stands) any.1) in
                let at = ap (λ (q : Player). q.t) stands in
                let early = any.2 in
                let same : case_on o (kind (get_or rs i r)) ≡ case_at j i = ap (case_on o) (top.sit.ruled i r inside) ∙ plain_case o plain (get_or kinds i (fixed 0)) in
                record {
                  network = share_at j;
                  from = any.0;
                  case = subst (λ (a : Case). IsCase (record a { network = share_at j })) (sym same) is_case;
                  sound = subst (λ (a : Case). Sound (record a { network = share_at j }) any.0 (seen body [])) (sym same) sound;
                  early = omega (arith, at, early);
                  keeps = is.keeps;
                  plain = plain;
                };
          }

      -- after it bodies and rules stand for the players after it
      pub top_met : (news : List Body) (heard : List R) → AtTop kind stands_for o kinds n bs rs → AllMeet kind stands_for o bs news rs heard → Sit kind stands_for o kinds (instants (joint_on_course o kinds) (players_after (joint_on_course o kinds) n)) news heard
      top_met news heard top all =
          let j = joint_on_course o kinds in
          let sit = top.sit in
          let count = sit.count in
          let many = sit.many in
          let bodies = all.bodies in
          let same = λ (i : ℕ) (r : R) (low : i < length kinds). ap (case_on o) (sit.ruled i r low) ∙ plain_case o plain (get_or kinds i (fixed 0)) in
          record {
            count = bodies ∙ count;
            many = all.count ∙ many;
            stand = λ i b low.
                let inside : i < length kinds = omega (arith, low, bodies, count) in
                let there : i < length bs = omega (arith, inside, count) in
                let r = some_of rs i (omega (arith, inside, many)) in
                let met = (all.each i b r there).meets (players_after j n i).history (sit.told i r inside) in
                subst (λ (a : Case). seen (get_or news i b) (instant a (players_after j n i)).history ≡ instant a (players_after j n i)) (same i r inside)
                (subst (λ (p : Player). seen (get_or news i b) (instant (case_on o (kind (get_or rs i r))) p).history ≡ instant (case_on o (kind (get_or rs i r))) p) (sit.stand i b there) met);
            timed = λ i b inside.
                let there : i < length bs = omega (arith, inside, count) in
                let r = some_of rs i (omega (arith, inside, many)) in
                (all.each i b r there).timed (sit.timed i b inside);
            ruled = λ i r inside.
                let there : i < length bs = omega (arith, inside, count) in
                (all.each i (some_of bs i there) r there).same ∙ sit.ruled i r inside;
            told = λ i r inside.
                let there : i < length bs = omega (arith, inside, count) in
                let b = some_of bs i there in
                let met = (all.each i b r there).told (players_after j n i).history (sit.told i r inside) in
                subst (λ (a : Case). stands_for (get_or heard i r) (instant a (players_after j n i)).history) (same i r inside)
                (subst (λ (p : Player). stands_for (get_or heard i r) (instant (case_on o (kind (get_or rs i r))) p).history) (sit.stand i b there) met);
          }

      -- whether all have ended
      pub ended_all : Sit kind stands_for o kinds (instants (joint_on_course o kinds) (players_after (joint_on_course o kinds) n)) bs rs → All HasEnded bs → all_end_at (joint_on_course o kinds) n ≡ true
      ended_all sit all =
          let j = joint_on_course o kinds in
          let count = sit.count in
          all_from_each (instants j (players_after j n)) (length kinds)
          (λ i low.
          let there : i < length bs = omega (arith, low, count) in
          let b = some_of bs i there in
          sym (ap (λ (p : Player). is_ended p.mode) (sit.stand i b there)) ∙ all i b there)

      pub going_all : Sit kind stands_for o kinds (instants (joint_on_course o kinds) (players_after (joint_on_course o kinds) n)) bs rs → (All HasEnded bs → ⊥) → all_end_at (joint_on_course o kinds) n ≡ false
      going_all sit some =
          let j = joint_on_course o kinds in
          let count = sit.count in
          false_from_ne_true (all_end_at j n)
          (λ over. some (λ i b low. ap (λ (p : Player). is_ended p.mode) (sit.stand i b low) ∙ each_from_all (instants j (players_after j n)) (length kinds) over i (omega (arith, low, count))))

      -- where all have for the first time, the sessions are those of the joint session
      pub ended_sessions : (ss : List Session) → Sit kind stands_for o kinds (instants (joint_on_course o kinds) (players_after (joint_on_course o kinds) n)) bs rs
          → ((k : ℕ) → k < n → all_end_at (joint_on_course o kinds) k ≡ false) → All HasEnded bs → ((ps : ℕ → Player) → Stand ps bs → AreShown ps (length bs) ss) → AreSessions (joint_on_course o kinds) ss
      unfolding joint_session joint_end
      ended_sessions ss sit going all shows =
          let j = joint_on_course o kinds in
          let count = sit.count in
          let show = shows (instants j (players_after j n)) sit.stand in
          let last : n ≡ joint_end j = least_is latest_ms (all_end_at j) n (top_early n going) (ended_all sit all) (λ k early over. true≢false (sym over ∙ going k early)) in
          record {
            count = show.many ∙ count;
            each = λ i s low. show.each i s (omega (arith, low, count)) ∙ ap (λ m. shown_by (instants j (players_after j m) i)) last;
          }

      -- a millisecond can pass for each that goes on
      pub all_can_pass : Sit kind stands_for o kinds (instants (joint_on_course o kinds) (players_after (joint_on_course o kinds) n)) bs rs → n < latest_ms → AllCanPass bs
      all_can_pass sit early i b low on =
          let j = joint_on_course o kinds in
          let count = sit.count in
          let inside : i < length kinds = omega (arith, low, count) in
          let c = own_case j i in
          let now = own_now i n inside (get_or bs i b) (sit.stand i b low) on in
          pass_ready c (own_is_case j is i inside) n (n + 1) (instant c (player_after c n)) (get_or bs i b) early now

      -- after it they stand for the players a millisecond later
      pub top_passed : (share : Period) (news : List Body) → share ≡ share_at (joint_on_course o kinds) n → Sit kind stands_for o kinds (instants (joint_on_course o kinds) (players_after (joint_on_course o kinds) n)) bs rs → AllPass o share bs news
          → Sit kind stands_for o kinds (players_after (joint_on_course o kinds) (suc n)) news rs
      top_passed share news same sit all =
          let j = joint_on_course o kinds in
          let count = sit.count in
          let longer = all.count in
          let next = λ (i : ℕ). ap (λ s. passes j s i (instants j (players_after j n) i)) same ∙ sym (players_next j n i) in
          record {
            count = longer ∙ count;
            many = sit.many;
            stand = λ i b low.
                let there : i < length bs = omega (arith, low, longer) in
                subst (λ p. StandsFor p (get_or news i b)) (next i)
                (pass_stands i share (instants j (players_after j n) i) (get_or bs i b) (get_or news i b) (sit.stand i b there) (all.each i b there));
            timed = λ i b inside. pass_timed share (get_or bs i b) (get_or news i b) (all.each i b (omega (arith, inside, count))) (sit.timed i b inside);
            ruled = sit.ruled;
            told = λ i r inside.
                subst (stands_for (get_or rs i r)) (sym (passes_told i share (instants j (players_after j n) i)) ∙ ap (λ (p : Player). p.history) (next i)) (sit.told i r inside);
          }
