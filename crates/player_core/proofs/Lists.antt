-- Rules are lists: what is asked for only grows at its end, so each request is found again in what was played, and the rule of the played
-- rungs asks for the same.
use Rattle.std.proofs.Common.{◌≡◌, ◌∙◌, ℕ, zero, suc, ◌+◌, ◌-◌, ◌<◌, ◌≤◌, true, false, ◌&&◌, eqb, ltb, ◌%◌, ◌*◌, List, [], ◌∷◌, ◌++◌, length, slice_index, unwrap_or, Option, Some, None, option_map, refl, sym, ap, subst, length-append, arith}
use Rattle.std.proofs.lemmas.Bool.{cond_both, cond-true, cond-false}
use Rattle.std.proofs.lemmas.List.{append_assoc, append-nil, length-map}
use Rattle.std.proofs.lemmas.List.Elements.{All-map}
use Rattle.lab_model.specs.declared.trace.Period.{Period}
use Rattle.lab_model.specs.declared.setup.Setup.{Setup}
use Rattle.lab_model.specs.declared.context.Seek.{Seek}
use Rattle.lab_model.specs.declared.context.Played.{Played}
use Rattle.lab_model.specs.Film.{Film, rungs_of, segments_of}
use Rattle.lab_model.specs.Rules.{KindFits, RuleKind, listed}
use Rattle.player_core.specs.declared.session.Event.TheVariants as event
use Rattle.player_core.specs.declared.session.Session.{Session}
use Rattle.player_core.specs.State.{Case, Download, Mode, Player, case_of, starting, playing, seeking, ended}
use Rattle.player_core.specs.Parts.{arrival, arrives, asks, begins, can_ask, finish, gone_on, instant, is_ended, is_playing, loads, pass_ms, passes_in, plays, request, rung_for, stalls_on, stopped, takes, takes_any}
use Rattle.player_core.specs.Session.{Shown, end_of, ends_at, last_player, player_after, session_of, shown, shown_by}
use Rattle.player_core.specs.Sound.{IsCase}
use Rattle.player_core.specs.Value.{list_case}
use Rattle.player_core.specs.Lists.{IsListed, PlaysItsList, rungs_in}
use Rattle.player_core.proofs.Bounds.{last_rungs}
use Rattle.player_core.proofs.Ends.{end_before, end_early, end_found, end_is}
use Rattle.player_core.proofs.InOrder.{InOrder, by_instant, gone_on_asks, in_order, last_loaded, last_played, stopped_in_order}
use Rattle.player_core.proofs.Over.{last_idle}
use Rattle.player_core.proofs.Players.{player_next}
use Rattle.player_core.proofs.Soundness.{can_ask_true}

-- ---- what was asked for

-- a segment on a rung
abbrev segment_on : ℕ → ℕ → Played
segment_on segment rung = record { segment = segment; rung = rung }

-- what a download will load
abbrev coming : Option Download → List Played
coming None = []
coming (Some d) = segment_on d.segment d.rung ∷ []

-- all that was asked for, in order
abbrev asked_of : Player → List Played
asked_of p = p.played ++ (p.loaded ++ coming p.download)

module _ (c : Case) where
  arrives_asked : (p : Player) (o : Option Download) → p.download ≡ o → asked_of (arrives c p o) ≡ asked_of p
  arrives_asked p None none = refl
  arrives_asked p (Some d) some =
      cond_both (eqb d.job.left 0) (loads c p d) p (λ q. asked_of q ≡ asked_of p)
      (λ e. ap (λ ps. p.played ++ ps) (append-nil (p.loaded ++ segment_on d.segment d.rung ∷ []) ∙ ap (λ o. p.loaded ++ coming o) (sym some))) (λ e. refl)

  finish_asked : (p : Player) → asked_of (finish c p) ≡ asked_of p
  finish_asked p =
      cond_both (is_playing p.mode && eqb p.x (segments_of c.film * c.film.seg_ms)) (record p { mode = ended; events = p.events ++ event.End p.t ∷ [] }) p (λ q. asked_of q ≡ asked_of p) (λ e. refl) (λ e. refl)

  -- the arrival and the end ask for nothing
  stopped_asked : (p : Player) → asked_of (stopped c p) ≡ asked_of p
  stopped_asked p = finish_asked (arrival c p) ∙ arrives_asked p p.download refl

  -- without a download it is what is played and loaded
  idle_asked : (p : Player) → p.download ≡ None → asked_of p ≡ p.played ++ p.loaded
  idle_asked p none = ap (λ o. p.played ++ (p.loaded ++ coming o)) none ∙ ap (λ ps. p.played ++ ps) (append-nil p.loaded)

  -- a request puts the next segment at its end
  asks_asked : (p : Player) (rung : ℕ) → p.download ≡ None → asked_of (asks c p rung) ≡ asked_of p ++ segment_on p.k rung ∷ []
  asks_asked p rung none = sym (append_assoc p.played p.loaded (segment_on p.k rung ∷ [])) ∙ ap (λ ps. ps ++ segment_on p.k rung ∷ []) (sym (idle_asked p none))

  -- a millisecond asks for nothing
  takes_asked : (t : ℕ) (o : Option Download) → coming (option_map (takes c t) o) ≡ coming o
  takes_asked t None = refl
  takes_asked t (Some d) = refl

  module _ (p : Player) where
    kept_asked : p.played ++ (p.loaded ++ coming (option_map (takes c p.t) p.download)) ≡ asked_of p
    kept_asked = ap (λ ps. p.played ++ (p.loaded ++ ps)) (takes_asked p.t p.download)

    begins_asked : (qs : List Played) → p.loaded ≡ qs → asked_of (begins (takes_any c p) qs) ≡ asked_of p
    begins_asked [] none = kept_asked
    begins_asked (q ∷ qs) some =
        let rest = coming (option_map (takes c p.t) p.download) in
        append_assoc p.played (q ∷ []) (qs ++ rest) ∙ ap (λ ps. p.played ++ (ps ++ rest)) (sym some) ∙ kept_asked

    passes_asked : (m : Mode) → asked_of (passes_in c (takes_any c p) m) ≡ asked_of p
    passes_asked starting = kept_asked
    passes_asked seeking = kept_asked
    passes_asked ended = kept_asked
    passes_asked playing =
        cond_both (ltb p.x p.y) (plays c (takes_any c p)) (stalls_on (takes_any c p)) (λ r. asked_of r ≡ asked_of p)
        (λ low. cond_both (eqb (p.x % c.film.seg_ms) 0) (begins (takes_any c p) p.loaded) (takes_any c p) (λ r. asked_of r ≡ asked_of p) (λ e. begins_asked p.loaded refl) (λ e. kept_asked))
        (λ late. cond_both p.stalling (record (takes_any c p) { stall_ms = p.stall_ms + 1 })
        (record (takes_any c p) { stall_ms = p.stall_ms + 1; stalls = p.stalls + 1; stalling = true; events = p.events ++ event.Stall p.t ∷ [] }) (λ r. asked_of r ≡ asked_of p) (λ e. kept_asked) (λ e. kept_asked))

    -- nor does the millisecond that passes
    pass_asked : asked_of (pass_ms c p) ≡ asked_of p
    pass_asked = passes_asked p.mode

-- ---- it only grows at its end

-- the second list is the first, and more behind it
abbrev Grows : List Played → List Played → Type 0
Grows xs ys = (rest : List Played) × (ys ≡ xs ++ rest)

same_grows : (xs ys : List Played) → ys ≡ xs → Grows xs ys
same_grows xs ys e = ([], e ∙ sym (append-nil xs))

grows_on : (xs ys zs : List Played) → Grows xs ys → Grows ys zs → Grows xs zs
grows_on xs ys zs first second = (first.0 ++ second.0, second.1 ∙ ap (λ ps. ps ++ second.0) first.1 ∙ append_assoc xs first.0 second.0)

module _ (c : Case) (is : IsCase c) (off : c.setup.abandon ≡ false) (none : c.seeks ≡ []) where
  request_grows : (p : Player) → Grows (asked_of p) (asked_of (request c p))
  request_grows p =
      cond_both (can_ask c p) (asks c p (rung_for c p)) p (λ q. Grows (asked_of p) (asked_of q))
      (λ e. (segment_on p.k (rung_for c p) ∷ [], asks_asked c p (rung_for c p) (can_ask_true c p e).free))
      (λ e. same_grows (asked_of p) (asked_of p) refl)

  instant_grows : (p : Player) → Grows (asked_of p) (asked_of (instant c p))
  instant_grows p =
      let here = same_grows (asked_of p) (asked_of (stopped c p)) (stopped_asked c p) in
      by_instant c off none (λ q. Grows (asked_of p) (asked_of q)) p (λ over. here)
      (λ goes. grows_on (asked_of p) (asked_of (stopped c p)) (asked_of (request c (stopped c p))) here (request_grows (stopped c p)))

  -- from one instant of the session to the next
  next_grows : (n : ℕ) → ends_at c n ≡ false → Grows (asked_of (instant c (player_after c n))) (asked_of (instant c (player_after c (suc n))))
  next_grows n on =
      let p = player_after c n in
      let q = player_after c (suc n) in
      grows_on (asked_of (instant c p)) (asked_of q) (asked_of (instant c q))
      (same_grows (asked_of (instant c p)) (asked_of q) (ap asked_of (player_next c n on) ∙ pass_asked c (instant c p)))
      (instant_grows q)

  -- so all that was asked for by an instant stands at the beginning of what was asked for by the end
  last_grows : (d n : ℕ) → n + d ≡ end_of c → Grows (asked_of (instant c (player_after c n))) (asked_of (last_player c))
  unfolding last_player
  last_grows zero n e =
      let here : n ≡ end_of c = omega (arith, e) in
      same_grows (asked_of (instant c (player_after c n))) (asked_of (last_player c)) (ap (λ m. asked_of (instant c (player_after c m))) (sym here))
  last_grows (suc d) n e =
      grows_on (asked_of (instant c (player_after c n))) (asked_of (instant c (player_after c (suc n)))) (asked_of (last_player c))
      (next_grows n (end_before c n (omega (arith, e)))) (last_grows d (suc n) (omega (arith, e)))

  -- and that is what was played
  last_asked : asked_of (last_player c) ≡ (last_player c).played
  last_asked =
      let p = last_player c in
      idle_asked c p (last_idle c is) ∙ ap (λ ps. p.played ++ ps) (last_loaded c off none is) ∙ append-nil p.played

-- ---- each request is found again in what was played

place_of : (xs rest : List Played) (q : Played) → slice_index (rungs_in ((xs ++ q ∷ []) ++ rest)) (length xs) ≡ q.rung
place_of [] rest q = refl
place_of (x ∷ xs) rest q = place_of xs rest q

module _ (c : Case) (is : IsCase c) (off : c.setup.abandon ≡ false) (none : c.seeks ≡ []) where
  -- the case with the rule of the rungs that it plays
  abbrev relisted : Case
  relisted = record c { rule = listed (rungs_in (last_player c).played) }

  module _ (n : ℕ) (most : n ≤ end_of c) (goes : is_ended (stopped c (player_after c n)).mode ≡ false) where
    here_in_order : InOrder c.film (stopped c (player_after c n))
    here_in_order = stopped_in_order c (player_after c n) (in_order c off none is n (λ k low. end_before c k (omega (arith, low, most))))

    -- where it can ask, the rung stands at its segment's place
    asked_right : can_ask c (stopped c (player_after c n)) ≡ true → slice_index (rungs_in (last_player c).played) (stopped c (player_after c n)).k ≡ rung_for c (stopped c (player_after c n))
    asked_right can =
        let q = stopped c (player_after c n) in
        let rung = rung_for c q in
        let idle = (can_ask_true c q can).free in
        let all = asked_of q in
        let asked : instant c (player_after c n) ≡ asks c q rung =
        cond-false (is_ended q.mode) q (gone_on c q) goes ∙ gone_on_asks c off none q ∙ cond-true (can_ask c q) (asks c q rung) q can in
        let grown = last_grows c is off none (end_of c - n) n (omega (arith, most)) in
        let whole : (last_player c).played ≡ (all ++ segment_on q.k rung ∷ []) ++ grown.0 =
        sym (last_asked c is off none) ∙ grown.1 ∙ ap (λ ps. ps ++ grown.0) (ap asked_of asked ∙ asks_asked c q rung idle) in
        let place : q.k ≡ length all =
        let count = here_in_order.count in let parts = length-append q.played q.loaded in let size = ap length (idle_asked c q idle) in omega (arith, count, parts, size) in
        ap (λ k. slice_index (rungs_in (last_player c).played) k) place ∙ ap (λ ps. slice_index (rungs_in ps) (length all)) whole ∙ place_of all grown.0 (segment_on q.k rung)

    -- so the list asks for what the rule asks for
    request_same : request relisted (stopped c (player_after c n)) ≡ request c (stopped c (player_after c n))
    request_same =
        let q = stopped c (player_after c n) in
        let list = slice_index (rungs_in (last_player c).played) q.k in
        cond_both (can_ask c q) (asks c q (rung_for relisted q)) q (λ r. r ≡ request c q)
        (λ can.
        ap (asks c q) (ap (λ o. unwrap_or o list) here_in_order.free ∙ asked_right can) ∙ sym (cond-true (can_ask c q) (asks c q (rung_for c q)) q can))
        (λ cannot. sym (cond-false (can_ask c q) (asks c q (rung_for c q)) q cannot))

  instant_same : (n : ℕ) → n ≤ end_of c → instant relisted (player_after c n) ≡ instant c (player_after c n)
  instant_same n most =
      let q = stopped c (player_after c n) in
      by_instant relisted off none (λ r. r ≡ instant c (player_after c n)) (player_after c n)
      (λ over. sym (cond-true (is_ended q.mode) q (gone_on c q) over))
      (λ goes. request_same n most goes ∙ sym (cond-false (is_ended q.mode) q (gone_on c q) goes ∙ gone_on_asks c off none q))

  -- ---- the two sessions are one

  -- up to the end the players are equal
  same_player : (n : ℕ) → n ≤ end_of c → player_after relisted n ≡ player_after c n
  unfolding player_after
  same_player zero most = refl
  same_player (suc n) most =
      let before = same_player n (omega (arith, most)) in
      let on = end_before c n (omega (arith, most)) in
      let same = ap (instant relisted) before ∙ instant_same n (omega (arith, most)) in
      player_next relisted n (ap (λ (q : Player). is_ended q.mode) same ∙ on) ∙ ap (pass_ms c) same ∙ sym (player_next c n on)

  same_instant : (n : ℕ) → n ≤ end_of c → instant relisted (player_after relisted n) ≡ instant c (player_after c n)
  same_instant n most = ap (instant relisted) (same_player n most) ∙ instant_same n most

  same_ends : (n : ℕ) → n ≤ end_of c → ends_at relisted n ≡ ends_at c n
  same_ends n most = ap (λ (q : Player). is_ended q.mode) (same_instant n most)

  same_end : end_of c ≡ end_of relisted
  same_end =
      end_is relisted (end_of c) (end_early c is) (same_ends (end_of c) (omega arith) ∙ end_found c is)
      (λ k low. same_ends k (omega (arith, low)) ∙ end_before c k low)

  same_last : last_player relisted ≡ last_player c
  unfolding last_player
  same_last = ap (λ n. instant relisted (player_after relisted n)) (sym same_end) ∙ same_instant (end_of c) (omega arith)

  list_fits : KindFits (listed (rungs_in (last_player c).played)) c.film
  list_fits =
      let ps = (last_player c).played in (
        length-map ps (λ (q : Played). q.rung) ∙ last_played c off none is,
        All-map (λ q. q < rungs_of c.film) (λ (q : Played). q.rung) ps (λ k d low. (last_rungs c is k d low).0),
      )

-- without abandonment and seeks the session of a case is that of the rung list which it played
pub rules_are_lists : (c : Case) → IsCase c → c.setup.abandon ≡ false → c.seeks ≡ [] → PlaysItsList c
rules_are_lists c is off none = record { fits = list_fits c is off none; same = ap shown_by (same_last c is off none) }

-- ---- the same of a session in hand

-- without seeks and abandonment the case of a list is the case with the list as its rule
list_case_is : (f : Film) (periods : List Period) (set : Setup) (seeks : List Seek) (ahead : ℕ) (rungs : List ℕ) → set.abandon ≡ false → seeks ≡ []
    → case_of f periods set seeks ahead (listed rungs) ≡ list_case f periods set ahead rungs
list_case_is f periods set seeks ahead rungs off none =
    ap (λ s. case_of f periods set s ahead (listed rungs)) none ∙ ap (λ b. case_of f periods (record set { abandon = b }) [] ahead (listed rungs)) off

-- a session that is the model's is that of the list which it played
pub session_listed : (f : Film) (periods : List Period) (set : Setup) (seeks : List Seek) (ahead : ℕ) (kind : RuleKind) → IsCase (case_of f periods set seeks ahead kind) → set.abandon ≡ false → seeks ≡ []
    → (s : Session) → shown s ≡ session_of (case_of f periods set seeks ahead kind) → IsListed f periods set ahead s
session_listed f periods set seeks ahead kind is off none s e =
    let c = case_of f periods set seeks ahead kind in
    let law = rules_are_lists c is off none in
    let played : (session_of c).played ≡ s.played.items = sym (ap (λ (v : Shown). v.played) e) in
    record {
      fits = subst (λ ps. KindFits (listed (rungs_in ps)) f) played law.fits;
      session =
          e ∙ sym law.same ∙ ap session_of (list_case_is f periods set seeks ahead (rungs_in (session_of c).played) off none)
          ∙ ap (λ ps. session_of (list_case f periods set ahead (rungs_in ps))) played;
    }
