-- What an instant does to a body and its rule: the arrival and the end, and where the session goes on the request.
use Rattle.std.proofs.Common.{◌≡◌, ◌∙◌, ℕ, List, [], true, false, refl, sym, ap, subst}
use Rattle.lab_model.specs.Rules.{RuleKind}
use Rattle.player_core.specs.declared.body.Body.{Body}
use Rattle.player_core.specs.declared.course.Course.{Course}
use Rattle.player_core.specs.Course.{case_on}
use Rattle.player_core.specs.Parts.{is_ended, request, stopped}
use Rattle.player_core.specs.Ready.{CanRequest}
use Rattle.player_core.specs.Seen.{Hears, KnowsEnd, StepsOn, mode_of, seen}
use Rattle.player_core.specs.State.{Case, Player}
use Rattle.player_core.proofs.Chain.{told_ended}
use Rattle.player_core.proofs.Follow.{Now, now_step, request_ready}
use Rattle.player_core.proofs.InOrder.{gone_on_asks}
use Rattle.player_core.proofs.Players.{instant_ended, instant_goes, stopped_sound, stopped_t}
use Rattle.player_core.proofs.Turned.{request_told}
use Rattle.shared_link.specs.Table.{CanMeet, Meets}

module _ {R : Type 0} (kind : R → RuleKind) (stands_for : R → List ℕ → Type 0) (o : Course) (b s : Body) (rule heard : R)
    (ready : CanMeet o (kind rule) b) (stops : StepsOn o stopped b s) (hears : Hears kind stands_for o stopped b rule heard) where
  -- what is seen of the end after the arrival and the end
  ends_as : (h : List ℕ) → is_ended (stopped (case_on o (kind rule)) (seen b h)).mode ≡ is_ended (mode_of s.mode)
  ends_as h = sym (ap (λ (q : Player). is_ended q.mode) ((stops (kind rule)).follows h))

  -- where they end the session, they are the whole instant
  pub met_ended : is_ended (mode_of s.mode) ≡ true → Meets kind stands_for o b s rule heard
  met_ended over =
      let c = case_on o (kind rule) in
      let step = stops (kind rule) in
      record {
        same = hears.same;
        meets = λ h told. subst (λ q. seen s q.history ≡ q) (sym (instant_ended c (seen b h) (ends_as h ∙ over))) (step.follows h);
        told = λ h told. told_ended c b s step h (stands_for heard) over (hears.told h told);
        timed = step.timed c.film c.network;
      }

  -- after them a request can be made
  pub asks_ready : CanRequest (case_on o (kind heard)) (seen s [])
  asks_ready =
      let c : Case = record (case_on o (kind rule)) { network = ready.network } in
      let p = seen b [] in
      let top : Now c b.t ready.from p b = record { sound = ready.sound; instant = refl; same = refl } in
      let stop = now_step c b.t ready.from ready.from (stopped c) p b s top (stops (kind rule)) (stopped_sound c ready.from p ready.sound) (stopped_t c p) in
      let can = request_ready c ready.case b.t ready.from (stopped c p) s ready.early stop in
      subst (λ k. CanRequest (case_on o k) (seen s [])) (sym hears.same)
      (record {
        kind_fits = can.kind_fits;
        position = can.position;
        end = can.end;
        instant = can.instant;
        last = can.last;
        forced = can.forced;
      })

  -- where the session goes on, the request follows
  pub met_asked : is_ended (mode_of s.mode) ≡ false → (a : Body) → ((h : List ℕ) → stands_for heard h → seen a h ≡ request (case_on o (kind heard)) (seen s h)) → (KnowsEnd o s → KnowsEnd o a)
      → Meets kind stands_for o b a rule heard
  met_asked goes a asked timed =
      let c = case_on o (kind rule) in
      let step = stops (kind rule) in
      let whole = λ (h : List ℕ). instant_goes c (seen b h) (ends_as h ∙ goes) ∙ gone_on_asks c ready.keeps ready.plain.seeks (stopped c (seen b h)) in
      let history = λ (h : List ℕ). ap (λ (q : Player). q.history) (whole h) ∙ request_told c (stopped c (seen b h)) in
      record {
        same = hears.same;
        meets = λ h told.
            let q = stopped c (seen b h) in
            let here = asked q.history (hears.told h told) in
            ap (seen a) (history h)
            ∙ subst (λ k. seen a q.history ≡ request (case_on o k) (seen s q.history)) hears.same here
            ∙ ap (request c) (step.follows h) ∙ sym (whole h);
        told = λ h told. subst (stands_for heard) (sym (history h)) (hears.told h told);
        timed = λ was. timed (step.timed c.film c.network was);
      }
