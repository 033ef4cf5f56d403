-- What `simulate --players` proves, from a run that answered 0.
use Rattle.std.proofs.Common.{◌≡◌, ◌∙◌, ◌++◌, ◌||◌, ℕ, Bool, true, false, is_some, List, [], ◌∷◌, length, get_or, Ok, ap, sym, refl, subst}
use Rattle.lab_model.specs.Limits.{all_ahead}
use Rattle.std.specs.List.{slice_get}
use Rattle.std.proofs.lemmas.List.{length-map}
use Rattle.std.proofs.lemmas.List.Elements.{All-map}
use Rattle.lab_io.specs.Sink.{Text, Grew}
use Rattle.lab_model.specs.declared.trace.Period.{Period}
use Rattle.lab_model.specs.Film.{IsFilm, IsWithin}
use Rattle.lab_model.specs.Rules.{KindFits, RuleKind, fixed}
use Rattle.lab_model.specs.Steps.{◌>>=◌}
use Rattle.lab_model.proofs.Steps.{then_ok}
use Rattle.lab_words.specs.declared.Verb.TheVariants as verb
use Rattle.lab_words.specs.Command.{CommandWords}
use Rattle.lab_words.specs.Limits.{IsWithinLimits, agrees}
use Rattle.lab_words.specs.Values.{at_most_one}
use Rattle.lab_inputs.specs.Files.{Files}
use Rattle.lab_inputs.specs.Inputs.{InputValues}
use Rattle.lab_inputs.specs.Settings.{settled}
use Rattle.lab_inputs.proofs.Steps.{ok_same}
use Rattle.lab_inputs.proofs.Within.{IsReady, inputs_counted, is_ready}
use Rattle.player_core.specs.Session.{Shown, session_of}
use Rattle.player_core.specs.State.{case_of}
use Rattle.session_report.specs.Session.{session_text}
use Rattle.shared_link.specs.Joint.{IsJoint, JointCase, joint_session, players_of}
use Rattle.shared_link.proofs.Own.{alone_is_lone}
use Rattle.abrlab_top.specs.declared.ending.Ending.{Ending}
use Rattle.abrlab_top.specs.Answer.{Answer, printed, unless_stopped}
use Rattle.abrlab_top.specs.Ending.{status_of}
use Rattle.abrlab_top.specs.Players.{joint_on, joint_text, play_jointly, play_jointly_on, player_line, players_text}
use Rattle.abrlab_top.specs.Proves.{PlaysJointly}
use Rattle.abrlab_top.specs.Runs.{Runs, World}
use Rattle.abrlab_top.proofs.Proved.{about_ok, counts_of, done_by, first_trace, live_by, one_of, ready_by, settled_ok, simulating}

-- nobody gives a download up on a shared link
nobody_gives_up : (live players abandon seeks : Bool) → at_most_one (live ∷ players ∷ (abandon || seeks) ∷ []) ≡ true → players ≡ true → abandon ≡ false
nobody_gives_up live players false seeks e h = refl
nobody_gives_up true true true seeks e h = cc
nobody_gives_up false true true seeks e h = cc
nobody_gives_up live false true seeks e h = cc

-- words that ask for several players ask for no abandonment
pub players_keep : (c : CommandWords) → IsWithinLimits c → c.verb ≡ verb.Simulate → c.players ≡ true → c.abandon ≡ false
players_keep c limits v several = nobody_gives_up (is_some c.live) c.players c.abandon (is_some c.seeks) (subst (λ w. agrees w c ≡ true) v limits.agreed) several

-- what `simulate --players` went through to its answer
jointly_ok : (i : InputValues) (n : Text × List Period) (a : Answer) → i.networks ≡ n ∷ [] → play_jointly i ≡ Ok a → (settled i ≡ Ok i) × (printed (joint_text (joint_on i n.1)) ≡ a)
unfolding play_jointly
jointly_ok i n a e k =
    let whole : (unless_stopped (settled i) >>= λ ready. Ok (printed (joint_text (joint_on ready n.1)))) ≡ Ok a = sym (ap (λ ns. play_jointly_on i (slice_get ns 0)) e) ∙ k in
    let x = then_ok (unless_stopped (settled i)) (λ ready. Ok (printed (joint_text (joint_on ready n.1)))) a whole in
    let s = settled_ok i x.0 x.1 in
    (s.0, ap (λ (j : InputValues). printed (joint_text (joint_on j n.1))) s.1 ∙ ok_same _ _ a refl x.2)

-- what is ready is a joint case within the limits
is_joint : (c : CommandWords) (files : Files) (i : InputValues) (n : Text × List Period) → IsReady c files i → i.networks ≡ n ∷ [] → i.rules ≡ c.rules → IsWithin 1 8 (length c.rules) → c.abandon ≡ false → IsJoint (joint_on i n.1)
is_joint c files i n r one rules players keeps = record {
  film = subst IsFilm (sym (ap (λ (j : InputValues). j.film) r.inputs)) r.within.film;
  trace = first_trace r.contents.networks n (sym (ap (λ (j : InputValues). j.networks) r.inputs) ∙ one) r.within.networks;
  setup = r.fits.setup;
  keeps = ap (λ (j : InputValues). j.setup.abandon) r.inputs ∙ keeps;
  players = subst (IsWithin 1 8) (sym (length-map i.rules (λ (q : Text × RuleKind). q.1) ∙ ap length rules)) players;
  rules = All-map (λ k. KindFits k i.film) (λ (q : Text × RuleKind). q.1) i.rules r.fits.rules;
}

-- the joint session of one rule is the session of that rule
one_alone : (j : JointCase) (rule : RuleKind) → IsJoint j → j.rules ≡ rule ∷ [] → joint_text j ≡ player_line 1 ++ session_text (session_of (case_of j.film j.periods j.setup [] all_ahead rule)) j.setup.weights
unfolding players_text
one_alone j rule is one =
    let count : players_of j ≡ 1 = ap length one in
    let lone : joint_session j 0 ≡ session_of (case_of j.film j.periods j.setup [] all_ahead rule) = alone_is_lone j is count ∙ ap (λ rules. session_of (case_of j.film j.periods j.setup [] all_ahead (get_or rules 0 (fixed 0)))) one in
    ap (players_text (joint_session j) j.setup.weights) count ∙ ap (λ (s : Shown). player_line 1 ++ session_text s j.setup.weights) lone

-- what `simulate --players` proves
pub plays_jointly : (line : List Text) (old new : World) (e : Ending) (r : ℕ) → Runs line old e new → r ≡ status_of e → PlaysJointly line old r new
plays_jointly line old new e r h k c files asked v several t s =
    let d = done_by line old new e h (sym k ∙ s) c files asked t in
    let x = about_ok play_jointly c files d.answer (simulating h.ends.choice true c files d.answer v several d.gives) in
    let counts = counts_of c verb.Simulate d.limits v in
    let held = inputs_counted c files x.0 x.1 in
    let network = one_of x.0.networks (held.0 ∙ counts.0) in
    let y = jointly_ok x.0 network.0 d.answer network.1 x.2 in
    let j = joint_on x.0 network.0.1 in
    let is = is_joint c files x.0 network.0 (is_ready c files x.0 x.0 x.1 y.0) network.1 held.1 counts.1 (players_keep c d.limits v several) in
    record {
      inputs = x.0;
      read = ready_by c files x.0 x.1 y.0;
      live = live_by c files x.0 x.1;
      network = network.0;
      one_network = network.1;
      text = joint_text j;
      proves = (held.1, record { within = is; is = refl; alone = λ rule one. one_alone j rule is one });
      out = subst (λ (a : Answer). Grew old.out.written a.text new.out.written) (sym y.1) d.out;
      err = d.err;
    }
