-- The headline of each command, from a run that answered 0.
use Rattle.std.proofs.Common.{◌≡◌, ◌∙◌, ℕ, ◌≤◌, Bool, true, false, is_some, List, [], ◌∷◌, length, Option, Some, None, IfSome, Result, Ok, Err, ap, sym, refl, subst, arith}
use Rattle.lab_model.specs.Limits.{all_ahead}
use Rattle.std.specs.List.{All, slice_get}
use Rattle.lab_io.specs.Sink.{Text, Grew}
use Rattle.lab_model.specs.declared.setup.Setup.{Setup}
use Rattle.lab_model.specs.declared.trace.Period.{Period}
use Rattle.lab_model.specs.Cycle.{IsTrace}
use Rattle.lab_model.specs.Film.{IsFilm, rungs_of}
use Rattle.lab_model.specs.Rules.{RuleKind}
use Rattle.lab_model.specs.Weighing.{IsWeighing}
use Rattle.lab_words.specs.declared.Verb.{Verb}
use Rattle.lab_words.specs.declared.Verb.TheVariants as verb
use Rattle.lab_words.specs.Command.{CommandWords}
use Rattle.lab_words.specs.Limits.{AreCounted, HasFilm, HasItsOwn, IsWithinLimits}
use Rattle.lab_words.specs.Words.{command_of}
use Rattle.lab_words.proofs.LimitLemmas.{command_within}
use Rattle.lab_inputs.specs.declared.role.Role.TheVariants as role
use Rattle.lab_inputs.specs.declared.stop.Stop.{Stop}
use Rattle.lab_model.specs.Steps.{◌>>=◌}
use Rattle.lab_model.proofs.Steps.{then_ok}
use Rattle.lab_inputs.specs.Files.{Files, read_as}
use Rattle.lab_inputs.specs.Inputs.{InputValues, inputs_of}
use Rattle.lab_inputs.specs.Settings.{ready_of, settled}
use Rattle.lab_inputs.specs.Stages.{Tells}
use Rattle.lab_inputs.proofs.Steps.{ok_same, read_ok, role_ok}
use Rattle.lab_inputs.proofs.Tables.{weights_are}
use Rattle.lab_inputs.proofs.Within.{IsReady, inputs_counted, inputs_held, is_ready, settled_fits}
use Rattle.player_core.specs.State.{case_of}
use Rattle.player_core.specs.Scene.{IsTask, Task, task_of}
use Rattle.labels.specs.Grid.{Rounding, IsGrid}
use Rattle.labels.specs.Read.{labels_in}
use Rattle.labels.proofs.Sound.{sound}
use Rattle.certificate_check.specs.declared.verdict.Verdict.{Verdict}
use Rattle.certificate_check.specs.declared.verdict.Verdict.TheVariants.{Yes, No}
use Rattle.certificate_text.specs.Form.{GapParts}
use Rattle.certificate_check.specs.Verdict.{verdict_of}
use Rattle.certificate_check.proofs.Verdicts.{yes_valid}
use Rattle.abrlab_top.specs.declared.ending.Ending.{Ending}
use Rattle.abrlab_top.specs.declared.ending.Ending.TheVariants as ending
use Rattle.abrlab_top.specs.Ahead.{ahead_of}
use Rattle.abrlab_top.specs.Answer.{Answer, Outcome, printed, unless_stopped}
use Rattle.abrlab_top.specs.Check.{check, check_on, claim_in, told_verdict, verdict_ending, verdict_text}
use Rattle.abrlab_top.specs.Choice.{Choice, ChosenOver, HasText}
use Rattle.abrlab_top.specs.Ending.{Told}
use Rattle.abrlab_top.specs.Claim.{claim_of}
use Rattle.abrlab_top.specs.Ending.{status_of}
use Rattle.abrlab_top.specs.Outcome.{about, answer_by, answer_of, checking, comparison, manner_in, named_files, outcome, outcome_by, planning}
use Rattle.abrlab_top.specs.Plan.{PlanAsked, bound_on, certificate_on, chains_on, grid_in, labels_on, options_of, plan, plan_on, plan_text, planned_on, spent_on, task_on, unless_spent}
use Rattle.abrlab_top.specs.Players.{simulate_by}
use Rattle.abrlab_top.specs.Proves.{Headline, IsBest, IsSession, IsYes, PlansTheBest, Proves, SaysYesSoundly, Simulates}
use Rattle.abrlab_top.specs.Runs.{Ends, Runs, World}
use Rattle.abrlab_top.specs.Simulate.{session_on, simulate, simulate_on}
use Rattle.abrlab_top.proofs.Certified.{bound_holds, has_text, own_score, within_budget}
use Rattle.abrlab_top.proofs.Claims.{claim_fits, claim_form, own_claim}
use Rattle.abrlab_top.proofs.Options.{grid_fits, no_grid}
use Rattle.abrlab_top.proofs.Statuses.{stop_range, tells_named}

-- ---- a run that answered 0

-- a command that answered by this choice, whose text went out whole
pub record DoneBy (c : CommandWords) (files : Files) (old new : World) (choice : Choice) : Type 0 where
  pub limits : IsWithinLimits c
  pub chosen : ChosenOver (Some c) choice files
  pub answer : Answer
  pub gives : answer_of choice c files ≡ Ok answer
  pub ending : answer.ending ≡ ending.Done
  pub out : Grew old.out.written answer.text new.out.written
  pub err : new.err ≡ old.err

-- words that ask for a command come to what it comes to
pub outcome_asked : (choice : Choice) (line : List Text) (c : CommandWords) (files : Files) → command_of line ≡ Some c → outcome choice line files ≡ answer_of choice c files
outcome_asked choice line c files e = ap (λ o. outcome_by choice o files) e

-- a run that answered 0 was done
done_ending : (e : Ending) → status_of e ≡ 0 → e ≡ ending.Done
done_ending ending.Done s = refl
done_ending (ending.Stopped why) s = let k = (stop_range why).0 in absurd (omega arith)
done_ending e s = absurd (omega arith)

-- a run of such words that answered 0
pub done_by : (line : List Text) (old new : World) (e : Ending) (h : Runs line old e new) → status_of e ≡ 0 → (c : CommandWords) (files : Files) → command_of line ≡ Some c → Tells old.shelf files → DoneBy c files old new h.ends.choice
done_by line old new e h s c files asked t =
    let choice = h.ends.choice in
    let is = done_ending e s in
    let came : Ends (named_files line) (manner_in (command_of line)) (outcome choice line) old.shelf old.out ending.Done new.shelf new.out =
    subst (λ x. Ends (named_files line) (manner_in (command_of line)) (outcome choice line) old.shelf old.out x new.shelf new.out) is h.ends.came
    in
    let told : new.err ≡ old.err = subst (λ x. Told old.err x new.err) is h.err in
    let a = came.comes files (tells_named (named_files line) old.shelf files t) in
    record {
      limits = command_within line c asked;
      chosen = subst (λ o. ChosenOver o choice files) asked (h.ends.chosen files t (subst HasText (sym is) tt));
      answer = a.0;
      gives = sym (outcome_asked choice line c files asked) ∙ a.1;
      ending = a.2.0;
      out = a.2.1;
      err = told;
    }

-- what a command answered, by its verb
pub by_verb : (choice : Choice) (v : Verb) (c : CommandWords) (files : Files) (a : Answer) → c.verb ≡ v → answer_of choice c files ≡ Ok a → answer_by choice v c files ≡ Ok a
by_verb choice v c files a e h = subst (λ w. answer_by choice w c files ≡ Ok a) e h

-- what `plan` answered, with the best or with a bound by prices
pub by_planning : (choice : Choice) (near : Bool) (c : CommandWords) (files : Files) (a : Answer) → c.verb ≡ verb.Plan → c.near ≡ near → answer_of choice c files ≡ Ok a → about (planning choice near (options_of c)) c files ≡ Ok a
by_planning choice near c files a v n e = subst (λ b. about (planning choice b (options_of c)) c files ≡ Ok a) n (by_verb choice verb.Plan c files a v e)

-- what `check` answered, of a certificate by prices or by labels
pub by_checking : (choice : Choice) (near : Bool) (c : CommandWords) (files : Files) (a : Answer) → c.verb ≡ verb.Check → c.near ≡ near → answer_of choice c files ≡ Ok a → about (checking near c.gap) c files ≡ Ok a
by_checking choice near c files a v n e = subst (λ b. about (checking b c.gap) c files ≡ Ok a) n (by_verb choice verb.Check c files a v e)

-- what `compare --regret` answered, beside the best or beside bounds
pub by_regrets : (choice : Choice) (near : Bool) (c : CommandWords) (files : Files) (a : Answer) → c.verb ≡ verb.Compare → c.regret ≡ true → c.near ≡ near → answer_of choice c files ≡ Ok a
    → about (comparison choice true near c.budget) c files ≡ Ok a
by_regrets choice near c files a v r n e =
    subst (λ b. about (comparison choice true b c.budget) c files ≡ Ok a) n (subst (λ b. about (comparison choice b c.near c.budget) c files ≡ Ok a) r (by_verb choice verb.Compare c files a v e))

-- a value that no stop came before
pub stopped_ok : {A : Type 0} (o : Result A Stop) (x : A) → unless_stopped o ≡ Ok x → o ≡ Ok x
stopped_ok (Ok y) x e = let k : y ≡ x = ok_same _ y x refl e in ap Ok k
stopped_ok (Err why) x e = cc

-- a command on a film that answered, by what it read
pub about_ok : (after : InputValues → Outcome) (c : CommandWords) (files : Files) (a : Answer) → about after c files ≡ Ok a → (i : InputValues) × (inputs_of c files ≡ Ok i) × (after i ≡ Ok a)
unfolding about
about_ok after c files a h = let x = then_ok (unless_stopped (inputs_of c files)) after a h in (x.0, stopped_ok (inputs_of c files) x.0 x.1, x.2)

-- settings that no stop came before fit
pub settled_ok : (i j : InputValues) → unless_stopped (settled i) ≡ Ok j → (settled i ≡ Ok i) × (i ≡ j)
settled_ok i j h =
    let s = stopped_ok (settled i) j h in
    let same = (settled_fits i j s).0 in
    (subst (λ k. settled i ≡ Ok k) (sym same) s, same)

-- a list of one has one
pub one_of : {A : Type 0} (xs : List A) → length xs ≡ 1 → (x : A) × (xs ≡ x ∷ [])
one_of [] e = absurd (omega arith)
one_of (x ∷ []) e = (x, refl)
one_of (x ∷ y ∷ xs) e = absurd (omega arith)

-- how many networks and rules words of this verb name
pub counts_of : (c : CommandWords) (v : Verb) → IsWithinLimits c → c.verb ≡ v → AreCounted v (length c.traces) (length c.rules)
counts_of c v limits e = subst (λ w. AreCounted w (length c.traces) (length c.rules)) e limits.counts

-- what is read and settled is ready
pub ready_by : (c : CommandWords) (files : Files) (i : InputValues) → inputs_of c files ≡ Ok i → settled i ≡ Ok i → ready_of c files ≡ Ok i
unfolding ready_of
ready_by c files i e h = rw e h

-- what is read is about a live film just where the words say so
pub live_by : (c : CommandWords) (files : Files) (i : InputValues) → inputs_of c files ≡ Ok i → i.live ≡ c.live
live_by c files i e = ap (λ (v : InputValues). v.live) (inputs_held c files i e).1

-- ---- simulate

simulated_ok : (i : InputValues) (n : Text × List Period) (rule : Text × RuleKind) (a : Answer) → i.networks ≡ n ∷ [] → i.rules ≡ rule ∷ [] → simulate i ≡ Ok a → (settled i ≡ Ok i) × (printed (session_on i n.1 rule.1) ≡ a)
unfolding simulate
simulated_ok i n rule a e h k =
    let named = ap (λ ns. simulate_on i (slice_get ns 0) (slice_get i.rules 0)) e ∙ ap (λ rs. simulate_on i (Some n) (slice_get rs 0)) h in
    let whole : (unless_stopped (settled i) >>= λ ready. Ok (printed (session_on ready n.1 rule.1))) ≡ Ok a = sym named ∙ k in
    let x = then_ok (unless_stopped (settled i)) (λ ready. Ok (printed (session_on ready n.1 rule.1))) a whole in
    let s = settled_ok i x.0 x.1 in
    (s.0, ap (λ (j : InputValues). printed (session_on j n.1 rule.1)) s.1 ∙ ok_same _ _ a refl x.2)

-- what `simulate` answered, by whether it is about several players
pub simulating : (choice : Choice) (several : Bool) (c : CommandWords) (files : Files) (a : Answer) → c.verb ≡ verb.Simulate → c.players ≡ several → answer_of choice c files ≡ Ok a → about (simulate_by several) c files ≡ Ok a
simulating choice several c files a v players h = subst (λ b. about (simulate_by b) c files ≡ Ok a) players (by_verb choice verb.Simulate c files a v h)

-- what `simulate` proves of one player
pub simulates : (line : List Text) (old new : World) (e : Ending) (r : ℕ) → Runs line old e new → r ≡ status_of e → Simulates line old r new
simulates line old new e r h k c files asked v one t s =
    let d = done_by line old new e h (sym k ∙ s) c files asked t in
    let x = about_ok simulate c files d.answer (simulating h.ends.choice false c files d.answer v one d.gives) in
    let counts = counts_of c verb.Simulate d.limits v in
    let held = inputs_counted c files x.0 x.1 in
    let network = one_of x.0.networks (held.0 ∙ counts.0) in
    let rule = one_of x.0.rules (ap length held.1 ∙ subst (λ w. HasItsOwn w c) v d.limits.own one) in
    let y = simulated_ok x.0 network.0 rule.0 d.answer network.1 rule.1 x.2 in
    record {
      inputs = x.0;
      read = ready_by c files x.0 x.1 y.0;
      live = live_by c files x.0 x.1;
      network = network.0;
      one_network = network.1;
      text = session_on x.0 network.0.1 rule.0.1;
      proves = (rule.0, rule.1, refl);
      out = subst (λ (a : Answer). Grew old.out.written a.text new.out.written) (sym y.1) d.out;
      err = d.err;
    }

-- ---- tasks

-- the trace of the one network is within the limits
pub first_trace : (networks : List (Text × List Period)) (n : Text × List Period) → networks ≡ n ∷ [] → All (λ (m : Text × List Period). IsTrace m.1) networks → IsTrace n.1
first_trace networks n e h = let k : All (λ (m : Text × List Period). IsTrace m.1) (n ∷ []) = subst (All (λ (m : Text × List Period). IsTrace m.1)) e h in k 0 n (omega arith)

-- media ahead within the limits of the words
ahead_fits : (o : Option ℕ) → IfSome o (λ ms. ms ≤ 120000000) → ahead_of o ≤ 120000000
ahead_fits None h = omega arith
ahead_fits (Some ms) h = h

-- what is ready is a task for the planner on each trace
pub task_with : (c : CommandWords) (files : Files) (i : InputValues) (periods : List Period) → IsWithinLimits c → HasFilm c.verb → IsReady c files i → IsTrace periods → IsTask (task_on i periods)
task_with c files i periods limits film r trace = record {
  film = subst IsFilm (sym (ap (λ (j : InputValues). j.film) r.inputs)) r.within.film;
  trace = trace;
  setup = r.fits.setup;
  weights = subst (λ (s : Setup). IsWeighing s.weights) (sym (ap (λ (j : InputValues). j.setup) r.inputs))
      (weights_are c.table c.utilities r.contents.table (rungs_of r.contents.film) c.switch c.stall c.startup (limits.weights film) r.within.table);
  ahead = subst (λ o. ahead_of o ≤ 120000000) (sym (ap (λ (j : InputValues). j.live) r.inputs)) (ahead_fits c.live limits.live);
}

-- what is ready is a task for the planner
pub is_task : (c : CommandWords) (files : Files) (i : InputValues) (n : Text × List Period) → IsWithinLimits c → HasFilm c.verb → IsReady c files i → i.networks ≡ n ∷ [] → IsTask (task_on i n.1)
is_task c files i n limits film r one =
    task_with c files i n.1 limits film r (first_trace r.contents.networks n (sym (ap (λ (j : InputValues). j.networks) r.inputs) ∙ one) r.within.networks)

-- ---- plan

unspent : (o : PlanAsked) (g : Task) (spent : Option ℕ) (a : Answer) → unless_spent o g spent ≡ Ok a → (spent ≡ None) × (printed (plan_text o g) ≡ a)
unspent o g None a e = (refl, ok_same _ (printed (plan_text o g)) a refl e)
unspent o g (Some segment) a e = cc

-- what `plan` went through to its answer
pub planned_ok : (o : PlanAsked) (i : InputValues) (n : Text × List Period) (a : Answer) → i.networks ≡ n ∷ [] → plan o i ≡ Ok a
    → (settled i ≡ Ok i) × (spent_on o.grid (task_on i n.1) o.budget ≡ None) × (printed (plan_text o (task_on i n.1)) ≡ a)
unfolding plan
planned_ok o i n a e k =
    let whole : (unless_stopped (settled i) >>= λ ready. planned_on o (task_on ready n.1)) ≡ Ok a = sym (ap (λ ns. plan_on o i (slice_get ns 0)) e) ∙ k in
    let x = then_ok (unless_stopped (settled i)) (λ ready. planned_on o (task_on ready n.1)) a whole in
    let s = settled_ok i x.0 x.1 in
    let u = unspent o (task_on i n.1) (spent_on o.grid (task_on i n.1) o.budget) a (subst (λ (j : InputValues). planned_on o (task_on j n.1) ≡ Ok a) (sym s.1) x.2) in
    (s.0, u.0, u.1)

-- a plan's labels are no more than a certificate may have
pub few_labels : (c : CommandWords) (grid : Option Rounding) (g : Task) → IsWithinLimits c → c.verb ≡ verb.Plan → IsTask g → spent_on grid g c.budget ≡ None → labels_in g (chains_on grid g) ≤ 1000000
few_labels c grid g limits v is unspent =
    let own = (subst (λ w. HasItsOwn w c) v limits.own).1 in
    let few = within_budget grid g c.budget is.film.segments.0 unspent in
    omega (arith, own, few)

-- the plan of a task is the best, or no list is above its bound
best_is : (o : PlanAsked) (g : Task) → IfSome o.grid IsGrid → IsTask g → labels_in g (chains_on o.grid g) ≤ 1000000
    → (p : IsBest g o.grid o.as_certificate (plan_text o g)) × (is_some o.grid ≡ false → p.bound ≡ p.best.score)
best_is o g fits is few =
    let form = has_text o.grid g fits is few in
    let valid = bound_holds o.grid g fits is in (
      record {
        best = certificate_on o.grid g;
        labels = labels_on o.grid g;
        bound = bound_on o.grid g;
        settles = sound g is (certificate_on o.grid g) (bound_on o.grid g) valid form.inner.head.plan.0;
        valid = valid;
        form = form;
        short = claim_fits (is_some o.grid) (record { bound = bound_on o.grid g; inner = certificate_on o.grid g }) form;
        is = refl;
      },
      own_score o.grid g is,
    )

-- what `plan` proves
pub plans_the_best : (line : List Text) (old new : World) (e : Ending) (r : ℕ) → Runs line old e new → r ≡ status_of e → PlansTheBest line old r new
plans_the_best line old new e r h k c files asked v labels t s =
    let d = done_by line old new e h (sym k ∙ s) c files asked t in
    let o = options_of c in
    let x = about_ok (plan o) c files d.answer (by_planning h.ends.choice false c files d.answer v labels d.gives) in
    let counts = counts_of c verb.Plan d.limits v in
    let network = one_of x.0.networks ((inputs_counted c files x.0 x.1).0 ∙ counts.0) in
    let y = planned_ok o x.0 network.0 d.answer network.1 x.2 in
    let g = task_on x.0 network.0.1 in
    let is = is_task c files x.0 network.0 d.limits (subst HasFilm (sym v) tt) (is_ready c files x.0 x.0 x.1 y.0) network.1 in
    let best = best_is o g (grid_fits c d.limits) is (few_labels c o.grid g d.limits v is y.1) in
    record {
      inputs = x.0;
      read = ready_by c files x.0 x.1 y.0;
      live = live_by c files x.0 x.1;
      network = network.0;
      one_network = network.1;
      text = plan_text o g;
      proves = (best.0, λ none. best.1 (ap is_some (no_grid c.coarse_time c.coarse_value none)));
      out = subst (λ (a : Answer). Grew old.out.written a.text new.out.written) (sym y.2) d.out;
      err = d.err;
    }

-- ---- check

-- what `check` went through to its answer
checked_ok : (gap : Bool) (i : InputValues) (n : Text × List Period) (a : Answer) → i.networks ≡ n ∷ [] → check gap i ≡ Ok a
    → (k : GapParts) × (claim_of gap i.certificate ≡ Ok k) × (settled i ≡ Ok i) × (told_verdict gap k.inner.score k.bound (verdict_of (task_on i n.1) k.inner k.bound) ≡ a)
unfolding check
checked_ok gap i n a e h =
    let whole : (unless_stopped (claim_in gap i.certificate) >>= λ k. unless_stopped (settled i) >>= λ ready. Ok (told_verdict gap k.inner.score k.bound (verdict_of (task_on ready n.1) k.inner k.bound))) ≡ Ok a = sym (ap (λ ns. check_on gap i (slice_get ns 0)) e) ∙ h in
    let y = then_ok (unless_stopped (claim_in gap i.certificate)) (λ k. unless_stopped (settled i) >>= λ ready. Ok (told_verdict gap k.inner.score k.bound (verdict_of (task_on ready n.1) k.inner k.bound))) a whole in
    let z = then_ok (unless_stopped (settled i)) (λ ready. Ok (told_verdict gap y.0.inner.score y.0.bound (verdict_of (task_on ready n.1) y.0.inner y.0.bound))) a y.2 in
    let s = settled_ok i z.0 z.1 in
    let spelled = read_ok (claim_of gap i.certificate) y.0 (role_ok role.Certificate (read_as (claim_of gap i.certificate)) y.0 (stopped_ok (claim_in gap i.certificate) y.0 y.1)) in
    (y.0, spelled, s.0, ap (λ (j : InputValues). told_verdict gap y.0.inner.score y.0.bound (verdict_of (task_on j n.1) y.0.inner y.0.bound)) s.1 ∙ ok_same _ _ a refl z.2)

is_yes : (v : Verdict) → verdict_ending v ≡ ending.Done → v ≡ Yes
is_yes Yes e = refl
is_yes (No clause segment rung label) e = cc

-- what `check` proves
pub says_yes_soundly : (line : List Text) (old new : World) (e : Ending) (r : ℕ) → Runs line old e new → r ≡ status_of e → SaysYesSoundly line old r new
says_yes_soundly line old new e r h k c files asked v labels t s =
    let d = done_by line old new e h (sym k ∙ s) c files asked t in
    let x = about_ok (check c.gap) c files d.answer (by_checking h.ends.choice false c files d.answer v labels d.gives) in
    let counts = counts_of c verb.Check d.limits v in
    let network = one_of x.0.networks ((inputs_counted c files x.0 x.1).0 ∙ counts.0) in
    let y = checked_ok c.gap x.0 network.0 d.answer network.1 x.2 in
    let g = task_on x.0 network.0.1 in
    let claim = y.0 in
    let yes = is_yes (verdict_of g claim.inner claim.bound) (ap (λ (a : Answer). a.ending) y.3 ∙ d.ending) in
    let is = is_task c files x.0 network.0 d.limits (subst HasFilm (sym v) tt) (is_ready c files x.0 x.0 x.1 y.2) network.1 in
    let form = claim_form c.gap x.0.certificate claim y.1 in
    let text : verdict_text c.gap claim.inner.score claim.bound Yes ≡ d.answer.text = ap (verdict_text c.gap claim.inner.score claim.bound) (sym yes) ∙ ap (λ (a : Answer). a.text) y.3 in
    record {
      inputs = x.0;
      read = ready_by c files x.0 x.1 y.2;
      live = live_by c files x.0 x.1;
      network = network.0;
      one_network = network.1;
      text = verdict_text c.gap claim.inner.score claim.bound Yes;
      proves = (
        record {
          claim = claim;
          spelled = y.1;
          settles = sound g is claim.inner claim.bound (yes_valid g claim.inner claim.bound yes) form.head.plan.0;
          is = refl;
        },
        λ none. own_claim c.gap x.0.certificate claim none y.1,
      );
      out = subst (λ (text : Text). Grew old.out.written text new.out.written) (sym text) d.out;
      err = d.err;
    }

-- ---- the headline

-- what is proved at the task of a film on demand
plainly : (c : CommandWords) (files : Files) (old new : World) (General Own : InputValues → List Period → Text → Type 0) → c.live ≡ None → Proves c files General old new
    → ((i : InputValues) (periods : List Period) (text : Text) → i.live ≡ None → General i periods text → Own i periods text) → Proves c files Own old new
plainly c files old new General Own none p from = record {
  inputs = p.inputs;
  read = p.read;
  live = p.live;
  network = p.network;
  one_network = p.one_network;
  text = p.text;
  proves = from p.inputs p.network.1 p.text (p.live ∙ none) p.proves;
  out = p.out;
  err = p.err;
}

-- the headline follows from what is proved at each task
pub headline : (line : List Text) (old new : World) (r : ℕ) → Simulates line old r new → PlansTheBest line old r new → SaysYesSoundly line old r new → Headline line old r new
headline line old new r simulates plans checks = record {
  simulates = λ c files asked v plain t s.
      plainly c files old new _ _ plain.on_demand (simulates c files asked v plain.one_player t s)
      (λ i periods text none h. (h.0, h.1, subst (λ live. IsSession (case_of i.film periods i.setup i.seeks (ahead_of live) h.0.1) text) none h.2));
  plans = λ c files asked v plain t s.
      plainly c files old new _ _ plain.on_demand (plans c files asked v plain.no_prices t s)
      (λ i periods text none h.
      subst (λ grid. (p : IsBest (task_of i.film periods i.setup all_ahead) grid c.as_certificate text) × (p.bound ≡ p.best.score)) (no_grid c.coarse_time c.coarse_value plain.exact)
      (subst (λ live. (p : IsBest (task_of i.film periods i.setup (ahead_of live)) (grid_in c.coarse_time c.coarse_value) c.as_certificate text) × (p.bound ≡ p.best.score)) none (h.0, h.1 plain.exact)));
  checks = λ c files asked v plain t s.
      plainly c files old new _ _ plain.on_demand (checks c files asked v plain.no_prices t s)
      (λ i periods text none h.
      subst (λ gap. (p : IsYes (task_of i.film periods i.setup all_ahead) gap i.certificate text) × (p.claim.bound ≡ p.claim.inner.score)) plain.no_gap
      (subst (λ live. (p : IsYes (task_of i.film periods i.setup (ahead_of live)) c.gap i.certificate text) × (p.claim.bound ≡ p.claim.inner.score)) none (h.0, h.1 plain.no_gap)));
}
