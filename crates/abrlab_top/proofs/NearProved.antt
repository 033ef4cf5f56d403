-- What `plan --near` and `check --near` prove, from a run that answered 0; and that the one says yes to what the other printed.
use Rattle.std.proofs.Common.{◌≡◌, ◌∙◌, ℕ, ◌≤◌, Bool, true, List, [], ◌∷◌, length, Some, Ok, ap, sym, refl, subst}
use Rattle.std.specs.List.{slice_get}
use Rattle.lab_io.specs.Sink.{Grew, Text}
use Rattle.lab_model.proofs.Steps.{then_ok}
use Rattle.lab_model.specs.Steps.{◌>>=◌}
use Rattle.lab_model.specs.declared.trace.Period.{Period}
use Rattle.lab_words.specs.declared.Verb.TheVariants as verb
use Rattle.lab_words.specs.Command.{CommandWords}
use Rattle.lab_words.specs.Limits.{HasFilm}
use Rattle.lab_words.specs.Words.{command_of}
use Rattle.lab_words.proofs.LimitLemmas.{command_within}
use Rattle.lab_inputs.specs.declared.role.Role.TheVariants as role
use Rattle.lab_inputs.specs.Files.{Files, read_as}
use Rattle.lab_inputs.specs.Inputs.{InputValues, inputs_of}
use Rattle.lab_inputs.specs.Settings.{settled}
use Rattle.lab_inputs.specs.Stages.{Tells}
use Rattle.lab_inputs.proofs.Steps.{ok_same, read_ok, role_ok}
use Rattle.lab_inputs.proofs.Within.{inputs_counted, is_ready}
use Rattle.player_core.specs.Scene.{IsTask}
use Rattle.price_bounds.specs.Verdict.{PriceParts, verdict_of}
use Rattle.price_bounds.specs.declared.verdict.PriceVerdict.{PriceVerdict}
use Rattle.price_bounds.specs.declared.verdict.PriceVerdict.TheVariants as said
use Rattle.price_bounds.proofs.Verdicts.{valid_settles, valid_yes, yes_valid}
use Rattle.price_text.specs.Reading.{prices_of}
use Rattle.price_text.specs.Spelling.{prices_text}
use Rattle.price_text.proofs.Length.{prices_fit}
use Rattle.price_text.proofs.PriceLaws.{prices_again, prices_take}
use Rattle.abrlab_top.specs.declared.ending.Ending.{Ending}
use Rattle.abrlab_top.specs.declared.ending.Ending.TheVariants as ending
use Rattle.abrlab_top.specs.Accepts.{NearRunsAreAccepted}
use Rattle.abrlab_top.specs.Answer.{Answer, printed, text_in, unless_stopped}
use Rattle.abrlab_top.specs.Choice.{Choice, ChosenBy, IsNearBest, no_choice}
use Rattle.abrlab_top.specs.Ending.{status_of}
use Rattle.abrlab_top.specs.Near.{near_check, near_check_on, near_plan, near_plan_on, near_text, price_ending, price_verdict_text, prices_in, told_prices}
use Rattle.abrlab_top.specs.Outcome.{about, answer_by, answer_of, checking, outcome}
use Rattle.abrlab_top.specs.Outcome as whole
use Rattle.abrlab_top.specs.Plan.{task_on}
use Rattle.abrlab_top.specs.Proves.{BoundsTheBest, SaysYesByPrices}
use Rattle.abrlab_top.specs.Runs.{Runs, World}
use Rattle.abrlab_top.specs.Statuses.{IsAmong, answers_to}
use Rattle.abrlab_top.proofs.Accepted.{about_is, none_of, read_more, settled_alike}
use Rattle.abrlab_top.proofs.Proved.{about_ok, by_checking, by_planning, counts_of, done_by, is_task, live_by, one_of, outcome_asked, ready_by, settled_ok, stopped_ok}
use Rattle.abrlab_top.proofs.Statuses.{statuses}

-- ---- plan

-- what `plan --near` went through to its answer
near_ok : (w : Bool) (p : PriceParts) (i : InputValues) (n : Text × List Period) (a : Answer) → i.networks ≡ n ∷ [] → near_plan w p i ≡ Ok a → (settled i ≡ Ok i) × (printed (near_text w p) ≡ a)
unfolding near_plan
near_ok w p i n a e k =
    let all : (unless_stopped (settled i) >>= λ ready. Ok (printed (near_text w p))) ≡ Ok a = sym (ap (λ ns. near_plan_on w p i (slice_get ns 0)) e) ∙ k in
    let x = then_ok (unless_stopped (settled i)) (λ ready. Ok (printed (near_text w p))) a all in
    ((settled_ok i x.0 x.1).0, ok_same _ _ a refl x.2)

-- the first of one network
first_of_one : (networks : List (Text × List Period)) (n : Text × List Period) → networks ≡ n ∷ [] → slice_get networks 0 ≡ Some n
first_of_one networks n e = rw e refl

-- what a run of `plan --near` found
record FoundBy (c : CommandWords) (files : Files) (old new : World) (choice : Choice) : Type 0 where
  inputs : InputValues
  read : inputs_of c files ≡ Ok inputs
  network : Text × List Period
  one : inputs.networks ≡ network ∷ []
  settled : settled inputs ≡ Ok inputs
  task : IsTask (task_on inputs network.1)
  near : IsNearBest (task_on inputs network.1) choice.certificate
  answer : Answer
  gives : answer_of choice c files ≡ Ok answer
  text : near_text c.as_certificate choice.certificate ≡ answer.text
  out : Grew old.out.written answer.text new.out.written
  err : new.err ≡ old.err

found_by : (line : List Text) (old new : World) (e : Ending) (run : Runs line old e new) → status_of e ≡ 0 → (c : CommandWords) (files : Files) → command_of line ≡ Some c → c.verb ≡ verb.Plan → c.near ≡ true → Tells old.shelf files
    → FoundBy c files old new run.ends.choice
found_by line old new e run s c files asked v near t =
    let d = done_by line old new e run s c files asked t in
    let x = about_ok (near_plan c.as_certificate run.ends.choice.certificate) c files d.answer (by_planning run.ends.choice true c files d.answer v near d.gives) in
    let counts = counts_of c verb.Plan d.limits v in
    let network = one_of x.0.networks ((inputs_counted c files x.0 x.1).0 ∙ counts.0) in
    let y = near_ok c.as_certificate run.ends.choice.certificate x.0 network.0 d.answer network.1 x.2 in
    let chosen : ChosenBy verb.Plan c run.ends.choice x.0 = subst (λ w. ChosenBy w c run.ends.choice x.0) v (d.chosen x.0 x.1) in
    record {
      inputs = x.0;
      read = x.1;
      network = network.0;
      one = network.1;
      settled = y.0;
      task = is_task c files x.0 network.0 d.limits (subst HasFilm (sym v) tt) (is_ready c files x.0 x.0 x.1 y.0) network.1;
      near = chosen near network.0 (first_of_one x.0.networks network.0 network.1);
      answer = d.answer;
      gives = d.gives;
      text = ap (λ (a : Answer). a.text) y.1;
      out = d.out;
      err = d.err;
    }

-- what `plan --near` proves
pub bounds_the_best : (line : List Text) (old new : World) (e : Ending) (r : ℕ) → Runs line old e new → r ≡ status_of e → BoundsTheBest line old r new
bounds_the_best line old new e r h k c files asked v near t s =
    let f = found_by line old new e h (sym k ∙ s) c files asked v near t in
    let p = h.ends.choice.certificate in
    record {
      inputs = f.inputs;
      read = ready_by c files f.inputs f.read f.settled;
      live = live_by c files f.inputs f.read;
      network = f.network;
      one_network = f.one;
      text = near_text c.as_certificate p;
      proves = record { found = p; settles = valid_settles (task_on f.inputs f.network.1) p f.task f.near.valid; near = f.near; short = prices_fit p f.near.form; is = refl };
      out = subst (λ text. Grew old.out.written text new.out.written) (sym f.text) f.out;
      err = f.err;
    }

-- ---- check

-- what `check --near` went through to its answer
near_checked_ok : (i : InputValues) (n : Text × List Period) (a : Answer) → i.networks ≡ n ∷ [] → near_check i ≡ Ok a
    → (p : PriceParts) × (prices_of i.certificate ≡ Ok p) × (settled i ≡ Ok i) × (told_prices p.score p.bound (verdict_of (task_on i n.1) p) ≡ a)
unfolding near_check
near_checked_ok i n a e h =
    let all : (unless_stopped (prices_in i.certificate) >>= λ p. unless_stopped (settled i) >>= λ ready. Ok (told_prices p.score p.bound (verdict_of (task_on ready n.1) p))) ≡ Ok a = sym (ap (λ ns. near_check_on i (slice_get ns 0)) e) ∙ h in
    let y = then_ok (unless_stopped (prices_in i.certificate)) (λ p. unless_stopped (settled i) >>= λ ready. Ok (told_prices p.score p.bound (verdict_of (task_on ready n.1) p))) a all in
    let z = then_ok (unless_stopped (settled i)) (λ ready. Ok (told_prices y.0.score y.0.bound (verdict_of (task_on ready n.1) y.0))) a y.2 in
    let s = settled_ok i z.0 z.1 in
    let spelled = read_ok (prices_of i.certificate) y.0 (role_ok role.PriceCertificate (read_as (prices_of i.certificate)) y.0 (stopped_ok (prices_in i.certificate) y.0 y.1)) in
    (y.0, spelled, s.0, ap (λ (j : InputValues). told_prices y.0.score y.0.bound (verdict_of (task_on j n.1) y.0)) s.1 ∙ ok_same _ _ a refl z.2)

is_price_yes : (v : PriceVerdict) → price_ending v ≡ ending.Done → v ≡ said.Yes
is_price_yes said.Yes e = refl
is_price_yes said.OtherFilm e = cc
is_price_yes (said.BadRung segment) e = cc
is_price_yes (said.BadWindow window) e = cc
is_price_yes (said.BoundAbove least) e = cc
is_price_yes (said.OtherScore value) e = cc

-- what `check --near` proves
pub says_yes_by_prices : (line : List Text) (old new : World) (e : Ending) (r : ℕ) → Runs line old e new → r ≡ status_of e → SaysYesByPrices line old r new
says_yes_by_prices line old new e r h k c files asked v near t s =
    let d = done_by line old new e h (sym k ∙ s) c files asked t in
    let x = about_ok near_check c files d.answer (by_checking h.ends.choice true c files d.answer v near d.gives) in
    let counts = counts_of c verb.Check d.limits v in
    let network = one_of x.0.networks ((inputs_counted c files x.0 x.1).0 ∙ counts.0) in
    let y = near_checked_ok x.0 network.0 d.answer network.1 x.2 in
    let g = task_on x.0 network.0.1 in
    let p = y.0 in
    let yes = is_price_yes (verdict_of g p) (ap (λ (a : Answer). a.ending) y.3 ∙ d.ending) in
    let is = is_task c files x.0 network.0 d.limits (subst HasFilm (sym v) tt) (is_ready c files x.0 x.0 x.1 y.2) network.1 in
    let form = (prices_take x.0.certificate p y.1).0 in
    let text : price_verdict_text p.score p.bound said.Yes ≡ d.answer.text = ap (price_verdict_text p.score p.bound) (sym yes) ∙ ap (λ (a : Answer). a.text) y.3 in
    record {
      inputs = x.0;
      read = ready_by c files x.0 x.1 y.2;
      live = live_by c files x.0 x.1;
      network = network.0;
      one_network = network.1;
      text = price_verdict_text p.score p.bound said.Yes;
      proves = record { claim = p; spelled = y.1; settles = valid_settles g p is (yes_valid g p form.head.plan.0 form.few yes); is = refl };
      out = subst (λ text. Grew old.out.written text new.out.written) (sym text) d.out;
      err = d.err;
    }

-- ---- what was printed is accepted

-- a certificate that is read and valid, where the settings fit
near_checked : (j : InputValues) (n : Text × List Period) (p : PriceParts) → prices_of j.certificate ≡ Ok p → settled j ≡ Ok j → j.networks ≡ n ∷ [] → verdict_of (task_on j n.1) p ≡ said.Yes → near_check j ≡ Ok (told_prices p.score p.bound said.Yes)
unfolding near_check
near_checked j n p read fits one valid = ap (λ ns. near_check_on j (slice_get ns 0)) one ∙ rw (read, fits) (ap (λ v. Ok (told_prices p.score p.bound v)) valid)

-- `check --near` says yes to what a run of `plan --near --as-certificate` printed
pub near_runs_accepted : NearRunsAreAccepted
near_runs_accepted line line2 files files2 i j old new old2 new2 e e2 plans t run s checks t2 h2 alike =
    let c = plans.command in
    let f = found_by line old new e run s c files plans.asked plans.verb plans.near t in
    let p = run.ends.choice.certificate in
    let same : f.inputs ≡ i = ok_same (inputs_of c files) f.inputs i f.read plans.read in
    let n = alike.one in
    let one : f.network ≡ n = head_same (sym f.one ∙ ap (λ (v : InputValues). v.networks) same ∙ alike.network) in
    let near : IsNearBest (task_on i n.1) p = subst (λ (m : Text × List Period). IsNearBest (task_on i m.1) p) one (subst (λ (v : InputValues). IsNearBest (task_on v f.network.1) p) same f.near) in
    let bytes = whole.text run.ends.choice line files in
    let printed_is : bytes ≡ prices_text p =
    ap text_in (outcome_asked run.ends.choice line c files plans.asked ∙ f.gives) ∙ sym f.text ∙ ap (λ b. near_text b p) plans.as_certificate
    in
    let c2 = checks.command in
    let limits = command_within line2 c2 checks.asked in
    let short : length bytes ≤ 67108864 = subst (λ t. length t ≤ 67108864) (sym printed_is) (prices_fit p near.form) in
    let read = read_more true c2 checks.name bytes files2 j checks.near checks.certificate checks.there short checks.read in
    let all : InputValues = record j { certificate = bytes } in
    let counts = counts_of c2 verb.Check limits checks.verb in
    let none : all.rules ≡ [] = none_of all.rules (ap length (inputs_counted c2 files2 all read).1 ∙ counts.1) in
    let plan_limits = command_within line c plans.asked in
    let plan_counts = counts_of c verb.Plan plan_limits plans.verb in
    let none1 : i.rules ≡ [] = none_of i.rules (ap length (inputs_counted c files i plans.read).1 ∙ plan_counts.1) in
    let settled1 : settled i ≡ Ok i = subst (λ (v : InputValues). settled v ≡ Ok v) same f.settled in
    let fits = settled_alike i all alike.film alike.setup none1 none settled1 in
    let task : task_on all n.1 ≡ task_on i n.1 = rw (alike.film, alike.setup, alike.live) refl in
    let yes : verdict_of (task_on all n.1) p ≡ said.Yes = ap (λ t. verdict_of t p) task ∙ valid_yes (task_on i n.1) p near.valid in
    let spelled : prices_of all.certificate ≡ Ok p = ap prices_of printed_is ∙ prices_again p near.form in
    let verdict = near_checked all (alike.other, n.1) p spelled fits alike.same yes in
    let by : answer_of no_choice c2 files2 ≡ about (checking c2.near c2.gap) c2 files2 = ap (λ v. answer_by no_choice v c2 files2) checks.verb in
    let prices : about (checking c2.near c2.gap) c2 files2 ≡ about near_check c2 files2 = ap (λ b. about (checking b c2.gap) c2 files2) checks.near in
    let came : outcome no_choice line2 files2 ≡ Ok (printed (price_verdict_text p.score p.bound said.Yes)) =
    outcome_asked no_choice line2 c2 files2 checks.asked ∙ by ∙ prices ∙ about_is near_check c2 files2 all read ∙ verdict in
    (p, near.form, printed_is, came, subst (λ o. IsAmong (status_of e2) (answers_to o)) came ((statuses line2 old2 e2 new2 h2).told files2 t2))
  where
    head_same : {A : Type 0} {x y : A} {xs ys : List A} → x ∷ xs ≡ y ∷ ys → x ≡ y
    head_same e = cc
