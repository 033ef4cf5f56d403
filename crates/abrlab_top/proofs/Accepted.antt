-- `check` says yes to the certificate that a run of `plan` printed.
use Rattle.std.proofs.Common.{◌≡◌, ◌∙◌, ℕ, ◌≤◌, Bool, false, true, is_some, List, [], ◌∷◌, ◌++◌, length, Option, Some, None, IfSome, Ok, refl, sym, ap, subst, arith, append_assoc, append-nil}
use Rattle.std.specs.List.{slice_get}
use Rattle.std.specs.Prelude.{nat_lt}
use Rattle.std.proofs.lemmas.Bool.Decides.{nat_tests}
use Rattle.lab_io.specs.Sink.{Text}
use Rattle.lab_model.specs.declared.trace.Period.{Period}
use Rattle.lab_words.specs.declared.Verb.TheVariants.{Plan, Check}
use Rattle.lab_words.specs.Command.{CommandWords}
use Rattle.lab_words.specs.Limits.{HasFilm}
use Rattle.lab_words.proofs.LimitLemmas.{command_within}
use Rattle.lab_inputs.specs.declared.role.Role.TheVariants as role
use Rattle.lab_inputs.specs.Contents.{ContentValues, with_certificate}
use Rattle.lab_inputs.specs.Files.{Files, contents_from, with_file}
use Rattle.lab_inputs.specs.Inputs.{InputValues, contents_of, inputs_of, inputs_on}
use Rattle.lab_inputs.specs.Roles.{certificate_role, later_files, optional_file, trace_files}
use Rattle.lab_inputs.specs.Settings.{misfit, settled}
use Rattle.lab_inputs.specs.Stages.{Tells}
use Rattle.lab_inputs.proofs.Steps.{inputs_one_more, ok_same}
use Rattle.lab_inputs.proofs.Within.{inputs_counted, inputs_held, is_ready, settled_fits}
use Rattle.player_core.specs.Scene.{IsTask, Task}
use Rattle.labels.specs.Grid.{Rounding, IsGrid}
use Rattle.certificate_text.specs.Form.{GapParts, IsGapCertificate}
use Rattle.certificate_check.specs.declared.verdict.Verdict.TheVariants.{Yes}
use Rattle.certificate_check.specs.Verdict.{verdict_of}
use Rattle.abrlab_top.specs.declared.ending.Ending.{Ending}
use Rattle.abrlab_top.specs.Accepts.{PlansCertificate, RunsAreAccepted, without_certificate}
use Rattle.abrlab_top.specs.Answer.{Answer, Outcome, printed, text_in}
use Rattle.abrlab_top.specs.Choice.{Choice, no_choice}
use Rattle.abrlab_top.specs.Check.{check, check_on, told_verdict, verdict_text}
use Rattle.abrlab_top.specs.Claim.{claim_of, claim_text}
use Rattle.abrlab_top.specs.Ending.{status_of}
use Rattle.abrlab_top.specs.Outcome.{about, answer_by, answer_of, checking, outcome, planning}
use Rattle.abrlab_top.specs.Outcome as whole
use Rattle.abrlab_top.specs.Plan.{bound_on, certificate_on, labels_on, options_of, parts_text, plan, task_on}
use Rattle.abrlab_top.specs.Runs.{Runs, World}
use Rattle.abrlab_top.specs.Statuses.{IsAmong, answers_to}
use Rattle.abrlab_top.proofs.Certified.{has_text, own_score, says_yes}
use Rattle.abrlab_top.proofs.Claims.{claim_again, claim_fits}
use Rattle.abrlab_top.proofs.Proved.{about_ok, by_planning, counts_of, done_by, few_labels, is_task, outcome_asked, planned_ok}
use Rattle.abrlab_top.proofs.Options.{grid_fits}
use Rattle.abrlab_top.proofs.Statuses.{statuses}

-- ---- reading one certificate more

-- the most bytes of a certificate, by prices or by labels
abbrev pub certificate_limit : Bool → ℕ
certificate_limit true = 67108864
certificate_limit false = 536870912

-- a file that is not too long gives its bytes
certificate_read : (near : Bool) (v : ContentValues) (name bytes : Text) (files : Files) → files name ≡ Some bytes → length bytes ≤ certificate_limit near → with_file v (certificate_role near, name) files ≡ Ok (with_certificate v bytes)
unfolding with_file
certificate_read false v name bytes files there fits =
    let low : nat_lt 536870912 (length bytes) ≡ false = grind (arith, nat_tests, fits) in
    rw (there, low) refl
certificate_read true v name bytes files there fits =
    let low : nat_lt 67108864 (length bytes) ≡ false = grind (arith, nat_tests, fits) in
    rw (there, low) refl

-- the files of a command that names a certificate are those that it names without, and the certificate
one_more : (near : Bool) (c : CommandWords) (name : Text) → c.near ≡ near → c.certificate ≡ Some name → later_files c ≡ later_files (without_certificate c) ++ (certificate_role near, name) ∷ []
one_more near c name n e =
    let own : optional_file (certificate_role c.near) c.certificate ≡ (certificate_role near, name) ∷ [] = ap (optional_file (certificate_role c.near)) e ∙ ap (λ b. (certificate_role b, name) ∷ []) n in
    ap (λ l. optional_file role.Utilities c.table ++ (trace_files c.verb c.traces ++ (optional_file role.Seeks c.seeks ++ l))) own
    ∙ sym (simp (append_assoc, append-nil))

mapped : (c : CommandWords) (files : Files) (v : ContentValues) → contents_of c files ≡ Ok v → inputs_of c files ≡ Ok (inputs_on c v)
unfolding inputs_of
mapped c files v e = rw e refl

-- what such a command is about
pub read_more : (near : Bool) (c : CommandWords) (name bytes : Text) (files : Files) (j : InputValues) → c.near ≡ near → c.certificate ≡ Some name → files name ≡ Some bytes → length bytes ≤ certificate_limit near → inputs_of (without_certificate c) files ≡ Ok j
    → inputs_of c files ≡ Ok (record j { certificate = bytes })
read_more near c name bytes files j n e there fits read =
    let held = inputs_held (without_certificate c) files j read in
    let more : contents_of c files ≡ Ok (with_certificate held.0 bytes) =
    ap (λ l. contents_from c.manifest l files) (one_more near c name n e)
    ∙ inputs_one_more c.manifest held.0 (with_certificate held.0 bytes) (later_files (without_certificate c)) (certificate_role near, name) files held.2 (certificate_read near held.0 name bytes files there fits) in
    mapped c files (with_certificate held.0 bytes) more ∙ ap (λ (i : InputValues). Ok (record i { certificate = bytes })) (sym held.1)

-- ---- checking it

-- a list of no length is empty
pub none_of : {A : Type 0} (xs : List A) → length xs ≡ 0 → xs ≡ []
none_of [] e = refl
none_of (x ∷ xs) e = absurd (omega arith)

-- settings that fit without a rule
pub settled_alike : (i j : InputValues) → j.film ≡ i.film → j.setup ≡ i.setup → i.rules ≡ [] → j.rules ≡ [] → settled i ≡ Ok i → settled j ≡ Ok j
settled_alike i j film setup none none2 s =
    let fits : misfit i.setup i.rules i.film ≡ None = (settled_fits i i s).1 in
    let same : misfit j.setup j.rules j.film ≡ misfit i.setup i.rules i.film = rw (film, setup, none, none2) refl in
    rw (same ∙ fits) refl

-- a claim that is read, where the settings fit
checked : (gap : Bool) (j : InputValues) (n : Text × List Period) (k : GapParts) → claim_of gap j.certificate ≡ Ok k → settled j ≡ Ok j → j.networks ≡ n ∷ []
    → verdict_of (task_on j n.1) k.inner k.bound ≡ Yes → check gap j ≡ Ok (told_verdict gap k.inner.score k.bound Yes)
unfolding check
checked gap j n k read fits one valid = ap (λ ns. check_on gap j (slice_get ns 0)) one ∙ rw (read, fits) (ap (λ v. Ok (told_verdict gap k.inner.score k.bound v)) valid)

-- what a command comes to that read this
pub about_is : (after : InputValues → Outcome) (c : CommandWords) (files : Files) (i : InputValues) → inputs_of c files ≡ Ok i → about after c files ≡ after i
unfolding about
about_is after c files i e = rw e refl

-- what a plan on a grid, or on none, claims
abbrev claim_on : Option Rounding → Task → GapParts
claim_on grid g = record { bound = bound_on grid g; inner = certificate_on grid g }

certificate_said : (grid : Option Rounding) (g : Task) (labels : ℕ) → parts_text grid true (certificate_on grid g) (bound_on grid g) labels ≡ claim_text (is_some grid) (claim_on grid g)
certificate_said None g labels = refl
certificate_said (Some d) g labels = refl

-- without `--near` no choice changes what `plan` answers
plan_answered : (c : CommandWords) (files : Files) (a : Answer) → c.verb ≡ Plan → c.near ≡ false → (choice : Choice) → answer_of choice c files ≡ Ok a → answer_of no_choice c files ≡ Ok a
plan_answered c files a v n choice e =
    let by : answer_of no_choice c files ≡ about (planning no_choice c.near (options_of c)) c files = ap (λ w. answer_by no_choice w c files) v in
    let labels : about (planning no_choice c.near (options_of c)) c files ≡ about (plan (options_of c)) c files = ap (λ b. about (planning no_choice b (options_of c)) c files) n in
    by ∙ labels ∙ by_planning choice false c files a v n e

-- all that a run of `plan --as-certificate` went through
record Planned (line : List Text) (files : Files) (grid : Option Rounding) (i : InputValues) (n : Text × List Period) : Type 0 where
  none : i.rules ≡ []
  settled : settled i ≡ Ok i
  fits : IfSome grid IsGrid
  task : IsTask (task_on i n.1)
  form : IsGapCertificate (claim_on grid (task_on i n.1))
  text : whole.text no_choice line files ≡ claim_text (is_some grid) (claim_on grid (task_on i n.1))

was_planned : (line : List Text) (files : Files) (grid : Option Rounding) (i : InputValues) (n : Text × List Period) (old new : World) (e : Ending) → PlansCertificate line files grid i → i.networks ≡ n ∷ [] → Tells old.shelf files → Runs line old e new → status_of e ≡ 0 → Planned line files grid i n
was_planned line files grid i n old new e p one t h s =
    let c = p.command in
    let d = done_by line old new e h s c files p.asked t in
    let o = options_of c in
    let x = about_ok (plan o) c files d.answer (by_planning h.ends.choice false c files d.answer p.verb p.by_labels d.gives) in
    let same : x.0 ≡ i = ok_same (inputs_of c files) x.0 i x.1 p.read in
    let answered : plan o i ≡ Ok d.answer = subst (λ j. plan o j ≡ Ok d.answer) same x.2 in
    let y = planned_ok o i n d.answer one answered in
    let g = task_on i n.1 in
    let is = is_task c files i n d.limits (subst HasFilm (sym p.verb) tt) (is_ready c files i i p.read y.0) one in
    let few = few_labels c o.grid g d.limits p.verb is y.1 in
    let counts = counts_of c Plan d.limits p.verb in
    let own = grid_fits c d.limits in
    let said : claim_text (is_some o.grid) (claim_on o.grid g) ≡ d.answer.text =
    sym (certificate_said o.grid g (labels_on o.grid g))
    ∙ subst (λ b. parts_text o.grid b (certificate_on o.grid g) (bound_on o.grid g) (labels_on o.grid g) ≡ d.answer.text) p.as_certificate (ap (λ (a : Answer). a.text) y.2) in
    record {
      none = none_of i.rules (ap length (inputs_counted c files i p.read).1 ∙ counts.1);
      settled = y.0;
      fits = subst (λ d. IfSome d IsGrid) p.on_grid own;
      task = is;
      form = subst (λ d. IsGapCertificate (claim_on d g)) p.on_grid (has_text o.grid g own is few);
      text = ap text_in (outcome_asked no_choice line c files p.asked ∙ plan_answered c files d.answer p.verb p.by_labels h.ends.choice d.gives) ∙ sym said ∙ ap (λ d. claim_text (is_some d) (claim_on d g)) p.on_grid;
    }

-- `check` says yes to what a run of `plan --as-certificate` printed
pub runs_accepted : RunsAreAccepted
runs_accepted line line2 files files2 grid i j old new old2 new2 e e2 plans t h s checks t2 h2 alike =
    let n = alike.one in
    let done = was_planned line files grid i n old new e plans alike.network t h s in
    let g = task_on i n.1 in
    let gap = is_some grid in
    let claim = claim_on grid g in
    let c = checks.command in
    let bytes = whole.text no_choice line files in
    let limits = command_within line2 c checks.asked in
    let short : length bytes ≤ 536870912 = subst (λ t. length t ≤ 536870912) (sym done.text) (claim_fits gap claim done.form) in
    let read = read_more false c checks.name bytes files2 j checks.by_labels checks.certificate checks.there short checks.read in
    let all : InputValues = record j { certificate = bytes } in
    let counts = counts_of c Check limits checks.verb in
    let none : all.rules ≡ [] = none_of all.rules (ap length (inputs_counted c files2 all read).1 ∙ counts.1) in
    let fits = settled_alike i all alike.film alike.setup done.none none done.settled in
    let task : task_on all n.1 ≡ g = rw (alike.film, alike.setup, alike.live) refl in
    let yes : verdict_of (task_on all n.1) claim.inner claim.bound ≡ Yes = ap (λ t. verdict_of t claim.inner claim.bound) task ∙ says_yes grid g done.fits done.task in
    let spelled : claim_of gap all.certificate ≡ Ok claim = ap (claim_of gap) done.text ∙ claim_again gap claim done.form (own_score grid g done.task) in
    let verdict : check gap all ≡ Ok (told_verdict gap claim.inner.score claim.bound Yes) = checked gap all (alike.other, n.1) claim spelled fits alike.same yes in
    let by : answer_of no_choice c files2 ≡ about (checking c.near c.gap) c files2 = ap (λ v. answer_by no_choice v c files2) checks.verb in
    let labels : about (checking c.near c.gap) c files2 ≡ about (check c.gap) c files2 = ap (λ b. about (checking b c.gap) c files2) checks.by_labels in
    let asked : about (check c.gap) c files2 ≡ about (check gap) c files2 = ap (λ b. about (check b) c files2) checks.asks_gap in
    let came : outcome no_choice line2 files2 ≡ Ok (printed (verdict_text gap claim.inner.score claim.bound Yes)) =
    outcome_asked no_choice line2 c files2 checks.asked ∙ by ∙ labels ∙ asked ∙ about_is (check gap) c files2 all read ∙ verdict in
    (claim, done.form, done.text, came, subst (λ o. IsAmong (status_of e2) (answers_to o)) came ((statuses line2 old2 e2 new2 h2).told files2 t2))
