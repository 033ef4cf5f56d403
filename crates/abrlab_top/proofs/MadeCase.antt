-- What `demo` writes of a made case: its rows, its plan, and the verdict on the plan's certificate.
use Rattle.std.proofs.Common.{◌≡◌, ◌∙◌, ℕ, ◌≤◌, ◌++◌, List, [], ◌∷◌, map, None, Result, Ok, Err, ap, sym, refl, subst, arith}
use Rattle.std.specs.Prelude.{ℤ, codes, pos}
use Rattle.std.specs.Fmt.{signed_decimal}
use Rattle.std.specs.List.{All, flat_map}
use Rattle.std.specs.Result.{IsErrAnd}
use Rattle.std.proofs.lemmas.List.Elements.{All-cons, All-nil}
use Rattle.lab_io.specs.declared.PutErr.{PutErr}
use Rattle.lab_io.specs.Piece.{fields_line}
use Rattle.lab_io.specs.Sink.{Text, Seen, Puts}
use Rattle.lab_io.proofs.Puts.{puts_as}
use Rattle.lab_model.specs.declared.context.Seek.{Seek}
use Rattle.lab_model.specs.declared.trace.Period.{Period}
use Rattle.lab_model.specs.Film.{IsWithin}
use Rattle.lab_model.specs.Rules.{RuleKind, KindFits, bola, fixed, mpc, throughput}
use Rattle.lab_words.specs.declared.NamedRule.{NamedRule}
use Rattle.lab_words.specs.Command.{named}
use Rattle.lab_words.specs.Limits.{IsRuleWithin}
use Rattle.lab_words.specs.Rules.{spoken}
use Rattle.labels.specs.declared.plans.Plan.{Plan}
use Rattle.labels.specs.Frontier.{frontier}
use Rattle.labels.specs.Grid.{exact}
use Rattle.player_core.specs.Scene.{IsTask, Task}
use Rattle.labels.specs.Parts.{CertificateParts, plan_parts}
use Rattle.frontier_planner.specs.Planned.{IsPlanOf}
use Rattle.certificate_text.specs.declared.certificate.Certificate.{Certificate}
use Rattle.labels.specs.Form.{IsCertificate}
use Rattle.certificate_text.specs.Form.{certificate_parts}
use Rattle.demo_case.specs.declared.case.DemoCase.{DemoCase}
use Rattle.demo_case.specs.Case.{demo_film, demo_periods, demo_setup, demo_task}
use Rattle.demo_case.proofs.Bound.{budget_unspent}
use Rattle.abrlab_top.specs.Demo.{FitsBudget, demo_bench, demo_line, demo_plan, demo_rules, demo_text, plan_report, task_in}
use Rattle.abrlab_top.specs.Plan.{certificate_on, labels_on}
use Rattle.abrlab_top.specs.Rows.{BenchValue, session_row}
use Rattle.abrlab_top.specs.Stages.{WritesRows}
use Rattle.abrlab_top.proofs.RowByRow.{rows_as, rows_failed, rows_more, rows_put}
use Rattle.abrlab_top.proofs.Networks.{all_mapped}

-- ---- the rules

-- what holds of each of five holds of all
five : {A : Type 0} (P : A → Type 0) (a b c d e : A) → P a → P b → P c → P d → P e → All P (a ∷ b ∷ c ∷ d ∷ e ∷ [])
five P a b c d e p q r s t = All-cons P a (b ∷ c ∷ d ∷ e ∷ []) p (All-cons P b (c ∷ d ∷ e ∷ []) q (All-cons P c (d ∷ e ∷ []) r (All-cons P d (e ∷ []) s (All-cons P e [] t (All-nil P)))))

small_windows : All (IsWithin 1 100) (3 ∷ 5 ∷ [])
small_windows = All-cons (IsWithin 1 100) 3 (5 ∷ []) (omega arith, omega arith) (All-cons (IsWithin 1 100) 5 [] (omega arith, omega arith) (All-nil (IsWithin 1 100)))

-- the numbers of the rules are within their limits
pub made_within : (rules seen : List NamedRule) → seen ≡ rules → map named rules ≡ demo_rules → All (λ (rule : NamedRule). IsRuleWithin (spoken rule.rule)) seen
made_within rules seen e h =
    let P = λ (r : Text × RuleKind). IsRuleWithin r.1 in
    let each : All P demo_rules = five P (codes "fixed:0", fixed 0) (codes "fixed:3", fixed 3) (codes "throughput:3,5", throughput (3 ∷ 5 ∷ [])) (codes "bola:5", bola 5) (codes "mpc:3", mpc 3) (omega arith, omega arith) (omega arith, omega arith) ((omega arith, omega arith), small_windows) (omega arith, omega arith) (omega arith, omega arith) in
    rw e (all_mapped P named rules (subst (All P) (sym h) each))

-- the rules can be asked about the film
pub made_fit : (n : ℕ) (rules seen : List NamedRule) (b : BenchValue) → seen ≡ rules → map named rules ≡ demo_rules → b ≡ demo_bench n → All (λ (rule : NamedRule). KindFits (spoken rule.rule) b.film) seen
made_fit n rules seen b e h k =
    let P = λ (r : Text × RuleKind). KindFits r.1 (demo_film n) in
    let each : All P demo_rules = five P (codes "fixed:0", fixed 0) (codes "fixed:3", fixed 3) (codes "throughput:3,5", throughput (3 ∷ 5 ∷ [])) (codes "bola:5", bola 5) (codes "mpc:3", mpc 3) (omega arith) (omega arith) tt tt tt in
    rw (e, k) (all_mapped P named rules (subst (All P) (sym h) each))

-- ---- the case

-- the bench is the one of the number
pub bench_made : (n : ℕ) (c : DemoCase) (clock : List Period) (seeks : List Seek) (b : BenchValue) → b ≡ record { film = c.manifest; periods = clock; setup = c.setup; seeks = seeks } → seeks ≡ []
    → c.manifest ≡ demo_film n → clock ≡ c.trace → c.trace ≡ demo_periods n → c.setup ≡ demo_setup → b ≡ demo_bench n
bench_made n c clock seeks b on none film same periods setup = on ∙ rw (none, film, same, periods, setup) refl

-- the task is the one of the number
pub task_made : (n : ℕ) (c : DemoCase) (clock : List Period) → c.manifest ≡ demo_film n → clock ≡ c.trace → c.trace ≡ demo_periods n → c.setup ≡ demo_setup → task_in c clock ≡ demo_task n
task_made n c clock film same periods setup = rw (film, same, periods, setup) refl

-- its plan does not spend the budget
pub made_fits_budget : (n : ℕ) (g : Task) → n ≤ 2147483647 → g ≡ demo_task n → FitsBudget g
made_fits_budget n g most e = subst FitsBudget (sym e) (λ segment spent. budget_unspent n segment most spent)

-- ---- the plan

-- the line of a plan from its pieces
pub plan_put : (score z y : ℤ) (labels : ℕ) (old new : Seen) (r : Result (Unit {0}) PutErr) → z ≡ score → y ≡ pos labels
    → Puts old (fields_line (codes "plan" ∷ codes "score" ∷ signed_decimal z ∷ codes "labels" ∷ signed_decimal y ∷ [])) new r → Puts old (demo_plan score labels) new r
plan_put score z y labels old new r e h x =
    puts_as old new _ _ r (ap (λ s. fields_line (codes "plan" ∷ codes "score" ∷ signed_decimal s ∷ codes "labels" ∷ signed_decimal y ∷ [])) e ∙ ap (λ n. fields_line (codes "plan" ∷ codes "score" ∷ signed_decimal score ∷ codes "labels" ∷ signed_decimal n ∷ [])) h) x

-- the plan's line is the one of the task
plan_said : (g : Task) (p : Plan) (budget : ℕ) (score : ℤ) → score ≡ p.score → IsPlanOf exact g (frontier g) budget p p.score → demo_plan score p.labels ≡ demo_plan (certificate_on None g).score (labels_on None g)
plan_said g p budget score e h = ap (λ s. demo_plan s p.labels) e ∙ ap (λ (c : CertificateParts). demo_plan c.score p.labels) h.parts ∙ ap (demo_plan (certificate_on None g).score) h.list.labels

-- the line of the plan did not go out
pub plan_cut : (g : Task) (p : Plan) (budget : ℕ) (score : ℤ) (old new : Seen) (r q : Result (Unit {0}) PutErr) (e : PutErr) → score ≡ p.score → IsPlanOf exact g (frontier g) budget p p.score → r ≡ Err e → IsErrAnd q (λ y. y ≡ e)
    → Puts old (demo_plan score p.labels) new r → WritesRows old (plan_report g) q new
plan_cut g p budget score old new r q e same of h k x =
    rows_failed old new (demo_plan (certificate_on None g).score (labels_on None g)) (fields_line (codes "check" ∷ codes "yes" ∷ [])) r q e h k
    (rows_as old new (demo_plan score p.labels) (demo_plan (certificate_on None g).score (labels_on None g)) r (plan_said g p budget score same of) (rows_put old new (demo_plan score p.labels) r x))

-- the line of the plan, and what the verdict came to
pub plan_told : (g : Task) (p : Plan) (budget : ℕ) (score : ℤ) (old mid new : Seen) (r q : Result (Unit {0}) PutErr) (u : Unit {0}) → score ≡ p.score → IsPlanOf exact g (frontier g) budget p p.score → r ≡ Ok u
    → Puts old (demo_plan score p.labels) mid r → Puts mid (fields_line (codes "check" ∷ codes "yes" ∷ [])) new q → WritesRows old (plan_report g) q new
plan_told g p budget score old mid new r q u same of h x y =
    rows_more old mid new (demo_plan (certificate_on None g).score (labels_on None g)) (fields_line (codes "check" ∷ codes "yes" ∷ [])) r q u h
    (rows_as old mid (demo_plan score p.labels) (demo_plan (certificate_on None g).score (labels_on None g)) r (plan_said g p budget score same of) (rows_put old mid (demo_plan score p.labels) r x))
    (rows_put mid new (fields_line (codes "check" ∷ codes "yes" ∷ [])) q y)

-- the certificate of the plan has a text
pub plan_form : (g : Task) (p : Plan) (budget : ℕ) (c : Certificate) → IsTask g → IsPlanOf exact g (frontier g) budget p p.score → certificate_parts c ≡ plan_parts g.film p → IsCertificate (certificate_parts c)
plan_form g p budget c is of e = subst IsCertificate (sym e) of.form

-- ---- the whole

-- the text of a number, line by line
demo_said : (n : ℕ) → demo_line n ++ (flat_map (session_row (demo_bench n)) demo_rules ++ plan_report (demo_task n)) ≡ demo_text n
unfolding demo_text
demo_said n = refl

-- the first line did not go out
pub demo_cut : (n : ℕ) (old new : Seen) (r q : Result (Unit {0}) PutErr) (e : PutErr) → r ≡ Err e → IsErrAnd q (λ y. y ≡ e) → Puts old (demo_line n) new r → WritesRows old (demo_text n) q new
demo_cut n old new r q e h k x =
    rows_as old new _ _ q (demo_said n) (rows_failed old new (demo_line n) (flat_map (session_row (demo_bench n)) demo_rules ++ plan_report (demo_task n)) r q e h k (rows_put old new (demo_line n) r x))

-- the rows are those of the number
made_rows : (n : ℕ) (b : BenchValue) (rules seen : List NamedRule) (old new : Seen) (r : Result (Unit {0}) PutErr) → b ≡ demo_bench n → seen ≡ rules → map named rules ≡ demo_rules
    → WritesRows old (flat_map (session_row b) (map named seen)) r new → WritesRows old (flat_map (session_row (demo_bench n)) demo_rules) r new
made_rows n b rules seen old new r k e h =
    rows_as old new _ _ r (ap (λ x. flat_map (session_row x) (map named seen)) k ∙ ap (λ x. flat_map (session_row (demo_bench n)) (map named x)) e ∙ ap (flat_map (session_row (demo_bench n))) h)

-- the rows did not all go out
pub demo_rows_cut : (n : ℕ) (b : BenchValue) (rules seen : List NamedRule) (old mid new : Seen) (r s q : Result (Unit {0}) PutErr) (u : Unit {0}) (e : PutErr) → r ≡ Ok u → s ≡ Err e → IsErrAnd q (λ y. y ≡ e) → b ≡ demo_bench n → seen ≡ rules → map named rules ≡ demo_rules
    → Puts old (demo_line n) mid r → WritesRows mid (flat_map (session_row b) (map named seen)) s new → WritesRows old (demo_text n) q new
demo_rows_cut n b rules seen old mid new r s q u e went h k on same spoken line rows =
    rows_as old new _ _ q (demo_said n) (rows_more old mid new (demo_line n) (flat_map (session_row (demo_bench n)) demo_rules ++ plan_report (demo_task n)) r q u went (rows_put old mid (demo_line n) r line)
    (rows_failed mid new (flat_map (session_row (demo_bench n)) demo_rules) (plan_report (demo_task n)) s q e h k (made_rows n b rules seen mid new s on same spoken rows)))

-- the first line, the rows, and what the plan came to
pub demo_told : (n : ℕ) (b : BenchValue) (g : Task) (rules seen : List NamedRule) (old mid late new : Seen) (r s q : Result (Unit {0}) PutErr) (u v : Unit {0}) → r ≡ Ok u → s ≡ Ok v → b ≡ demo_bench n → g ≡ demo_task n → seen ≡ rules → map named rules ≡ demo_rules
    → Puts old (demo_line n) mid r → WritesRows mid (flat_map (session_row b) (map named seen)) s late → WritesRows late (plan_report g) q new → WritesRows old (demo_text n) q new
demo_told n b g rules seen old mid late new r s q u v went gone on task same spoken line rows plan =
    rows_as old new _ _ q (demo_said n) (rows_more old mid new (demo_line n) (flat_map (session_row (demo_bench n)) demo_rules ++ plan_report (demo_task n)) r q u went (rows_put old mid (demo_line n) r line)
    (rows_more mid late new (flat_map (session_row (demo_bench n)) demo_rules) (plan_report (demo_task n)) s q v gone (made_rows n b rules seen mid late s on same spoken rows) (rows_as late new _ _ q (ap plan_report task) plan)))
