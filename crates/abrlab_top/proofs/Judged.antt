-- What `check` judges: what the lines of a certificate, plain or with a gap, came to is what the command answers.
use Rattle.std.proofs.Common.{◌≡◌, ◌∙◌, Bool, true, false, List, [], Some, None, Result, Ok, Err, refl, sym, ap, subst}
use Rattle.std.specs.Prelude.{ℤ}
use Rattle.std.specs.List.{slice_get}
use Rattle.std.specs.Result.{IsErrAnd}
use Rattle.std.proofs.lemmas.Result.{err_from_is_err_and}
use Rattle.lab_io.specs.declared.PutErr.{PutErr}
use Rattle.lab_io.specs.Sink.{Text, Seen, Puts}
use Rattle.lab_model.proofs.Steps.{map_ok-ok, then_ok}
use Rattle.lab_model.specs.Steps.{◌>>=◌, map_ok}
use Rattle.lab_model.specs.declared.fault.Refusal.{Refusal}
use Rattle.lab_model.specs.declared.fault.InputFault.{InputFault}
use Rattle.lab_model.specs.declared.fault.InputFault.TheVariants.{Memory, Refused}
use Rattle.lab_model.specs.declared.trace.Period.{Period}
use Rattle.lab_model.specs.Reading.{Fails}
use Rattle.lab_inputs.specs.declared.role.Role.TheVariants as role
use Rattle.lab_inputs.specs.declared.stop.Stop.{Stop}
use Rattle.lab_inputs.specs.Inputs.{InputValues}
use Rattle.lab_inputs.specs.Settings.{misfit, settled}
use Rattle.player_core.specs.Scene.{Task}
use Rattle.labels.specs.Parts.{CertificateParts}
use Rattle.certificate_check.specs.declared.verdict.Verdict.{Verdict}
use Rattle.certificate_check.specs.declared.verdict.Verdict.TheVariants.{Yes, No}
use Rattle.certificate_text.specs.Form.{GapParts}
use Rattle.certificate_text.specs.Reading.{certificate_of, gap_of, read_head}
use Rattle.certificate_text.specs.Walk.{Walk, accepted, begun, begun_gap, certificate_by, first_walk, gap_accepted, rest_of}
use Rattle.certificate_text.proofs.LayerByLayer.{bad_gap, bad_head}
use Rattle.certificate_text.proofs.WalkLaws.{begun_rest, gap_inner}
use Rattle.certificate_check.specs.Verdict.{bounded_verdict, gap_verdict, verdict_of}
use Rattle.abrlab_top.specs.declared.check.Judgement.{Judgement}
use Rattle.abrlab_top.specs.declared.ending.Ending.{Ending}
use Rattle.abrlab_top.specs.declared.ending.Ending.TheVariants as ending
use Rattle.abrlab_top.specs.Answer.{printed}
use Rattle.abrlab_top.specs.Check.{check, check_on, told_verdict, verdict_ending}
use Rattle.abrlab_top.specs.Claim.{claim_begun, claim_of, own_bound}
use Rattle.abrlab_top.specs.Ending.{IsWhole, after_put}
use Rattle.abrlab_top.specs.Plan.{task_on}
use Rattle.abrlab_top.specs.Stages.{Judges, Writes, judged, of_a_check, bad_line}
use Rattle.abrlab_top.proofs.Whole.{late_setting, put_failed, wanting}

ok_same : {A E : Type 0} (o : Result A E) (x y : A) → o ≡ Ok x → o ≡ Ok y → x ≡ y
ok_same o x y e h = cc

-- ---- what the lines came to

-- the bound of a plain walk is its own score
own_walk : (bytes : Text) (w : Walk) → begun bytes ≡ Ok w → w.bound ≡ w.head.score
unfolding begun
own_walk bytes w b =
    let x = then_ok (read_head 0 bytes) (λ head. Ok (first_walk head.0.score head)) w b in
    let same : first_walk x.0.0.score x.0 ≡ w = ok_same _ _ w refl x.2 in
    subst (λ (v : Walk). v.bound ≡ v.head.score) same refl

-- the score that stands before the chains is the certificate's
score_is : (w : Walk) (c : CertificateParts) → certificate_by w ≡ Ok c → w.head.score ≡ c.score
score_is w c e =
    let x = then_ok (rest_of w) (λ chains. Ok (record w.head { chains = chains })) c e in
    ap (λ (d : CertificateParts). d.score) (ok_same _ _ c refl x.2)

-- score and bound that stand before the chains are what is claimed
claim_is : (gap : Bool) (bytes : Text) (w : Walk) (k : GapParts) → claim_begun gap bytes ≡ Ok w → claim_of gap bytes ≡ Ok k → (w.head.score ≡ k.inner.score) × (w.bound ≡ k.bound)
claim_is false bytes w k b e =
    let x = map_ok-ok own_bound (certificate_of bytes) k e in
    let score = score_is w x.0 (sym (begun_rest bytes w b) ∙ x.1) in
    (score ∙ ap (λ (q : GapParts). q.inner.score) x.2, own_walk bytes w b ∙ score ∙ ap (λ (q : GapParts). q.bound) x.2)
claim_is true bytes w k b e = let x = gap_inner bytes w k b e in (score_is w k.inner x.0, x.1)

-- bytes that do not begin as a certificate are none
pub begun_fails : (gap : Bool) (bytes : Text) (f : InputFault) → Fails f (claim_begun gap bytes) → Fails f (claim_of gap bytes)
begun_fails gap bytes Memory h = tt
begun_fails false bytes (Refused why) h = ap (map_ok own_bound) (bad_head bytes why h)
begun_fails true bytes (Refused why) h = bad_gap bytes why h

kept_err : {X Y : Type 0} (r : Result X Refusal) (f : X → Y) (why : Refusal) → (r >>= λ x. Ok (f x)) ≡ Err why → r ≡ Err why
kept_err (Ok x) f why h = absurd cc
kept_err (Err e) f why h = cc

-- lines without a verdict have a bad one
pub verdict_fails : (gap : Bool) (g : Task) (bytes : Text) (bound : ℤ) (w : Walk) (f : InputFault) → claim_begun gap bytes ≡ Ok w → (begun bytes ≡ Ok w → Fails f (bounded_verdict g bytes bound))
    → (begun_gap bytes ≡ Ok w → Fails f (gap_verdict g bytes bound)) → Fails f (claim_of gap bytes)
verdict_fails gap g bytes bound w Memory b plain gapped = tt
verdict_fails false g bytes bound w (Refused why) b plain gapped = ap (map_ok own_bound) (kept_err (certificate_of bytes) (λ c. verdict_of g c bound) why (plain b))
verdict_fails true g bytes bound w (Refused why) b plain gapped = kept_err (gap_of bytes) (λ c. verdict_of g c.inner bound) why (gapped b)

-- so have lines that do not come to their end
pub rest_fails : (gap : Bool) (bytes : Text) (w : Walk) (f : InputFault) → claim_begun gap bytes ≡ Ok w → (begun bytes ≡ Ok w → Fails f (accepted bytes)) → (begun_gap bytes ≡ Ok w → Fails f (gap_accepted bytes)) → Fails f (claim_of gap bytes)
rest_fails gap bytes w Memory b plain gapped = tt
rest_fails false bytes w (Refused why) b plain gapped = ap (map_ok own_bound) (kept_err (certificate_of bytes) (λ c. tt) why (plain b))
rest_fails true bytes w (Refused why) b plain gapped = kept_err (gap_of bytes) (λ c. tt) why (gapped b)

-- lines that come to their end claim something
pub rest_read : (gap : Bool) (bytes : Text) (w : Walk) → claim_begun gap bytes ≡ Ok w → (begun bytes ≡ Ok w → accepted bytes ≡ Ok tt) → (begun_gap bytes ≡ Ok w → gap_accepted bytes ≡ Ok tt) → (k : GapParts) × (claim_of gap bytes ≡ Ok k)
rest_read false bytes w b plain gapped = let x = then_ok (certificate_of bytes) (λ cert. Ok tt) tt (plain b) in (own_bound x.0, ap (map_ok own_bound) x.1)
rest_read true bytes w b plain gapped = let x = then_ok (gap_of bytes) (λ c. Ok tt) tt (gapped b) in (x.0, x.1)

-- a verdict is one on what they claim
judged_claim : (gap : Bool) (g : Task) (bytes : Text) (bound : ℤ) (w : Walk) (v : Verdict) → claim_begun gap bytes ≡ Ok w → (begun bytes ≡ Ok w → bounded_verdict g bytes bound ≡ Ok v)
    → (begun_gap bytes ≡ Ok w → gap_verdict g bytes bound ≡ Ok v) → (k : GapParts) × (claim_of gap bytes ≡ Ok k) × (verdict_of g k.inner bound ≡ v)
judged_claim false g bytes bound w v b plain gapped =
    let x = then_ok (certificate_of bytes) (λ c. Ok (verdict_of g c bound)) v (plain b) in
    (own_bound x.0, ap (map_ok own_bound) x.1, ok_same _ _ v refl x.2)
judged_claim true g bytes bound w v b plain gapped =
    let x = then_ok (gap_of bytes) (λ c. Ok (verdict_of g c.inner bound)) v (gapped b) in
    (x.0, x.1, ok_same _ _ v refl x.2)

-- ---- what the command answers

-- no network is named
pub no_network : (gap : Bool) (i : InputValues) → slice_get i.networks 0 ≡ None → check gap i ≡ Ok (printed [])
unfolding check
no_network gap i e = ap (check_on gap i) e

-- a bad line of the certificate comes first
pub bad_judged : (gap : Bool) (i : InputValues) (n : Text × List Period) (f : InputFault) → slice_get i.networks 0 ≡ Some n → Fails f (claim_of gap i.certificate) → Judges gap i (Err (bad_line role.Certificate f))
unfolding check
bad_judged gap i n Memory e h = tt
bad_judged gap i n (Refused why) e h = ((refl, why, refl), rw (e, h) refl)

-- then a setting that does not fit
pub misfit_judged : (gap : Bool) (i : InputValues) (n : Text × List Period) (why : Stop) → slice_get i.networks 0 ≡ Some n → settled i ≡ Err why → (k : GapParts) × (claim_of gap i.certificate ≡ Ok k) → Judges gap i (Err (ending.Stopped why))
unfolding check
misfit_judged gap i n why e m k = (late_setting of_a_check.checks i (misfit i.setup i.rules i.film) why m, rw (e, k.1, m) refl)

claim_told : (gap : Bool) (i : InputValues) (n : Text × List Period) (k : GapParts) → slice_get i.networks 0 ≡ Some n → settled i ≡ Ok i → claim_of gap i.certificate ≡ Ok k
    → check gap i ≡ Ok (told_verdict gap k.inner.score k.bound (verdict_of (task_on i n.1) k.inner k.bound))
unfolding check
claim_told gap i n k e fits claim = rw (e, claim, fits) refl

-- then the verdict
pub verdict_judged : (gap : Bool) (i : InputValues) (n : Text × List Period) (g : Task) (w : Walk) (j : Judgement) → slice_get i.networks 0 ≡ Some n → settled i ≡ Ok i → g ≡ task_on i n.1
    → claim_begun gap i.certificate ≡ Ok w → j.score ≡ w.head.score → j.bound ≡ w.bound → (bound : ℤ) → bound ≡ w.bound
    → (begun i.certificate ≡ Ok w → bounded_verdict g i.certificate bound ≡ Ok j.verdict) → (begun_gap i.certificate ≡ Ok w → gap_verdict g i.certificate bound ≡ Ok j.verdict) → Judges gap i (Ok j)
verdict_judged gap i n g w j e fits task b score bound z own plain gapped =
    let k = judged_claim gap g i.certificate z w j.verdict b plain gapped in
    let is = claim_is gap i.certificate w k.0 b k.1 in
    let told : verdict_of (task_on i n.1) k.0.inner k.0.bound ≡ j.verdict = ap (λ t. verdict_of t k.0.inner k.0.bound) (sym task) ∙ ap (verdict_of g k.0.inner) (sym (own ∙ is.1)) ∙ k.2 in
    claim_told gap i n k.0 e fits k.1
    ∙ ap (λ (s : ℤ). Ok (told_verdict gap s k.0.bound (verdict_of (task_on i n.1) k.0.inner k.0.bound))) (sym (score ∙ is.0))
    ∙ ap (λ (s : ℤ). Ok (told_verdict gap j.score s (verdict_of (task_on i n.1) k.0.inner k.0.bound))) (sym (bound ∙ is.1))
    ∙ ap (λ v. Ok (told_verdict gap j.score j.bound v)) told

-- ---- how the command ends

-- judging came to no verdict
pub judged_failed : (gap : Bool) (i : InputValues) (old : Seen) (e : Ending) → Judges gap i (Err e) → Writes of_a_check (check gap i) old e old
judged_failed gap i old ending.Done h = absurd h
judged_failed gap i old ending.Invalid h = absurd h
judged_failed gap i old ending.Usage h = absurd h
judged_failed gap i old (ending.Stopped why) h = (h.0, h.1, refl)
judged_failed gap i old (ending.Spent trace segment) h = absurd h
judged_failed gap i old ending.OutputFailed h = absurd h
judged_failed gap i old ending.NoMemory h = wanting of_a_check (check gap i) old

-- at the exit of a `?`
pub judge_failed : (gap : Bool) (i : InputValues) (old : Seen) (r : Result Judgement Ending) (e : Ending) → r ≡ Err e → Judges gap i r → Writes of_a_check (check gap i) old e old
judge_failed gap i old r e k h = let x : Judges gap i (Err e) = rw k at h in judged_failed gap i old e x

-- memory was wanting
pub judging_wants : (gap : Bool) (i : InputValues) (q : Result Judgement Ending) → IsErrAnd q (λ y. y ≡ ending.NoMemory) → Judges gap i q
judging_wants gap i q k = let p = err_from_is_err_and q k in rw (p.1, p.2) tt

-- judging gave a verdict
pub judge_given : (gap : Bool) (i : InputValues) (r : Result Judgement Ending) (j : Judgement) → r ≡ Ok j → Judges gap i r → check gap i ≡ Ok (judged gap j)
judge_given gap i r j k h = rw k at h

whole_verdict : (v : Verdict) → IsWhole (verdict_ending v)
whole_verdict Yes = tt
whole_verdict (No clause segment rung label) = tt

-- the verdict did not go out
pub verdict_failed : (gap : Bool) (i : InputValues) (j : Judgement) (old new : Seen) (r : Result (Unit {0}) PutErr) (e : PutErr) → check gap i ≡ Ok (judged gap j) → r ≡ Err e → Puts old (judged gap j).text new r → Writes of_a_check (check gap i) old (after_put e) new
verdict_failed gap i j old new r e is k p = put_failed of_a_check (check gap i) (judged gap j) old new r e is (whole_verdict j.verdict) k p

-- the verdict went out
pub verdict_done : (gap : Bool) (i : InputValues) (j : Judgement) (old new : Seen) (r : Result (Unit {0}) PutErr) (u : Unit {0}) → check gap i ≡ Ok (judged gap j) → r ≡ Ok u → Puts old (judged gap j).text new r → Writes of_a_check (check gap i) old (verdict_ending j.verdict) new
verdict_done gap i j old new r u is k p =
    let q : Puts old (judged gap j).text new (Ok u) = rw k at p in
    by_verdict j.verdict refl q
  where
    by_verdict : (v : Verdict) → j.verdict ≡ v → Puts old (judged gap j).text new (Ok u) → Writes of_a_check (check gap i) old (verdict_ending v) new
    by_verdict Yes e q = (judged gap j, is, (ap verdict_ending e, q.answered))
    by_verdict (No clause segment rung label) e q = (refl, (judged gap j, is, (ap verdict_ending e, q.answered)))
