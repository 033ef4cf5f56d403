use Rattle.std.proofs.Common.{◌≡◌, ◌∙◌, ◌≤◌, ℕ, List, length, true, ap, sym, subst}
use Rattle.std.specs.Prelude.{Some, None, IfOk}
use Rattle.labels.specs.Labels.{AreRungs}
use Rattle.std.proofs.lemmas.Result.{IfOk-weaker}
use Rattle.price_bounds.specs.Verdict.{bad_rung, bad_window, bound_verdict, is_of_film, price_parts, verdict_of}
use Rattle.price_bounds.proofs.Verdicts.{other_film, range_passed, rung_verdict, rungs_passed, window_verdict, windows_passed}
use Rattle.price_bounds.proofs.check.verdict_on.Goals as goal

pub returns-then-not-is_of_film-clause-verdict : goal.returns-then-not-is_of_film-clause-verdict
returns-then-not-is_of_film-clause-verdict c =
    other_film c.args.scene.now (price_parts c.args.certificate.now) (sym c.is_of_film.ensures.value ∙ c.if-not-is_of_film.true)

pub returns-in-Some-clause-verdict : goal.returns-in-Some-clause-verdict
returns-in-Some-clause-verdict c =
    let cert = c.args.certificate.now in
    rung_verdict c.args.scene.now (price_parts cert) c.in-Some.segment (sym c.is_of_film.ensures.value ∙ c.if-not-is_of_film.false)
    (sym c.in-Some.is ∙ c.bad_rung.ensures ∙ ap (bad_rung cert.rungs 0) c.deref.ensures.value)

pub returns-in-Some-bad_window-clause-verdict : goal.returns-in-Some-bad_window-clause-verdict
returns-in-Some-bad_window-clause-verdict c =
    let cert = c.args.certificate.now in
    window_verdict c.args.scene.now (price_parts cert) c.in-Some-bad_window.window (sym c.is_of_film.ensures.value ∙ c.if-not-is_of_film.false)
    (sym c.in_default.is ∙ c.bad_rung.ensures ∙ ap (bad_rung cert.rungs 0) c.deref.ensures.value)
    (sym c.in-Some-bad_window.is ∙ c.bad_window.ensures ∙ ap (bad_window cert.segments 0 0 0) c.deref-2.ensures.value)

pub bound_verdict-requires-clause-rungs : goal.bound_verdict-requires-clause-rungs
bound_verdict-requires-clause-rungs c =
    let cert = c.args.certificate.now in
    rungs_passed c.args.scene.now (price_parts cert) (sym c.is_of_film.ensures.value ∙ c.if-not-is_of_film.false) c.requires.plan
    (sym c.in_default.is ∙ c.bad_rung.ensures ∙ ap (bad_rung cert.rungs 0) c.deref.ensures.value)

pub bound_verdict-requires-clause-windows : goal.bound_verdict-requires-clause-windows
bound_verdict-requires-clause-windows c =
    let cert = c.args.certificate.now in
    windows_passed c.args.scene.now (price_parts cert) (sym c.is_of_film.ensures.value ∙ c.if-not-is_of_film.false) c.requires.windows
    (sym c.in_default-bad_window.is ∙ c.bad_window.ensures ∙ ap (bad_window cert.segments 0 0 0) c.deref-2.ensures.value)

pub returns-clause-verdict : goal.returns-clause-verdict
returns-clause-verdict c =
    let g = c.args.scene.now in
    let cert = c.args.certificate.now in
    IfOk-weaker c.bound_verdict.result (λ v. v ≡ bound_verdict g (price_parts cert)) (λ v. v ≡ verdict_of g (price_parts cert))
    (λ v e. range_passed g (price_parts cert) v (sym c.is_of_film.ensures.value ∙ c.if-not-is_of_film.false)
    (sym c.in_default.is ∙ c.bad_rung.ensures ∙ ap (bad_rung cert.rungs 0) c.deref.ensures.value)
    (sym c.in_default-bad_window.is ∙ c.bad_window.ensures ∙ ap (bad_window cert.segments 0 0 0) c.deref-2.ensures.value) e)
    c.bound_verdict.ensures
