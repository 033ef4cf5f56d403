-- The certificate that is read off the chains of a task: it has a text, proves its list and its bound, and is valid.
use Rattle.std.proofs.Common.{◌≡◌, ◌∙◌, ℕ, suc, ◌-◌, ◌≤◌, false, is_some, Option, Some, None, IfSome, refl, sym, subst, arith}
use Rattle.std.specs.Prelude.{nat_lt}
use Rattle.std.proofs.lemmas.Bool.Decides.{nat_tests}
use Rattle.lab_model.specs.Film.{segments_of}
use Rattle.labels.specs.Form.{HasSignedDigits, IsCertificate, score_digits}
use Rattle.labels.specs.Frontier.{frontier}
use Rattle.labels.specs.Grid.{Rounding, IsGrid, exact}
use Rattle.labels.specs.Grown.{grown}
use Rattle.player_core.specs.Scene.{IsTask, Task}
use Rattle.labels.specs.Read.{labels_before, labels_in, list_of_plan}
use Rattle.labels.specs.Valid.{IsValid}
use Rattle.labels.proofs.Accepts.{accepted}
use Rattle.labels.proofs.LabelsAreValues.{labels_are_values}
use Rattle.labels.proofs.Rounds.{exact_fits}
use Rattle.labels.proofs.Same.{before_same, bound_same, certificate_same}
use Rattle.labels.proofs.HasForm.{bound_short, certificate_form}
use Rattle.labels.proofs.Sound.{exact_agrees, plan_accepted, plan_settles}
use Rattle.certificate_check.specs.declared.verdict.Verdict.TheVariants.{Yes}
use Rattle.certificate_text.specs.Form.{IsGapCertificate}
use Rattle.certificate_check.specs.Verdict.{verdict_of}
use Rattle.certificate_check.proofs.Verdicts.{valid_yes}
use Rattle.abrlab_top.specs.Plan.{bound_on, certificate_on, chains_on, spent_on}
use Rattle.abrlab_top.proofs.Finds.{none_found}

-- a budget that is not spent is not below the number of labels
pub within_budget : (grid : Option Rounding) (g : Task) (budget : ℕ) → 1 ≤ segments_of g.film → spent_on grid g budget ≡ None → labels_in g (chains_on grid g) ≤ budget
unfolding spent_on
within_budget grid g budget some h =
    let n = segments_of g.film in
    let last : suc (n - 1) ≡ n = omega (arith, some) in
    let fails = none_found (λ i. nat_lt budget (labels_before g (chains_on grid g) (suc i))) 0 n h (n - 1) (omega arith) (omega (arith, some)) in
    below (subst (λ k. nat_lt budget (labels_before g (chains_on grid g) k) ≡ false) last fails)
  where
    below : {a b : ℕ} → nat_lt a b ≡ false → b ≤ a
    below h = grind (arith, nat_tests, h)

-- it has a text, and so has its bound
pub has_text : (grid : Option Rounding) (g : Task) → IfSome grid IsGrid → IsTask g → labels_in g (chains_on grid g) ≤ 1000000 → IsGapCertificate (record { bound = bound_on grid g; inner = certificate_on grid g })
has_text None g fits is few =
    let agree = exact_agrees g is in
    let before = before_same exact g (grown exact g) (frontier g) agree (segments_of g.film) (omega arith) in
    let most : labels_in g (grown exact g) ≤ 1000000 = omega (arith, before, few) in
    record {
      bound = subst (HasSignedDigits score_digits) (bound_same exact g (grown exact g) (frontier g) agree is) (bound_short exact g (record { task = is; grid = exact_fits }) most);
      inner = subst IsCertificate (certificate_same exact g (grown exact g) (frontier g) agree is) (certificate_form exact g (record { task = is; grid = exact_fits }) most);
    }
has_text (Some d) g fits is few = record { bound = bound_short d g (record { task = is; grid = fits }) few; inner = certificate_form d g (record { task = is; grid = fits }) few }

-- without a grid the bound is the score
pub own_score : (grid : Option Rounding) (g : Task) → IsTask g → is_some grid ≡ false → bound_on grid g ≡ (certificate_on grid g).score
own_score None g is none = let h = plan_settles g is in sym h.value ∙ labels_are_values g is (list_of_plan exact g (frontier g)) h.list
own_score (Some d) g is none = absurd cc

-- it is valid with its bound
pub bound_holds : (grid : Option Rounding) (g : Task) → IfSome grid IsGrid → IsTask g → IsValid g (certificate_on grid g) (bound_on grid g)
bound_holds None g fits is = subst (IsValid g (certificate_on None g)) (sym (own_score None g is refl)) (plan_accepted g is)
bound_holds (Some d) g fits is = accepted d fits g is

-- so a check says yes to it
pub says_yes : (grid : Option Rounding) (g : Task) → IfSome grid IsGrid → IsTask g → verdict_of g (certificate_on grid g) (bound_on grid g) ≡ Yes
says_yes grid g fits is = valid_yes g (certificate_on grid g) (bound_on grid g) is.film.segments.0 (bound_holds grid g fits is)
