-- What `plan --near` and `check --near` come to, and what they prove.
use Rattle.std.proofs.Common.{◌≡◌, ◌∙◌, ◌^◌, ◌<◌, ◌≤◌, ℕ, Bool, List, [], Some, None, Result, Ok, Err, ap, sym, refl, subst, arith}
use Rattle.std.specs.Prelude.{ℤ}
use Rattle.std.specs.List.{slice_get}
use Rattle.std.proofs.lemmas.Int.{ints}
use Rattle.std.proofs.lemmas.List.Elements.{All-weaker}
use Rattle.lab_io.specs.declared.PutErr.{PutErr}
use Rattle.lab_io.specs.Sink.{Puts, Seen, Text}
use Rattle.lab_model.specs.Film.{IsWithin, rungs_of, segments_of}
use Rattle.lab_model.specs.Number.{IsNear}
use Rattle.lab_model.specs.Reading.{Gives}
use Rattle.lab_model.specs.declared.fault.InputFault.{InputFault}
use Rattle.lab_model.specs.declared.fault.InputFault.TheVariants.{Memory, Refused}
use Rattle.lab_model.specs.declared.trace.Period.{Period}
use Rattle.lab_inputs.specs.declared.role.Role.TheVariants as role
use Rattle.lab_inputs.specs.declared.stop.Stop.{Stop}
use Rattle.lab_inputs.specs.Inputs.{InputValues}
use Rattle.lab_inputs.specs.Settings.{misfit, settled}
use Rattle.player_core.specs.Scene.{IsTask, Task}
use Rattle.labels.specs.Form.{HasDigits, HasSignedDigits, rung_digits, score_digits}
use Rattle.price_bounds.specs.Bound.{bound_of}
use Rattle.price_bounds.specs.Verdict.{IsValid, PriceParts, price_parts, verdict_of}
use Rattle.price_bounds.specs.Windows.{IsWindow}
use Rattle.price_bounds.specs.declared.verdict.PriceVerdict.{PriceVerdict}
use Rattle.price_bounds.specs.declared.verdict.PriceVerdict.TheVariants as said
use Rattle.price_bounds.specs.declared.window.Window.{Window}
use Rattle.price_bounds.proofs.Verdicts.{valid_settles}
use Rattle.price_text.specs.Form.{IsPrices, IsSpelledWindow}
use Rattle.price_text.specs.Reading.{prices_of}
use Rattle.abrlab_top.specs.declared.ending.Ending.TheVariants as ending
use Rattle.abrlab_top.specs.Answer.{printed}
use Rattle.abrlab_top.specs.Choice.{IsBound, IsNearBest}
use Rattle.abrlab_top.specs.Ending.{IsWhole, after_put}
use Rattle.abrlab_top.specs.Near.{near_check, near_check_on, near_plan, near_plan_on, near_text, price_ending, price_verdict_text, told_prices}
use Rattle.abrlab_top.specs.Plan.{task_on}
use Rattle.abrlab_top.specs.Stages.{Writes, bad_line, of_a_price_check}
use Rattle.abrlab_top.proofs.Whole.{late_setting, put_failed, wanting}

-- ---- what was found

near_by_digits : (z : ℤ) → HasSignedDigits score_digits z → IsNear (10 ^ 24) z
near_by_digits z h = let low = h.0 in let high = h.1 in record { low = omega (arith, ints, low); high = omega (arith, ints, high) }

-- the bound of a valid certificate is one that no rung list passes
pub certificate_bounds : (scene middle target : Task) (p : PriceParts) → scene ≡ middle → middle ≡ target → IsTask scene → IsValid scene p → HasSignedDigits score_digits p.bound → IsBound target p.bound
certificate_bounds scene middle target p e f is valid short =
    let settles = valid_settles scene p is valid in
    subst (λ g. IsBound g p.bound) (e ∙ f) (record { bounds = settles.most; near = near_by_digits p.bound short })

spelled_window : (segments : ℕ) → segments ≤ 2000 → (w : Window) → IsWindow segments w → IsSpelledWindow w
spelled_window segments few w h =
    let order = h.order in
    let inside = h.inside in
    let price = h.price.1 in
    record { first = omega (arith, few, order, inside); last = omega (arith, few, inside); price = omega (arith, price) }

-- a valid certificate whose score and bound are short has a text
pub has_prices : (g : Task) (p : PriceParts) → IsTask g → IsValid g p → HasSignedDigits score_digits p.score → HasSignedDigits score_digits p.bound → IsPrices p
has_prices g p is valid score bound =
    let segments : IsWithin 1 2000 p.segments = subst (IsWithin 1 2000) (sym valid.segments) is.film.segments in
    let rungs : IsWithin 1 16 p.rungs = subst (IsWithin 1 16) (sym valid.rungs) is.film.rungs in
    let most = is.film.rungs.1 in
    record {
      head = record {
        segments = segments;
        rungs = rungs;
        score = score;
        bound = bound;
        plan = (valid.list.0 ∙ sym valid.segments, All-weaker (λ q. q < rungs_of g.film) (HasDigits rung_digits) (λ q low. omega (arith, low, most)) p.plan valid.list.1);
      };
      few = valid.windows.range.few;
      windows = All-weaker (IsWindow (segments_of g.film)) IsSpelledWindow (spelled_window (segments_of g.film) is.film.segments.1) p.windows valid.windows.range.windows;
    }

-- what was found for a scene is a certificate of the task of these inputs
pub found_near : (scene middle target : Task) (p : PriceParts) → scene ≡ middle → middle ≡ target → IsTask scene → IsValid scene p → HasSignedDigits score_digits p.score → HasSignedDigits score_digits p.bound → p.bound ≡ bound_of scene p.windows
    → IsNearBest target p
found_near scene middle target p e f is valid score bound exact =
    subst (λ g. IsNearBest g p) (e ∙ f) (record { valid = valid; exact = exact; form = has_prices scene p is valid score bound })

-- ---- what `plan --near` answers

-- no network is named
pub no_near_network : (whole : Bool) (p : PriceParts) (i : InputValues) → slice_get i.networks 0 ≡ None → near_plan whole p i ≡ Ok (printed [])
unfolding near_plan
no_near_network whole p i e = ap (near_plan_on whole p i) e

-- a setting does not fit
pub near_stopped : (whole : Bool) (p : PriceParts) (i : InputValues) (n : Text × List Period) (why : Stop) → slice_get i.networks 0 ≡ Some n → settled i ≡ Err why → near_plan whole p i ≡ Err (ending.Stopped why)
unfolding near_plan
near_stopped whole p i n why e h = rw (e, h) refl

-- the text of what was chosen
pub near_told : (whole : Bool) (p : PriceParts) (i : InputValues) (n : Text × List Period) → slice_get i.networks 0 ≡ Some n → settled i ≡ Ok i → near_plan whole p i ≡ Ok (printed (near_text whole p))
unfolding near_plan
near_told whole p i n e h = rw (e, h) refl

-- ---- what `check --near` answers

-- no network is named
pub no_check_network : (i : InputValues) → slice_get i.networks 0 ≡ None → near_check i ≡ Ok (printed [])
unfolding near_check
no_check_network i e = ap (near_check_on i) e

-- the certificate has a bad line
pub bad_prices : (i : InputValues) (n : Text × List Period) (f : InputFault) (old : Seen) → slice_get i.networks 0 ≡ Some n → Gives price_parts (Err f) (prices_of i.certificate) → Writes of_a_price_check (near_check i) old (bad_line role.PriceCertificate f) old
unfolding near_check
bad_prices i n Memory old e h = wanting of_a_price_check (near_check i) old
bad_prices i n (Refused why) old e h = ((refl, why, refl), rw (e, h) refl, refl)

-- a setting does not fit
pub misfit_prices : (i : InputValues) (n : Text × List Period) (p : PriceParts) (why : Stop) (old : Seen) → slice_get i.networks 0 ≡ Some n → prices_of i.certificate ≡ Ok p → settled i ≡ Err why → Writes of_a_price_check (near_check i) old (ending.Stopped why) old
unfolding near_check
misfit_prices i n p why old e read m = (late_setting of_a_price_check.checks i (misfit i.setup i.rules i.film) why m, rw (e, read, m) refl, refl)

-- the verdict
pub prices_told : (i : InputValues) (n : Text × List Period) (p : PriceParts) (scene middle : Task) (v : PriceVerdict) → slice_get i.networks 0 ≡ Some n → prices_of i.certificate ≡ Ok p → settled i ≡ Ok i → scene ≡ middle → middle ≡ task_on i n.1
    → v ≡ verdict_of scene p → near_check i ≡ Ok (told_prices p.score p.bound v)
unfolding near_check
prices_told i n p scene middle v e read fits f g said =
    rw (e, read, fits) (ap (λ w. Ok (told_prices p.score p.bound w)) (ap (λ t. verdict_of t p) (sym (f ∙ g)) ∙ sym said))

-- the line of equal numbers
pub price_text_as : (score other bound limit : ℤ) (v : PriceVerdict) → score ≡ other → bound ≡ limit → price_verdict_text score bound v ≡ price_verdict_text other limit v
price_text_as score other bound limit v e f = ap (λ z. price_verdict_text z bound v) e ∙ ap (λ z. price_verdict_text other z v) f

whole_price : (v : PriceVerdict) → IsWhole (price_ending v)
whole_price said.Yes = tt
whole_price said.OtherFilm = tt
whole_price (said.BadRung segment) = tt
whole_price (said.BadWindow window) = tt
whole_price (said.BoundAbove least) = tt
whole_price (said.OtherScore value) = tt

-- the verdict did not go out
pub price_failed : (i : InputValues) (score bound : ℤ) (v : PriceVerdict) (old new : Seen) (r : Result (Unit {0}) PutErr) (e : PutErr) → near_check i ≡ Ok (told_prices score bound v) → r ≡ Err e → Puts old (told_prices score bound v).text new r
    → Writes of_a_price_check (near_check i) old (after_put e) new
price_failed i score bound v old new r e is k p = put_failed of_a_price_check (near_check i) (told_prices score bound v) old new r e is (whole_price v) k p

-- the verdict went out
pub price_done : (i : InputValues) (score bound : ℤ) (v : PriceVerdict) (old new : Seen) (r : Result (Unit {0}) PutErr) (u : Unit {0}) → near_check i ≡ Ok (told_prices score bound v) → r ≡ Ok u → Puts old (told_prices score bound v).text new r
    → Writes of_a_price_check (near_check i) old (price_ending v) new
price_done i score bound v old new r u is k p =
    let q : Puts old (told_prices score bound v).text new (Ok u) = rw k at p in
    by_verdict v refl q
  where
    by_verdict : (w : PriceVerdict) → v ≡ w → Puts old (told_prices score bound v).text new (Ok u) → Writes of_a_price_check (near_check i) old (price_ending w) new
    by_verdict said.Yes e q = (told_prices score bound v, is, (ap price_ending e, q.answered))
    by_verdict said.OtherFilm e q = (refl, (told_prices score bound v, is, (ap price_ending e, q.answered)))
    by_verdict (said.BadRung segment) e q = (refl, (told_prices score bound v, is, (ap price_ending e, q.answered)))
    by_verdict (said.BadWindow window) e q = (refl, (told_prices score bound v, is, (ap price_ending e, q.answered)))
    by_verdict (said.BoundAbove least) e q = (refl, (told_prices score bound v, is, (ap price_ending e, q.answered)))
    by_verdict (said.OtherScore value) e q = (refl, (told_prices score bound v, is, (ap price_ending e, q.answered)))
