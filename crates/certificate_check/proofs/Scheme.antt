-- The scheme: a Yes is a Yes at each place, and the first No is the answer.
use Rattle.std.proofs.Common.{◌≡◌, ◌∙◌, ℕ, zero, suc, ◌+◌, ◌<◌, ◌≤◌, ◌⊎◌, inl, inr, ⊎_elim, Bool, true, false, Result, Ok, Err, refl, sym, ap, add-one, arith}
use Rattle.std.specs.Result.{IsErrAnd}
use Rattle.std.proofs.lemmas.Bool.{cases_lt}
use Rattle.certificate_check.specs.declared.verdict.Verdict.{Verdict}
use Rattle.certificate_check.specs.declared.verdict.Verdict.TheVariants.{Yes, No}
use Rattle.certificate_check.specs.declared.ranges.Failure.{Failure}
use Rattle.certificate_check.specs.Scheme.{both, first_no, is_no, tested, verdict_by}

-- ---- two verdicts

-- a Yes of both is a Yes of each
pub both_first : (a b : Verdict) → both a b ≡ Yes → a ≡ Yes
both_first Yes b h = refl
both_first (No c i q k) b h = h

-- and of the second
pub both_second : (a b : Verdict) → both a b ≡ Yes → b ≡ Yes
both_second Yes b h = h
both_second (No c i q k) b h = cc

-- and a Yes of each is one of both
pub both_yes : (a b : Verdict) → a ≡ Yes → b ≡ Yes → both a b ≡ Yes
both_yes a b h k = ap (λ v. both v b) h ∙ k

-- it doesn't matter which two are joined first
pub both-assoc : (a b c : Verdict) → both (both a b) c ≡ both a (both b c)
both-assoc Yes b c = refl
both-assoc (No clause i q k) b c = refl

-- a Yes isn't a No
pub no_is : (a : Verdict) → is_no a ≡ true → a ≡ Yes → ⊥
no_is Yes h e = cc
no_is (No c i q k) h e = cc

-- nothing is added by a Yes
pub both_none : (a : Verdict) → both a Yes ≡ a
both_none Yes = refl
both_none (No c i q k) = refl

-- a No is told from a Yes
pub yes_or_no : (a : Verdict) → (a ≡ Yes) ⊎ ((b : Verdict) → both a b ≡ a)
yes_or_no Yes = inl refl
yes_or_no (No c i q k) = inr (λ b. refl)

-- what follows a No doesn't matter
pub both_no : (a b : Verdict) → (a ≡ Yes → ⊥) → both a b ≡ a
both_no Yes b h = absurd (h refl)
both_no (No c i q k) b h = refl

-- only what follows a Yes matters
pub both_same : (a b c : Verdict) → (a ≡ Yes → b ≡ c) → both a b ≡ both a c
both_same Yes b c h = h refl
both_same (No clause i q k) b c h = refl

-- ---- tests

-- a test that passes gives a Yes
pub tested_yes : (c i q k : ℕ) (b : Bool) → b ≡ true → tested c i q k b ≡ Yes
tested_yes c i q k b h = ap (tested c i q k) h

-- and a Yes comes of nothing else
pub yes_tested : (c i q k : ℕ) (b : Bool) → tested c i q k b ≡ Yes → b ≡ true
yes_tested c i q k true h = refl
yes_tested c i q k false h = cc

-- ---- all places

-- none is tested at first
pub first_none : (f : ℕ → Verdict) → first_no f 0 ≡ Yes
unfolding first_no
first_none f = refl

-- one place more
pub first_next : (f : ℕ → Verdict) (n : ℕ) → first_no f (n + 1) ≡ both (first_no f n) (f n)
unfolding first_no
first_next f n = ap (first_no f) (add-one n)

-- the same with the number one more
pub first_suc : (f : ℕ → Verdict) (n : ℕ) → first_no f (suc n) ≡ both (first_no f n) (f n)
unfolding first_no
first_suc f n = refl

-- a Yes is one at each place
pub yes_at : (f : ℕ → Verdict) (n i : ℕ) → first_no f n ≡ Yes → i < n → f i ≡ Yes
yes_at f zero i h low = absurd (omega arith)
yes_at f (suc n) i h low =
    let parts : both (first_no f n) (f n) ≡ Yes = sym (first_suc f n) ∙ h in
    ⊎_elim (λ (before : i < n). yes_at f n i (both_first (first_no f n) (f n) parts) before)
    (λ (past : n ≤ i). let e : n ≡ i = omega (arith, past, low) in ap f (sym e) ∙ both_second (first_no f n) (f n) parts) (cases_lt i n)

-- and a Yes at each place is one
pub all_yes : (f : ℕ → Verdict) (n : ℕ) → ((i : ℕ) → i < n → f i ≡ Yes) → first_no f n ≡ Yes
all_yes f zero h = first_none f
all_yes f (suc n) h =
    first_suc f n ∙ both_yes (first_no f n) (f n) (all_yes f n (λ i low. h i (omega (arith, low)))) (h n (omega arith))

-- a Yes so far and a Yes here
pub first_more : (f : ℕ → Verdict) (n : ℕ) → first_no f n ≡ Yes → Yes ≡ f n → first_no f (n + 1) ≡ Yes
first_more f n h e = first_next f n ∙ both_yes (first_no f n) (f n) h (sym e)

-- a Yes so far and a No here: this is the answer, however many places follow
first_at : (f : ℕ → Verdict) (n i : ℕ) → i < n → first_no f i ≡ Yes → (f i ≡ Yes → ⊥) → first_no f n ≡ f i
first_at f zero i low h other = absurd (omega arith)
first_at f (suc n) i low h other =
    ⊎_elim (λ (before : i < n).
    let e = first_at f n i before h other in
    first_suc f n ∙ both_no (first_no f n) (f n) (λ yes. other (sym e ∙ yes)) ∙ e)
    (λ (past : n ≤ i). let e : i ≡ n = omega (arith, past, low) in
    first_suc f n ∙ ap (λ v. both v (f n)) (ap (first_no f) (sym e) ∙ h) ∙ ap f (sym e)) (cases_lt i n)

-- the answer where a loop stops at a No
pub first_stop : (f : ℕ → Verdict) (n i : ℕ) (v : Verdict) → i < n → first_no f i ≡ Yes → v ≡ f i → is_no v ≡ true → v ≡ first_no f n
first_stop f n i v low h e stop = e ∙ sym (first_at f n i low h (λ yes. no_is v stop (e ∙ yes)))

-- the same of the code's tests, the last of which fails
pub first_fails : (f : ℕ → Verdict) (n i : ℕ) (r : Result (Unit {0}) Failure) (e : Failure) → i < n → first_no f i ≡ Yes → verdict_by (Err e) ≡ f i → IsErrAnd r (λ y. y ≡ e) → verdict_by r ≡ first_no f n
first_fails f n i (Ok done) e low h is k = absurd k
first_fails f n i (Err y) e low h is k = ap (λ x. verdict_by (Err x)) k ∙ first_stop f n i (verdict_by (Err e)) low h is refl

-- what comes behind a test that fails doesn't matter
pub fails_first : (v w : Verdict) (r : Result (Unit {0}) Failure) (e : Failure) → verdict_by (Err e) ≡ v → IsErrAnd r (λ y. y ≡ e) → verdict_by r ≡ both v w
fails_first v w (Ok done) e is k = absurd k
fails_first v w (Err y) e is k = ap (λ x. verdict_by (Err x)) k ∙ ap (λ a. both a w) is

-- a Yes at all places that were met, which are all
pub first_end : (f : ℕ → Verdict) (n i : ℕ) → first_no f i ≡ Yes → i ≤ n → n ≤ i → Yes ≡ first_no f n
first_end f n i h low high = let e : i ≡ n = omega (arith, low, high) in sym (ap (first_no f) (sym e) ∙ h)

-- verdicts that agree at each place give one answer
pub first_same : (f h : ℕ → Verdict) (n : ℕ) → ((i : ℕ) → i < n → f i ≡ h i) → first_no f n ≡ first_no h n
first_same f h zero same = first_none f ∙ sym (first_none h)
first_same f h (suc n) same =
    first_suc f n ∙ ap (λ v. both v (f n)) (first_same f h n (λ i low. same i (omega (arith, low)))) ∙ ap (both (first_no h n)) (same n (omega arith)) ∙ sym (first_suc h n)
