-- The search for the least number that passes a test finds it.
use Rattle.std.proofs.Common.{◌≡◌, ℕ, zero, suc, ◌<◌, ◌≤◌, Bool, true, false, refl, sym, ◌∙◌, ap, ⊎_elim, arith}
use Rattle.std.proofs.lemmas.Bool.{cases_Bool, cases_lt}
use Rattle.network_clock.specs.Search.{least_below}

least_here : (bound : ℕ) (test : ℕ → Bool) → test zero ≡ true → least_below (suc bound) test ≡ zero
unfolding least_below
least_here bound test e = rw e refl

least_none : (test : ℕ → Bool) → least_below zero test ≡ zero
unfolding least_below
least_none test = refl

least_later : (bound : ℕ) (test : ℕ → Bool) → test zero ≡ false → least_below (suc bound) test ≡ suc (least_below bound (λ n. test (suc n)))
unfolding least_below
least_later bound test e = rw e refl

-- the search goes no farther than its bound
pub least_bounded : (bound : ℕ) (test : ℕ → Bool) → least_below bound test ≤ bound
unfolding least_below
least_bounded zero test = omega arith
least_bounded (suc bound) test = ⊎_elim (λ now. let z = least_here bound test now in omega (arith, z)) (λ now. let z = least_later bound test now in let b = least_bounded bound (λ k. test (suc k)) in omega (arith, z, b)) (cases_Bool (test zero))

-- the least of the rest, one later
least_shifts : (bound : ℕ) (test : ℕ → Bool) (n : ℕ) → test zero ≡ false → (least_below bound (λ k. test (suc k)) ≤ n) × (test (suc (least_below bound (λ k. test (suc k)))) ≡ true) → (least_below (suc bound) test ≤ suc n) × (test (least_below (suc bound) test) ≡ true)
least_shifts bound test n now r = let z = least_later bound test now in (let l = r.0 in omega (arith, z, l), rw z r.1)

-- what passes below the bound is at or behind the least, which passes too
pub least_found : (bound : ℕ) (test : ℕ → Bool) (n : ℕ) → n < bound → test n ≡ true → (least_below bound test ≤ n) × (test (least_below bound test) ≡ true)
least_found zero test n h e = absurd (omega arith)
least_found (suc bound) test zero h e = let z = least_here bound test e in (omega (arith, z), rw z e)
least_found (suc bound) test (suc n) h e =
    ⊎_elim (λ now. let z = least_here bound test now in (omega (arith, z), rw z now))
    (λ now. least_shifts bound test n now (least_found bound (λ k. test (suc k)) n (omega arith) e)) (cases_Bool (test zero))

-- nothing before the least passes
pub least_before : (bound : ℕ) (test : ℕ → Bool) (n : ℕ) → n < least_below bound test → test n ≡ true → ⊥
least_before bound test n h e = ⊎_elim (λ inside. let f = least_found bound test n inside e in let l = f.0 in omega arith) (λ outside. let b = least_bounded bound test in omega arith) (cases_lt n bound)

-- tests that agree have the same least
pub least_same : (bound : ℕ) (test other : ℕ → Bool) → ((k : ℕ) → test k ≡ other k) → least_below bound test ≡ least_below bound other
least_same zero test other same = least_none test ∙ sym (least_none other)
least_same (suc bound) test other same =
    ⊎_elim (λ (now : test zero ≡ true). least_here bound test now ∙ sym (least_here bound other (sym (same zero) ∙ now)))
    (λ (later : test zero ≡ false).
    least_later bound test later ∙ ap suc (least_same bound (λ k. test (suc k)) (λ k. other (suc k)) (λ k. same (suc k)))
    ∙ sym (least_later bound other (sym (same zero) ∙ later)))
    (cases_Bool (test zero))

-- a number that passes, with none before it that does, is the least
pub least_is : (bound : ℕ) (test : ℕ → Bool) (n : ℕ) → n < bound → test n ≡ true → ((k : ℕ) → k < n → test k ≡ true → ⊥) → n ≡ least_below bound test
least_is bound test n h e before =
    let f = least_found bound test n h e in
    let l = f.0 in
    ⊎_elim (λ early. absurd (before (least_below bound test) early f.1)) (λ late. omega arith) (cases_lt (least_below bound test) n)
