-- How many players take bits of a link.
use Rattle.std.proofs.Common.{◌≡◌, ◌∙◌, ℕ, zero, suc, ◌+◌, ◌<◌, ◌≤◌, Bool, cond, List, length, get_or, refl, sym, ap, ap₂, subst, add-one, arith}
use Rattle.std.proofs.lemmas.Bool.{cond_both}
use Rattle.lab_model.specs.declared.trace.Period.{Period}
use Rattle.player_core.specs.declared.body.Body.{Body}
use Rattle.player_core.specs.Seen.{StandsFor, seen}
use Rattle.player_core.specs.State.{Player}
use Rattle.shared_link.specs.Joint.{takers_in, takes_bits}
use Rattle.shared_link.specs.Table.{Stand}

-- no player takes twice
pub takers_few : (period : Period) (ps : ℕ → Player) (n : ℕ) → takers_in period ps n ≤ n
unfolding takers_in
takers_few period ps zero = omega arith
takers_few period ps (suc n) =
    let before = takers_few period ps n in
    cond_both (takes_bits period (ps n)) 1 0 (λ k. takers_in period ps n + k ≤ suc n) (λ e. omega (arith, before)) (λ e. omega (arith, before))

-- before the first player none takes
pub takers_none : (period : Period) (ps : ℕ → Player) → takers_in period ps 0 ≡ 0
unfolding takers_in
takers_none period ps = refl

-- a further player takes or does not
pub takers_next : (period : Period) (ps : ℕ → Player) (n : ℕ) → takers_in period ps (suc n) ≡ takers_in period ps n + cond (takes_bits period (ps n)) 1 0
unfolding takers_in
takers_next period ps n = refl

-- where the same players take, as many do
pub takers_same : (period other : Period) (ps qs : ℕ → Player) (n : ℕ) → ((i : ℕ) → i < n → takes_bits period (ps i) ≡ takes_bits other (qs i)) → takers_in period ps n ≡ takers_in other qs n
unfolding takers_in
takers_same period other ps qs zero same = refl
takers_same period other ps qs (suc n) same = ap₂ (λ k b. k + cond b 1 0) (takers_same period other ps qs n (λ i low. same i (omega (arith, low)))) (same n (omega arith))

-- the same where the player is told by its body
pub takers_more : (period : Period) (ps : ℕ → Player) (bs : List Body) (n : ℕ) (b : Body) (taken : Bool) → Stand ps bs → n < length bs → b ≡ get_or bs n b → ((h : List ℕ) → taken ≡ takes_bits period (seen b h))
    → takers_in period ps (n + 1) ≡ takers_in period ps n + cond taken 1 0
takers_more period ps bs n b taken stand inside here takes =
    let stands : StandsFor (ps n) b = subst (StandsFor (ps n)) (sym here) (stand n b inside) in
    ap (takers_in period ps) (add-one n) ∙ takers_next period ps n
    ∙ ap (λ t. takers_in period ps n + cond t 1 0) (sym (takes (ps n).history ∙ ap (takes_bits period) stands))
