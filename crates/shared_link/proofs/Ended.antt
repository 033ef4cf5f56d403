-- Whether all players have ended.
use Rattle.std.proofs.Common.{◌≡◌, ◌∙◌, ℕ, zero, suc, ◌<◌, true, false, refl, sym, ap, ⊎_elim, arith}
use Rattle.std.proofs.lemmas.Bool.{and_from, and_parts, cases_Bool, cases_eq, false_from_ne_true, true≢false}
use Rattle.player_core.specs.Parts.{is_ended}
use Rattle.player_core.specs.State.{Player}
use Rattle.shared_link.specs.Joint.{all_ended}

-- where each has ended, all have
pub all_from_each : (ps : ℕ → Player) (n : ℕ) → ((i : ℕ) → i < n → is_ended (ps i).mode ≡ true) → all_ended ps n ≡ true
unfolding all_ended
all_from_each ps zero each = refl
all_from_each ps (suc n) each = and_from (all_ended ps n) (is_ended (ps n).mode) (all_from_each ps n (λ i low. each i (omega (arith, low)))) (each n (omega arith))

-- where all have ended, each has
pub each_from_all : (ps : ℕ → Player) (n : ℕ) → all_ended ps n ≡ true → (i : ℕ) → i < n → is_ended (ps i).mode ≡ true
unfolding all_ended
each_from_all ps zero all i low = absurd (omega arith)
each_from_all ps (suc n) all i low =
    let parts = and_parts (all_ended ps n) (is_ended (ps n).mode) all in
    ⊎_elim (λ (last : i ≡ n). ap (λ k. is_ended (ps k).mode) last ∙ parts.1)
    (λ (other : i ≡ n → ⊥). each_from_all ps n parts.0 i (omega (arith, low, other))) (cases_eq i n)

-- where not all have ended, one goes on
pub one_goes : (ps : ℕ → Player) (n : ℕ) → all_ended ps n ≡ false → (i : ℕ) × (i < n) × (is_ended (ps i).mode ≡ false)
unfolding all_ended
one_goes ps zero some = absurd (true≢false some)
one_goes ps (suc n) some =
    ⊎_elim
    (λ (over : is_ended (ps n).mode ≡ true).
    let earlier = one_goes ps n (false_from_ne_true (all_ended ps n) (λ all. true≢false (sym (and_from (all_ended ps n) (is_ended (ps n).mode) all over) ∙ some))) in
    let low = earlier.1 in
    (earlier.0, omega (arith, low), earlier.2))
    (λ (goes : is_ended (ps n).mode ≡ false). (n, omega arith, goes))
    (cases_Bool (is_ended (ps n).mode))
