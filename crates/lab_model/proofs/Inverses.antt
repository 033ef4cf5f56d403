-- The inverses of rates, summed.
use Rattle.std.proofs.Common.{ℕ, ◌*◌, ◌/◌, ◌≤◌, List, [], ◌∷◌, length, arith}
use Rattle.std.specs.List.{All, sum_by}
use Rattle.std.proofs.Math.Nat.{div-le_of_le-mul, div-le_self}
use Rattle.std.proofs.lemmas.Nat.{le-div}
use Rattle.std.proofs.lemmas.List.Elements.{All-head, All-tail}
use Rattle.std.proofs.lemmas.List.Sums.{sum_by-cons}
use Rattle.lab_model.specs.Film.{IsWithin}
use Rattle.lab_model.specs.Rates.{inverse_of}

-- the inverse of a rate is at least 100
inverse_low : (c : ℕ) → IsWithin 1 10000000000 c → 100 ≤ inverse_of c
inverse_low c h = le-div 100 1000000000000 c (omega (arith, h.0)) (omega (arith, h.1))

-- between 100 for each rate and the fixed point for each
pub inverses_within : (rates : List ℕ) → All (IsWithin 1 10000000000) rates → IsWithin (100 * length rates) (1000000000000 * length rates) (sum_by inverse_of rates)
inverses_within [] all = (omega arith, omega arith)
inverses_within (c ∷ cs) all =
    let rest = inverses_within cs (All-tail (IsWithin 1 10000000000) c cs all) in
    let low = inverse_low c (All-head (IsWithin 1 10000000000) c cs all) in
    let high = div-le_self 1000000000000 c in
    let sum = sum_by-cons inverse_of c cs in
    (omega (arith, rest.0, low, sum), omega (arith, rest.1, high, sum))

-- so the harmonic value of rates is itself within their limits
pub harmonic_within : (n sum : ℕ) → 1 ≤ n → IsWithin (100 * n) (1000000000000 * n) sum → IsWithin 1 10000000000 (n * 1000000000000 / sum)
harmonic_within n sum some h =
    (le-div 1 (n * 1000000000000) sum (omega (arith, some, h.0)) (omega (arith, h.1)), div-le_of_le-mul sum (omega (arith, h.0)))
