-- Bitrates that were read rise.
use Rattle.std.proofs.Common.{◌≡◌, ◌+◌, ◌<◌, ℕ, zero, suc, nat_lt, List, [], ◌∷◌, Option, Some, None, Ok, get_or, refl, subst, add-one, arith}
use Rattle.std.proofs.lemmas.Bool.Decides.{nat_tests}
use Rattle.std.specs.List.Sorted.{IsStrictlyIncreasing}
use Rattle.serde_json.specs.Data.{Data}
use Rattle.json_fields.specs.Fields.{json_number_of}
use Rattle.lab_model.specs.Steps.{◌>>=◌}
use Rattle.reader_faults.specs.Each.{each_after}
use Rattle.lab_model.proofs.Steps.{test_ok, then_ok}
use Rattle.lab_model.specs.declared.fault.Kind.TheVariants as kind
use Rattle.lab_model.specs.declared.fault.Key.TheVariants as key
use Rattle.lab_model.specs.Reading.{refusal}
use Rattle.reader_faults.specs.Faults.{value_at}
use Rattle.manifest_reader.specs.Manifest.{above, bitrate_in}

-- above the one before, where there is one
abbrev pub IsAbove : Option ℕ → ℕ → Type 0
IsAbove None n = Unit {0}
IsAbove (Some before) n = before < n

-- each is above the one before it
abbrev pub Rises : Option ℕ → List ℕ → Type 0
Rises before [] = Unit {0}
Rises before (x ∷ xs) = IsAbove before x × Rises (Some x) xs

-- a bitrate that passes is greater than the one before it, and is given as it is
pub above-ok : (before : Option ℕ) (column m n : ℕ) → above before column m ≡ Ok n → IsAbove before n × (m ≡ n)
above-ok None column m n h = (tt, cc)
above-ok (Some b) column m n h =
    let t = test_ok (nat_lt b m) (Ok m) n (refusal kind.Order key.Bitrates 0 column) h in
    let same : m ≡ n = cc in (grind (arith, nat_tests, t.0, same), same)

-- a bitrate that was read is greater than the one before it
pub bitrate_in-above : (before : Option ℕ) (column : ℕ) (d : Data) (n : ℕ) → bitrate_in before column d ≡ Ok n → IsAbove before n
bitrate_in-above before column d n h =
    let m = then_ok (value_at key.Bitrates 0 column (json_number_of 1 10000000 d)) (above before column) n h in
    (above-ok before column m.0 n m.2).0

-- of bitrates that were read, each is greater than the one before it
pub each-rises : (before : Option ℕ) (column : ℕ) (ds : List Data) (xs : List ℕ) → each_after bitrate_in before column ds ≡ Ok xs → Rises before xs
unfolding each_after
each-rises before column [] xs h = let e : [] ≡ xs = cc in subst (Rises before) e tt
each-rises before column (d ∷ ds) xs h =
    let one = then_ok (bitrate_in before column d) (λ x. each_after bitrate_in (Some x) (column + 1) ds >>= (λ ys. Ok (x ∷ ys))) xs h in
    let rest = then_ok (each_after bitrate_in (Some one.0) (column + 1) ds) (λ ys. Ok (one.0 ∷ ys)) xs one.2 in
    let e : one.0 ∷ rest.0 ≡ xs = cc in
    subst (Rises before) e (bitrate_in-above before column d one.0 one.1, each-rises (Some one.0) (column + 1) ds rest.0 rest.1)

at_later : (x : ℕ) (xs : List ℕ) (k : ℕ) → get_or (x ∷ xs) (suc k + 1) 0 ≡ get_or xs (k + 1) 0
at_later x xs k = rw (add-one (suc k), add-one k) refl

-- numbers each greater than the one before it rise all along
pub IsStrictlyIncreasing-rises : (before : Option ℕ) (xs : List ℕ) → Rises before xs → IsStrictlyIncreasing xs
IsStrictlyIncreasing-rises before [] h k lt = absurd (omega arith)
IsStrictlyIncreasing-rises before (x ∷ []) h k lt = absurd (omega arith)
IsStrictlyIncreasing-rises before (x ∷ y ∷ xs) h zero lt = h.1.0
IsStrictlyIncreasing-rises before (x ∷ y ∷ xs) h (suc k) lt =
    let more = IsStrictlyIncreasing-rises (Some x) (y ∷ xs) h.1 k (omega arith) in
    rw (at_later x (y ∷ xs) k) more
