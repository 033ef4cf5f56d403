-- Seeks that were read keep their limits.
use Rattle.std.proofs.Common.{◌≡◌, ◌+◌, ◌<◌, ◌≤◌, ℕ, zero, suc, nat_lt, List, [], ◌∷◌, length, Option, Some, None, Ok, subst, arith}
use Rattle.std.proofs.lemmas.Bool.Decides.{nat_tests}
use Rattle.csv_records.specs.Table.{Fields, Table, table_of}
use Rattle.csv_records.specs.Field.{field_in, whole_number}
use Rattle.lab_model.specs.Steps.{◌>>=◌}
use Rattle.reader_faults.proofs.Ranges.{whole_number-within}
use Rattle.reader_faults.specs.Each.{each_after}
use Rattle.reader_faults.specs.Faults.{field_at}
use Rattle.reader_faults.proofs.Each.{each_all, each_most}
use Rattle.reader_faults.proofs.Places.{field_at-ok}
use Rattle.lab_model.proofs.Steps.{test_err, test_ok, then_ok}
use Rattle.lab_model.specs.declared.context.Seek.{Seek}
use Rattle.lab_model.specs.declared.fault.Kind.TheVariants as kind
use Rattle.lab_model.specs.declared.fault.Key.TheVariants as key
use Rattle.lab_model.specs.Reading.{refusal}
use Rattle.reader_faults.specs.Header.{behind_header}
use Rattle.seek_script.specs.Script.{below, seek_row_within, seeks_to_end, instant_in, later, seek_to, seek_in, seeks_in, seeks_of, target_in, is_seek_header}
use Rattle.lab_model.specs.Seeks.{SeeksFit, seek_no}

-- an instant is behind that of the seek before
abbrev IsLater : Option Seek → ℕ → Type 0
IsLater None at_ms = Unit {0}
IsLater (Some before) at_ms = before.at_ms < at_ms

later-ok : (before : Option Seek) (row at_ms n : ℕ) → later before row at_ms ≡ Ok n → IsLater before at_ms
later-ok None row at_ms n h = tt
later-ok (Some before) row at_ms n h =
    let t = test_ok (nat_lt before.at_ms at_ms) (Ok at_ms) n (refusal kind.Order key.SeekAt row 1) h in
    grind (arith, nat_tests, t.0)

target-ok : (segments row : ℕ) (r : List (List ℕ)) (to : ℕ) → target_in segments row r ≡ Ok to → to < segments
target-ok segments row r to h =
    let n = then_ok (field_at key.SeekTo row 2 (whole_number 0 65535 (field_in 1 r))) (below segments row) to h in
    let t = test_ok (nat_lt n.0 segments) (Ok n.0) to (refusal kind.OutOfRange key.SeekTo row 2) n.2 in
    let same : n.0 ≡ to = cc in
    grind (arith, nat_tests, t.0, same)

-- what a seek that was read keeps
record Keeps (segments : ℕ) (before : Option Seek) (row : ℕ) (s : Seek) : Type 0 where
  few : row ≤ 17
  instant : s.at_ms ≤ 1000000000
  behind : IsLater before s.at_ms
  target : s.to < segments

keeps-of : (segments : ℕ) (before : Option Seek) (row at_ms to : ℕ) → row ≤ 17 → at_ms ≤ 1000000000 → IsLater before at_ms → to < segments → Keeps segments before row (seek_to at_ms to)
keeps-of segments before row at_ms to a b c d = record { few = a; instant = b; behind = c; target = d }

keeps : (segments : ℕ) (before : Option Seek) (row : ℕ) (r : List (List ℕ)) (s : Seek) → seek_in segments before row r ≡ Ok s → Keeps segments before row s
keeps segments before row r s h =
    let a = then_ok (seek_row_within row) (λ _. instant_in row r >>= (λ at_ms. later before row at_ms >>= (λ _. target_in segments row r >>= (λ to. Ok (seek_to at_ms to))))) s h in
    let b = then_ok (instant_in row r) (λ at_ms. later before row at_ms >>= (λ _. target_in segments row r >>= (λ to. Ok (seek_to at_ms to)))) s a.2 in
    let c = then_ok (later before row b.0) (λ _. target_in segments row r >>= (λ to. Ok (seek_to b.0 to))) s b.2 in
    let d = then_ok (target_in segments row r) (λ to. Ok (seek_to b.0 to)) s c.2 in
    let same : seek_to b.0 d.0 ≡ s = cc in
    let t = test_err (nat_lt 17 row) (Ok row) a.0 (refusal kind.OutOfRange key.Whole row 0) a.1 in
    let few : row ≤ 17 = grind (arith, nat_tests, t.0) in
    let instant = whole_number-within 0 1000000000 (field_in 0 r) b.0 (field_at-ok key.SeekAt row 1 (whole_number 0 1000000000 (field_in 0 r)) b.0 b.1) in
    subst (Keeps segments before row) same (keeps-of segments before row b.0 d.0 few instant.1 (later-ok before row b.0 c.0 c.1) (target-ok segments row r d.0 d.1))

-- each seek is behind the one before
abbrev Rises : Option Seek → List Seek → Type 0
Rises before [] = Unit {0}
Rises before (s ∷ ss) = IsLater before s.at_ms × Rises (Some s) ss

rises-of : (before : Option Seek) (s : Seek) (ss : List Seek) → IsLater before s.at_ms → Rises (Some s) ss → Rises before (s ∷ ss)
rises-of before s ss a b = (a, b)

rises : (segments : ℕ) (before : Option Seek) (row : ℕ) (rs : List Fields) (xs : List Seek) → each_after (seek_in segments) before row rs ≡ Ok xs → Rises before xs
unfolding each_after
rises segments before row [] xs h = let e : [] ≡ xs = cc in subst (Rises before) e tt
rises segments before row (r ∷ rs) xs h =
    let one = then_ok (seek_in segments before row r) (λ x. each_after (seek_in segments) (Some x) (row + 1) rs >>= (λ ys. Ok (x ∷ ys))) xs h in
    let rest = then_ok (each_after (seek_in segments) (Some one.0) (row + 1) rs) (λ ys. Ok (one.0 ∷ ys)) xs one.2 in
    let e : one.0 ∷ rest.0 ≡ xs = cc in
    subst (Rises before) e (rises-of before one.0 rest.0 (keeps segments before row r one.0 one.1).behind (rises segments (Some one.0) (row + 1) rs rest.0 rest.1))

rising : (before : Option Seek) (xs : List Seek) → Rises before xs → (k : ℕ) → k + 1 < length xs → (seek_no xs k).at_ms < (seek_no xs (k + 1)).at_ms
rising before [] h k lt = absurd (omega arith)
rising before (s ∷ []) h k lt = absurd (omega arith)
rising before (s ∷ t ∷ ss) h zero lt = h.1.0
rising before (s ∷ t ∷ ss) h (suc k) lt =
    let e : suc k + 1 ≡ suc (k + 1) = omega arith in
    rw e (rising (Some s) (t ∷ ss) h.1 k (omega arith))

-- the seeks of records keep their limits
each-within : (segments : ℕ) (rs : List Fields) (xs : List Seek) → each_after (seek_in segments) None 2 rs ≡ Ok xs → SeeksFit xs segments
each-within segments rs xs h = record {
  count = omega (arith, each_most (seek_in segments) 17 None 2 rs xs (λ b p r s e. (keeps segments b p r s e).few) h (omega arith));
  instants = each_all (λ s. s.at_ms ≤ 1000000000) (seek_in segments) None 2 rs xs (λ b p r s e. (keeps segments b p r s e).instant) h;
  rising = rising None xs (rises segments None 2 rs xs h);
  targets = each_all (λ s. s.to < segments) (seek_in segments) None 2 rs xs (λ b p r s e. (keeps segments b p r s e).target) h;
}

seeks_to_end-ok : (uneven : Option ℕ) (seeks xs : List Seek) → seeks_to_end uneven seeks ≡ Ok xs → seeks ≡ xs
seeks_to_end-ok None seeks xs h = cc
seeks_to_end-ok (Some row) seeks xs h = absurd cc

-- the seeks of a script keep their limits
pub within : (bytes : List ℕ) (segments : ℕ) (xs : List Seek) → seeks_of bytes segments ≡ Ok xs → SeeksFit xs segments
unfolding seeks_of
within bytes segments xs h = go (table_of bytes) h
  where
    go : (t : Table) → seeks_in segments t ≡ Ok xs → SeeksFit xs segments
    go t e =
        let rs = then_ok (behind_header is_seek_header t.rows) (λ rs. each_after (seek_in segments) None 2 rs >>= seeks_to_end t.uneven) xs e in
        let seeks = then_ok (each_after (seek_in segments) None 2 rs.0) (seeks_to_end t.uneven) xs rs.2 in
        subst (λ ys. SeeksFit ys segments) (seeks_to_end-ok t.uneven seeks.0 xs seeks.2) (each-within segments rs.0 seeks.0 seeks.1)
