-- A table that was read keeps the limits of utilities.
use Rattle.std.proofs.Common.{◌≡◌, ◌∙◌, ◌+◌, ◌*◌, ◌<◌, ◌≤◌, ◌==◌, ℕ, zero, suc, nat_lt, List, [], ◌∷◌, get_or, length, map, max, Option, Some, None, Ok, sym, ap, subst, arith}
use Rattle.std.specs.List.{All, concat}
use Rattle.std.proofs.lemmas.Bool.Decides.{nat_tests}
use Rattle.std.proofs.lemmas.List.{length-map}
use Rattle.csv_records.specs.Table.{Fields, Table, table_of}
use Rattle.csv_records.specs.Field.{whole_number, without_blanks}
use Rattle.lab_model.specs.Film.{IsWithin, most_rungs, most_segments}
use Rattle.lab_model.specs.Reading.{refusal}
use Rattle.lab_model.specs.Row.{AreUtilities, IsRow}
use Rattle.lab_model.specs.Steps.{◌>>=◌}
use Rattle.lab_model.specs.declared.fault.Kind.TheVariants as kind
use Rattle.lab_model.specs.declared.fault.Key.TheVariants as key
use Rattle.lab_model.proofs.Steps.{map_ok-ok, test_err, test_ok, then_ok}
use Rattle.reader_faults.specs.Each.{each_after, each_from}
use Rattle.reader_faults.specs.Faults.{field_at}
use Rattle.reader_faults.proofs.Each.{each_all, each_count, each_most}
use Rattle.reader_faults.proofs.Places.{field_at-ok}
use Rattle.reader_faults.proofs.Ranges.{whole_number-within}
use Rattle.utility_table.specs.Table.{full_row, not_below, utilities_in_row, utility_row_within, rows_to_end, table_rows, table_utilities, utility_in}
use Rattle.utility_table.proofs.Rows.{HasWidth, length-concat, row_of-concat}

-- at least the one before, where there is one
abbrev IsAtLeast : Option ℕ → ℕ → Type 0
IsAtLeast None u = Unit {0}
IsAtLeast (Some before) u = before ≤ u

not_below-ok : (before : Option ℕ) (row column m u : ℕ) → not_below before row column m ≡ Ok u → IsAtLeast before u × (m ≡ u)
not_below-ok None row column m u h = (tt, cc)
not_below-ok (Some b) row column m u h =
    let t = test_err (nat_lt m b) (Ok m) u (refusal kind.Order key.Utility row column) h in
    let same : m ≡ u = let k = t.1 in cc in
    (grind (arith, nat_tests, t.0, same), same)

utility_in-ok : (row : ℕ) (before : Option ℕ) (column : ℕ) (field : List ℕ) (u : ℕ) → utility_in row before column field ≡ Ok u → IsAtLeast before u × (u ≤ 1000000)
utility_in-ok row before column field u h =
    let n = then_ok (field_at key.Utility row column (whole_number 0 1000000 field)) (not_below before row column) u h in
    let above = not_below-ok before row column n.0 u n.2 in
    let few = (whole_number-within 0 1000000 field n.0 (field_at-ok key.Utility row column (whole_number 0 1000000 field) n.0 n.1)).1 in
    (above.0, subst (λ x. x ≤ 1000000) above.1 few)

-- each is at least the one before it
abbrev Rises : Option ℕ → List ℕ → Type 0
Rises before [] = Unit {0}
Rises before (x ∷ xs) = IsAtLeast before x × Rises (Some x) xs

each-rises : (row : ℕ) (before : Option ℕ) (column : ℕ) (ds : List (List ℕ)) (xs : List ℕ) → each_after (utility_in row) before column ds ≡ Ok xs → Rises before xs
unfolding each_after
each-rises row before column [] xs h = let e : [] ≡ xs = cc in subst (Rises before) e tt
each-rises row before column (d ∷ ds) xs h =
    let one = then_ok (utility_in row before column d) (λ x. each_after (utility_in row) (Some x) (column + 1) ds >>= (λ ys. Ok (x ∷ ys))) xs h in
    let rest = then_ok (each_after (utility_in row) (Some one.0) (column + 1) ds) (λ ys. Ok (one.0 ∷ ys)) xs one.2 in
    let e : one.0 ∷ rest.0 ≡ xs = let k = rest.2 in cc in
    subst (Rises before) e ((utility_in-ok row before column d one.0 one.1).0, each-rises row (Some one.0) (column + 1) ds rest.0 rest.1)

never_falls : (before : Option ℕ) (xs : List ℕ) → Rises before xs → (k : ℕ) → k + 1 < length xs → get_or xs k 0 ≤ get_or xs (k + 1) 0
never_falls before [] h k lt = absurd (omega arith)
never_falls before (x ∷ []) h k lt = absurd (omega arith)
never_falls before (x ∷ y ∷ xs) h zero lt = h.1.0
never_falls before (x ∷ y ∷ xs) h (suc k) lt =
    let e : suc k + 1 ≡ suc (k + 1) = omega arith in
    rw e (never_falls (Some x) (y ∷ xs) h.1 k (omega arith))

-- what a row that was read keeps
record Keeps (segments rungs row : ℕ) (xs : List ℕ) : Type 0 where
  few : row ≤ segments
  width : HasWidth rungs xs
  is : IsRow xs

utilities_in_row-keeps : (segments rungs row : ℕ) (r : Fields) (xs : List ℕ) → utilities_in_row segments rungs row r ≡ Ok xs → Keeps segments rungs row xs
utilities_in_row-keeps segments rungs row r xs h =
    let a = then_ok (utility_row_within segments row) (λ _. full_row rungs row r >>= (λ fields. each_after (utility_in row) None 1 (map without_blanks fields))) xs h in
    let b = then_ok (full_row rungs row r) (λ fields. each_after (utility_in row) None 1 (map without_blanks fields)) xs a.2 in
    let t = test_err (nat_lt segments row) (Ok row) a.0 (refusal kind.Shape key.Utility row 0) a.1 in
    let f = test_ok (length r == rungs) (Ok r) b.0 (refusal kind.Shape key.Utility row 0) b.1 in
    let same : r ≡ b.0 = let k = f.1 in cc in
    let wide : length r ≡ rungs = grind (arith, nat_tests, f.0) in
    let count = each_count (utility_in row) None 1 (map without_blanks b.0) xs b.2 in
    let mapped : length (map without_blanks b.0) ≡ length b.0 = length-map b.0 without_blanks in
    record {
      few = grind (arith, nat_tests, t.0);
      width = count ∙ mapped ∙ sym (ap length same) ∙ wide;
      is = record {
        limits = each_all (λ u. u ≤ 1000000) (utility_in row) None 1 (map without_blanks b.0) xs (λ before p d x e. (utility_in-ok row before p d x e).1) b.2;
        rise = never_falls None xs (each-rises row None 1 (map without_blanks b.0) xs b.2);
      };
    }

rows_to_end-ok : (segments : ℕ) (uneven : Option ℕ) (rows found : List (List ℕ)) → rows_to_end segments uneven rows ≡ Ok found → (rows ≡ found) × (segments ≤ length rows)
rows_to_end-ok segments (Some row) rows found h = absurd cc
rows_to_end-ok segments None [] found h = absurd cc
rows_to_end-ok segments None (r ∷ rs) found h =
    let t = test_err (nat_lt (length (r ∷ rs)) segments) (Ok (r ∷ rs)) found (refusal kind.Shape key.Utility 0 0) h in
    let same : r ∷ rs ≡ found = let k = t.1 in cc in
    (same, grind (arith, nat_tests, t.0))

-- what the rows of a table keep
record Limits (segments rungs : ℕ) (rows : List (List ℕ)) : Type 0 where
  count : length rows ≡ segments
  widths : All (HasWidth rungs) rows
  each : All IsRow rows

table_rows-limits : (segments rungs : ℕ) (t : Table) (rows : List (List ℕ)) → table_rows segments rungs t ≡ Ok rows → Limits segments rungs rows
table_rows-limits segments rungs t rows h =
    let read = then_ok (each_from (utilities_in_row segments rungs) 1 t.rows) (rows_to_end segments t.uneven) rows h in
    let last = rows_to_end-ok segments t.uneven read.0 rows read.2 in
    let keeps : (b : Option (List ℕ)) (p : ℕ) (d : Fields) (x : List ℕ) → utilities_in_row segments rungs p d ≡ Ok x → Keeps segments rungs p x = λ b p d x e. utilities_in_row-keeps segments rungs p d x e in
    let most = each_most (λ (_ : Option (List ℕ)). utilities_in_row segments rungs) segments None 1 t.rows read.0 (λ b p d x e. (keeps b p d x e).few) read.1 (omega arith) in
    subst (Limits segments rungs) last.0 (record {
      count = omega (arith, last.1, most);
      widths = each_all (HasWidth rungs) (λ (_ : Option (List ℕ)). utilities_in_row segments rungs) None 1 t.rows read.0 (λ b p d x e. (keeps b p d x e).width) read.1;
      each = each_all IsRow (λ (_ : Option (List ℕ)). utilities_in_row segments rungs) None 1 t.rows read.0 (λ b p d x e. (keeps b p d x e).is) read.1;
    })

-- the utilities of a table that was read fit their film
pub utilities-fit : (bytes : List ℕ) (segments rungs : ℕ) (us : List ℕ) → IsWithin 1 most_rungs rungs → IsWithin 1 most_segments segments → table_utilities bytes segments rungs ≡ Ok us → AreUtilities us rungs segments
unfolding table_utilities
utilities-fit bytes segments rungs us few short h =
    let m = map_ok-ok concat (table_rows segments rungs (table_of bytes)) us h in
    let l = table_rows-limits segments rungs (table_of bytes) m.0 m.1 in
    let all : max segments 1 ≡ segments = omega (arith, short.0) in
    subst (λ xs. AreUtilities xs rungs segments) m.2 (record {
      count_fits = few;
      rows_fit = short.1;
      whole = length-concat rungs m.0 l.widths ∙ ap (λ n. n * rungs) (l.count ∙ sym all);
      each = λ row low. let there : row < length m.0 = let c = l.count in omega (arith, low, all, c) in subst IsRow (sym (row_of-concat rungs m.0 row l.widths there)) (l.each row [] there);
    })
