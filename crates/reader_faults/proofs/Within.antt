-- The first records of a text are read as all of them are, where no record behind them is.
use Rattle.std.proofs.Common.{◌≡◌, ◌∙◌, ◌+◌, ◌<◌, ◌≤◌, ⊎_elim, ℕ, zero, suc, Bool, true, false, cond, List, [], ◌∷◌, Option, None, Result, Ok, Err, length, min, nat_lt, take, refl, sym, add-one, ap, arith}
use Rattle.std.specs.List.{take_while}
use Rattle.std.proofs.lemmas.Bool.{cases_lt}
use Rattle.std.proofs.lemmas.Bool.Decides.{nat_tests}
use Rattle.std.proofs.lemmas.List.{length-take, take_all}
use Rattle.std.proofs.lemmas.List.Sums.{take_while-cons}
use Rattle.csv_records.specs.Table.{Fields, Table, all_records, even_rows, has_width, table_from, table_of, table_within, uneven_row}
use Rattle.lab_model.specs.Steps.{◌>>=◌}
use Rattle.reader_faults.specs.Each.{each_after}
use Rattle.csv_records.specs.Walk.{tabled}
use Rattle.reader_faults.proofs.Each.{EndsAt, FailsAlike, each_past}

take_while-take : (p : Fields → Bool) (n : ℕ) (rs : List Fields) → take_while p (take n rs) ≡ take n (take_while p rs)
take_while-take p zero rs = refl
take_while-take p (suc n) [] = refl
take_while-take p (suc n) (r ∷ rs) =
    take_while-cons p r (take n rs) ∙ go (p r) (take_while-take p n rs) ∙ ap (take (suc n)) (sym (take_while-cons p r rs))
  where
    go : (b : Bool) → take_while p (take n rs) ≡ take n (take_while p rs) → cond b (r ∷ take_while p (take n rs)) [] ≡ take (suc n) (cond b (r ∷ take_while p rs) [])
    go true e = ap (λ (t : List Fields). r ∷ t) e
    go false e = refl

even_rows-take : (n : ℕ) (rs : List Fields) → even_rows (take n rs) ≡ take n (even_rows rs)
even_rows-take zero rs = refl
even_rows-take (suc n) [] = refl
even_rows-take (suc n) (r ∷ rs) = take_while-take (has_width (length r)) (suc n) (r ∷ rs)

-- where an uneven record, or the end, is among the first records, their table is that of all
same_table : (most : ℕ) (rs : List Fields) → length (even_rows rs) < most → table_from (take most rs) ≡ table_from rs
same_table most rs lt =
    let rows : even_rows (take most rs) ≡ even_rows rs = even_rows-take most rs ∙ take_all most (even_rows rs) (omega (arith, lt)) in
    let size : length (take most rs) ≡ min most (length rs) = length-take most rs in
    let test : nat_lt (length (even_rows rs)) (min most (length rs)) ≡ nat_lt (length (even_rows rs)) (length rs) = grind (arith, nat_tests) in
    rw (rows, size, test) refl

-- what a table says: the records behind a header, one after the other, and then how it ends
abbrev pub reads : {A B E : Type 0} → (List Fields → Result (List Fields) E) → (Option A → ℕ → Fields → Result A E) → (Option ℕ → List A → Result B E) → Table → Result B E
reads header f finish t = header t.rows >>= (λ ds. each_after f None 2 ds >>= finish t.uneven)

-- a header is tested by the first record alone
abbrev pub Heads : {E : Type 0} → (Fields → Bool) → E → (List Fields → Result (List Fields) E) → Type 0
Heads is_header y header = (r : List (List ℕ)) (ds : List Fields) → header (r ∷ ds) ≡ cond (is_header r) (Ok ds) (Err y)

-- as many even records as are read at most: their last is refused, or one before
full_reads : {A B E : Type 0} (header : List Fields → Result (List Fields) E) (is_header : Fields → Bool) (y : E) (f : Option A → ℕ → Fields → Result A E) (most : ℕ) (finish : Option ℕ → List A → Result B E)
    → Heads is_header y header → EndsAt most f → 1 ≤ most → (rows : List Fields) (a b : Option ℕ) → most + 1 ≤ length rows
    → reads header f finish (tabled (take (most + 1) rows) a) ≡ reads header f finish (tabled rows b)
full_reads header is_header y f most finish heads past some [] a b le = absurd (omega arith)
full_reads {A = A} {B = B} {E = E} header is_header y f most finish heads past some (r ∷ ds) a b le =
    ap (λ (rs : List Fields). reads header f finish (tabled rs a)) one
    ∙ ap (λ (h : Result (List Fields) E). h >>= (λ xs. each_after f None 2 xs >>= finish a)) (heads r (take most ds))
    ∙ both (is_header r) (each_past f most past most None 2 ds (omega arith) (omega (arith, some)) (omega (arith, le)))
    ∙ sym (ap (λ (h : Result (List Fields) E). h >>= (λ xs. each_after f None 2 xs >>= finish b)) (heads r ds))
  where
    one : take (most + 1) (r ∷ ds) ≡ r ∷ take most ds
    one = rw add-one refl

    both : (c : Bool) → FailsAlike (each_after f None 2 (take most ds)) (each_after f None 2 ds)
        → (cond c (Ok (take most ds)) (Err y) >>= (λ xs. each_after f None 2 xs >>= finish a)) ≡ (cond c (Ok ds) (Err y) >>= (λ xs. each_after f None 2 xs >>= finish b))
    both true (e, cut, all) = rw (cut, all) refl
    both false same = refl

-- where the records up to the one behind a row say what all say, the first of a text say what all of them do
said_within : {B E : Type 0} (says : Table → Result B E) (most : ℕ) → ((rows : List Fields) (a b : Option ℕ) → most + 1 ≤ length rows → says (tabled (take (most + 1) rows) a) ≡ says (tabled rows b))
    → (bytes : List ℕ) → says (table_within (most + 1) bytes) ≡ says (table_of bytes)
unfolding table_within table_of
said_within says most full bytes =
    let rs : List Fields = all_records bytes in
    ⊎_elim
    (λ (few : length (even_rows rs) < most + 1). ap says (same_table (most + 1) rs few))
    (λ (many : most + 1 ≤ length (even_rows rs)).
    ap (λ (rows : List Fields). says (tabled rows (uneven_row (take (most + 1) rs)))) (even_rows-take (most + 1) rs)
    ∙ full (even_rows rs) (uneven_row (take (most + 1) rs)) (uneven_row rs) many)
    (cases_lt (length (even_rows rs)) (most + 1))

-- where no record behind a row is read, the records up to the one behind it are read as all are
pub reads_within : {A B E : Type 0} (header : List Fields → Result (List Fields) E) (is_header : Fields → Bool) (y : E) (f : Option A → ℕ → Fields → Result A E) (most : ℕ) (finish : Option ℕ → List A → Result B E)
    → Heads is_header y header → EndsAt most f → 1 ≤ most → (bytes : List ℕ)
    → reads header f finish (table_within (most + 1) bytes) ≡ reads header f finish (table_of bytes)
reads_within header is_header y f most finish heads past some bytes = said_within (reads header f finish) most (full_reads header is_header y f most finish heads past some) bytes

-- what a table without a header says: its records, one after the other, and then how it ends
abbrev pub reads_plain : {A B E : Type 0} → (Option A → ℕ → Fields → Result A E) → (Option ℕ → List A → Result B E) → Table → Result B E
reads_plain f finish t = each_after f None 1 t.rows >>= finish t.uneven

full_plain : {A B E : Type 0} (f : Option A → ℕ → Fields → Result A E) (most : ℕ) (finish : Option ℕ → List A → Result B E)
    → EndsAt most f → (rows : List Fields) (a b : Option ℕ) → most + 1 ≤ length rows
    → reads_plain f finish (tabled (take (most + 1) rows) a) ≡ reads_plain f finish (tabled rows b)
full_plain f most finish past rows a b le = let (e, cut, all) = each_past f most past (most + 1) None 1 rows (omega arith) (omega arith) le in rw (cut, all) refl

-- the same of a table without a header
pub plain_within : {A B E : Type 0} (f : Option A → ℕ → Fields → Result A E) (most : ℕ) (finish : Option ℕ → List A → Result B E)
    → EndsAt most f → (bytes : List ℕ) → reads_plain f finish (table_within (most + 1) bytes) ≡ reads_plain f finish (table_of bytes)
plain_within f most finish past bytes = said_within (reads_plain f finish) most (full_plain f most finish past) bytes
