-- Lines: what is read of any form is held by it and spelled so, and what it holds is read from its spelling, whatever follows.
use Rattle.std.proofs.Common.{◌≡◌, ◌∙◌, ◌≤◌, ◌++◌, ℕ, suc, List, [], ◌∷◌, true, Ok, length, map, refl, sym, ap, subst, append_assoc, arith}
use Rattle.std.specs.Fmt.{decimal, signed_decimal}
use Rattle.std.proofs.lemmas.List.{length-map}
use Rattle.lab_model.proofs.Steps.{then_ok}
use Rattle.lab_model.specs.Steps.{◌>>=◌}
use Rattle.lab_io.specs.Sink.{Text}
use Rattle.lab_io.specs.Piece.{fields_line, later_fields}
use Rattle.certificate_text.specs.Fields.{read_known, read_number, read_numbers, read_signed, read_within, read_word, stop_before}
use Rattle.labels.specs.Form.{HasDigits, place_digits}
use Rattle.certificate_text.specs.Line.{Holds, Line, Values, ends, field_count, fields_of, known, number, numbers, read_line, signed, stop_of, within, word}
use Rattle.certificate_text.proofs.Loops.{ok_is}
use Rattle.certificate_text.proofs.FieldLaws.{is_free, known_again, known_takes, number_again, number_takes, numbers_again, numbers_take, numbers_text, signed_again, signed_takes, stop_low, within_again, within_takes, word_again, word_takes}

-- ---- fields and the bytes that end them

-- fields, each with the byte that ends it in a line that ends with the last
abbrev pub fields_text : List Text → Text
fields_text [] = []
fields_text (f ∷ fs) = f ++ stop_before (length fs) ∷ fields_text fs

later_text : (fs : List Text) → later_fields fs ≡ stop_before (length fs) ∷ fields_text fs
later_text [] = refl
later_text (f ∷ fs) = ap (λ (t : Text). 32 ∷ (f ++ t)) (later_text fs)

numbers_fields : (ns : List ℕ) → numbers_text ns ≡ fields_text (map decimal ns)
numbers_fields [] = refl
numbers_fields (n ∷ ns) = ap (λ (t : Text). decimal n ++ stop_before (length ns) ∷ t) (numbers_fields ns) ∙ ap (λ (k : ℕ). decimal n ++ stop_before k ∷ fields_text (map decimal ns)) (sym (length-map ns decimal))

-- the text of a line that has a field
pub line_fields : (fs : List Text) → 1 ≤ length fs → fields_line fs ≡ fields_text fs
line_fields [] some = absurd (omega arith)
line_fields (f ∷ fs) some = ap (λ (t : Text). f ++ t) (later_text fs)

-- values that a line holds are as many fields as its form has
pub held_count : (line : Line) (values : Values line) → Holds line values → length (fields_of line values) ≡ field_count line
held_count ends values held = refl
held_count (numbers count digits) ns held = length-map ns decimal ∙ held.0
held_count (word text more) values held = ap suc (held_count more values held)
held_count (known n more) values held = ap suc (held_count more values held.1)
held_count (number digits more) values held = ap suc (held_count more values.1 held.1)
held_count (within low high more) values held = ap suc (held_count more values.1 held.1)
held_count (signed digits more) values held = ap suc (held_count more values.1 held.1)

-- a field and those behind it
field_more : (field : Text) (fs : List Text) (count : ℕ) (rest : Text) → length fs ≡ count → fields_text (field ∷ fs) ++ rest ≡ field ++ stop_before count ∷ (fields_text fs ++ rest)
field_more field fs count rest e =
    append_assoc field (stop_before (length fs) ∷ fields_text fs) rest ∙ ap (λ (k : ℕ). field ++ stop_before k ∷ (fields_text fs ++ rest)) e

field_behind : (field : Text) (fs : List Text) (count : ℕ) (bytes behind rest : Text) → length fs ≡ count → bytes ≡ field ++ stop_before count ∷ behind → behind ≡ fields_text fs ++ rest → bytes ≡ fields_text (field ∷ fs) ++ rest
field_behind field fs count bytes behind rest e first later = first ∙ ap (λ (t : Text). field ++ stop_before count ∷ t) later ∙ sym (field_more field fs count rest e)

-- ---- what can be told apart

-- so many digits, which are some and not too many
abbrev IsLength : ℕ → Type 0
IsLength digits = (1 ≤ digits) × (digits ≤ 64)

-- a form whose words hold no byte that ends a field, and whose numbers are as long as numbers may be
abbrev pub IsSpellable : Line → Type 0
IsSpellable ends = Unit {0}
IsSpellable (numbers count digits) = IsLength digits
IsSpellable (word text more) = (is_free (stop_of more) text ≡ true) × IsSpellable more
IsSpellable (known n more) = IsSpellable more
IsSpellable (number digits more) = IsLength digits × IsSpellable more
IsSpellable (within low high more) = HasDigits place_digits high × IsSpellable more
IsSpellable (signed digits more) = IsLength digits × IsSpellable more

-- ---- what was read

-- what was read as values: they are held, and spelled so
pub record Takes (line : Line) (bytes : Text) (x : Values line × Text) : Type 0 where
  pub holds : Holds line x.0
  pub text : bytes ≡ fields_text (fields_of line x.0) ++ x.1

fields_take : (row : ℕ) (line : Line) (bytes : Text) (x : Values line × Text) → IsSpellable line → read_line row line bytes ≡ Ok x → Takes line bytes x
unfolding read_line
fields_take row ends bytes x can h = subst (Takes ends bytes) (ok_is (tt, bytes) x h) (record { holds = tt; text = refl })
fields_take row (numbers count digits) bytes x can h =
    let t = numbers_take row digits count bytes x can.1 h in
    record { holds = (t.count_is, t.digits_are); text = t.text ∙ ap (λ (w : Text). w ++ x.1) (numbers_fields x.0) }
fields_take row (word text more) bytes x can h =
    let w = then_ok (read_word row text (stop_of more) bytes) (λ rest. read_line row more rest) x h in
    let later = fields_take row more w.0 x can.1 w.2 in
    record {
      holds = later.holds;
      text = field_behind text (fields_of more x.0) (field_count more) bytes w.0 x.1 (held_count more x.0 later.holds) (word_takes row text (stop_of more) bytes w.0 w.1) later.text;
    }
fields_take row (known n more) bytes x can h =
    let w = then_ok (read_known row n (stop_of more) bytes) (λ rest. read_line row more rest) x h in
    let own = known_takes row n (stop_of more) bytes w.0 w.1 in
    let later = fields_take row more w.0 x can w.2 in
    record {
      holds = (own.1, later.holds);
      text = field_behind (decimal n) (fields_of more x.0) (field_count more) bytes w.0 x.1 (held_count more x.0 later.holds) own.0 later.text;
    }
fields_take row (number digits more) bytes x can h =
    let n = then_ok (read_number row digits (stop_of more) bytes) (λ n. read_line row more n.1 >>= λ values. Ok ((n.0, values.0), values.1)) x h in
    let v = then_ok (read_line row more n.0.1) (λ values. Ok ((n.0.0, values.0), values.1)) x n.2 in
    let own = number_takes row digits (stop_of more) bytes n.0 can.0.1 n.1 in
    let later = fields_take row more n.0.1 v.0 can.1 v.1 in
    subst (Takes (number digits more) bytes) (ok_is ((n.0.0, v.0.0), v.0.1) x v.2) (record {
      holds = (own.1, later.holds);
      text = field_behind (decimal n.0.0) (fields_of more v.0.0) (field_count more) bytes n.0.1 v.0.1 (held_count more v.0.0 later.holds) own.0 later.text;
    })
fields_take row (within low high more) bytes x can h =
    let n = then_ok (read_within row low high (stop_of more) bytes) (λ n. read_line row more n.1 >>= λ values. Ok ((n.0, values.0), values.1)) x h in
    let v = then_ok (read_line row more n.0.1) (λ values. Ok ((n.0.0, values.0), values.1)) x n.2 in
    let own = within_takes row low high (stop_of more) bytes n.0 n.1 in
    let later = fields_take row more n.0.1 v.0 can.1 v.1 in
    subst (Takes (within low high more) bytes) (ok_is ((n.0.0, v.0.0), v.0.1) x v.2) (record {
      holds = (own.1, later.holds);
      text = field_behind (decimal n.0.0) (fields_of more v.0.0) (field_count more) bytes n.0.1 v.0.1 (held_count more v.0.0 later.holds) own.0 later.text;
    })
fields_take row (signed digits more) bytes x can h =
    let z = then_ok (read_signed row digits (stop_of more) bytes) (λ z. read_line row more z.1 >>= λ values. Ok ((z.0, values.0), values.1)) x h in
    let v = then_ok (read_line row more z.0.1) (λ values. Ok ((z.0.0, values.0), values.1)) x z.2 in
    let own = signed_takes row digits (stop_of more) bytes z.0 can.0.1 z.1 in
    let later = fields_take row more z.0.1 v.0 can.1 v.1 in
    subst (Takes (signed digits more) bytes) (ok_is ((z.0.0, v.0.0), v.0.1) x v.2) (record {
      holds = (own.1, later.holds);
      text = field_behind (signed_decimal z.0.0) (fields_of more v.0.0) (field_count more) bytes z.0.1 v.0.1 (held_count more v.0.0 later.holds) own.0 later.text;
    })

-- what was read as a line: its values are held, and the line spells them
pub record TakesLine (line : Line) (bytes : Text) (x : Values line × Text) : Type 0 where
  pub holds : Holds line x.0
  pub text : bytes ≡ fields_line (fields_of line x.0) ++ x.1

-- values that were read from a line are held and spelled so
pub line_takes : (row : ℕ) (line : Line) (bytes : Text) (x : Values line × Text) → IsSpellable line → 1 ≤ field_count line → read_line row line bytes ≡ Ok x → TakesLine line bytes x
line_takes row line bytes x can some h =
    let t = fields_take row line bytes x can h in
    let count = held_count line x.0 t.holds in
    record { holds = t.holds; text = t.text ∙ ap (λ (w : Text). w ++ x.1) (sym (line_fields (fields_of line x.0) (omega (arith, some, count)))) }

-- ---- what is read again

fields_again : (row : ℕ) (line : Line) (values : Values line) (rest : Text) → IsSpellable line → Holds line values → read_line row line (fields_text (fields_of line values) ++ rest) ≡ Ok (values, rest)
unfolding read_line
fields_again row ends values rest can held = refl
fields_again row (numbers count digits) ns rest can held =
    ap (λ (t : Text). read_numbers row digits count (t ++ rest)) (sym (numbers_fields ns))
    ∙ ap (λ (k : ℕ). read_numbers row digits k (numbers_text ns ++ rest)) (sym held.0)
    ∙ numbers_again row digits ns rest can.0 can.1 held.1
fields_again row (word text more) values rest can held =
    let fs = fields_of more values in
    ap (read_line row (word text more)) (field_more text fs (field_count more) rest (held_count more values held))
    ∙ rw (word_again row text (stop_of more) (fields_text fs ++ rest) can.0) (fields_again row more values rest can.1 held)
fields_again row (known n more) values rest can held =
    let fs = fields_of more values in
    ap (read_line row (known n more)) (field_more (decimal n) fs (field_count more) rest (held_count more values held.1))
    ∙ rw (known_again row n (stop_of more) (fields_text fs ++ rest) (stop_low (field_count more)) held.0) (fields_again row more values rest can held.1)
fields_again row (number digits more) values rest can held =
    let fs = fields_of more values.1 in
    ap (read_line row (number digits more)) (field_more (decimal values.0) fs (field_count more) rest (held_count more values.1 held.1))
    ∙ rw (number_again row digits (stop_of more) values.0 (fields_text fs ++ rest) can.0.0 can.0.1 (stop_low (field_count more)) held.0, fields_again row more values.1 rest can.1 held.1) refl
fields_again row (within low high more) values rest can held =
    let fs = fields_of more values.1 in
    ap (read_line row (within low high more)) (field_more (decimal values.0) fs (field_count more) rest (held_count more values.1 held.1))
    ∙ rw (within_again row low high (stop_of more) values.0 (fields_text fs ++ rest) (stop_low (field_count more)) can.0 held.0, fields_again row more values.1 rest can.1 held.1) refl
fields_again row (signed digits more) values rest can held =
    let fs = fields_of more values.1 in
    ap (read_line row (signed digits more)) (field_more (signed_decimal values.0) fs (field_count more) rest (held_count more values.1 held.1))
    ∙ rw (signed_again row digits (stop_of more) values.0 (fields_text fs ++ rest) can.0.0 can.0.1 (stop_low (field_count more)) held.0, fields_again row more values.1 rest can.1 held.1) refl

-- values that a line holds are read from their spelling
pub line_again : (row : ℕ) (line : Line) (values : Values line) (rest : Text) → IsSpellable line → 1 ≤ field_count line → Holds line values → read_line row line (fields_line (fields_of line values) ++ rest) ≡ Ok (values, rest)
line_again row line values rest can some held =
    let count = held_count line values held in
    ap (λ (t : Text). read_line row line (t ++ rest)) (line_fields (fields_of line values) (omega (arith, some, count))) ∙ fields_again row line values rest can held
