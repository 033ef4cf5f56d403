-- The records of a text, one after the other, and how many fields they have.
use Rattle.std.proofs.Common.{◌≡◌, ◌≢◌, ◌⊎◌, ◌∙◌, ◌+◌, ◌-◌, ◌<◌, ◌≤◌, ◌==◌, ◌&&◌, ◌++◌, ℕ, zero, suc, List, [], ◌∷◌, length, Bool, true, false, Option, Some, None, IfSome, refl, sym, ap, inl, inr, arith, cond, append_assoc, append-nil, length-append, eq-eqb, nat_lt, take}
use Rattle.std.proofs.Math.Seq.{take-append-add, take-append_seam}
use Rattle.std.proofs.lemmas.List.{take_all}
use Rattle.std.specs.List.{take_while}
use Rattle.std.proofs.lemmas.Bool.Decides.{nat_tests}
use Rattle.std.proofs.lemmas.List.Sums.{take_while-cons}
use Rattle.csv.specs.Machine.{Read, step, in_field, start_field, start_record, after_end, ends_with, is_byte, ends_at_end, is_end, next_record}
use Rattle.csv.specs.Reading.{default_config, records, records_from, pending_of, source_of, strip_bom, ExplainsRead, NextIs, ReadRecord, ReadsNext}
use Rattle.csv.specs.declared.error.ErrorKind.{ErrorKind}
use Rattle.csv.specs.declared.error.ErrorKind.TheVariants as kind
use Rattle.csv.specs.declared.reader.Reader.{Reader}
use Rattle.csv.specs.declared.parser.Action.{Action}
use Rattle.csv.specs.declared.parser.Action.TheVariants as act
use Rattle.csv.specs.declared.parser.Config.{Config}
use Rattle.csv.specs.declared.parser.State.{State}
use Rattle.csv.specs.declared.parser.State.TheVariants as st
use Rattle.csv.specs.declared.parser.Terminator.{Terminator}
use Rattle.csv.specs.declared.parser.Terminator.TheVariants as term
use Rattle.csv_records.specs.Table.{Fields, even_rows, has_width, is_uneven, table_from, table_within}
use Rattle.csv_records.specs.Walk.{Fit, HasGiven, StandsBehind, more_rows, tabled, width_of}
use Rattle.csv_records.specs.declared.walk.Walk.{Walk}

-- ---- a record ends where the next can start, and takes a byte

abbrev Ends : State × Action → Type 0
Ends p = is_end p.1 ≡ true → ends_at_end p.0 ≡ false

pick : (b : Bool) (p q : State × Action) → Ends p → Ends q → Ends (cond b p q)
pick true p q h k = h
pick false p q h k = k

end_state : (t : Terminator) (c : ℕ) → ends_at_end (after_end t c) ≡ false
end_state term.CRLF c = go (c == 13)
  where
    go : (b : Bool) → ends_at_end (cond b st.AfterCr st.StartRecord) ≡ false
    go true = refl
    go false = refl
end_state (term.Any t) c = refl

copied : Ends (st.InField, act.Copy)
copied h = cc

field_ended : Ends (st.StartField, act.EndField)
field_ended h = cc

skipped : (s : State) → Ends (s, act.Skip)
skipped s h = cc

in_field_ends : (cfg : Config) (c : ℕ) → Ends (in_field cfg c)
in_field_ends cfg c = pick (c == cfg.delimiter) (st.StartField, act.EndField) (cond (ends_with cfg.terminator c) (after_end cfg.terminator c, act.EndRecord) (st.InField, act.Copy))
    field_ended
    (pick (ends_with cfg.terminator c) (after_end cfg.terminator c, act.EndRecord) (st.InField, act.Copy) (λ _. end_state cfg.terminator c) copied)

start_field_ends : (cfg : Config) (c : ℕ) → Ends (start_field cfg c)
start_field_ends cfg c = pick (cfg.quoting && (c == cfg.quote)) (st.InQuoted, act.Skip) (in_field cfg c) (skipped st.InQuoted) (in_field_ends cfg c)

start_record_ends : (cfg : Config) (c : ℕ) → Ends (start_record cfg c)
start_record_ends cfg c = pick (ends_with cfg.terminator c) (st.StartRecord, act.Skip) (cond (is_byte cfg.comment c) (st.InComment, act.Skip) (start_field cfg c))
    (skipped st.StartRecord)
    (pick (is_byte cfg.comment c) (st.InComment, act.Skip) (start_field cfg c) (skipped st.InComment) (start_field_ends cfg c))

in_quoted : Ends (st.InQuoted, act.Copy)
in_quoted h = cc

step_ends : (cfg : Config) (s : State) (c : ℕ) → Ends (step cfg s c)
step_ends cfg st.StartRecord c = start_record_ends cfg c
step_ends cfg st.StartField c = start_field_ends cfg c
step_ends cfg st.InField c = in_field_ends cfg c
step_ends cfg st.InQuoted c =
    pick (cfg.quoting && (c == cfg.quote)) (st.AfterQuote, act.Skip) (cond (cfg.quoting && is_byte cfg.escape c) (st.InEscape, act.Skip) (st.InQuoted, act.Copy))
    (skipped st.AfterQuote) (pick (cfg.quoting && is_byte cfg.escape c) (st.InEscape, act.Skip) (st.InQuoted, act.Copy) (skipped st.InEscape) in_quoted)
step_ends cfg st.InEscape c = in_quoted
step_ends cfg st.AfterQuote c = pick (cfg.quoting && cfg.double_quote && (c == cfg.quote)) (st.InQuoted, act.Copy) (in_field cfg c) in_quoted (in_field_ends cfg c)
step_ends cfg st.InComment c = pick (c == 10) (st.StartRecord, act.Skip) (st.InComment, act.Skip) (skipped st.StartRecord) (skipped st.InComment)
step_ends cfg st.AfterCr c = pick (c == 10) (st.StartRecord, act.Skip) (start_record cfg c) (skipped st.StartRecord) (start_record_ends cfg c)

-- what a record leaves
record Leaves (xs : List ℕ) (p : Read) : Type 0 where
  pub shorter : length p.2 ≤ length xs - 1
  pub between : ends_at_end p.1 ≡ false

chosen : {A : Type 0} (b : Bool) (x y z : A) → cond b x y ≡ z → ((b ≡ true) × (x ≡ z)) ⊎ ((b ≡ false) × (y ≡ z))
chosen true x y z e = inl (refl, e)
chosen false x y z e = inr (refl, e)

some_same : {A : Type 0} (x y : A) → Some x ≡ Some y → x ≡ y
some_same x y e = cc

leaves_same : (xs : List ℕ) (q p : Read) → q ≡ p → Leaves xs q → Leaves xs p
leaves_same xs q p e h = rw (← e) h

leaves : (cfg : Config) (xs : List ℕ) (s : State) (f : Fields) (d : List ℕ) (p : Read) → next_record cfg s f d xs ≡ Some p → Leaves xs p
unfolding next_record
leaves cfg [] s f d p e = elim (chosen (ends_at_end s) _ _ _ e) [
  | inl h ↦ leaves_same [] _ p (some_same _ _ h.1) (record { shorter = omega arith; between = refl })
  | inr h ↦ cc
]
leaves cfg (c ∷ rest) s f d p e = elim (chosen (is_end (step cfg s c).1) _ _ _ e) [
  | inl h ↦ leaves_same (c ∷ rest) _ p (some_same _ _ h.1) (record { shorter = omega arith; between = step_ends cfg s c h.0 })
  | inr h ↦ let k = leaves cfg rest _ _ _ p h.1 in record { shorter = omega (arith, k.shorter); between = k.between }
]

-- no record at the end of a text, between two records
none_at_end : (cfg : Config) (s : State) (f : Fields) (d : List ℕ) → ends_at_end s ≡ false → next_record cfg s f d [] ≡ None
unfolding next_record
none_at_end cfg s f d h = rw h refl

-- ---- how far a text was read

-- at the start of a text no row was read
pub stands_start : (xs : List ℕ) → StandsBehind xs [] st.StartRecord xs
stands_start xs = record { fuel = length xs + 1; enough = omega arith; between = refl; rest = refl }

next_of : (n : ℕ) (s : State) (y : List ℕ) (p : Read) → next_record default_config s [] [] y ≡ Some p → records_from default_config (suc n) s y ≡ p.0 ∷ records_from default_config n p.1 p.2
unfolding records_from
next_of n s y p e = rw e refl

none_of : (n : ℕ) (s : State) (y : List ℕ) → next_record default_config s [] [] y ≡ None → records_from default_config n s y ≡ []
unfolding records_from
none_of zero s y e = refl
none_of (suc n) s y e = rw e refl

more : (xs : List ℕ) (rows : List Fields) (s : State) (y : List ℕ) (p : Read) (n : ℕ) → length y < n → ends_at_end s ≡ false → records default_config xs ≡ rows ++ records_from default_config n s y
    → next_record default_config s [] [] y ≡ Some p → StandsBehind xs (rows ++ p.0 ∷ []) p.1 p.2
more xs rows s [] p n lt b r e = let bad = none_at_end default_config s [] [] b in cc
more xs rows s (c ∷ y) p zero lt b r e = absurd (omega arith)
more xs rows s (c ∷ y) p (suc n) lt b r e =
    let k = leaves default_config (c ∷ y) s [] [] p e in
    record {
      fuel = n;
      enough = omega (arith, k.shorter);
      between = k.between;
      rest = r ∙ ap (λ (t : List Fields). rows ++ t) (next_of n s (c ∷ y) p e) ∙ sym (append_assoc rows (p.0 ∷ []) (records_from default_config n p.1 p.2));
    }

-- the next record is one row more
pub stands_more : (xs : List ℕ) (rows : List Fields) (s : State) (y : List ℕ) (p : Read) → StandsBehind xs rows s y → next_record default_config s [] [] y ≡ Some p → StandsBehind xs (rows ++ p.0 ∷ []) p.1 p.2
stands_more xs rows s y p h e = more xs rows s y p h.fuel h.enough h.between h.rest e

-- where no record follows, the rows are all records of the text
pub stands_end : (xs : List ℕ) (rows : List Fields) (s : State) (y : List ℕ) → StandsBehind xs rows s y → next_record default_config s [] [] y ≡ None → records default_config xs ≡ rows
stands_end xs rows s y h e = h.rest ∙ ap (λ (t : List Fields). rows ++ t) (none_of h.fuel s y e) ∙ append-nil rows

-- ---- the number of fields

-- a record has as many fields as the first
abbrev pub fits : Option ℕ → Fields → Bool
fits None r = true
fits (Some n) r = has_width n r

-- an empty list of rows is even
pub fit_none : Fit []
fit_none rest = refl

own_width : (r : List (List ℕ)) → has_width (length r) r ≡ true
own_width r = eq-eqb (length r) (length r) refl

kept : (n : ℕ) (r : List (List ℕ)) (rest : List Fields) → has_width n r ≡ true → take_while (has_width n) (r ∷ rest) ≡ r ∷ take_while (has_width n) rest
kept n r rest e = take_while-cons (has_width n) r rest ∙ ap (λ (b : Bool). cond b (r ∷ take_while (has_width n) rest) []) e

left_out : (n : ℕ) (r : List (List ℕ)) (rest : List Fields) → has_width n r ≡ false → take_while (has_width n) (r ∷ rest) ≡ []
left_out n r rest e = take_while-cons (has_width n) r rest ∙ ap (λ (b : Bool). cond b (r ∷ take_while (has_width n) rest) []) e

fit_step : (rows : List Fields) (r : List (List ℕ)) (rest : List Fields) → fits (width_of rows) r ≡ true → more_rows (width_of rows) (r ∷ rest) ≡ r ∷ more_rows (width_of (rows ++ r ∷ [])) rest
fit_step [] r rest e = kept (length r) r rest (own_width r)
fit_step (x ∷ xs) r rest e = kept (length x) r rest e

-- even rows stay even with one more of their width
pub fit_more : (rows : List Fields) (r : List (List ℕ)) → Fit rows → fits (width_of rows) r ≡ true → Fit (rows ++ r ∷ [])
fit_more rows r h e rest =
    ap even_rows (append_assoc rows (r ∷ []) rest) ∙ h (r ∷ rest) ∙ ap (λ (t : List Fields). rows ++ t) (fit_step rows r rest e)
    ∙ sym (append_assoc rows (r ∷ []) (more_rows (width_of (rows ++ r ∷ [])) rest))

no_more : (rows : List Fields) → more_rows (width_of rows) [] ≡ []
no_more [] = refl
no_more (x ∷ xs) = refl

fit_end : (rows : List Fields) → Fit rows → even_rows rows ≡ rows
fit_end rows h = ap even_rows (sym (append-nil rows)) ∙ h [] ∙ ap (λ (t : List Fields). rows ++ t) (no_more rows) ∙ append-nil rows

stops : (rows : List Fields) (r : List (List ℕ)) (rest : List Fields) → fits (width_of rows) r ≡ false → more_rows (width_of rows) (r ∷ rest) ≡ []
stops [] r rest e = absurd cc
stops (x ∷ xs) r rest e = left_out (length x) r rest e

fit_break : (rows : List Fields) (r : List (List ℕ)) (rest : List Fields) → Fit rows → fits (width_of rows) r ≡ false → even_rows (rows ++ r ∷ rest) ≡ rows
fit_break rows r rest h e = h (r ∷ rest) ∙ ap (λ (t : List Fields). rows ++ t) (stops rows r rest e) ∙ append-nil rows

-- ---- the table

all_even : (rs rows : List Fields) → rs ≡ rows → even_rows rows ≡ rows → table_from rs ≡ tabled rows None
all_even rs rows e h =
    let n : nat_lt (length rows) (length rows) ≡ false = grind (arith, nat_tests) in
    rw (e, h, n) refl

one_uneven : (rs rows : List Fields) (r : List (List ℕ)) (rest : List Fields) → rs ≡ rows ++ r ∷ rest → even_rows (rows ++ r ∷ rest) ≡ rows → table_from rs ≡ tabled rows (Some (length rows + 1))
one_uneven rs rows r rest e h =
    let size : length (rows ++ r ∷ rest) ≡ length rows + length (r ∷ rest) = length-append rows (r ∷ rest) in
    let n : nat_lt (length rows) (length rows + length (r ∷ rest)) ≡ true = grind (arith, nat_tests) in
    rw (e, h, size, n) refl

-- ---- from what `csv` says

-- the length that is expected is that of the first row
pub same_width : (w : Option ℕ) (r : List (List ℕ)) (after : Option ℕ) → IfSome w (λ e. after ≡ Some e) × (after ≡ Some (length r)) → fits w r ≡ true
same_width None r after h = refl
same_width (Some n) r after h = let e : n ≡ length r = cc in eq-eqb (length r) n (sym e)

-- where another length is expected, a row does not fit
pub other_width : (w : Option ℕ) (r : List (List ℕ)) (n : ℕ) → w ≡ Some n → (n ≢ length r) → fits w r ≡ false
other_width w r n e d = rw e (go (length r == n) refl)
  where
    go : (b : Bool) → (length r == n) ≡ b → b ≡ false
    go true h = let q : length r ≡ n = grind (arith, nat_tests) in absurd (d (sym q))
    go false h = refl

-- where a record was read there is one, and it has these fields and leaves this state and these bytes
pub next_is : (o : Option Read) (f : List (List ℕ)) (s : State) (z : List ℕ) → NextIs o true f s z → (p : Read) × (o ≡ Some p) × (f ≡ p.0) × (s ≡ p.1) × (z ≡ p.2)
next_is None f s z n = cc n
next_is (Some p) f s z n = (p, refl, n.1, n.2, n.3)

-- a reader that took a record took the next one of its bytes, and left what that one leaves
pub took_is : (cfg : Config) (s b : State) (y : List ℕ) (k : Option (List ℕ)) (f : List (List ℕ)) → ReadsNext cfg s (Some y) k true f b
    → (p : Read) × (next_record cfg s [] [] y ≡ Some p) × (f ≡ p.0) × (b ≡ p.1) × (k ≡ Some p.2)
took_is cfg s b y None f r = absurd r
took_is cfg s b y (Some z) f r = let n = next_is _ f b z r in (n.0, n.1, n.2, n.3, ap Some n.4)

break_from : (xs : List ℕ) (rows : List Fields) (s : State) (y : List ℕ) (p : Read) (n : ℕ) → length y < n → records default_config xs ≡ rows ++ records_from default_config n s y
    → next_record default_config s [] [] y ≡ Some p → (after : List Fields) × (records default_config xs ≡ rows ++ p.0 ∷ after)
break_from xs rows s y p zero lt r e = absurd (omega arith)
break_from xs rows s y p (suc n) lt r e = (records_from default_config n p.1 p.2, r ∙ ap (λ (t : List Fields). rows ++ t) (next_of n s y p e))

-- the first of some rows and what follows them, where the rows are fewer than are taken
take_past : (most : ℕ) (rows : List Fields) (r : List (List ℕ)) (after : List Fields) → length rows < most
    → take most (rows ++ r ∷ after) ≡ rows ++ r ∷ take (most - length rows - 1) after
take_past most rows r after lt =
    let e : most ≡ length rows + suc (most - length rows - 1) = omega arith in
    ap (λ (n : ℕ). take n (rows ++ r ∷ after)) e ∙ take-append-add rows (r ∷ after) (suc (most - length rows - 1))

-- the next record has another length
breaks : (most : ℕ) (xs : List ℕ) (rows : List Fields) (s : State) (y : List ℕ) (p : Read) → length rows < most → StandsBehind xs rows s y → Fit rows → next_record default_config s [] [] y ≡ Some p
    → fits (width_of rows) p.0 ≡ false → table_from (take most (records default_config xs)) ≡ tabled rows (Some (length rows + 1))
breaks most xs rows s y p lt h fit e f =
    let (after, is) = break_from xs rows s y p h.fuel h.enough h.rest e in
    let rest : List Fields = take (most - length rows - 1) after in
    one_uneven (take most (records default_config xs)) rows p.0 rest (ap (take most) is ∙ take_past most rows p.0 after lt) (fit_break rows p.0 rest fit f)

-- every record was read
pub whole : (most : ℕ) (bytes : List ℕ) (rows : List Fields) (s : State) (y : List ℕ) → length rows ≤ most → StandsBehind (strip_bom bytes) rows s y → Fit rows
    → next_record default_config s [] [] y ≡ None → table_within most bytes ≡ tabled rows None
unfolding table_within
whole most bytes rows s y few h fit e =
    all_even (take most (records default_config (strip_bom bytes))) rows (ap (take most) (stands_end (strip_bom bytes) rows s y h e) ∙ take_all most rows few) (fit_end rows fit)

-- as many records were read as were asked for
pub filled : (most : ℕ) (bytes : List ℕ) (rows : List Fields) (s : State) (y : List ℕ) → length rows ≡ most → StandsBehind (strip_bom bytes) rows s y → Fit rows
    → table_within most bytes ≡ tabled rows None
unfolding table_within
filled most bytes rows s y full h fit =
    all_even (take most (records default_config (strip_bom bytes))) rows
    (ap (take most) h.rest ∙ ap (λ (n : ℕ). take n (rows ++ records_from default_config h.fuel s y)) (sym full) ∙ take-append_seam rows (records_from default_config h.fuel s y)) (fit_end rows fit)

-- what a refusal for the number of fields says of the table
pub refused : {R : Type 0} (rem : R → Option (List ℕ)) (a b : Reader R) (most : ℕ) (bytes y : List ℕ) (rows : List Fields) (k : ErrorKind)
    → length rows < most → a.config ≡ default_config → a.expected ≡ width_of rows → Fit rows → source_of rem a ≡ Some y → StandsBehind (strip_bom bytes) rows a.state y
    → ExplainsRead rem a b false k → is_uneven k ≡ true → table_within most bytes ≡ tabled rows (Some (length rows + 1))
unfolding table_within
refused rem a b most bytes y rows (kind.UnequalLengths pos expected len) lt ec ew fit ex st why is =
    let (flexible, is, differs, fields, took, size) = why in
    let (p, next, same, state, rest) = took_is default_config a.state b.state y (pending_of (rem b.rdr) b) fields (rw (ec, ex) at took) in
    let other : fits (width_of rows) p.0 ≡ false = other_width (width_of rows) p.0 expected (sym ew ∙ is) (λ q. differs (q ∙ ap (λ (t : List (List ℕ)). length t) (sym same) ∙ size)) in
    breaks most (strip_bom bytes) rows a.state y p lt st fit next other
refused rem a b most bytes y rows (kind.Io e) lt ec ew fit ex st why is = absurd cc
refused rem a b most bytes y rows (kind.Utf8 pos e) lt ec ew fit ex st why is = absurd cc
refused rem a b most bytes y rows kind.OutOfMemory lt ec ew fit ex st why is = absurd cc
refused rem a b most bytes y rows (kind.Serialize e) lt ec ew fit ex st why is = absurd cc
refused rem a b most bytes y rows (kind.Deserialize pos e) lt ec ew fit ex st why is = absurd cc

-- one more row
pub record Went {R : Type 0} (rem : R → Option (List ℕ)) (b : Reader R) (xs : List ℕ) (rows : List Fields) : Type 0 where
  pub unread : List ℕ
  pub source : source_of rem b ≡ Some unread
  pub stands : StandsBehind xs rows b.state unread
  pub fit : Fit rows
  pub expected : b.expected ≡ width_of rows

stands_as : (xs : List ℕ) (rows : List Fields) (f g : List (List ℕ)) (s t : State) (y : List ℕ) → f ≡ g → s ≡ t → StandsBehind xs (rows ++ g ∷ []) t y → StandsBehind xs (rows ++ f ∷ []) s y
stands_as xs rows f g s t y d e h = rw (d, e) h

expected_more : (rows : List Fields) (f : List (List ℕ)) (after : Option ℕ) → IfSome (width_of rows) (λ e. after ≡ Some e) × (after ≡ Some (length f)) → after ≡ width_of (rows ++ f ∷ [])
expected_more [] f after h = h.1
expected_more (x ∷ xs) f after h = h.0

-- a record that is read behind even rows is one more row, and the rows stay even
pub went : {R : Type 0} (rem : R → Option (List ℕ)) (a b : Reader R) (xs y : List ℕ) (rows : List Fields) (f : List (List ℕ))
    → a.config ≡ default_config → a.flexible ≡ false → a.expected ≡ width_of rows → Fit rows → source_of rem a ≡ Some y → StandsBehind xs rows a.state y → b.failed ≡ false
    → ReadRecord rem a b true f → Went rem b xs (rows ++ f ∷ [])
went rem a b xs y rows f ec ef ew fit ex st ok r =
    let (p, next, same, state, rest) = took_is default_config a.state b.state y (pending_of (rem b.rdr) b) f (rw (ec, ex) at r.0) in
    let lens = rw ew at (r.5 refl ef) in
    let more = stands_more xs rows a.state y p st next in
    record {
      unread = p.2;
      source = rw r.1 rest;
      stands = stands_as xs rows f p.0 b.state p.1 p.2 same state more;
      fit = fit_more rows f fit (same_width (width_of rows) f b.expected lens);
      expected = expected_more rows f b.expected lens;
    }

-- the rows that a walk has given are the first of the table
pub begun : (bytes : List ℕ) (most : ℕ) (rows : List Fields) (w : Walk) → HasGiven bytes most rows w → (later : List Fields) × ((table_within most bytes).rows ≡ rows ++ later)
unfolding table_within
begun bytes most rows w h =
    let rest : List Fields = records_from default_config h.stands.fuel w.reader.state h.unread in
    let e : most ≡ length rows + w.left = sym h.count in (
      more_rows (width_of rows) (take w.left rest),
      ap (λ (rs : List Fields). even_rows (take most rs)) h.stands.rest
          ∙ ap (λ (n : ℕ). even_rows (take n (rows ++ rest))) e
          ∙ ap even_rows (take-append-add rows rest w.left)
          ∙ h.fit (take w.left rest),
    )
