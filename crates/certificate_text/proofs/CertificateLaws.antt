-- Certificates: what is read is of the form and spelled so, and what is of the form is read from its spelling.
use Rattle.std.proofs.Common.{◌≡◌, ◌∙◌, ◌+◌, ◌-◌, ◌*◌, ◌/◌, ◌%◌, ◌^◌, ◌<◌, ◌≤◌, ◌++◌, ℕ, zero, suc, List, [], ◌∷◌, true, Ok, drop, length, length-append, nat_le, take, refl, sym, ap, subst, append_assoc, arith, lit≤}
use Rattle.std.specs.List.{All}
use Rattle.std.proofs.lemmas.Bool.Decides.{nat_tests}
use Rattle.std.proofs.lemmas.List.{drop_at, length-drop, length-take, take_at, take-append-drop}
use Rattle.std.proofs.lemmas.List.Concat.{flat_map-append}
use Rattle.std.proofs.lemmas.List.Elements.{All-append, All-cons, All-drop, All-head, All-nil, All-tail, All-take}
use Rattle.std.proofs.Math.Nat.{div-le_self, mod-lt}
use Rattle.lab_model.proofs.Steps.{then_ok}
use Rattle.lab_model.specs.Steps.{◌>>=◌}
use Rattle.lab_model.specs.declared.label.Label.{Label}
use Rattle.lab_io.specs.Sink.{Text}
use Rattle.lab_io.specs.Piece.{fields_line}
use Rattle.labels.specs.Parts.{ChainParts}
use Rattle.certificate_text.specs.Fields.{value_if}
use Rattle.labels.specs.Form.{HasDigits, place_digits, AreChains, IsChain, IsSpelled, label_count, names_per}
use Rattle.certificate_text.specs.Line.{Holds, Values, read_line}
use Rattle.certificate_text.specs.Grammar.{label_line, layer_line}
use Rattle.certificate_text.specs.Reading.{Place, joined, read_chain, read_chains, read_label, read_label_count, read_labels}
use Rattle.certificate_text.specs.Spelling.{chain_lines, chains_lines, label_fields, label_lines, layer_fields, lines_text}
use Rattle.certificate_text.proofs.Loops.{given, ok_is}
use Rattle.certificate_text.proofs.FieldLaws.{value_if_ok}
use Rattle.certificate_text.proofs.LineLaws.{IsSpellable, line_again, line_takes}

-- where a reader stands
abbrev place : ℕ → ℕ → Text → Place
place row left rest = record { row = row; left = left; rest = rest }

-- ---- a label

can_label : (per : ℕ) → IsSpellable (label_line per)
can_label per = ((lit≤ tt, lit≤ tt), ((lit≤ tt, lit≤ tt), ((lit≤ tt, lit≤ tt), (lit≤ tt, lit≤ tt))))

-- a label alone
abbrev one_label : Label → List ℕ → ChainParts
one_label l names = record { labels = l ∷ []; names = names }

-- the label of a line's values
abbrev label_of : (per : ℕ) → Values (label_line per) → Label
label_of per values = record { t = values.0; p = values.1.0; v = values.1.1.0 }

-- what was read as the line of a label
record TakesLabel (per : ℕ) (bytes : Text) (x : ChainParts × Text) : Type 0 where
  label : Label
  own : List ℕ
  alone : x.0 ≡ one_label label own
  text : bytes ≡ fields_line (label_fields label own) ++ x.1
  spelled : IsSpelled label
  count_is : length own ≡ per
  digits_are : All (HasDigits place_digits) own

label_takes : (row per : ℕ) (bytes : Text) (x : ChainParts × Text) → read_label row per bytes ≡ Ok x → TakesLabel per bytes x
unfolding read_label
label_takes row per bytes x h =
    let l = then_ok (read_line row (label_line per) bytes) (λ label. Ok (one_label (label_of per label.0) label.0.1.1.1, label.1)) x h in
    let t = line_takes row (label_line per) bytes l.0 (can_label per) (omega arith) l.1 in
    subst (λ (y : ChainParts × Text). TakesLabel per bytes y) (ok_is (one_label (label_of per l.0.0) l.0.0.1.1.1, l.0.1) x l.2) (record {
      label = label_of per l.0.0;
      own = l.0.0.1.1.1;
      alone = refl;
      text = t.text;
      spelled = record { t = t.holds.0; p = t.holds.1.0; v = t.holds.1.1.0 };
      count_is = t.holds.1.1.1.0;
      digits_are = t.holds.1.1.1.1;
    })

label_again : (row per : ℕ) (l : Label) (names : List ℕ) (rest : Text) → length names ≡ per → IsSpelled l → All (HasDigits place_digits) names → read_label row per (fields_line (label_fields l names) ++ rest) ≡ Ok (one_label l names, rest)
unfolding read_label
label_again row per l names rest e s digits =
    let read : read_line row (label_line per) (fields_line (label_fields l names) ++ rest) ≡ Ok ((l.t, (l.p, (l.v, names))), rest) =
    line_again row (label_line per) (l.t, (l.p, (l.v, names))) rest (can_label per) (omega arith) (s.t, (s.p, (s.v, (e, digits)))) in
    rw read refl

-- ---- labels

lines_joined : (per : ℕ) (l : Label) (ls : List Label) (own ns : List ℕ) → length own ≡ per
    → lines_text (label_lines per (l ∷ ls) (own ++ ns)) ≡ fields_line (label_fields l own) ++ lines_text (label_lines per ls ns)
lines_joined per l ls own ns e = rw (take_at own ns per e, drop_at own ns per e) refl

-- what was read as so many labels
record TakesLabels (per count : ℕ) (bytes : Text) (x : ChainParts × Text) : Type 0 where
  text : bytes ≡ lines_text (label_lines per x.0.labels x.0.names) ++ x.1
  count_is : length x.0.labels ≡ count
  chain : IsChain per x.0

labels_take : (row per count : ℕ) (bytes : Text) (x : ChainParts × Text) → read_labels row per count bytes ≡ Ok x → TakesLabels per count bytes x
unfolding read_labels
labels_take row per zero bytes x h =
    let none : ChainParts = record { labels = []; names = [] } in
    subst (λ (y : ChainParts × Text). TakesLabels per 0 bytes y) (ok_is (none, bytes) x h)
    (record { text = refl; count_is = refl; chain = record { labels = All-nil IsSpelled; whole = omega arith; names = All-nil (HasDigits place_digits) } })
labels_take row per (suc more) bytes x h =
    let one = then_ok (read_label row per bytes) (λ one. read_labels (row + 1) per more one.1 >>= λ others. Ok (joined one.0 others.0, others.1)) x h in
    let others = then_ok (read_labels (row + 1) per more one.0.1) (λ others. Ok (joined one.0.0 others.0, others.1)) x one.2 in
    let t = label_takes row per bytes one.0 one.1 in
    let ts = labels_take (row + 1) per more one.0.1 others.0 others.1 in
    let whole : (joined (one_label t.label t.own) others.0.0, others.0.1) ≡ x = ap (λ (c : ChainParts). (joined c others.0.0, others.0.1)) (sym t.alone) ∙ ok_is (joined one.0.0 others.0.0, others.0.1) x others.2 in
    subst (λ (y : ChainParts × Text). TakesLabels per (suc more) bytes y) whole (record {
      text = t.text ∙ ap (λ (w : Text). fields_line (label_fields t.label t.own) ++ w) ts.text
          ∙ sym (append_assoc (fields_line (label_fields t.label t.own)) (lines_text (label_lines per others.0.0.labels others.0.0.names)) others.0.1)
          ∙ ap (λ (w : Text). w ++ others.0.1) (sym (lines_joined per t.label others.0.0.labels t.own others.0.0.names t.count_is));
      count_is = ap suc ts.count_is;
      chain = record {
        labels = All-cons IsSpelled t.label others.0.0.labels t.spelled ts.chain.labels;
        whole = length-append t.own others.0.0.names ∙ whole_length per (length others.0.0.labels) (length t.own) (length others.0.0.names) t.count_is ts.chain.whole;
        names = All-append (HasDigits place_digits) t.own others.0.0.names t.digits_are ts.chain.names;
      };
    })
  where
    whole_length : (per count own others : ℕ) → own ≡ per → others ≡ count * per → own + others ≡ suc count * per
    whole_length per count own others e f = omega (arith, e, f)

no_names : (ns : List ℕ) → length ns ≡ 0 → ns ≡ []
no_names [] h = refl
no_names (n ∷ ns) h = absurd (omega (arith, h))

labels_again : (row per : ℕ) (ls : List Label) (ns : List ℕ) (rest : Text) → All IsSpelled ls → length ns ≡ length ls * per → All (HasDigits place_digits) ns
    → read_labels row per (length ls) (lines_text (label_lines per ls ns) ++ rest) ≡ Ok (record { labels = ls; names = ns }, rest)
unfolding read_labels
labels_again row per [] ns rest spelled whole digits =
    let none = no_names ns (omega (arith, whole)) in
    ap (λ (names : List ℕ). given (chain [] names, rest)) (sym none)
  where
    chain : List Label → List ℕ → ChainParts
    chain ls ns = record { labels = ls; names = ns }
labels_again row per (l ∷ ls) ns rest spelled whole digits =
    let split = split_names per (length ls) (length ns) whole in
    let own = take per ns in
    let later = drop per ns in
    let own_length : length own ≡ per = omega (arith, length-take per ns, split.0) in
    let later_length : length later ≡ length ls * per = omega (arith, length-drop per ns, split.1) in
    let first = label_again row per l own (lines_text (label_lines per ls later) ++ rest) own_length (All-head IsSpelled l ls spelled) (All-take (HasDigits place_digits) per ns digits) in
    let others = labels_again (row + 1) per ls later rest (All-tail IsSpelled l ls spelled) later_length (All-drop (HasDigits place_digits) per ns digits) in
    rw (append_assoc (fields_line (label_fields l own)) (lines_text (label_lines per ls later)) rest, first, others, take-append-drop per ns) refl
  where
    split_names : (per count names : ℕ) → names ≡ suc count * per → (per ≤ names) × (names ≡ per + count * per)
    split_names per count names e = (omega (arith, e), omega (arith, e))

-- ---- a chain

can_layer : (segment rung : ℕ) → IsSpellable (layer_line segment rung)
can_layer segment rung = (refl, ((lit≤ tt, lit≤ tt), tt))

layer_takes : (row segment rung left : ℕ) (bytes : Text) (x : ℕ × Text) → read_label_count row segment rung left bytes ≡ Ok x → (bytes ≡ fields_line (layer_fields segment rung x.0) ++ x.1) × (x.0 ≤ left)
unfolding read_label_count
layer_takes row segment rung left bytes x h =
    let n = then_ok (read_line row (layer_line segment rung) bytes) (λ count. value_if row (nat_le count.0.0 left) (count.0.0, count.1)) x h in
    let p = value_if_ok row (nat_le n.0.0.0 left) (n.0.0.0, n.0.1) x n.2 in
    let t = line_takes row (layer_line segment rung) bytes n.0 (can_layer segment rung) (lit≤ tt) n.1 in
    subst (λ (y : ℕ × Text). (bytes ≡ fields_line (layer_fields segment rung y.0) ++ y.1) × (y.0 ≤ left)) p.1 (t.text, grind (arith, nat_tests, p.0))

layer_again : (row segment rung left count : ℕ) (rest : Text) → Holds (layer_line segment rung) (count, tt) → count ≤ left
    → read_label_count row segment rung left (fields_line (layer_fields segment rung count) ++ rest) ≡ Ok (count, rest)
unfolding read_label_count
layer_again row segment rung left count rest holds le =
    let test : nat_le count left ≡ true = grind (arith, nat_tests) in
    rw (line_again row (layer_line segment rung) (count, tt) rest (can_layer segment rung) (lit≤ tt) holds, test) refl

-- what was read as a chain
record TakesChain (per segment rung : ℕ) (p : Place) (x : ChainParts × Place) : Type 0 where
  text : p.rest ≡ lines_text (chain_lines per segment rung x.0) ++ x.1.rest
  chain : IsChain per x.0
  left : x.1.left + length x.0.labels ≡ p.left

chain_takes : (per segment rung : ℕ) (p : Place) (x : ChainParts × Place) → read_chain per segment rung p ≡ Ok x → TakesChain per segment rung p x
unfolding read_chain
chain_takes per segment rung p x h =
    let n = then_ok (read_label_count p.row segment rung p.left p.rest) (λ count. read_labels (p.row + 1) per count.0 count.1 >>= λ chain. Ok (chain.0, place (p.row + 1 + count.0) (p.left - count.0) chain.1)) x h in
    let c = then_ok (read_labels (p.row + 1) per n.0.0 n.0.1) (λ chain. Ok (chain.0, place (p.row + 1 + n.0.0) (p.left - n.0.0) chain.1)) x n.2 in
    let tn = layer_takes p.row segment rung p.left p.rest n.0 n.1 in
    let tc = labels_take (p.row + 1) per n.0.0 n.0.1 c.0 c.1 in
    subst (λ (y : ChainParts × Place). TakesChain per segment rung p y) (ok_is (c.0.0, place (p.row + 1 + n.0.0) (p.left - n.0.0) c.0.1) x c.2) (record {
      text = tn.0 ∙ ap (λ (t : Text). fields_line (layer_fields segment rung n.0.0) ++ t) tc.text
          ∙ sym (append_assoc (fields_line (layer_fields segment rung n.0.0)) (lines_text (label_lines per c.0.0.labels c.0.0.names)) c.0.1)
          ∙ ap (λ (k : ℕ). (fields_line (layer_fields segment rung k) ++ lines_text (label_lines per c.0.0.labels c.0.0.names)) ++ c.0.1) (sym tc.count_is);
      chain = tc.chain;
      left = omega (arith, tn.1, tc.count_is);
    })

chain_again : (per segment rung : ℕ) (c : ChainParts) (p : Place) (rest : Text) → p.rest ≡ lines_text (chain_lines per segment rung c) ++ rest → IsChain per c → HasDigits place_digits segment → HasDigits place_digits rung
    → length c.labels ≤ p.left → p.left ≤ 1000000 → read_chain per segment rung p ≡ Ok (c, place (p.row + 1 + length c.labels) (p.left - length c.labels) rest)
unfolding read_chain
chain_again per segment rung c p rest e form a b le most =
    let text : p.rest ≡ fields_line (layer_fields segment rung (length c.labels)) ++ (lines_text (label_lines per c.labels c.names) ++ rest) =
    e ∙ append_assoc (fields_line (layer_fields segment rung (length c.labels))) (lines_text (label_lines per c.labels c.names)) rest in
    let first : read_label_count p.row segment rung p.left p.rest ≡ Ok (length c.labels, lines_text (label_lines per c.labels c.names) ++ rest) =
    ap (read_label_count p.row segment rung p.left) text ∙ layer_again p.row segment rung p.left (length c.labels) (lines_text (label_lines per c.labels c.names) ++ rest) (a, (b, (omega arith, tt))) le in
    rw (first, labels_again (p.row + 1) per c.labels c.names rest form.labels form.whole form.names) refl

-- ---- chains

-- what was read as so many chains
pub record TakesChains (segments rungs number count : ℕ) (p : Place) (x : List ChainParts × Place) : Type 0 where
  pub text : p.rest ≡ lines_text (chains_lines segments rungs number x.0) ++ x.1.rest
  pub count_is : length x.0 ≡ count
  pub chains : AreChains segments rungs number x.0
  pub left : x.1.left + label_count x.0 ≡ p.left

-- chains that were read are of the form and spelled so
pub chains_take : (segments rungs number count : ℕ) (p : Place) (x : List ChainParts × Place) → read_chains segments rungs number count p ≡ Ok x → TakesChains segments rungs number count p x
unfolding read_chains
chains_take segments rungs number zero p x h =
    subst (λ (y : List ChainParts × Place). TakesChains segments rungs number 0 p y) (ok_is ([], p) x h) (record { text = refl; count_is = refl; chains = tt; left = omega arith })
chains_take segments rungs number (suc more) p x h =
    let own = chain_lines (names_per segments rungs (number / rungs)) (number / rungs) (number % rungs) in
    let one = then_ok (read_chain (names_per segments rungs (number / rungs)) (number / rungs) (number % rungs) p) (λ chain. read_chains segments rungs (number + 1) more chain.1 >>= λ others. Ok (chain.0 ∷ others.0, others.1)) x h in
    let others = then_ok (read_chains segments rungs (number + 1) more one.0.1) (λ others. Ok (one.0.0 ∷ others.0, others.1)) x one.2 in
    let t = chain_takes (names_per segments rungs (number / rungs)) (number / rungs) (number % rungs) p one.0 one.1 in
    let ts = chains_take segments rungs (number + 1) more one.0.1 others.0 others.1 in
    subst (λ (y : List ChainParts × Place). TakesChains segments rungs number (suc more) p y) (ok_is (one.0.0 ∷ others.0.0, others.0.1) x others.2) (record {
      text = t.text ∙ ap (λ (w : Text). lines_text (own one.0.0) ++ w) ts.text
          ∙ sym (append_assoc (lines_text (own one.0.0)) (lines_text (chains_lines segments rungs (number + 1) others.0.0)) others.0.1.rest)
          ∙ ap (λ (w : Text). w ++ others.0.1.rest) (sym (flat_map-append fields_line (own one.0.0) (chains_lines segments rungs (number + 1) others.0.0)));
      count_is = ap suc ts.count_is;
      chains = (t.chain, ts.chains);
      left = omega (arith, t.left, ts.left);
    })

-- chains of the form are read from their spelling
pub chains_again : (segments rungs number : ℕ) (cs : List ChainParts) (p : Place) (rest : Text) → 1 ≤ rungs → rungs ≤ 16 → number + length cs ≤ 32000 → p.rest ≡ lines_text (chains_lines segments rungs number cs) ++ rest
    → AreChains segments rungs number cs → label_count cs ≤ p.left → p.left ≤ 1000000 → (q : Place) × (read_chains segments rungs number (length cs) p ≡ Ok (cs, q)) × (q.rest ≡ rest)
unfolding read_chains
chains_again segments rungs number [] p rest one few far e form fits most = (p, refl, e)
chains_again segments rungs number (c ∷ cs) p rest one few far e form fits most =
    let own = chain_lines (names_per segments rungs (number / rungs)) (number / rungs) (number % rungs) c in
    let later = lines_text (chains_lines segments rungs (number + 1) cs) ++ rest in
    let text : p.rest ≡ lines_text own ++ later =
    e ∙ ap (λ (w : Text). w ++ rest) (flat_map-append fields_line own (chains_lines segments rungs (number + 1) cs)) ∙ append_assoc (lines_text own) (lines_text (chains_lines segments rungs (number + 1) cs)) rest in
    let first = chain_again (names_per segments rungs (number / rungs)) (number / rungs) (number % rungs) c p later text form.0
    (small_quotient number rungs (omega (arith, far))) (small_rest number rungs one few) (omega (arith, fits)) most in
    let others = chains_again segments rungs (number + 1) cs (place (p.row + 1 + length c.labels) (p.left - length c.labels) later) rest one few (omega (arith, far)) refl form.1 (omega (arith, fits)) (omega (arith, most)) in
    (others.0, rw (first, others.1) refl, others.2)
  where
    small_quotient : (n d : ℕ) → n ≤ 32000 → n / d < 10 ^ place_digits
    small_quotient n d le = let q = div-le_self n d in omega (arith, q, le)

    small_rest : (n d : ℕ) → 1 ≤ d → d ≤ 16 → n % d < 10 ^ place_digits
    small_rest n d low high = let r = mod-lt n {m = d} low in omega (arith, r, high)
