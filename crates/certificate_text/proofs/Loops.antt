-- What the loops of the reader have read, one step at a time.
use Rattle.std.proofs.Common.{◌≡◌, ◌+◌, ◌-◌, ◌/◌, ◌%◌, ◌<◌, ◌≤◌, ℕ, suc, List, [], ◌∷◌, ◌++◌, Result, Ok, Err, refl, sym, ap, append_assoc, append-nil, arith}
use Rattle.lab_model.specs.Steps.{◌>>=◌}
use Rattle.lab_model.specs.declared.fault.Refusal.{Refusal}
use Rattle.lab_io.specs.Sink.{Text}
use Rattle.labels.specs.Parts.{ChainParts}
use Rattle.labels.specs.Form.{names_per}
use Rattle.certificate_text.specs.Fields.{Read, numbers_behind, read_number, read_numbers, stop_before}
use Rattle.certificate_text.specs.Reading.{Place, Walks, behind, joined, read_chain, read_chains, read_label, read_labels}

-- an answer that holds a value
abbrev pub given : {X : Type 0} → X → Result X Refusal
given x = Ok x

-- what an answer holds
pub ok_is : {X : Type 0} (x y : X) → given x ≡ given y → x ≡ y
ok_is x y e = cc

-- ---- numbers

numbers_regrouped : (before : List ℕ) (n : ℕ) (read : Read (List ℕ)) → numbers_behind before (read >>= λ ns. Ok (n ∷ ns.0, ns.1)) ≡ numbers_behind (before ++ n ∷ []) read
numbers_regrouped before n (Ok x) = ap (λ (ns : List ℕ). Ok (ns, x.1)) (sym (append_assoc before (n ∷ []) x.0))
numbers_regrouped before n (Err e) = refl

-- one more number
pub numbers_more : (before : List ℕ) (row digits count i n : ℕ) (rest behind : Text) → i < count → read_number row digits (stop_before (count - i - 1)) rest ≡ Ok (n, behind)
    → numbers_behind (before ++ n ∷ []) (read_numbers row digits (count - (i + 1)) behind) ≡ numbers_behind before (read_numbers row digits (count - i) rest)
unfolding read_numbers
numbers_more before row digits count i n rest behind lt h =
    let k : count - i ≡ suc (count - (i + 1)) = omega arith in
    let j : count - i - 1 ≡ count - (i + 1) = omega arith in
    let hh : read_number row digits (stop_before (count - (i + 1))) rest ≡ Ok (n, behind) = rw j at h in
    rw (k, hh) (sym (numbers_regrouped before n (read_numbers row digits (count - (i + 1)) behind)))

-- one that is refused
pub numbers_stopped : (before : List ℕ) (row digits count i : ℕ) (rest : Text) (y : Refusal) → i < count → read_number row digits (stop_before (count - i - 1)) rest ≡ Err y
    → numbers_behind before (read_numbers row digits (count - i) rest) ≡ Err y
unfolding read_numbers
numbers_stopped before row digits count i rest y lt h =
    let k : count - i ≡ suc (count - (i + 1)) = omega arith in
    let j : count - i - 1 ≡ count - (i + 1) = omega arith in
    let hh : read_number row digits (stop_before (count - (i + 1))) rest ≡ Err y = rw j at h in
    rw (k, hh) refl

-- all of them
pub numbers_ended : (before : List ℕ) (row digits count i : ℕ) (rest : Text) → count ≤ i → numbers_behind before (read_numbers row digits (count - i) rest) ≡ Ok (before, rest)
unfolding read_numbers
numbers_ended before row digits count i rest le =
    let k : count - i ≡ 0 = omega arith in
    rw k (ap (λ (ns : List ℕ). Ok (ns, rest)) (append-nil before))

-- ---- labels

joined_again : (c d e : ChainParts) → joined (joined c d) e ≡ joined c (joined d e)
joined_again c d e = rw (append_assoc c.labels d.labels e.labels, append_assoc c.names d.names e.names) refl

labels_regrouped : (c d : ChainParts) (read : Read ChainParts) → behind c (read >>= λ others. Ok (joined d others.0, others.1)) ≡ behind (joined c d) read
labels_regrouped c d (Ok x) = ap (λ (y : ChainParts). Ok (y, x.1)) (sym (joined_again c d x.0))
labels_regrouped c d (Err e) = refl

labels_next : (c d : ChainParts) (one : Read ChainParts) (behind_one : Text) (others : Text → Read ChainParts) → behind c one ≡ Ok (d, behind_one)
    → behind d (others behind_one) ≡ behind c (one >>= λ x. others x.1 >>= λ more. Ok (joined x.0 more.0, more.1))
labels_next c d (Ok x) behind_one others h =
    let both = ok_is (joined c x.0, x.1) (d, behind_one) h in
    let e : joined c x.0 ≡ d = ap (λ (p : ChainParts × Text). p.0) both in
    let f : x.1 ≡ behind_one = ap (λ (p : ChainParts × Text). p.1) both in
    rw (← e, ← f) (sym (labels_regrouped c x.0 (others x.1)))
labels_next c d (Err y) behind_one others h = absurd cc

labels_refused : (c : ChainParts) (one : Read ChainParts) (y : Refusal) (others : Text → Read ChainParts) → behind c one ≡ Err y
    → behind c (one >>= λ x. others x.1 >>= λ more. Ok (joined x.0 more.0, more.1)) ≡ Err y
labels_refused c (Ok x) y others h = absurd cc
labels_refused c (Err z) y others h = cc

-- one more label
pub labels_more : (c d : ChainParts) (row per count i : ℕ) (rest after : Text) → i < count → behind c (read_label (row + i) per rest) ≡ Ok (d, after)
    → behind d (read_labels (row + (i + 1)) per (count - (i + 1)) after) ≡ behind c (read_labels (row + i) per (count - i) rest)
unfolding read_labels
labels_more c d row per count i rest after lt h =
    let k : count - i ≡ suc (count - (i + 1)) = omega arith in
    let j : row + (i + 1) ≡ row + i + 1 = omega arith in
    rw (k, j) (labels_next c d (read_label (row + i) per rest) after (λ bytes. read_labels (row + i + 1) per (count - (i + 1)) bytes) h)

-- one that is refused
pub labels_stopped : (c : ChainParts) (row per count i : ℕ) (rest : Text) (y : Refusal) → i < count → behind c (read_label (row + i) per rest) ≡ Err y
    → behind c (read_labels (row + i) per (count - i) rest) ≡ Err y
unfolding read_labels
labels_stopped c row per count i rest y lt h =
    let k : count - i ≡ suc (count - (i + 1)) = omega arith in
    rw k (labels_refused c (read_label (row + i) per rest) y (λ bytes. read_labels (row + i + 1) per (count - (i + 1)) bytes) h)

-- all of them
pub labels_ended : (c : ChainParts) (row per count i : ℕ) (rest : Text) → count ≤ i → behind c (read_labels (row + i) per (count - i) rest) ≡ Ok (c, rest)
unfolding read_labels
labels_ended c row per count i rest le =
    let k : count - i ≡ 0 = omega arith in
    rw (k, append-nil c.labels, append-nil c.names) refl

-- ---- chains

-- chains that were read before, and then those that are read
abbrev pub with_front : List ChainParts → Walks (List ChainParts) → Walks (List ChainParts)
with_front front read = read >>= λ x. Ok (front ++ x.0, x.1)

chains_regrouped : (front : List ChainParts) (c : ChainParts) (read : Walks (List ChainParts)) → with_front front (read >>= λ others. Ok (c ∷ others.0, others.1)) ≡ with_front (front ++ c ∷ []) read
chains_regrouped front c (Ok x) = ap (λ (cs : List ChainParts). Ok (cs, x.1)) (sym (append_assoc front (c ∷ []) x.0))
chains_regrouped front c (Err e) = refl

-- one more chain
pub chains_more : (front : List ChainParts) (segments rungs number count i : ℕ) (at after : Place) (c : ChainParts) → i < count
    → read_chain (names_per segments rungs ((number + i) / rungs)) ((number + i) / rungs) ((number + i) % rungs) at ≡ Ok (c, after)
    → with_front (front ++ c ∷ []) (read_chains segments rungs (number + (i + 1)) (count - (i + 1)) after) ≡ with_front front (read_chains segments rungs (number + i) (count - i) at)
unfolding read_chains
chains_more front segments rungs number count i at after c lt h =
    let k : count - i ≡ suc (count - (i + 1)) = omega arith in
    let j : number + (i + 1) ≡ number + i + 1 = omega arith in
    rw (k, j, h) (sym (chains_regrouped front c (read_chains segments rungs (number + i + 1) (count - (i + 1)) after)))

-- one that is refused
pub chains_stopped : (front : List ChainParts) (segments rungs number count i : ℕ) (at : Place) (y : Refusal) → i < count
    → read_chain (names_per segments rungs ((number + i) / rungs)) ((number + i) / rungs) ((number + i) % rungs) at ≡ Err y
    → with_front front (read_chains segments rungs (number + i) (count - i) at) ≡ Err y
unfolding read_chains
chains_stopped front segments rungs number count i at y lt h =
    let k : count - i ≡ suc (count - (i + 1)) = omega arith in
    rw (k, h) refl

-- all of them
pub chains_ended : (front : List ChainParts) (segments rungs number count i : ℕ) (at : Place) → count ≤ i → with_front front (read_chains segments rungs (number + i) (count - i) at) ≡ Ok (front, at)
unfolding read_chains
chains_ended front segments rungs number count i at le =
    let k : count - i ≡ 0 = omega arith in
    rw k (ap (λ (cs : List ChainParts). Ok (cs, at)) (append-nil front))
