-- A certificate that is read layer by layer: each layer is the next of the chains, and what is left decides the whole.
use Rattle.std.proofs.Common.{◌≡◌, ◌∙◌, ◌+◌, ◌-◌, ◌*◌, ◌/◌, ◌%◌, ◌<◌, ◌≤◌, ◌==◌, ◌++◌, ℕ, zero, suc, List, [], ◌∷◌, Bool, true, false, Option, Some, None, Result, Ok, Err, refl, sym, ap, ap₂, subst, cond, ℤ, arith}
use Rattle.std.specs.Prelude.{IfOk, map}
use Rattle.std.specs.Option.{is_some}
use Rattle.lab_model.proofs.Steps.{then_ok}
use Rattle.lab_model.specs.Steps.{◌>>=◌}
use Rattle.lab_model.specs.declared.fault.Refusal.{Refusal}
use Rattle.lab_model.specs.declared.fault.InputFault.{InputFault}
use Rattle.lab_model.specs.Reading.{Gives}
use Rattle.lab_io.specs.Sink.{Text}
use Rattle.labels.specs.Parts.{CertificateParts, ChainParts, chain_parts}
use Rattle.certificate_text.specs.declared.certificate.Layer.{Layer}
use Rattle.labels.specs.Form.{IsCertificate, names_per}
use Rattle.certificate_text.specs.Form.{GapParts}
use Rattle.certificate_text.specs.Reading.{Place, Walks, certificate_behind, certificate_of, gap_heading, gap_of, read_bound, read_chain, read_chains, read_end, read_head}
use Rattle.certificate_text.specs.Walk.{IsBegun, Walk, accepted, begun, begun_gap, certificate_by, chains_behind, chains_to_end, end_step, first_walk, gap_accepted, layer_of, layer_parts, layer_step, rest_of, silent}
use Rattle.certificate_text.proofs.HeadLaws.{behind_takes}
use Rattle.certificate_text.proofs.Loops.{ok_is, with_front}

-- ---- chains in two parts

front_none : (read : Walks (List ChainParts)) → with_front [] read ≡ read
front_none (Ok x) = refl
front_none (Err e) = refl

-- chains behind one that was read before
abbrev behind_one : ChainParts → Walks (List ChainParts) → Walks (List ChainParts)
behind_one c read = read >>= λ others. Ok (c ∷ others.0, others.1)

front_more : (c : ChainParts) (cs : List ChainParts) (read : Walks (List ChainParts)) → behind_one c (with_front cs read) ≡ with_front (c ∷ cs) read
front_more c cs (Ok x) = refl
front_more c cs (Err e) = refl

split_later : (c : ChainParts) (first : Walks (List ChainParts)) (second : Place → Walks (List ChainParts))
    → behind_one c (first >>= λ x. with_front x.0 (second x.1)) ≡ (behind_one c first >>= λ x. with_front x.0 (second x.1))
split_later c (Ok x) second = front_more c x.0 (second x.1)
split_later c (Err e) second = refl

split_one : (one : Walks ChainParts) (whole first : Place → Walks (List ChainParts)) (second : Place → Walks (List ChainParts))
    → ((p : Place) → whole p ≡ (first p >>= λ x. with_front x.0 (second x.1)))
    → (one >>= λ chain. behind_one chain.0 (whole chain.1)) ≡ ((one >>= λ chain. behind_one chain.0 (first chain.1)) >>= λ x. with_front x.0 (second x.1))
split_one (Ok chain) whole first second h = ap (behind_one chain.0) (h chain.1) ∙ split_later chain.0 (first chain.1) second
split_one (Err e) whole first second h = refl

-- the first chains, and then more of them
chains_split : (segments rungs number a b : ℕ) (p : Place)
    → read_chains segments rungs number (a + b) p ≡ (read_chains segments rungs number a p >>= λ x. with_front x.0 (read_chains segments rungs (number + a) b x.1))
unfolding read_chains
chains_split segments rungs number zero b p =
    let none : 0 + b ≡ b = omega arith in
    let here : number + 0 ≡ number = omega arith in
    rw (none, here) (sym (front_none (read_chains segments rungs number b p)))
chains_split segments rungs number (suc a) b p =
    let more : suc a + b ≡ suc (a + b) = omega arith in
    let there : number + suc a ≡ number + 1 + a = omega arith in
    rw (more, there) (split_one (read_chain (names_per segments rungs (number / rungs)) (number / rungs) (number % rungs) p)
    (read_chains segments rungs (number + 1) (a + b)) (read_chains segments rungs (number + 1) a) (read_chains segments rungs (number + 1 + a) b)
    (λ q. chains_split segments rungs (number + 1) a b q))

-- ---- what is left of a walk

-- the certificate of a head and what is read behind it
abbrev pub whole_of : CertificateParts → Result (List ChainParts) Refusal → Result CertificateParts Refusal
whole_of head read = read >>= λ cs. Ok (record head { chains = cs })

begun_at : (bound : ℤ) (head : CertificateParts) (first : Place)
    → (read_chains head.segments head.rungs 0 (head.segments * head.rungs) first >>= λ x. read_end x.1 >>= λ done. Ok (record head { chains = x.0 }))
    ≡ whole_of head (rest_of (first_walk bound (head, first)))
unfolding rest_of
begun_at bound head first =
    let zero_th : 0 * head.rungs ≡ 0 = omega arith in
    let all : head.segments - 0 ≡ head.segments = omega arith in
    rw (zero_th, all) (both (read_chains head.segments head.rungs 0 (head.segments * head.rungs) first))
  where
    last : (cs : List ChainParts) (end : Result (Unit {0}) Refusal) → (end >>= λ done. Ok (record head { chains = cs })) ≡ whole_of head (end >>= λ done. Ok cs)
    last cs (Ok done) = refl
    last cs (Err e) = refl

    both : (later : Walks (List ChainParts)) → (later >>= λ x. read_end x.1 >>= λ done. Ok (record head { chains = x.0 })) ≡ whole_of head (later >>= λ x. read_end x.1 >>= λ done. Ok x.0)
    both (Ok x) = last x.0 (read_end x.1)
    both (Err e) = refl

-- what a walk that has just begun behind a heading leaves are all chains
pub behind_rest : (heading : ℕ) (bytes : Text) (bound : ℤ) (x : CertificateParts × Place) → read_head heading bytes ≡ Ok x → certificate_behind heading bytes ≡ certificate_by (first_walk bound x)
unfolding certificate_behind
behind_rest heading bytes bound x h = rw h (begun_at bound x.0 x.1)

-- the same of a certificate
pub begun_rest : (bytes : Text) (w : Walk) → begun bytes ≡ Ok w → certificate_of bytes ≡ certificate_by w
unfolding begun
begun_rest bytes w h =
    let x = then_ok (read_head 0 bytes) (λ x. Ok (first_walk x.0.score x)) w h in
    behind_rest 0 bytes x.0.0.score x.0 x.1 ∙ ap certificate_by (ok_is (first_walk x.0.0.score x.0) w x.2)

-- and whether they are a spelling is whether it comes to its end
pub begun_accepted : (bytes : Text) (w : Walk) → begun bytes ≡ Ok w → accepted bytes ≡ silent (rest_of w)
begun_accepted bytes w h = ap silent (begun_rest bytes w h) ∙ quiet (rest_of w)
  where
    quiet : (read : Result (List ChainParts) Refusal) → silent (whole_of w.head read) ≡ silent read
    quiet (Ok cs) = refl
    quiet (Err e) = refl

-- what any walk leaves that has just begun are all chains
pub walk_rest : (w : Walk) (b : IsBegun w) → certificate_behind b.heading b.bytes ≡ certificate_by w
walk_rest w b =
    let first : first_walk w.bound (w.head, b.at) ≡ w = ap₂ (λ n at. record w { segment = n; at = at }) (sym b.segment) (sym b.standing) in
    behind_rest b.heading b.bytes w.bound (w.head, b.at) b.head ∙ ap certificate_by first

-- a certificate that a walk comes to has the form of one
pub walk_form : (w : Walk) (c : CertificateParts) → IsBegun w → certificate_by w ≡ Ok c → IsCertificate c
walk_form w c b h = (behind_takes b.heading b.bytes c (walk_rest w b ∙ h)).0

-- a walk that has just begun stands behind its head
pub begins : (bytes : Text) (w : Walk) → begun bytes ≡ Ok w → IsBegun w
unfolding begun
begins bytes w h =
    let x = then_ok (read_head 0 bytes) (λ x. Ok (first_walk x.0.score x)) w h in
    subst IsBegun (ok_is (first_walk x.0.0.score x.0) w x.2) (record { heading = 0; bytes = bytes; at = x.0.1; head = x.1; segment = refl; standing = refl })

-- ---- gap certificates

-- what was read before the first layer of a gap certificate
record BeginsGapAt (bytes : Text) (w : Walk) : Type 0 where
  bound : ℤ × Text
  head : CertificateParts × Place
  spelled : read_bound bytes ≡ Ok bound
  read : read_head gap_heading bound.1 ≡ Ok head
  is : first_walk bound.0 head ≡ w

gap_at : (bytes : Text) (w : Walk) → begun_gap bytes ≡ Ok w → BeginsGapAt bytes w
unfolding begun_gap
gap_at bytes w h =
    let b = then_ok (read_bound bytes) (λ bound. read_head gap_heading bound.1 >>= λ head. Ok (first_walk bound.0 head)) w h in
    let x = then_ok (read_head gap_heading b.0.1) (λ head. Ok (first_walk b.0.0 head)) w b.2 in
    record { bound = b.0; head = x.0; spelled = b.1; read = x.1; is = ok_is (first_walk b.0.0 x.0) w x.2 }

-- a walk over a gap certificate that has just begun stands behind its head
pub gap_begins : (bytes : Text) (w : Walk) → begun_gap bytes ≡ Ok w → IsBegun w
gap_begins bytes w h =
    let x = gap_at bytes w h in
    subst IsBegun x.is (record { heading = gap_heading; bytes = x.bound.1; at = x.head.1; head = x.read; segment = refl; standing = refl })

-- a bound with the certificate behind it
abbrev pub with_bound : ℤ → Result CertificateParts Refusal → Result GapParts Refusal
with_bound bound read = read >>= λ inner. Ok (record { bound = bound; inner = inner })

-- what such a walk leaves are all chains
pub gap_rest : (bytes : Text) (w : Walk) → begun_gap bytes ≡ Ok w → gap_of bytes ≡ with_bound w.bound (certificate_by w)
unfolding gap_of
gap_rest bytes w h =
    let x = gap_at bytes w h in
    rw x.spelled (ap (with_bound x.bound.0) (behind_rest gap_heading x.bound.1 x.bound.0 x.head x.read) ∙ ap (λ (v : Walk). with_bound v.bound (certificate_by v)) x.is)

-- an answer that holds a gap certificate
abbrev a_gap : GapParts → Result GapParts Refusal
a_gap c = Ok c

gap_is : (c d : GapParts) → a_gap c ≡ a_gap d → c ≡ d
gap_is c d h = cc

-- what such a walk comes to
pub gap_inner : (bytes : Text) (w : Walk) (c : GapParts) → begun_gap bytes ≡ Ok w → gap_of bytes ≡ Ok c → (certificate_by w ≡ Ok c.inner) × (w.bound ≡ c.bound)
gap_inner bytes w c h spelled =
    let inner = then_ok (certificate_by w) (λ inner. Ok (record { bound = w.bound; inner = inner })) c (sym (gap_rest bytes w h) ∙ spelled) in
    let same = gap_is (record { bound = w.bound; inner = inner.0 }) c inner.2 in
    (inner.1 ∙ ap (λ (x : GapParts). Ok x.inner) same, ap (λ (x : GapParts). x.bound) same)

-- and whether they are a spelling is whether it comes to its end
pub gap_ends : (bytes : Text) (w : Walk) → begun_gap bytes ≡ Ok w → gap_accepted bytes ≡ silent (rest_of w)
gap_ends bytes w h = ap silent (gap_rest bytes w h) ∙ quiet (rest_of w)
  where
    quiet : (read : Result (List ChainParts) Refusal) → silent (with_bound w.bound (whole_of w.head read)) ≡ silent read
    quiet (Ok cs) = refl
    quiet (Err e) = refl

-- ---- one layer

-- a layer was read
pub record Reads (w : Walk) (parts : List ChainParts) (v : Walk) : Type 0 where
  pub at : Place
  pub standing : w.at ≡ Ok at
  pub other : w.segment ≡ w.head.segments → ⊥
  pub next : Place
  pub read : read_chains w.head.segments w.head.rungs (w.segment * w.head.rungs) w.head.rungs at ≡ Ok (parts, next)
  pub after : v ≡ record w { segment = w.segment + 1; at = Ok next }

-- a layer or the end, by whether all layers were read
abbrev stepped : Walk → Place → Bool → Result (Option (List ChainParts) × Walk) Refusal
stepped w p last = cond last (end_step w p) (layer_step w p)

none_some : {X : Type 0} (x : X) → None ≡ Some x → ⊥
none_some x h = absurd cc

same_count : (a b : ℕ) → (a == b) ≡ true → a ≡ b
same_count a b h = grind arith

other_count : (a b : ℕ) → (a == b) ≡ false → a ≡ b → ⊥
other_count a b h e = grind arith

-- a layer that comes was read
pub layer_reads : (w v : Walk) (parts : List ChainParts) → layer_of w ≡ Ok (Some parts, v) → Reads w parts v
unfolding layer_of
layer_reads w v parts h =
    let p = then_ok w.at (λ p. stepped w p (w.segment == w.head.segments)) (Some parts, v) h in
    go p.0 p.1 (w.segment == w.head.segments) refl p.2
  where
    go : (p : Place) → w.at ≡ Ok p → (last : Bool) → (w.segment == w.head.segments) ≡ last → stepped w p last ≡ Ok (Some parts, v) → Reads w parts v
    go p standing true e h =
        let end = then_ok (read_end p) (λ done. Ok (None, w)) (Some parts, v) h in
        absurd (none_some parts (ap (λ (x : Option (List ChainParts) × Walk). x.0) (ok_is (None, w) (Some parts, v) end.2)))
    go p standing false e h =
        let cs = then_ok (read_chains w.head.segments w.head.rungs (w.segment * w.head.rungs) w.head.rungs p) (λ chains. Ok (Some chains.0, record w { segment = w.segment + 1; at = Ok chains.1 })) (Some parts, v) h in
        let both = ok_is (Some cs.0.0, record w { segment = w.segment + 1; at = Ok cs.0.1 }) (Some parts, v) cs.2 in
        let own : cs.0.0 ≡ parts = some_is cs.0.0 parts (ap (λ (x : Option (List ChainParts) × Walk). x.0) both) in
        record {
          at = p;
          standing = standing;
          other = other_count w.segment w.head.segments e;
          next = cs.0.1;
          read = cs.1 ∙ ap (λ (xs : List ChainParts). Ok (xs, cs.0.1)) own;
          after = sym (ap (λ (x : Option (List ChainParts) × Walk). x.1) both);
        }
      where
        some_is : (x y : List ChainParts) → Some x ≡ Some y → x ≡ y
        some_is x y e = cc

-- ---- a layer and what is left behind it

front_to_end : (front : List ChainParts) (read : Walks (List ChainParts)) → (with_front front read >>= λ x. read_end x.1 >>= λ done. Ok x.0) ≡ chains_behind front (read >>= λ x. read_end x.1 >>= λ done. Ok x.0)
front_to_end front (Ok x) = last (read_end x.1)
  where
    last : (end : Result (Unit {0}) Refusal) → (end >>= λ done. Ok (front ++ x.0)) ≡ chains_behind front (end >>= λ done. Ok x.0)
    last (Ok done) = refl
    last (Err e) = refl
front_to_end front (Err e) = refl

-- what is left where a layer was read
to_end_split : (segments rungs number a b : ℕ) (p next : Place) (parts : List ChainParts) → read_chains segments rungs number a p ≡ Ok (parts, next)
    → chains_to_end segments rungs number (a + b) p ≡ chains_behind parts (chains_to_end segments rungs (number + a) b next)
to_end_split segments rungs number a b p next parts h =
    let end : Walks (List ChainParts) → Result (List ChainParts) Refusal = λ read. read >>= λ x. read_end x.1 >>= λ done. Ok x.0 in
    ap end (chains_split segments rungs number a b p ∙ ap (λ first. first >>= λ x. with_front x.0 (read_chains segments rungs (number + a) b x.1)) h) ∙ front_to_end parts (read_chains segments rungs (number + a) b next)

-- and where one was refused
to_end_stopped : (segments rungs number a b : ℕ) (p : Place) (e : Refusal) → read_chains segments rungs number a p ≡ Err e → chains_to_end segments rungs number (a + b) p ≡ Err e
to_end_stopped segments rungs number a b p e h =
    let end : Walks (List ChainParts) → Result (List ChainParts) Refusal = λ read. read >>= λ x. read_end x.1 >>= λ done. Ok x.0 in
    ap end (chains_split segments rungs number a b p ∙ ap (λ first. first >>= λ x. with_front x.0 (read_chains segments rungs (number + a) b x.1)) h)

-- the chains of the layer that comes and of those behind it
left_count : (segments segment rungs : ℕ) → segment ≤ segments → (segment ≡ segments → ⊥) → (segments - segment) * rungs ≡ rungs + (segments - (segment + 1)) * rungs
left_count segments segment rungs low other =
    let one : segments - segment ≡ suc (segments - (segment + 1)) = omega (arith, low, other) in
    ap (λ n. n * rungs) one ∙ more (segments - (segment + 1))
  where
    more : (n : ℕ) → suc n * rungs ≡ rungs + n * rungs
    more n = omega arith

none_left : (segments segment rungs : ℕ) → segment ≡ segments → (segments - segment) * rungs ≡ 0
none_left segments segment rungs e = let none : segments - segment ≡ 0 = omega (arith, e) in ap (λ n. n * rungs) none ∙ omega arith

rest_at : (w : Walk) (p : Place) → w.at ≡ Ok p → rest_of w ≡ chains_to_end w.head.segments w.head.rungs (w.segment * w.head.rungs) ((w.head.segments - w.segment) * w.head.rungs) p
unfolding rest_of
rest_at w p h = rw h refl

-- a layer that comes is the first of what is left
pub rest_more : (w v : Walk) (parts : List ChainParts) → w.segment ≤ w.head.segments → layer_of w ≡ Ok (Some parts, v) → rest_of w ≡ chains_behind parts (rest_of v)
unfolding rest_of
rest_more w v parts low h =
    let r = layer_reads w v parts h in
    let next : w.segment * w.head.rungs + w.head.rungs ≡ (w.segment + 1) * w.head.rungs = omega arith in
    rest_at w r.at r.standing
    ∙ ap (λ n. chains_to_end w.head.segments w.head.rungs (w.segment * w.head.rungs) n r.at) (left_count w.head.segments w.segment w.head.rungs low r.other)
    ∙ to_end_split w.head.segments w.head.rungs (w.segment * w.head.rungs) w.head.rungs ((w.head.segments - (w.segment + 1)) * w.head.rungs) r.at r.next parts r.read
    ∙ ap (λ n. chains_behind parts (chains_to_end w.head.segments w.head.rungs n ((w.head.segments - (w.segment + 1)) * w.head.rungs) r.next)) next
    ∙ ap (λ (x : Walk). chains_behind parts (rest_of x)) (sym r.after)

rest_last : (w : Walk) (p : Place) → w.at ≡ Ok p → w.segment ≡ w.head.segments → rest_of w ≡ (read_end p >>= λ done. Ok [])
unfolding read_chains
rest_last w p standing e =
    rest_at w p standing ∙ ap (λ n. chains_to_end w.head.segments w.head.rungs (w.segment * w.head.rungs) n p) (none_left w.head.segments w.segment w.head.rungs e)

-- no layer comes at the end alone
pub layer_ends : (w v : Walk) → layer_of w ≡ Ok (None, v) → (w.segment ≡ w.head.segments) × (rest_of w ≡ Ok []) × (v ≡ w)
unfolding layer_of
layer_ends w v h =
    let p = then_ok w.at (λ p. stepped w p (w.segment == w.head.segments)) (None, v) h in
    go p.0 p.1 (w.segment == w.head.segments) refl p.2
  where
    go : (p : Place) → w.at ≡ Ok p → (last : Bool) → (w.segment == w.head.segments) ≡ last → stepped w p last ≡ Ok (None, v) → (w.segment ≡ w.head.segments) × (rest_of w ≡ Ok []) × (v ≡ w)
    go p standing true e h =
        let end = then_ok (read_end p) (λ done. Ok (None, w)) (None, v) h in
        let same = same_count w.segment w.head.segments e in (
          same,
          rest_last w p standing same ∙ ap (λ (read : Result (Unit {0}) Refusal). read >>= λ done. Ok []) end.1,
          sym (ap (λ (x : Option (List ChainParts) × Walk). x.1) (ok_is (None, w) (None, v) end.2)),
        )
    go p standing false e h =
        let cs = then_ok (read_chains w.head.segments w.head.rungs (w.segment * w.head.rungs) w.head.rungs p) (λ chains. Ok (Some chains.0, record w { segment = w.segment + 1; at = Ok chains.1 })) (None, v) h in
        absurd (none_some cs.0.0 (sym (ap (λ (x : Option (List ChainParts) × Walk). x.0) (ok_is (Some cs.0.0, record w { segment = w.segment + 1; at = Ok cs.0.1 }) (None, v) cs.2))))

-- an answer that is refused
abbrev refused : Refusal → Result (Option (List ChainParts) × Walk) Refusal
refused e = Err e

-- what refuses a layer refuses what is left
pub rest_stopped : (w : Walk) (e : Refusal) → w.segment ≤ w.head.segments → layer_of w ≡ Err e → rest_of w ≡ Err e
unfolding layer_of rest_of
rest_stopped w e low h = go w.at refl h
  where
    bind_err : {X Y : Type 0} (r : Result X Refusal) (y : Y) (f : X → Y) (e : Refusal) → (r >>= λ x. Ok (f x)) ≡ Err e → r ≡ Err e
    bind_err (Ok x) y f e h = absurd cc
    bind_err (Err d) y f e h = cc

    step : (p : Place) → w.at ≡ Ok p → (last : Bool) → (w.segment == w.head.segments) ≡ last → stepped w p last ≡ Err e → rest_of w ≡ Err e
    step p standing true is h =
        rest_last w p standing (same_count w.segment w.head.segments is) ∙ ap (λ (read : Result (Unit {0}) Refusal). read >>= λ done. Ok []) (bind_err (read_end p) (None, w) (λ done. (None, w)) e h)
    step p standing false is h =
        rest_at w p standing
        ∙ ap (λ n. chains_to_end w.head.segments w.head.rungs (w.segment * w.head.rungs) n p) (left_count w.head.segments w.segment w.head.rungs low (other_count w.segment w.head.segments is))
        ∙ to_end_stopped w.head.segments w.head.rungs (w.segment * w.head.rungs) w.head.rungs ((w.head.segments - (w.segment + 1)) * w.head.rungs) p e
        (bind_err (read_chains w.head.segments w.head.rungs (w.segment * w.head.rungs) w.head.rungs p) (None, w) (λ chains. (Some chains.0, record w { segment = w.segment + 1; at = Ok chains.1 })) e h)

    go : (at : Result Place Refusal) → w.at ≡ at → (at >>= λ p. stepped w p (w.segment == w.head.segments)) ≡ Err e → rest_of w ≡ Err e
    go (Ok p) standing h = step p standing (w.segment == w.head.segments) refl h
    go (Err d) standing h = rw standing (ap (λ (x : Refusal). Err x) (err_is d e h))
      where
        err_is : (d e : Refusal) → refused d ≡ refused e → d ≡ e
        err_is d e h = cc

-- ---- what the calls say

-- a walk that has just begun
pub begun_is : (bytes : Text) (answer : Result Walk InputFault) → Gives (λ w. w) answer (begun bytes) → IfOk answer IsBegun
begun_is bytes (Ok w) h = begins bytes w h
begun_is bytes (Err fault) h = tt

-- the same of a gap certificate
pub gap_begun_is : (bytes : Text) (answer : Result Walk InputFault) → Gives (λ w. w) answer (begun_gap bytes) → IfOk answer IsBegun
gap_begun_is bytes (Ok w) h = gap_begins bytes w h
gap_begun_is bytes (Err fault) h = tt

-- what a layer that came leaves
pub record GoesOn (w v : Walk) : Type 0 where
  pub inside : v.segment ≤ v.head.segments
  pub fewer : v.head.segments - v.segment < w.head.segments - w.segment
  pub rest : silent (rest_of v) ≡ silent (rest_of w)

goes_on : (w v : Walk) (parts : List ChainParts) → w.segment ≤ w.head.segments → layer_of w ≡ Ok (Some parts, v) → GoesOn w v
goes_on w v parts low h =
    let r = layer_reads w v parts h in
    let rest = rest_more w v parts low h in
    let other = r.other in
    let segment : v.segment ≡ w.segment + 1 = ap (λ (x : Walk). x.segment) r.after in
    let head : v.head.segments ≡ w.head.segments = ap (λ (x : Walk). x.head.segments) r.after in
    record { inside = omega (arith, low, other, segment, head); fewer = omega (arith, low, other, segment, head); rest = sym (ap silent rest ∙ quiet (rest_of v)) }
  where
    quiet : (read : Result (List ChainParts) Refusal) → silent (chains_behind parts read) ≡ silent read
    quiet (Ok cs) = refl
    quiet (Err e) = refl

-- where a layer came, the walk goes on
pub walk_on : (w v : Walk) (layer : Option Layer) → w.segment ≤ w.head.segments → true ≡ is_some layer → layer_of w ≡ Ok (layer_parts layer, v) → GoesOn w v
walk_on w v (Some layer) low is h = goes_on w v (map chain_parts layer.chains.items) low h
walk_on w v None low is h = absurd cc

-- where no layer came, nothing is refused
pub walk_over : (w v : Walk) (layer : Option Layer) → false ≡ is_some layer → layer_of w ≡ Ok (layer_parts layer, v) → silent (rest_of w) ≡ Ok tt
walk_over w v (Some layer) is h = absurd cc
walk_over w v None is h = ap silent (layer_ends w v h).1
