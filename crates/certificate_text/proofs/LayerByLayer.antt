-- What the calls of a reader of layers say of the certificate that the bytes spell, or of their first bad line.
use Rattle.std.proofs.Common.{◌≡◌, ◌∙◌, ◌+◌, ◌*◌, ◌<◌, ◌≤◌, ◌++◌, ℕ, List, [], Option, Some, None, Result, Ok, Err, length, take, drop, refl, sym, ap, subst, ℤ, arith}
use Rattle.std.specs.Prelude.{map}
use Rattle.std.proofs.Math.Seq.{drop-append_seam, take-append_seam}
use Rattle.std.proofs.lemmas.List.{drop-drop}
use Rattle.lab_model.proofs.Steps.{then_ok}
use Rattle.lab_model.specs.Steps.{◌>>=◌}
use Rattle.lab_model.specs.declared.fault.Refusal.{Refusal}
use Rattle.lab_model.specs.declared.fault.InputFault.{InputFault}
use Rattle.lab_model.specs.declared.fault.InputFault.TheVariants.{Memory, Refused}
use Rattle.lab_model.specs.Reading.{Gives}
use Rattle.lab_io.specs.Sink.{Text}
use Rattle.labels.specs.Parts.{CertificateParts, ChainParts, chain_parts}
use Rattle.certificate_text.specs.declared.certificate.Layer.{Layer}
use Rattle.certificate_text.specs.Fields.{Read}
use Rattle.certificate_text.specs.Form.{GapParts}
use Rattle.certificate_text.specs.Reading.{Walks, certificate_behind, certificate_of, gap_heading, gap_of, read_bound, read_chains, read_end, read_head}
use Rattle.certificate_text.specs.Walk.{BeginsBadly, BeginsGap, BeginsLayers, GivesLayer, IsBegun, MeetsBadLine, Steps, Walk, WillGive, WillRefuse, begun, begun_gap, certificate_by, chains_behind, first_walk, layer_in, layer_of, rest_of, without_chains}
use Rattle.certificate_text.proofs.CertificateLaws.{chains_take}
use Rattle.certificate_text.proofs.HeadLaws.{head_takes}
use Rattle.certificate_text.proofs.Loops.{ok_is}
use Rattle.certificate_text.proofs.WalkLaws.{begins, begun_rest, gap_begins, gap_inner, gap_rest, layer_ends, layer_reads, rest_more, rest_stopped, with_bound, whole_of}

-- a value is no refusal
ok_err : {X : Type 0} (r : Result X Refusal) (x : X) (e : Refusal) → r ≡ Ok x → r ≡ Err e → ⊥
ok_err r x e a b = cc

-- an answer that is refused
abbrev refused : Refusal → Result (List ChainParts) Refusal
refused e = Err e

err_is : (d e : Refusal) → refused d ≡ refused e → d ≡ e
err_is d e h = cc

-- an answer that holds chains
abbrev held : List ChainParts → Result (List ChainParts) Refusal
held cs = Ok cs

-- ---- the beginning

begun_gives : (w : Walk) (c : CertificateParts) → IsBegun w → certificate_by w ≡ Ok c → WillGive c w × (w.segment ≡ 0)
begun_gives w c b spelled =
    let none = (head_takes b.heading b.bytes (w.head, b.at) b.head).none in
    let cs = then_ok (rest_of w) (λ chains. Ok (record w.head { chains = chains })) c spelled in
    let same : record w.head { chains = cs.0 } ≡ c = ok_is (record w.head { chains = cs.0 }) c cs.2 in
    let head : w.head ≡ without_chains c = ap (λ (chains : List ChainParts). record w.head { chains = chains }) none ∙ ap without_chains same in
    let own : cs.0 ≡ drop (w.segment * c.rungs) c.chains =
    ap (λ (x : CertificateParts). x.chains) same ∙ sym (ap (λ n. drop (n * c.rungs) c.chains) b.segment ∙ ap (λ n. drop n c.chains) (none_times c.rungs)) in
    (record { head = head; rest = cs.1 ∙ ap held own }, b.segment)
  where
    none_times : (n : ℕ) → 0 * n ≡ 0
    none_times n = omega arith

begun_refuses : (w : Walk) (e : Refusal) → certificate_by w ≡ Err e → WillRefuse e w
begun_refuses w e bad = go (rest_of w) bad
  where
    go : (read : Result (List ChainParts) Refusal) → whole_of w.head read ≡ Err e → read ≡ Err e
    go (Ok cs) h = absurd cc
    go (Err d) h = cc

-- a head that is refused refuses the whole
behind_bad : (heading : ℕ) (bytes : Text) (bound : CertificateParts → ℤ) (d : Refusal) → (read_head heading bytes >>= λ x. Ok (first_walk (bound x.0) x)) ≡ Err d → certificate_behind heading bytes ≡ Err d
unfolding certificate_behind
behind_bad heading bytes bound d h = go (read_head heading bytes) h
  where
    go : (head : Walks CertificateParts) → (head >>= λ x. Ok (first_walk (bound x.0) x)) ≡ Err d
        → (head >>= λ x. read_chains x.0.segments x.0.rungs 0 (x.0.segments * x.0.rungs) x.1 >>= λ chains. read_end chains.1 >>= λ done. Ok (record x.0 { chains = chains.0 })) ≡ Err d
    go (Ok x) h = absurd cc
    go (Err e) h = cc

-- a certificate whose beginning is refused is refused
pub bad_head : (bytes : Text) (d : Refusal) → begun bytes ≡ Err d → certificate_of bytes ≡ Err d
unfolding begun
bad_head bytes d h = behind_bad 0 bytes (λ c. c.score) d h

-- the same of a gap certificate
pub bad_gap : (bytes : Text) (d : Refusal) → begun_gap bytes ≡ Err d → gap_of bytes ≡ Err d
unfolding begun_gap gap_of
bad_gap bytes d h = go (read_bound bytes) h
  where
    go : (bound : Read ℤ) → (bound >>= λ b. read_head gap_heading b.1 >>= λ head. Ok (first_walk b.0 head)) ≡ Err d → (bound >>= λ b. with_bound b.0 (certificate_behind gap_heading b.1)) ≡ Err d
    go (Ok b) h = ap (with_bound b.0) (behind_bad gap_heading b.1 (λ c. b.0) d h)
    go (Err e) h = cc

-- an answer that is refused
abbrev no_certificate : Refusal → Result CertificateParts Refusal
no_certificate e = Err e

bad_is : (d e : Refusal) → no_certificate d ≡ no_certificate e → d ≡ e
bad_is d e h = cc

-- where the bytes spell a certificate
pub begins_layers : (bytes : Text) (answer : Result Walk InputFault) (c : CertificateParts) → Gives (λ w. w) answer (begun bytes) → certificate_of bytes ≡ Ok c → BeginsLayers c answer
begins_layers bytes (Ok w) c h spelled = begun_gives w c (begins bytes w h) (sym (begun_rest bytes w h) ∙ spelled)
begins_layers bytes (Err (Refused d)) c h spelled = ok_err (certificate_of bytes) c d spelled (bad_head bytes d h)
begins_layers bytes (Err Memory) c h spelled = tt

-- where they have a bad line
pub begins_badly : (bytes : Text) (answer : Result Walk InputFault) (e : Refusal) → Gives (λ w. w) answer (begun bytes) → certificate_of bytes ≡ Err e → BeginsBadly e answer
begins_badly bytes (Ok w) e h bad = begun_refuses w e (sym (begun_rest bytes w h) ∙ bad)
begins_badly bytes (Err (Refused d)) e h bad = bad_is d e (sym (bad_head bytes d h) ∙ bad)
begins_badly bytes (Err Memory) e h bad = tt

-- an answer that is refused
abbrev no_gap : Refusal → Result GapParts Refusal
no_gap e = Err e

gap_bad_is : (d e : Refusal) → no_gap d ≡ no_gap e → d ≡ e
gap_bad_is d e h = cc

-- where the bytes spell a gap certificate
pub begins_gap : (bytes : Text) (answer : Result Walk InputFault) (c : GapParts) → Gives (λ w. w) answer (begun_gap bytes) → gap_of bytes ≡ Ok c → BeginsGap c answer
begins_gap bytes (Ok w) c h spelled =
    let own = gap_inner bytes w c h spelled in
    let gives = begun_gives w c.inner (gap_begins bytes w h) own.0 in
    (gives.0, gives.1, own.1)
begins_gap bytes (Err (Refused d)) c h spelled = ok_err (gap_of bytes) c d spelled (bad_gap bytes d h)
begins_gap bytes (Err Memory) c h spelled = tt

-- where they have a bad line
pub gap_begins_badly : (bytes : Text) (answer : Result Walk InputFault) (e : Refusal) → Gives (λ w. w) answer (begun_gap bytes) → gap_of bytes ≡ Err e → BeginsBadly e answer
gap_begins_badly bytes (Ok w) e h bad = begun_refuses w e (inner_bad (certificate_by w) (sym (gap_rest bytes w h) ∙ bad))
  where
    inner_bad : (read : Result CertificateParts Refusal) → with_bound w.bound read ≡ Err e → read ≡ Err e
    inner_bad (Ok c) h = absurd cc
    inner_bad (Err d) h = cc
gap_begins_badly bytes (Err (Refused d)) e h bad = gap_bad_is d e (sym (bad_gap bytes d h) ∙ bad)
gap_begins_badly bytes (Err Memory) e h bad = tt

-- ---- a layer

-- what is still read behind chains
prepended_ok : (front all : List ChainParts) (read : Result (List ChainParts) Refusal) → chains_behind front read ≡ Ok all → (cs : List ChainParts) × (read ≡ Ok cs) × (front ++ cs ≡ all)
prepended_ok front all (Ok cs) h = (cs, refl, held_is (front ++ cs) all h)
  where
    held_is : (x y : List ChainParts) → held x ≡ held y → x ≡ y
    held_is x y e = cc
prepended_ok front all (Err e) h = absurd cc

prepended_err : (front : List ChainParts) (e : Refusal) (read : Result (List ChainParts) Refusal) → chains_behind front read ≡ Err e → read ≡ Err e
prepended_err front e (Ok cs) h = absurd cc
prepended_err front e (Err d) h = cc

layer_given : (c : CertificateParts) (w v : Walk) (parts : List ChainParts) → w.segment ≤ w.head.segments → layer_of w ≡ Ok (Some parts, v) → WillGive c w
    → (w.segment < c.segments) × (parts ≡ layer_in c w.segment) × (v.segment ≡ w.segment + 1) × WillGive c v
layer_given c w v parts low h will =
    let r = layer_reads w v parts h in
    let segments : w.head.segments ≡ c.segments = ap (λ (x : CertificateParts). x.segments) will.head in
    let rungs : w.head.rungs ≡ c.rungs = ap (λ (x : CertificateParts). x.rungs) will.head in
    let long : length parts ≡ c.rungs = (chains_take w.head.segments w.head.rungs (w.segment * w.head.rungs) w.head.rungs r.at (parts, r.next) r.read).count_is ∙ rungs in
    let rest = prepended_ok parts (drop (w.segment * c.rungs) c.chains) (rest_of v) (sym (rest_more w v parts low h) ∙ will.rest) in
    let other = r.other in
    let own : parts ≡ layer_in c w.segment = sym (take-append_seam parts rest.0) ∙ ap (λ n. take n (parts ++ rest.0)) long ∙ ap (take c.rungs) rest.2 in
    let next : v.segment ≡ w.segment + 1 = ap (λ (x : Walk). x.segment) r.after in
    let more : w.segment * c.rungs + c.rungs ≡ v.segment * c.rungs = times w.segment c.rungs ∙ sym (ap (λ n. n * c.rungs) next) in
    let behind : rest.0 ≡ drop (v.segment * c.rungs) c.chains =
    sym (drop-append_seam parts rest.0) ∙ ap (λ n. drop n (parts ++ rest.0)) long ∙ ap (drop c.rungs) rest.2 ∙ drop-drop c.rungs (w.segment * c.rungs) c.chains ∙ ap (λ n. drop n c.chains) more in (
      inside low other segments,
      own,
      next,
      record { head = ap (λ (x : Walk). x.head) r.after ∙ will.head; rest = rest.1 ∙ ap held behind },
    )
  where
    times : (n r : ℕ) → n * r + r ≡ (n + 1) * r
    times n r = omega arith

    inside : w.segment ≤ w.head.segments → (w.segment ≡ w.head.segments → ⊥) → w.head.segments ≡ c.segments → w.segment < c.segments
    inside a b e = omega (arith, a, b, e)

-- where a certificate is still to come
pub gives_layer : (c : CertificateParts) (w v : Walk) (answer : Result (Option Layer) InputFault) → w.segment ≤ w.head.segments → Steps w answer v → WillGive c w → GivesLayer c w answer v
gives_layer c w v (Ok (Some layer)) low h will = layer_given c w v (map chain_parts layer.chains.items) low h will
gives_layer c w v (Ok None) low h will = let end = layer_ends w v h in (end.0 ∙ ap (λ (x : CertificateParts). x.segments) will.head, end.2)
gives_layer c w v (Err (Refused e)) low h will = ok_err (rest_of w) (drop (w.segment * c.rungs) c.chains) e will.rest (rest_stopped w e low h.0)
gives_layer c w v (Err Memory) low h will = h.1

-- a walk that was refused stays so
refused_on : (w v : Walk) (e : Refusal) → v ≡ record w { at = Err e } → WillRefuse e v
unfolding rest_of
refused_on w v e after = ap rest_of after

-- where a bad line is still to come
pub meets_bad_line : (e : Refusal) (w v : Walk) (answer : Result (Option Layer) InputFault) → w.segment ≤ w.head.segments → Steps w answer v → WillRefuse e w → MeetsBadLine e w answer v
meets_bad_line e w v (Ok (Some layer)) low h will = let parts = map chain_parts layer.chains.items in prepended_err parts e (rest_of v) (sym (rest_more w v parts low h) ∙ will)
meets_bad_line e w v (Ok None) low h will = ok_err (rest_of w) [] e (layer_ends w v h).1 will
meets_bad_line e w v (Err (Refused d)) low h will =
    let same : d ≡ e = err_is d e (sym (rest_stopped w d low h.0) ∙ will) in
    (same, subst (λ x. WillRefuse x v) same (refused_on w v d h.1))
meets_bad_line e w v (Err Memory) low h will = h.1
