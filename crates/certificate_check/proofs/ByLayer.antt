-- A certificate that is checked layer by layer: what was found stands for every certificate that begins with what was read.
use Rattle.std.proofs.Common.{◌≡◌, ◌∙◌, ℕ, ℤ, ◌+◌, ◌*◌, ◌<◌, ◌≤◌, List, [], ◌++◌, length, map, get_or, Option, Some, None, Result, Ok, Err, refl, sym, ap, subst, append_assoc, length-append, arith}
use Rattle.std.specs.Prelude.{◌↔◌, IfOk}
use Rattle.std.proofs.lemmas.List.{get_or-append-add, get_or_append_left, length-map}
use Rattle.std.proofs.lemmas.Nat.{div-mul-add}
use Rattle.lab_model.proofs.Steps.{then_ok}
use Rattle.lab_model.specs.Steps.{◌>>=◌}
use Rattle.lab_model.specs.Reading.{Fails, Gives}
use Rattle.lab_model.proofs.Refusals.{fails_on}
use Rattle.lab_model.specs.declared.fault.InputFault.{InputFault}
use Rattle.lab_model.specs.declared.fault.Refusal.{Refusal}
use Rattle.labels.specs.declared.plans.Chain.{Chain}
use Rattle.player_core.specs.Scene.{IsTask, Task}
use Rattle.labels.specs.Parts.{CertificateParts, ChainParts, chain_parts}
use Rattle.labels.specs.Best.{Settles}
use Rattle.labels.specs.Valid.{IsValid, no_chain}
use Rattle.certificate_text.specs.declared.certificate.Layer.{Layer}
use Rattle.certificate_check.specs.declared.verdict.Verdict.{Verdict}
use Rattle.certificate_check.specs.declared.verdict.Verdict.TheVariants.{Yes}
use Rattle.labels.specs.Form.{AreChains, IsChain, IsHead, label_count, names_per}
use Rattle.certificate_text.specs.Form.{GapParts}
use Rattle.certificate_text.specs.Reading.{Place}
use Rattle.certificate_text.specs.Walk.{IsBegun, Walk, begun, begun_gap, certificate_by, chains_behind, layer_of, layer_parts, rest_of}
use Rattle.certificate_text.proofs.CertificateLaws.{chains_take}
use Rattle.certificate_text.proofs.Loops.{ok_is}
use Rattle.certificate_text.proofs.HeadLaws.{head_takes}
use Rattle.certificate_text.proofs.WalkLaws.{begun_rest, gap_inner, gap_rest, layer_ends, layer_reads, rest_more, rest_stopped, walk_form, with_bound, whole_of}
use Rattle.certificate_check.specs.declared.checker.Found.{Found}
use Rattle.certificate_check.specs.Scheme.{both}
use Rattle.certificate_check.specs.Clauses.{counts_verdict, ends_verdict, chains_by_rung, names_verdict, plan_verdict, ranges_verdict, score_verdict, starts_held, starts_verdict}
use Rattle.certificate_check.specs.Layers.{AreBoth, IsLayer, IsLayerOf, MayEnd}
use Rattle.certificate_check.specs.Verdict.{SaysGapValid, SaysValid, bounded_verdict, gap_verdict, lines_verdict, verdict_of, verdict_on}
use Rattle.certificate_check.proofs.Progress.{HasFound, are_both, may_end, stands_first, stands_last, stands_more}
use Rattle.certificate_check.proofs.Slices.{count_at, form_at}
use Rattle.certificate_check.proofs.Sound.{valid_accepted, yes_certifies}
use Rattle.certificate_check.proofs.Verdicts.{per_inside, per_last, yes_valid}

-- ---- a layer that was read

-- the chains of a layer in a row have the form of one
layer_form : (segments rungs i : ℕ) (here : List Chain) → rungs ≤ 16 → length here ≡ rungs → AreChains segments rungs (i * rungs) (map chain_parts here) → label_count (map chain_parts here) ≤ 1000000
    → IsLayer (names_per segments rungs i) here
layer_form segments rungs i here few long form labels =
    let wide = length-map here chain_parts in
    record {
      rungs = omega (arith, few, long);
      chain = λ q low.
          subst (λ n. IsChain (names_per segments rungs n) (chains_by_rung here q)) (div-mul-add i rungs q (omega (arith, low, long)))
          (form_at segments rungs (i * rungs) (map chain_parts here) form q (omega (arith, low, wide)));
      count = λ q low. let one = count_at (map chain_parts here) q (omega (arith, low, wide)) in omega (arith, one, labels);
    }

-- a certificate with these chains
abbrev pub with_chains : CertificateParts → List ChainParts → CertificateParts
with_chains head cs = record head { chains = cs }

-- the chains behind those of the segments before are those of this segment
layer_there : (head : CertificateParts) (before more : List ChainParts) (i : ℕ) (here : List Chain) → length before ≡ i * head.rungs → length here ≡ head.rungs
    → IsLayerOf (with_chains head (before ++ (map chain_parts here ++ more))) i here
layer_there head before more i here past long =
    let wide = length-map here chain_parts in
    record {
      count = long;
      same = λ q low.
          sym (ap (λ n. get_or (before ++ (map chain_parts here ++ more)) (n + q) no_chain) (sym past)
          ∙ get_or-append-add before (map chain_parts here ++ more) q no_chain
          ∙ get_or_append_left (map chain_parts here) more no_chain q (omega (arith, wide, long, low)));
    }

-- what is known of a walk that has read the layer of a segment, and of what was found so far
pub record StandsAt (g : Task) (first w : Walk) (i : ℕ) (here : List Chain) (f : Found) : Type 0 where
  -- the chains of the segments before
  pub before : List ChainParts
  pub past : length before ≡ i * first.head.rungs
  pub head : w.head ≡ first.head
  pub segment : w.segment ≡ i + 1
  pub room : (p : Place) → w.at ≡ Ok p → p.left ≤ 1000000
  pub rest : rest_of first ≡ chains_behind (before ++ map chain_parts here) (rest_of w)
  pub long : length here ≡ first.head.rungs
  pub form : IsLayer (names_per first.head.segments first.head.rungs i) here
  -- whatever chains come later
  pub stands : (more : List ChainParts) → HasFound g (with_chains first.head (before ++ (map chain_parts here ++ more))) i f

-- what is known of a layer that was read
pub record LayerRead (w v : Walk) (i : ℕ) (here : List Chain) : Type 0 where
  pub head : v.head ≡ w.head
  pub segment : v.segment ≡ i + 1
  pub room : (p : Place) → v.at ≡ Ok p → p.left ≤ 1000000
  pub long : length here ≡ w.head.rungs
  pub form : IsLayer (names_per w.head.segments w.head.rungs i) here

-- an answer that holds a place
abbrev at_place : Place → Result Place Refusal
at_place p = Ok p

-- what is known of the next layer
pub layer_read : (w v : Walk) (i : ℕ) (here : List Chain) → w.head.rungs ≤ 16 → w.segment ≡ i → ((p : Place) → w.at ≡ Ok p → p.left ≤ 1000000) → layer_of w ≡ Ok (Some (map chain_parts here), v) → LayerRead w v i here
layer_read w v i here few at room h =
    let r = layer_reads w v (map chain_parts here) h in
    let t = chains_take w.head.segments w.head.rungs (w.segment * w.head.rungs) w.head.rungs r.at (map chain_parts here, r.next) r.read in
    let left = t.left in
    let most = room r.at r.standing in
    let long = sym (length-map here chain_parts) ∙ t.count_is in
    let there : v.at ≡ Ok r.next = ap (λ (x : Walk). x.at) r.after in
    record {
      head = ap (λ (x : Walk). x.head) r.after;
      segment = ap (λ (x : Walk). x.segment) r.after ∙ ap (λ n. n + 1) at;
      room = λ p is. let same : r.next ≡ p = place_is r.next p (sym there ∙ is) in subst (λ (q : Place). q.left ≤ 1000000) same (omega (arith, left, most));
      long = long;
      form = layer_form w.head.segments w.head.rungs i here few long (subst (λ n. AreChains w.head.segments w.head.rungs (n * w.head.rungs) (map chain_parts here)) at t.chains) (omega (arith, left, most));
    }
  where
    place_is : (p q : Place) → at_place p ≡ at_place q → p ≡ q
    place_is p q e = cc

-- ---- the walk that has begun

-- what a walk that has begun tells of its head
pub record HeadRead (w : Walk) : Type 0 where
  pub form : IsHead w.head
  pub segment : w.segment ≡ 0
  pub room : (p : Place) → w.at ≡ Ok p → p.left ≤ 1000000

-- what is known of a walk that has just begun
pub head_read : (w : Walk) → IsBegun w → HeadRead w
head_read w begun =
    let t = head_takes begun.heading begun.bytes (w.head, begun.at) begun.head in
    let left = t.left in
    record {
      form = t.head;
      segment = begun.segment;
      room = λ p is. let same : begun.at ≡ p = place_is begun.at p (sym begun.standing ∙ is) in subst (λ (q : Place). q.left ≤ 1000000) same (omega (arith, left));
    }
  where
    place_is : (p q : Place) → at_place p ≡ at_place q → p ≡ q
    place_is p q e = cc

-- the first layer
pub first_read : (first w : Walk) (here : List Chain) → IsBegun first → layer_of first ≡ Ok (Some (map chain_parts here), w) → LayerRead first w 0 here
first_read first w here begun h = let known = head_read first begun in layer_read first w 0 here known.form.rungs.1 known.segment known.room h

-- ---- how the checks go on

-- after the first layer
pub stands_begun : (g : Task) (first w : Walk) (head : Verdict) (here : List Chain) (f : Found) → IsBegun first → layer_of first ≡ Ok (Some (map chain_parts here), w)
    → head ≡ both (counts_verdict g first.head.table first.head.segments first.head.rungs) (plan_verdict first.head.segments first.head.rungs first.head.plan)
    → f.ranges ≡ both head (starts_verdict (length first.head.starts) first.head.starts (chains_by_rung here))
    → (f.ranges ≡ Yes → f.claims ≡ starts_held g (length first.head.starts) first.head.starts (chains_by_rung here)) → StandsAt g first w 0 here f
stands_begun g first w head here f begun h is ranges claims =
    let known = head_read first begun in
    let r = layer_read first w 0 here known.form.rungs.1 known.segment known.room h in
    record {
      before = [];
      past = omega arith;
      head = r.head;
      segment = r.segment;
      room = r.room;
      rest = rest_more first w (map chain_parts here) (omega (arith, known.segment)) h;
      long = r.long;
      form = r.form;
      stands = λ more.
          stands_first g (with_chains first.head (map chain_parts here ++ more)) head here f known.form.starts.0
          (layer_there first.head [] more 0 here (omega arith) r.long) is ranges claims;
    }

-- after one more
pub stands_on : (g : Task) (first w v : Walk) (i : ℕ) (here next : List Chain) (f h : Found) → IsBegun first → i + 1 < first.head.segments → StandsAt g first w i here f → layer_of w ≡ Ok (Some (map chain_parts next), v)
    → h.ranges ≡ both f.ranges (ranges_verdict (length next) (length here) i (chains_by_rung here) (chains_by_rung next))
    → (h.ranges ≡ Yes → h.claims ≡ both f.claims (names_verdict g (length next) (length here) i (chains_by_rung here) (chains_by_rung next))) → StandsAt g first v (i + 1) next h
stands_on g first w v i here next f h begun inside s read ranges claims =
    let known = head_read first begun in
    let few : w.head.rungs ≤ 16 = subst (λ (x : CertificateParts). x.rungs ≤ 16) (sym s.head) known.form.rungs.1 in
    let r = layer_read w v (i + 1) next few s.segment s.room read in
    let past = s.past in
    let long = s.long in
    let wide = length-map here chain_parts in
    let both_long = length-append s.before (map chain_parts here) in
    let row : i * first.head.rungs + first.head.rungs ≡ (i + 1) * first.head.rungs = omega arith in
    let later : length (s.before ++ map chain_parts here) ≡ (i + 1) * first.head.rungs = omega (arith, both_long, past, wide, long, row) in
    let next_long : length next ≡ first.head.rungs = r.long ∙ ap (λ (x : CertificateParts). x.rungs) s.head in
    let segment = s.segment in
    let same_head = s.head in
    let low : w.segment ≤ w.head.segments = subst (λ (x : CertificateParts). w.segment ≤ x.segments) (sym same_head) (omega (arith, inside, segment)) in
    record {
      before = s.before ++ map chain_parts here;
      past = later;
      head = r.head ∙ s.head;
      segment = r.segment;
      room = r.room;
      rest = s.rest ∙ ap (chains_behind (s.before ++ map chain_parts here)) (rest_more w v (map chain_parts next) low read) ∙ prepended_twice (s.before ++ map chain_parts here) (map chain_parts next) (rest_of v);
      long = next_long;
      form = subst (λ (x : CertificateParts). IsLayer (names_per x.segments x.rungs (i + 1)) next) s.head r.form;
      stands = λ more.
          let c = with_chains first.head ((s.before ++ map chain_parts here) ++ (map chain_parts next ++ more)) in
          let same : s.before ++ (map chain_parts here ++ (map chain_parts next ++ more)) ≡ (s.before ++ map chain_parts here) ++ (map chain_parts next ++ more) = sym (append_assoc s.before (map chain_parts here) (map chain_parts next ++ more)) in
          stands_more g c i here next f h inside
          (subst (λ (cs : List ChainParts). IsLayerOf (with_chains first.head cs) i here) same (layer_there first.head s.before (map chain_parts next ++ more) i here past long))
          (layer_there first.head (s.before ++ map chain_parts here) more (i + 1) next later next_long)
          (subst (λ (cs : List ChainParts). HasFound g (with_chains first.head cs) i f) same (s.stands (map chain_parts next ++ more))) ranges claims;
    }
  where
    prepended_twice : (front more : List ChainParts) (read : Result (List ChainParts) Refusal) → chains_behind front (chains_behind more read) ≡ chains_behind (front ++ more) read
    prepended_twice front more (Ok cs) = ap (λ (x : List ChainParts). Ok x) (sym (append_assoc front more cs))
    prepended_twice front more (Err e) = refl

-- ---- what the calls ask

-- what the checks of one more layer ask
pub record MoreFits (g : Task) (i : ℕ) (here next : List Chain) (f : Found) : Type 0 where
  pub form : IsLayer (length next) here
  pub few : length next ≤ 16
  pub fits : f.ranges ≡ Yes → AreBoth g i here next

-- one more layer may be checked
pub more_fits : (g : Task) (first w v : Walk) (i : ℕ) (here next : List Chain) (f : Found) → IsBegun first → i + 1 < first.head.segments → StandsAt g first w i here f → layer_of w ≡ Ok (Some (map chain_parts next), v)
    → MoreFits g i here next f
more_fits g first w v i here next f begun inside s read =
    let known = head_read first begun in
    let few = known.form.rungs.1 in
    let r = layer_read w v (i + 1) next (subst (λ (x : CertificateParts). x.rungs ≤ 16) (sym s.head) few) s.segment s.room read in
    let next_long : length next ≡ first.head.rungs = r.long ∙ ap (λ (x : CertificateParts). x.rungs) s.head in
    let past = s.past in
    let long = s.long in
    let wide = length-map here chain_parts in
    let both_long = length-append s.before (map chain_parts here) in
    let row : i * first.head.rungs + first.head.rungs ≡ (i + 1) * first.head.rungs = omega arith in
    let later : length (s.before ++ map chain_parts here) ≡ (i + 1) * first.head.rungs = omega (arith, both_long, past, wide, long, row) in
    let same : s.before ++ (map chain_parts here ++ (map chain_parts next ++ [])) ≡ (s.before ++ map chain_parts here) ++ (map chain_parts next ++ []) = sym (append_assoc s.before (map chain_parts here) (map chain_parts next ++ [])) in
    let own = layer_there first.head s.before (map chain_parts next ++ []) i here past long in
    let more = subst (λ (cs : List ChainParts). IsLayerOf (with_chains first.head cs) (i + 1) next) (sym same) (layer_there first.head (s.before ++ map chain_parts here) [] (i + 1) next later next_long) in
    record {
      form = subst (λ n. IsLayer n here) (per_inside first.head.segments first.head.rungs i inside ∙ sym next_long) s.form;
      few = omega (arith, next_long, few);
      fits = are_both g (with_chains first.head (s.before ++ (map chain_parts here ++ (map chain_parts next ++ [])))) i here next f inside own more (s.stands (map chain_parts next ++ []));
    }

-- what the checks of the last layer ask
pub record EndFits (g : Task) (i : ℕ) (here : List Chain) (plan : List ℕ) (f : Found) : Type 0 where
  pub form : IsLayer 0 here
  pub fits : f.ranges ≡ Yes → MayEnd g i here plan

-- the last layer may be checked
pub end_fits : (g : Task) (first w : Walk) (i : ℕ) (here : List Chain) (f : Found) → IsBegun first → i + 1 ≡ first.head.segments → StandsAt g first w i here f → EndFits g i here first.head.plan f
end_fits g first w i here f begun last s =
    let known = head_read first begun in
    record {
      form = subst (λ n. IsLayer n here) (per_last first.head.segments first.head.rungs i last) s.form;
      fits = may_end g (with_chains first.head (s.before ++ (map chain_parts here ++ []))) i here f last known.form.plan.0 (layer_there first.head s.before [] i here s.past s.long) (s.stands []);
    }

-- a walk within its segments
pub still_inside : (g : Task) (first w : Walk) (i : ℕ) (here : List Chain) (f : Found) → i + 1 ≤ first.head.segments → StandsAt g first w i here f → w.segment ≤ w.head.segments
still_inside g first w i here f low s =
    let segment = s.segment in
    subst (λ (x : CertificateParts). w.segment ≤ x.segments) (sym s.head) (omega (arith, low, segment))

-- ---- the end

-- a walk that has read the last layer stands at its end
at_end : (g : Task) (first w v : Walk) (i : ℕ) (here : List Chain) (f : Found) (layer : Option Layer) → i + 1 ≡ first.head.segments → StandsAt g first w i here f → layer_of w ≡ Ok (layer_parts layer, v) → rest_of w ≡ Ok []
at_end g first w v i here f (Some layer) last s h =
    absurd ((layer_reads w v (map chain_parts layer.chains.items) h).other (s.segment ∙ last ∙ ap (λ (x : CertificateParts). x.segments) (sym s.head)))
at_end g first w v i here f None last s h = (layer_ends w v h).1

-- what was read is the whole
whole_read : (g : Task) (first w v : Walk) (i : ℕ) (here : List Chain) (f : Found) (layer : Option Layer) → i + 1 ≡ first.head.segments → StandsAt g first w i here f
    → layer_of w ≡ Ok (layer_parts layer, v) → (s : List ChainParts) × (certificate_by first ≡ Ok (with_chains first.head s)) × HasFound g (with_chains first.head s) i f × IsLayerOf (with_chains first.head s) i here
whole_read g first w v i here f layer last s h = (
  s.before ++ (map chain_parts here ++ []),
  ap (whole_of first.head) (s.rest ∙ ap (chains_behind (s.before ++ map chain_parts here)) (at_end g first w v i here f layer last s h))
      ∙ ap (λ (cs : List ChainParts). Ok (with_chains first.head cs)) (append_assoc s.before (map chain_parts here) []),
  s.stands [],
  layer_there first.head s.before [] i here s.past s.long,
)

-- the verdict is that on the whole certificate
pub verdict_said : (g : Task) (bound : ℤ) (first w v : Walk) (i : ℕ) (here : List Chain) (f : Found) (layer : Option Layer) (said : Verdict) → i + 1 ≡ first.head.segments → StandsAt g first w i here f
    → layer_of w ≡ Ok (layer_parts layer, v)
    → said ≡ both (both f.ranges (ranges_verdict 0 (length here) i (chains_by_rung here) (chains_by_rung []))) (both f.claims (both (ends_verdict g bound (length here) i (chains_by_rung here)) (score_verdict g first.head.plan first.head.score)))
    → verdict_on g bound (certificate_by first) ≡ Ok said
verdict_said g bound first w v i here f layer said last s h e =
    let whole = whole_read g first w v i here f layer last s h in
    let c = with_chains first.head whole.0 in
    ap (verdict_on g bound) whole.1 ∙ ap (λ (x : Verdict). Ok x) (sym (stands_last g c bound i here f said last whole.3 whole.2 e))

-- ---- what a verdict says

-- a Yes says that the certificate is valid, and a valid one gets a Yes
said_by : (g : Task) (bound : ℤ) (first : Walk) (v : Verdict) (c : CertificateParts) → IsBegun first → verdict_on g bound (certificate_by first) ≡ Ok v → certificate_by first ≡ Ok c
    → (v ≡ Yes) ↔ IsValid g c bound
said_by g bound first v c begun said is =
    let own = ok_is (verdict_of g c bound) v (sym (ap (verdict_on g bound) is) ∙ said) in
    (λ passed. yes_valid g c bound (own ∙ passed), λ valid. sym own ∙ valid_accepted g c bound (walk_form first c begun is) valid)

-- the same of what the call answers, for the certificate that the bytes spell
pub valid_said : (g : Task) (bound : ℤ) (first : Walk) (answer : Result Verdict InputFault) → IsBegun first → Gives (λ v. v) answer (verdict_on g bound (certificate_by first))
    → (bytes : List ℕ) → begun bytes ≡ Ok first → IfOk answer (SaysValid g bytes bound)
valid_said g bound first (Ok v) starts said bytes is = λ c spelled. said_by g bound first v c starts said (sym (begun_rest bytes first is) ∙ spelled)
valid_said g bound first (Err e) starts said bytes is = tt

-- and for the gap certificate that they spell
pub gap_valid_said : (g : Task) (bound : ℤ) (first : Walk) (answer : Result Verdict InputFault) → IsBegun first → Gives (λ v. v) answer (verdict_on g bound (certificate_by first))
    → (bytes : List ℕ) → begun_gap bytes ≡ Ok first → IfOk answer (SaysGapValid g bytes bound)
gap_valid_said g bound first (Ok v) starts said bytes is = λ c spelled. said_by g bound first v c.inner starts said (gap_inner bytes first c is spelled).0
gap_valid_said g bound first (Err e) starts said bytes is = tt

-- a Yes proves what the head claims
yes_said : (g : Task) (bound : ℤ) (first : Walk) → IsTask g → IsBegun first → verdict_on g bound (certificate_by first) ≡ Ok Yes → Settles g first.head.plan first.head.score bound
yes_said g bound first is begun said =
    let read = then_ok (certificate_by first) (λ c. Ok (verdict_of g c bound)) Yes said in
    let whole = then_ok (rest_of first) (λ cs. Ok (with_chains first.head cs)) read.0 read.1 in
    let same : with_chains first.head whole.0 ≡ read.0 = ok_is (with_chains first.head whole.0) read.0 whole.2 in
    let own : verdict_of g read.0 bound ≡ Yes = ok_is (verdict_of g read.0 bound) Yes read.2 in
    subst (λ (c : CertificateParts). Settles g c.plan c.score bound) (sym same) (yes_certifies g read.0 bound is (walk_form first read.0 begun read.1) own)

-- the same of what the call answers
pub sound_said : (g : Task) (bound : ℤ) (first : Walk) (answer : Result Verdict InputFault) → IsTask g → IsBegun first → Gives (λ v. v) answer (verdict_on g bound (certificate_by first))
    → IfOk answer (λ v. v ≡ Yes → Settles g first.head.plan first.head.score bound)
sound_said g bound first (Ok v) is starts said = λ passed. yes_said g bound first is starts (said ∙ ap (λ x. Ok x) passed)
sound_said g bound first (Err e) is starts said = tt

-- the verdict is that on the certificate in the gap certificate that the bytes spell
pub gap_said : (g : Task) (bytes : List ℕ) (bound : ℤ) (first : Walk) → begun_gap bytes ≡ Ok first → verdict_on g bound (certificate_by first) ≡ gap_verdict g bytes bound
gap_said g bytes bound first is = inner (certificate_by first) ∙ sym (ap verdict_in (gap_rest bytes first is))
  where
    verdict_in : Result GapParts Refusal → Result Verdict Refusal
    verdict_in read = read >>= λ c. Ok (verdict_of g c.inner bound)

    inner : (read : Result CertificateParts Refusal) → verdict_on g bound read ≡ verdict_in (with_bound first.bound read)
    inner (Ok c) = refl
    inner (Err e) = refl

-- with the score of the head as the bound it is the certificate's own
pub own_verdict : (g : Task) (bytes : List ℕ) (first : Walk) → begun bytes ≡ Ok first → bounded_verdict g bytes first.head.score ≡ lines_verdict g bytes
own_verdict g bytes first is =
    ap (verdict_on g first.head.score) (begun_rest bytes first is) ∙ same (rest_of first) ∙ sym (ap own (begun_rest bytes first is))
  where
    own : Result CertificateParts Refusal → Result Verdict Refusal
    own read = read >>= λ c. Ok (verdict_of g c c.score)

    same : (read : Result (List ChainParts) Refusal) → verdict_on g first.head.score (whole_of first.head read) ≡ (whole_of first.head read >>= λ c. Ok (verdict_of g c c.score))
    same (Ok cs) = refl
    same (Err e) = refl

-- ---- faults

-- a fault of the lines is the answer
pub fault_said : (g : Task) (bound : ℤ) (first w : Walk) (front : List ChainParts) (e : InputFault) → w.segment ≤ w.head.segments → rest_of first ≡ chains_behind front (rest_of w) → Fails e (layer_of w)
    → Fails e (verdict_on g bound (certificate_by first))
fault_said g bound first w front e low rest h =
    fails_on e (layer_of w) (verdict_on g bound (certificate_by first)) h (λ y refused.
    ap (verdict_on g bound) (ap (whole_of first.head) (rest ∙ ap (chains_behind front) (rest_stopped w y low refused))))

-- and so is one before the first layer
pub fault_first : (g : Task) (bound : ℤ) (first : Walk) (e : InputFault) → IsBegun first → Fails e (layer_of first) → Fails e (verdict_on g bound (certificate_by first))
fault_first g bound first e starts h =
    let known = head_read first starts in
    fault_said g bound first first [] e (omega (arith, known.segment)) (nothing_before (rest_of first)) h
  where
    nothing_before : (read : Result (List ChainParts) Refusal) → read ≡ chains_behind [] read
    nothing_before (Ok cs) = refl
    nothing_before (Err e) = refl
