-- A certificate that is read layer by layer.
use Rattle.std.specs.Prelude.{◌≡◌, ℕ, ◌+◌, ◌-◌, ◌*◌, ◌<◌, ◌==◌, List, [], ◌++◌, take, drop, map, Option, Some, None, Result, Ok, Err, if◌then◌else◌, ℤ}
use Rattle.lab_model.specs.Steps.{◌>>=◌}
use Rattle.lab_model.specs.declared.fault.Refusal.{Refusal}
use Rattle.lab_model.specs.declared.fault.InputFault.{InputFault}
use Rattle.lab_model.specs.declared.fault.InputFault.TheVariants.{Memory, Refused}
use Rattle.lab_model.specs.Reading.{Fails}
use Rattle.lab_io.specs.Sink.{Text}
use Rattle.labels.specs.Parts.{CertificateParts, ChainParts, chain_parts}
use Rattle.certificate_text.specs.declared.certificate.Layer.{Layer}
use Rattle.certificate_text.specs.declared.places.Spot.{Spot}
use Rattle.certificate_text.specs.Form.{GapParts}
use Rattle.certificate_text.specs.Reading.{Place, certificate_of, gap_heading, gap_of, place_of, read_bound, read_chains, read_end, read_head}

-- what was read before the chains, the bound, the segment whose layer comes next, and the place where it begins, or the refusal that was met
pub record Walk : Type 0 where
  pub head : CertificateParts
  pub bound : ℤ
  pub segment : ℕ
  pub at : Result Place Refusal

-- where a reader stands, unless it was refused before
abbrev pub place_or_refusal : Option Refusal → Spot → Result Place Refusal
place_or_refusal None spot = Ok (place_of spot)
place_or_refusal (Some refusal) spot = Err refusal

-- the walk that begins behind a head
abbrev pub first_walk : ℤ → CertificateParts × Place → Walk
first_walk bound head = record { head = head.0; bound = bound; segment = 0; at = Ok head.1 }

-- the walk that begins at the first line of a certificate: its own score is the bound
unfoldable pub begun : Text → Result Walk Refusal
begun bytes = do
  head ← read_head 0 bytes
  Ok (first_walk head.0.score head)

-- the walk that begins at the first line of a gap certificate
unfoldable pub begun_gap : Text → Result Walk Refusal
begun_gap bytes = do
  bound ← read_bound bytes
  head ← read_head gap_heading bound.1
  Ok (first_walk bound.0 head)

-- a walk that has just begun: it stands behind its head, which was read of some bytes behind a heading
pub record IsBegun (w : Walk) : Type 0 where
  pub heading : ℕ
  pub bytes : Text
  pub at : Place
  pub head : read_head heading bytes ≡ Ok (w.head, at)
  pub segment : w.segment ≡ 0
  pub standing : w.at ≡ Ok at

-- that the bytes are the spelling of a certificate, or their first bad line
abbrev pub accepted : Text → Result (Unit {0}) Refusal
accepted bytes = do
  c ← certificate_of bytes
  Ok tt

-- the same of a gap certificate
abbrev pub gap_accepted : Text → Result (Unit {0}) Refusal
gap_accepted bytes = do
  c ← gap_of bytes
  Ok tt

-- the end of the walk: nothing more comes
abbrev pub end_step : Walk → Place → Result (Option (List ChainParts) × Walk) Refusal
end_step w p = do
  done ← read_end p
  Ok (None, w)

-- the next layer, and the walk behind it
abbrev pub layer_step : Walk → Place → Result (Option (List ChainParts) × Walk) Refusal
layer_step w p = do
  chains ← read_chains w.head.segments w.head.rungs (w.segment * w.head.rungs) w.head.rungs p
  Ok (Some chains.0, record w { segment = w.segment + 1; at = Ok chains.1 })

-- the next layer or the end, or the refusal
unfoldable pub layer_of : Walk → Result (Option (List ChainParts) × Walk) Refusal
layer_of w = do
  p ← w.at
  if w.segment == w.head.segments then end_step w p else layer_step w p

-- the chains of a layer, where there is one
abbrev pub layer_parts : Option Layer → Option (List ChainParts)
layer_parts (Some layer) = Some (map chain_parts layer.chains.items)
layer_parts None = None

-- the walk after a fault: a refusal stays, and without memory all is as before
abbrev pub after_fault : Walk → InputFault → Walk
after_fault w (Refused refusal) = record w { at = Err refusal }
after_fault w Memory = w

-- what a call does: the next layer or the end, or the refusal, which each later call answers too
abbrev pub Steps : Walk → Result (Option Layer) InputFault → Walk → Type 0
Steps old (Ok layer) new = layer_of old ≡ Ok (layer_parts layer, new)
Steps old (Err fault) new = Fails fault (layer_of old) × (new ≡ after_fault old fault)

-- ---- what is left of a walk, by the reading of certificates

-- chains, and then those that are still read
abbrev pub chains_behind : List ChainParts → Result (List ChainParts) Refusal → Result (List ChainParts) Refusal
chains_behind front read = do
  chains ← read
  Ok (front ++ chains)

-- so many chains from a place on, and then the last line
abbrev pub chains_to_end : ℕ → ℕ → ℕ → ℕ → Place → Result (List ChainParts) Refusal
chains_to_end segments rungs number count p = do
  chains ← read_chains segments rungs number count p
  done ← read_end chains.1
  Ok chains.0

-- the chains that are left of a walk, or the bad line before it
unfoldable pub rest_of : Walk → Result (List ChainParts) Refusal
rest_of w = do
  p ← w.at
  chains_to_end w.head.segments w.head.rungs (w.segment * w.head.rungs) ((w.head.segments - w.segment) * w.head.rungs) p

-- that something was read, without what it was
abbrev pub silent : {X : Type 0} → Result X Refusal → Result (Unit {0}) Refusal
silent read = do
  x ← read
  Ok tt

-- the certificate that a walk comes to that has just begun, or the bad line before its end
abbrev pub certificate_by : Walk → Result CertificateParts Refusal
certificate_by w = do
  chains ← rest_of w
  Ok (record w.head { chains = chains })

-- ---- layer by layer

-- a certificate without its chains
abbrev pub without_chains : CertificateParts → CertificateParts
without_chains c = record c { chains = [] }

-- the layer of a segment of a certificate
abbrev pub layer_in : CertificateParts → ℕ → List ChainParts
layer_in c segment = take c.rungs (drop (segment * c.rungs) c.chains)

-- the walk has the head of this certificate, and its chains from a segment on are still to come
pub record WillGive (c : CertificateParts) (w : Walk) : Type 0 where
  pub head : w.head ≡ without_chains c
  pub rest : rest_of w ≡ Ok (drop (w.segment * c.rungs) c.chains)

-- this bad line is still to come
abbrev pub WillRefuse : Refusal → Walk → Type 0
WillRefuse e w = rest_of w ≡ Err e

-- what `begin` answers where the bytes spell a certificate: its head, before its first layer
abbrev pub BeginsLayers : CertificateParts → Result Walk InputFault → Type 0
BeginsLayers c (Ok w) = WillGive c w × (w.segment ≡ 0)
BeginsLayers c (Err (Refused e)) = ⊥
BeginsLayers c (Err Memory) = Unit {0}

-- the same of a gap certificate: its bound comes with its head
abbrev pub BeginsGap : GapParts → Result Walk InputFault → Type 0
BeginsGap c (Ok w) = WillGive c.inner w × (w.segment ≡ 0) × (w.bound ≡ c.bound)
BeginsGap c (Err (Refused e)) = ⊥
BeginsGap c (Err Memory) = Unit {0}

-- what it answers where they have a bad line: that line, or a walk that comes to it
abbrev pub BeginsBadly : Refusal → Result Walk InputFault → Type 0
BeginsBadly e (Ok w) = WillRefuse e w
BeginsBadly e (Err (Refused refusal)) = refusal ≡ e
BeginsBadly e (Err Memory) = Unit {0}

-- what the next call answers where a certificate is still to come: its next layer, or None exactly behind the last
abbrev pub GivesLayer : CertificateParts → Walk → Result (Option Layer) InputFault → Walk → Type 0
GivesLayer c old (Ok (Some layer)) new =
    (old.segment < c.segments) × (map chain_parts layer.chains.items ≡ layer_in c old.segment) × (new.segment ≡ old.segment + 1) × WillGive c new
GivesLayer c old (Ok None) new = (old.segment ≡ c.segments) × (new ≡ old)
GivesLayer c old (Err (Refused e)) new = ⊥
GivesLayer c old (Err Memory) new = new ≡ old

-- what it answers where a bad line is still to come: a whole layer before it, or the line, now and ever after
abbrev pub MeetsBadLine : Refusal → Walk → Result (Option Layer) InputFault → Walk → Type 0
MeetsBadLine e old (Ok (Some layer)) new = WillRefuse e new
MeetsBadLine e old (Ok None) new = ⊥
MeetsBadLine e old (Err (Refused refusal)) new = (refusal ≡ e) × WillRefuse e new
MeetsBadLine e old (Err Memory) new = new ≡ old
