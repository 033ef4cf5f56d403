-- The parts of a plan and of a certificate, without where they lie in memory.
use Rattle.std.specs.Prelude.{ℕ, ℤ, Bool, List, map}
use Rattle.lab_model.specs.declared.label.Label.{Label}
use Rattle.lab_model.specs.Film.{Film, rungs_of, segments_of}
use Rattle.labels.specs.declared.plans.Chain.{Chain}
use Rattle.labels.specs.declared.plans.Plan.{Plan}

-- the labels of one segment and rung, and their names: the name at `place * R + r` is that of the label at `place` for rung `r` of the next segment
pub record ChainParts : Type 0 where
  pub labels : List Label
  pub names : List ℕ

-- all that a certificate says: its version, its counts, its score, its rung list, its starts, and its chains by segment, then rung
pub record CertificateParts : Type 0 where
  pub table : Bool
  pub segments : ℕ
  pub rungs : ℕ
  pub score : ℤ
  pub plan : List ℕ
  pub starts : List ℕ
  pub chains : List ChainParts

-- the parts of a chain
abbrev pub chain_parts : Chain → ChainParts
chain_parts c = record { labels = c.labels.items; names = c.names.items }

-- the parts of the certificate of a plan for this film
abbrev pub plan_parts : Film → Plan → CertificateParts
plan_parts f p = record {
  table = p.table;
  segments = segments_of f;
  rungs = rungs_of f;
  score = p.score;
  plan = p.rungs.items;
  starts = p.starts.items;
  chains = map chain_parts p.chains.items;
}
