-- The form that the tests of a layer need, and what they need of what was found before.
use Rattle.std.specs.Prelude.{◌≡◌, ℕ, ◌+◌, ◌<◌, ◌≤◌, List, length}
use Rattle.lab_model.specs.Film.{rungs_of, segments_of}
use Rattle.labels.specs.declared.plans.Chain.{Chain}
use Rattle.labels.specs.Labels.{AreRungs}
use Rattle.player_core.specs.Scene.{Task}
use Rattle.labels.specs.Parts.{CertificateParts, ChainParts}
use Rattle.labels.specs.Valid.{chain_in}
use Rattle.labels.specs.Form.{IsChain}
use Rattle.certificate_check.specs.Clauses.{count_of, chains_by_rung}

-- the chains of a segment have the form that the grammar gives, with so many names a label
pub record IsLayer (per : ℕ) (chains : List Chain) : Type 0 where
  pub rungs : length chains ≤ 16
  pub chain : (q : ℕ) → q < length chains → IsChain per (chains_by_rung chains q)
  pub count : (q : ℕ) → q < length chains → count_of (chains_by_rung chains q) ≤ 1000000

-- the chains are those of this segment of the certificate
pub record IsLayerOf (c : CertificateParts) (i : ℕ) (chains : List Chain) : Type 0 where
  pub count : length chains ≡ c.rungs
  pub same : (q : ℕ) → q < c.rungs → chains_by_rung chains q ≡ chain_in c i q

-- a segment with this number, and the next one, have as many chains as the film has rungs, and the film has both
pub record AreBoth (g : Task) (i : ℕ) (here next : List Chain) : Type 0 where
  pub segment : i + 1 < segments_of g.film
  pub rungs : length here ≡ rungs_of g.film
  pub next_rungs : length next ≡ rungs_of g.film

-- the last segment has as many chains as the film has rungs, and the plan is a rung list
pub record MayEnd (g : Task) (i : ℕ) (last : List Chain) (plan : List ℕ) : Type 0 where
  pub segment : i + 1 ≡ segments_of g.film
  pub rungs : length last ≡ rungs_of g.film
  pub list : AreRungs g (segments_of g.film) plan

-- a chain of this segment on this rung, whose names mean chains of the next one: the film has them all, and the chain has the form of one
pub record CanName (g : Task) (i q : ℕ) (chain : ChainParts) (next : List Chain) : Type 0 where
  pub segment : i + 1 < segments_of g.film
  pub rung : q < rungs_of g.film
  pub rungs : length next ≡ rungs_of g.film
  pub few : length next ≤ 16
  pub count : count_of chain ≤ 1000000
  pub form : IsChain (length next) chain
