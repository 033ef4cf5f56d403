-- The gap certificate of a coarse plan, and what it proves.
use Rattle.lab_model.specs.Film.{Film}
use Rattle.player_core.specs.Scene.{Task}
use Rattle.frontier_planner.specs.declared.plans.CoarsePlan.{CoarsePlan}
use Rattle.labels.specs.Parts.{plan_parts}
use Rattle.labels.specs.Best.{Settles}
use Rattle.labels.specs.Valid.{IsValid}
use Rattle.certificate_text.specs.Form.{GapParts, IsGapCertificate}

-- the gap certificate of a coarse plan for this film: its bound, and the certificate of the plan
abbrev pub plan_gap : Film → CoarsePlan → GapParts
plan_gap f c = record { bound = c.bound; inner = plan_parts f c.plan }

-- a gap certificate is valid where the certificate inside is valid with its bound
abbrev pub IsGapValid : Task → GapParts → Type 0
IsGapValid g c = IsValid g c.inner c.bound

-- the gap certificate of a coarse plan has a text and is valid, so its list has its score, and no rung list has more than the bound
pub record CertifiesGap (g : Task) (c : CoarsePlan) : Type 0 where
  pub form : IsGapCertificate (plan_gap g.film c)
  pub valid : IsGapValid g (plan_gap g.film c)
  pub settles : Settles g c.plan.rungs.items c.plan.score c.bound
