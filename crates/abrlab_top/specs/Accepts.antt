-- The certificate that a run of `plan` printed, on demand or live, plain or with a gap, is one that a run of `check` says yes to.
use Rattle.std.specs.Prelude.{◌≡◌, true, false, Bool, List, [], ◌∷◌, Option, Some, None, Ok, is_some}
use Rattle.labels.specs.Grid.{Rounding}
use Rattle.lab_io.specs.Sink.{Text}
use Rattle.lab_model.specs.declared.trace.Period.{Period}
use Rattle.lab_words.specs.declared.Verb.TheVariants.{Plan, Check}
use Rattle.lab_words.specs.Command.{CommandWords}
use Rattle.lab_words.specs.Words.{command_of}
use Rattle.lab_inputs.specs.Files.{Files}
use Rattle.lab_inputs.specs.Inputs.{InputValues, inputs_of}
use Rattle.lab_inputs.specs.Stages.{Tells}
use Rattle.certificate_check.specs.declared.verdict.Verdict.TheVariants.{Yes}
use Rattle.certificate_text.specs.Form.{GapParts, IsGapCertificate}
use Rattle.price_bounds.specs.Verdict.{PriceParts}
use Rattle.price_bounds.specs.declared.verdict.PriceVerdict.TheVariants as said
use Rattle.price_text.specs.Form.{IsPrices}
use Rattle.price_text.specs.Spelling.{prices_text}
use Rattle.abrlab_top.specs.declared.ending.Ending.{Ending}
use Rattle.abrlab_top.specs.Answer.{printed}
use Rattle.abrlab_top.specs.Check.{verdict_text}
use Rattle.abrlab_top.specs.Choice.{no_choice}
use Rattle.abrlab_top.specs.Claim.{claim_text}
use Rattle.abrlab_top.specs.Ending.{status_of}
use Rattle.abrlab_top.specs.Near.{price_verdict_text}
use Rattle.abrlab_top.specs.Outcome.{outcome, text}
use Rattle.abrlab_top.specs.Plan.{grid_in}
use Rattle.abrlab_top.specs.Runs.{Runs, World}
use Rattle.abrlab_top.specs.Statuses.{IsAmong}

-- these read the same film, setup and network, with as much media ahead, whatever the files are called and in whatever form they stand
pub record ReadAlike (i j : InputValues) : Type 0 where
  pub film : j.film ≡ i.film
  pub setup : j.setup ≡ i.setup
  pub live : j.live ≡ i.live
  pub one : Text × List Period
  pub network : i.networks ≡ one ∷ []
  pub other : Text
  pub same : j.networks ≡ (other, one.1) ∷ []

-- a command line without its certificate
abbrev pub without_certificate : CommandWords → CommandWords
without_certificate c = record c { certificate = None }

-- words of `plan --as-certificate`, on this grid or on none, that read this
pub record PlansCertificate (line : List Text) (files : Files) (grid : Option Rounding) (i : InputValues) : Type 0 where
  pub command : CommandWords
  pub asked : command_of line ≡ Some command
  pub verb : command.verb ≡ Plan
  pub as_certificate : command.as_certificate ≡ true
  pub by_labels : command.near ≡ false
  pub on_grid : grid_in command.coarse_time command.coarse_value ≡ grid
  pub read : inputs_of command files ≡ Ok i

-- a command line of `check`, with `--gap` or without, on a file that holds this text; its other files hold this
pub record ChecksText (line : List Text) (files : Files) (gap : Bool) (j : InputValues) (held : Text) : Type 0 where
  pub command : CommandWords
  pub asked : command_of line ≡ Some command
  pub verb : command.verb ≡ Check
  pub asks_gap : command.gap ≡ gap
  pub by_labels : command.near ≡ false
  pub name : Text
  pub certificate : command.certificate ≡ Some name
  pub there : files name ≡ Some held
  pub read : inputs_of (without_certificate command) files ≡ Ok j

-- where a run of `plan --as-certificate` answered 0, and its text is what a file holds that words of `check` name, with `--gap` just where
-- the plan was on a grid, which read the same film, setup and network with as much media ahead: the text is a certificate's, words and
-- files of the check ask for a yes with its score and bound, and a run answers that, or 4, 5 or 9 by their causes
abbrev pub RunsAreAccepted : Type 0
RunsAreAccepted =
    (line line2 : List Text) (files files2 : Files) (grid : Option Rounding) (i j : InputValues) (old new old2 new2 : World) (e e2 : Ending)
    → PlansCertificate line files grid i → Tells old.shelf files → Runs line old e new → status_of e ≡ 0
    → ChecksText line2 files2 (is_some grid) j (text no_choice line files) → Tells old2.shelf files2 → Runs line2 old2 e2 new2
    → ReadAlike i j
    → (claim : GapParts) × IsGapCertificate claim × (text no_choice line files ≡ claim_text (is_some grid) claim)
    × (outcome no_choice line2 files2 ≡ Ok (printed (verdict_text (is_some grid) claim.inner.score claim.bound Yes))) × IsAmong (status_of e2) (0 ∷ 4 ∷ 5 ∷ 9 ∷ [])

-- ---- by prices

-- words of `plan --near --as-certificate` that read this
pub record PlansPrices (line : List Text) (files : Files) (i : InputValues) : Type 0 where
  pub command : CommandWords
  pub asked : command_of line ≡ Some command
  pub verb : command.verb ≡ Plan
  pub as_certificate : command.as_certificate ≡ true
  pub near : command.near ≡ true
  pub read : inputs_of command files ≡ Ok i

-- a command line of `check --near` on a file that holds this text; its other files hold this
pub record ChecksPrices (line : List Text) (files : Files) (j : InputValues) (held : Text) : Type 0 where
  pub command : CommandWords
  pub asked : command_of line ≡ Some command
  pub verb : command.verb ≡ Check
  pub near : command.near ≡ true
  pub name : Text
  pub certificate : command.certificate ≡ Some name
  pub there : files name ≡ Some held
  pub read : inputs_of (without_certificate command) files ≡ Ok j

-- where a run of `plan --near --as-certificate` answered 0, and its text is what a file holds that words of `check --near` name, which read the same
-- film, setup and network with as much media ahead: the text is a certificate's, words and files of the check ask for a yes with its score
-- and bound, and a run answers that, or 4, 5 or 9 by their causes
abbrev pub NearRunsAreAccepted : Type 0
NearRunsAreAccepted =
    (line line2 : List Text) (files files2 : Files) (i j : InputValues) (old new old2 new2 : World) (e e2 : Ending)
    → PlansPrices line files i → Tells old.shelf files → (run : Runs line old e new) → status_of e ≡ 0
    → ChecksPrices line2 files2 j (text run.ends.choice line files) → Tells old2.shelf files2 → Runs line2 old2 e2 new2
    → ReadAlike i j
    → (claim : PriceParts) × IsPrices claim × (text run.ends.choice line files ≡ prices_text claim)
    × (outcome no_choice line2 files2 ≡ Ok (printed (price_verdict_text claim.score claim.bound said.Yes))) × IsAmong (status_of e2) (0 ∷ 4 ∷ 5 ∷ 9 ∷ [])
