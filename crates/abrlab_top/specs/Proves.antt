-- What the text of each command proves, at the task that words and files give, and THE HEADLINE, which this is for command lines without
-- an option of further reach.
use Rattle.std.specs.Prelude.{◌≡◌, ◌≤◌, ◌≤ℤ◌, ◌++◌, ℕ, ℤ, pos, Bool, true, false, List, [], ◌∷◌, length, Option, Some, None, Ok, is_some}
use Rattle.labels.specs.Grid.{Rounding}
use Rattle.lab_model.specs.Limits.{all_ahead}
use Rattle.std.specs.List.{All}
use Rattle.lab_io.specs.Sink.{Text, Grew}
use Rattle.lab_model.specs.declared.trace.Period.{Period}
use Rattle.lab_model.specs.Rules.{RuleKind}
use Rattle.lab_words.specs.declared.Verb.{Verb}
use Rattle.lab_words.specs.declared.Verb.TheVariants as verb
use Rattle.lab_words.specs.Command.{CommandWords}
use Rattle.lab_words.specs.Words.{command_of}
use Rattle.lab_inputs.specs.Files.{Files}
use Rattle.lab_inputs.specs.Inputs.{InputValues}
use Rattle.lab_inputs.specs.Settings.{ready_of}
use Rattle.lab_inputs.specs.Stages.{Tells}
use Rattle.player_core.specs.State.{Case, case_of}
use Rattle.player_core.specs.Session.{session_of}
use Rattle.labels.specs.Best.{Settles}
use Rattle.player_core.specs.Scene.{Task, task_of}
use Rattle.labels.specs.Parts.{CertificateParts}
use Rattle.labels.specs.Valid.{IsValid}
use Rattle.certificate_check.specs.declared.verdict.Verdict.TheVariants.{Yes}
use Rattle.certificate_text.specs.Form.{GapParts, IsGapCertificate}
use Rattle.price_bounds.specs.Verdict.{PriceParts}
use Rattle.price_bounds.specs.declared.verdict.PriceVerdict.TheVariants as said
use Rattle.price_text.specs.Reading.{prices_of}
use Rattle.price_text.specs.Spelling.{prices_text}
use Rattle.session_report.specs.Regret.{Scores, total_of}
use Rattle.session_report.specs.declared.regret.Top.TheVariants as top
use Rattle.session_report.specs.Session.{session_text}
use Rattle.shared_link.specs.Joint.{IsJoint, JointCase}
use Rattle.abrlab_top.specs.Check.{verdict_text}
use Rattle.abrlab_top.specs.Choice.{AreBounds, IsNearBest}
use Rattle.abrlab_top.specs.Claim.{claim_of, claim_text}
use Rattle.abrlab_top.specs.Near.{near_text, price_verdict_text}
use Rattle.abrlab_top.specs.Plan.{grid_in, parts_text, task_on}
use Rattle.abrlab_top.specs.Players.{joint_on, joint_text, player_line}
use Rattle.abrlab_top.specs.Regret.{best_on, bests_on, ranked_text, regret_text, scores_over}
use Rattle.abrlab_top.specs.Runs.{World}
use Rattle.abrlab_top.specs.Simulate.{session_case}

-- ---- the three sentences, each at its case or task

-- the text is the session that the millisecond player has on this case, with its score
abbrev pub IsSession : Case → Text → Type 0
IsSession case text = text ≡ session_text (session_of case) case.setup.weights

-- the text is the joint session of this case, which is within the limits: of each player in order its line, and the session that it shows
-- on the link which all share. Of one rule this is the session of the millisecond player under that rule, which has the link for itself
pub record IsJointSession (j : JointCase) (text : Text) : Type 0 where
  pub within : IsJoint j
  pub is : text ≡ joint_text j
  pub alone : (rule : RuleKind) → j.rules ≡ rule ∷ [] → text ≡ player_line 1 ++ session_text (session_of (case_of j.film j.periods j.setup [] all_ahead rule)) j.setup.weights

-- the text is a rung list with its score, and on a grid with its bound, or the list's certificate. The list has that score for its value:
-- the score of the session in which the millisecond player of the task plays it; no rung list has a value above the bound; the
-- certificate proves it, and a file may hold its text
pub record IsBest (g : Task) (grid : Option Rounding) (as_certificate : Bool) (text : Text) : Type 0 where
  pub best : CertificateParts
  pub labels : ℕ
  pub bound : ℤ
  pub settles : Settles g best.plan best.score bound
  pub valid : IsValid g best bound
  pub form : IsGapCertificate (record { bound = bound; inner = best })
  pub short : length (claim_text (is_some grid) (record { bound = bound; inner = best })) ≤ 536870912
  pub is : text ≡ parts_text grid as_certificate best bound labels

-- the text is a yes with the score of the certificate that the bytes spell, and of a gap certificate with its bound. Its rung list has that
-- score for its value, and no rung list has a value above the bound
pub record IsYes (g : Task) (gap : Bool) (bytes text : Text) : Type 0 where
  pub claim : GapParts
  pub spelled : claim_of gap bytes ≡ Ok claim
  pub settles : Settles g claim.inner.plan claim.inner.score claim.bound
  pub is : text ≡ verdict_text gap claim.inner.score claim.bound Yes

-- the text is a rung list with its score and a bound, or its certificate by prices. The list has that score for its value, no rung list has a value
-- above the bound, the certificate proves it, and a file may hold its text
pub record IsNearText (g : Task) (as_certificate : Bool) (text : Text) : Type 0 where
  pub found : PriceParts
  pub settles : Settles g found.plan found.score found.bound
  pub near : IsNearBest g found
  pub short : length (prices_text found) ≤ 67108864
  pub is : text ≡ near_text as_certificate found

-- the text is a yes with the score and the bound of the certificate by prices that the bytes spell. Its rung list has that score for its value, and
-- no rung list has a value above the bound
pub record IsPriceYes (g : Task) (bytes text : Text) : Type 0 where
  pub claim : PriceParts
  pub spelled : prices_of bytes ≡ Ok claim
  pub settles : Settles g claim.plan claim.score claim.bound
  pub is : text ≡ price_verdict_text claim.score claim.bound said.Yes

-- ---- what a run proves that answered 0

-- the files of the command were read and its settings fit, and it is about a live film just where the words say so; on its one network, of
-- which this holds, `out` has grown by exactly the text of which it says it, and `err` is as before
pub record Proves (c : CommandWords) (files : Files) (OfText : InputValues → List Period → Text → Type 0) (old new : World) : Type 0 where
  pub inputs : InputValues
  pub read : ready_of c files ≡ Ok inputs
  pub live : inputs.live ≡ c.live
  pub network : Text × List Period
  pub one_network : inputs.networks ≡ network ∷ []
  pub text : Text
  pub proves : OfText inputs network.1 text
  pub out : Grew old.out.written text new.out.written
  pub err : new.err ≡ old.err

-- where words ask for this command, with a flag or without it, and the run answers 0, over told files it proves this
abbrev pub WhereDone : Verb → (CommandWords → Bool) → Bool → (CommandWords → InputValues → List Period → Text → Type 0) → List Text → World → ℕ → World → Type 0
WhereDone v flag given OfText line old result new =
    (c : CommandWords) (files : Files) → command_of line ≡ Some c → c.verb ≡ v → flag c ≡ given → Tells old.shelf files → result ≡ 0 → Proves c files (OfText c) old new

-- the flags that part what a command proves
abbrev pub with_players : CommandWords → Bool
with_players c = c.players

-- bounds by prices
abbrev pub with_prices : CommandWords → Bool
with_prices c = c.near

-- of `simulate --rule`: the session under the one rule of the words
abbrev pub Simulates : List Text → World → ℕ → World → Type 0
Simulates = WhereDone verb.Simulate with_players false (λ c i periods text. (rule : Text × RuleKind) × (i.rules ≡ rule ∷ []) × IsSession (session_case i periods rule.1) text)

-- of `simulate --players`: the joint session under the rules of the words, in order
abbrev pub PlaysJointly : List Text → World → ℕ → World → Type 0
PlaysJointly = WhereDone verb.Simulate with_players true (λ c i periods text. (i.rules ≡ c.rules) × IsJointSession (joint_on i periods) text)

-- of `plan`: a rung list and a bound; without a grid this is the list's own score, so no list is better
abbrev pub PlansTheBest : List Text → World → ℕ → World → Type 0
PlansTheBest =
    WhereDone verb.Plan with_prices false (λ c i periods text. (p : IsBest (task_on i periods) (grid_in c.coarse_time c.coarse_value) c.as_certificate text) × (c.coarse_time ≡ 0 → p.bound ≡ p.best.score))

-- of `check`: a yes; the bound is that of the gap certificate, or the certificate's own score
abbrev pub SaysYesSoundly : List Text → World → ℕ → World → Type 0
SaysYesSoundly = WhereDone verb.Check with_prices false (λ c i periods text. (p : IsYes (task_on i periods) c.gap i.certificate text) × (c.gap ≡ false → p.claim.bound ≡ p.claim.inner.score))

-- of `plan --near`: a rung list with its score, and a bound that no rung list passes
abbrev pub BoundsTheBest : List Text → World → ℕ → World → Type 0
BoundsTheBest = WhereDone verb.Plan with_prices true (λ c i periods text. IsNearText (task_on i periods) c.as_certificate text)

-- of `check --near`: a yes
abbrev pub SaysYesByPrices : List Text → World → ℕ → World → Type 0
SaysYesByPrices = WhereDone verb.Check with_prices true (λ c i periods text. IsPriceYes (task_on i periods) i.certificate text)

-- ---- regrets

-- the list has this value, and no rung list has a greater one
abbrev pub IsGreatest : Task → ℤ → Type 0
IsGreatest g best = (rungs : List ℕ) × Settles g rungs best best

-- no session of a rule scores more than the tops, on these networks; nor is a sum of its regrets below 0, or the worst of them
pub record IsBehind (i : InputValues) (tops : List ℤ) (rule : RuleKind) : Type 0 where
  pub scores : All (λ (s : Scores). s.0 ≤ℤ s.1) (scores_over i i.networks tops rule)
  pub regret : pos 0 ≤ℤ (total_of (scores_over i i.networks tops rule)).regret
  pub worst : pos 0 ≤ℤ (total_of (scores_over i i.networks tops rule)).worst

-- the files of the command were read and its settings fit. `out` has grown by exactly the text of regrets: each score is that of the
-- session of the rule with an empty history, each best is the greatest value of all rung lists on its network, the sums and the worst
-- are theirs; and no regret is negative
pub record ProvesRegrets (c : CommandWords) (files : Files) (old new : World) : Type 0 where
  pub inputs : InputValues
  pub read : ready_of c files ≡ Ok inputs
  pub bests : All (λ n. IsGreatest (task_on inputs n.1) (best_on inputs n.1)) inputs.networks
  pub behind : All (λ rule. IsBehind inputs (bests_on inputs) rule.1) inputs.rules
  pub out : Grew old.out.written (regret_text inputs) new.out.written
  pub err : new.err ≡ old.err

-- the same beside bounds: `out` has grown by exactly the text of regrets beside bounds that no rung list passes, so none is greater than it says
pub record ProvesNearRegrets (c : CommandWords) (files : Files) (old new : World) : Type 0 where
  pub inputs : InputValues
  pub read : ready_of c files ≡ Ok inputs
  pub bounds : List ℤ
  pub are : AreBounds inputs inputs.networks bounds
  pub behind : All (λ rule. IsBehind inputs bounds rule.1) inputs.rules
  pub out : Grew old.out.written (ranked_text top.Bound inputs bounds) new.out.written
  pub err : new.err ≡ old.err

-- where words ask for `compare --regret`, with `--near` or without it, and the run answers 0, over told files it proves this
abbrev pub WhereRanked : Bool → (CommandWords → Files → World → World → Type 0) → List Text → World → ℕ → World → Type 0
WhereRanked near Proved line old result new =
    (c : CommandWords) (files : Files) → command_of line ≡ Some c → c.verb ≡ verb.Compare → c.regret ≡ true → c.near ≡ near → Tells old.shelf files → result ≡ 0 → Proved c files old new

-- of `compare --regret`
abbrev pub TellsRegrets : List Text → World → ℕ → World → Type 0
TellsRegrets = WhereRanked false ProvesRegrets

-- of `compare --regret --near`
abbrev pub BoundsRegrets : List Text → World → ℕ → World → Type 0
BoundsRegrets = WhereRanked true ProvesNearRegrets

-- ---- THE HEADLINE

-- a command line without an option of further reach
pub record IsPlain (c : CommandWords) : Type 0 where
  pub on_demand : c.live ≡ None
  pub one_player : c.players ≡ false
  pub exact : c.coarse_time ≡ 0
  pub no_gap : c.gap ≡ false
  pub no_prices : c.near ≡ false

-- where such words ask for this command and the run answers 0, over told files it proves this
abbrev pub WherePlain : Verb → (CommandWords → InputValues → List Period → Text → Type 0) → List Text → World → ℕ → World → Type 0
WherePlain v OfText line old result new =
    (c : CommandWords) (files : Files) → command_of line ≡ Some c → c.verb ≡ v → IsPlain c → Tells old.shelf files → result ≡ 0 → Proves c files (OfText c) old new

-- the player's task of a film on demand
abbrev pub on_demand : InputValues → List Period → Task
on_demand i periods = task_of i.film periods i.setup all_ahead

-- for every command line without an option of further reach, and files, where the run answers 0: `simulate` prints the session of the
-- millisecond player under the named rule, abandonment and seeks; `plan` prints a rung list which that player, without abandonment or
-- seeks, scores at the printed value, and no rung list of the manifest scores more; `check` says yes only to certificates that prove
-- this of theirs
pub record Headline (line : List Text) (old : World) (result : ℕ) (new : World) : Type 0 where
  pub simulates : WherePlain verb.Simulate (λ c i periods text. (rule : Text × RuleKind) × (i.rules ≡ rule ∷ []) × IsSession (case_of i.film periods i.setup i.seeks all_ahead rule.1) text) line old result new
  pub plans : WherePlain verb.Plan (λ c i periods text. (p : IsBest (on_demand i periods) None c.as_certificate text) × (p.bound ≡ p.best.score)) line old result new
  pub checks : WherePlain verb.Check (λ c i periods text. (p : IsYes (on_demand i periods) false i.certificate text) × (p.claim.bound ≡ p.claim.inner.score)) line old result new
