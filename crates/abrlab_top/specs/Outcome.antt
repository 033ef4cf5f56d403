-- What a run comes to, by its words and its files.
use Rattle.std.specs.Prelude.{ℕ, Bool, true, false, List, [], Option, Some, None, Err}
use Rattle.lab_io.specs.Sink.{Text}
use Rattle.lab_words.specs.declared.Verb.{Verb}
use Rattle.lab_words.specs.declared.Verb.TheVariants as verb
use Rattle.lab_words.specs.Command.{CommandWords}
use Rattle.lab_words.specs.Words.{command_of}
use Rattle.lab_model.specs.Steps.{◌>>=◌}
use Rattle.lab_inputs.specs.Files.{Files}
use Rattle.lab_inputs.specs.Inputs.{InputValues, inputs_of}
use Rattle.lab_inputs.specs.Roles.{NamedFile, files_of}
use Rattle.abrlab_top.specs.declared.ending.Ending.TheVariants as ending
use Rattle.abrlab_top.specs.Answer.{Outcome, ending_in, text_in, unless_stopped}
use Rattle.abrlab_top.specs.Check.{check}
use Rattle.abrlab_top.specs.Choice.{Choice, no_choice}
use Rattle.abrlab_top.specs.Compare.{compare}
use Rattle.abrlab_top.specs.Demo.{demo}
use Rattle.abrlab_top.specs.Ending.{note_of, status_of}
use Rattle.abrlab_top.specs.Near.{near_check, near_plan}
use Rattle.abrlab_top.specs.Plan.{PlanAsked, options_of, plan}
use Rattle.abrlab_top.specs.Players.{simulate_by}
use Rattle.abrlab_top.specs.Regret.{near_regret, regret}
use Rattle.abrlab_top.specs.Stages.{Manner, at_the_end, of_a_check, of_a_price_check, refusing, row_by_row}

-- ---- a command

-- what a command on a film comes to: its files are read, and then it answers by its inputs
unfoldable pub about : (InputValues → Outcome) → CommandWords → Files → Outcome
about answer c files = do
  inputs ← unless_stopped (inputs_of c files)
  answer inputs

-- what a comparison answers: with regrets beside the best or beside bounds, or row by row
abbrev pub comparison : Choice → Bool → Bool → ℕ → InputValues → Outcome
comparison choice true true budget = near_regret choice.bounds
comparison choice true false budget = regret budget
comparison choice false near budget = compare

-- what planning answers: with the best, or with a bound by prices
abbrev pub planning : Choice → Bool → PlanAsked → InputValues → Outcome
planning choice true o = near_plan o.as_certificate choice.certificate
planning choice false o = plan o

-- what checking answers, of a certificate by prices or by labels
abbrev pub checking : Bool → Bool → InputValues → Outcome
checking true gap = near_check
checking false gap = check gap

-- what each command comes to, where this was chosen
abbrev pub answer_by : Choice → Verb → CommandWords → Files → Outcome
answer_by choice verb.Simulate c files = about (simulate_by c.players) c files
answer_by choice verb.Compare c files = about (comparison choice c.regret c.near c.budget) c files
answer_by choice verb.Plan c files = about (planning choice c.near (options_of c)) c files
answer_by choice verb.Check c files = about (checking c.near c.gap) c files
answer_by choice verb.Demo c files = demo c.number

-- what a command comes to
abbrev pub answer_of : Choice → CommandWords → Files → Outcome
answer_of choice c = answer_by choice c.verb c

-- the manner of a comparison
abbrev pub comparing : Bool → Manner
comparing true = at_the_end
comparing false = row_by_row

-- the manner of a check
abbrev pub checks_by : Bool → Manner
checks_by true = of_a_price_check
checks_by false = of_a_check

-- the manner of each command
abbrev pub manner_by : Verb → CommandWords → Manner
manner_by verb.Simulate c = at_the_end
manner_by verb.Compare c = comparing c.regret
manner_by verb.Plan c = at_the_end
manner_by verb.Check c = checks_by c.near
manner_by verb.Demo c = row_by_row

-- the same by all that a command asks for
abbrev pub manner_of : CommandWords → Manner
manner_of c = manner_by c.verb c

-- ---- the whole: words that are refused name no file, and are usage

-- the files that words name, in the order of refusals
abbrev pub named_by : Option CommandWords → List NamedFile
named_by None = []
named_by (Some c) = files_of c

-- their manner
abbrev pub manner_in : Option CommandWords → Manner
manner_in None = refusing
manner_in (Some c) = manner_of c

-- what they come to, where this was chosen
abbrev pub outcome_by : Choice → Option CommandWords → Files → Outcome
outcome_by choice None files = Err ending.Usage
outcome_by choice (Some c) files = answer_of choice c files

-- the files that the words name, in the order of refusals
abbrev pub named_files : List Text → List NamedFile
named_files words = named_by (command_of words)

-- the outcome of words and files, where this was chosen
abbrev pub outcome : Choice → List Text → Files → Outcome
outcome choice words files = outcome_by choice (command_of words) files

-- the status that words and files ask for: no choice changes it
abbrev pub status : List Text → Files → ℕ
status words files = status_of (ending_in (outcome no_choice words files))

-- what words and files ask to print on `out`, where this was chosen
abbrev pub text : Choice → List Text → Files → Text
text choice words files = text_in (outcome choice words files)

-- what words and files ask to print on `err`: no choice changes it
abbrev pub note : List Text → Files → Text
note words files = note_of (ending_in (outcome no_choice words files))
