use Rattle.std.proofs.Common.{◌∙◌}
use Rattle.clap.proofs.WalkLemmas.{list_any-map}
use Rattle.lab_words.specs.Values.{is_stray}
use Rattle.lab_words.proofs.values.has_stray.Goals as goal

pub returns : goal.returns
returns c = c.any_stray.ensures ∙ list_any-map is_stray (λ text. text.now) c.args.texts.now
