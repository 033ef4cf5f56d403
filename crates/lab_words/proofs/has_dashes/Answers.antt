use Rattle.std.proofs.Common.{◌∙◌, codes, string_bytes}
use Rattle.std.specs.Str.{bytes_eq}
use Rattle.clap.proofs.WalkLemmas.{list_any-map}
use Rattle.lab_words.proofs.has_dashes.Goals as goal

pub returns : goal.returns
returns c = c.any_dashes.ensures ∙ list_any-map (λ t. bytes_eq t (codes "--")) string_bytes c.args.words.now
