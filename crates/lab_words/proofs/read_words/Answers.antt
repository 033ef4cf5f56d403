use Rattle.std.proofs.Common.{map, string_bytes}
use Rattle.lab_words.proofs.LimitLemmas.{gives_within}
use Rattle.lab_words.proofs.read_words.Goals as goal

pub returns-clause-limits : goal.returns-clause-limits
returns-clause-limits c = gives_within c.in-Some-verb_of.verb (map string_bytes c.in-Some.others.now) c.asked_of.result c.asked_of.ensures
