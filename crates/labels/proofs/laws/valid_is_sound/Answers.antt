use Rattle.labels.proofs.Sound.{sound}
use Rattle.labels.proofs.laws.valid_is_sound.Goals as goal

pub returns : goal.returns
returns c = λ g is cert bound long valid. sound g is cert bound valid long
