-- The tight setup: no list needs a buffer that holds more than the film.
use Rattle.std.specs.Prelude.{◌*◌, min}
use Rattle.lab_model.specs.declared.setup.Setup.{Setup}
use Rattle.lab_model.specs.Film.{Film, segments_of}
use Rattle.player_core.specs.Scene.{Task}

-- the setup with a buffer of at most the film
abbrev pub tight_setup : Film → Setup → Setup
tight_setup f s = record s { buffer_ms = min s.buffer_ms (segments_of f * f.seg_ms) }

-- the task with the tight setup
abbrev pub tight : Task → Task
tight g = record g { setup = tight_setup g.film g.setup }
