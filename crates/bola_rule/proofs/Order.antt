-- BOLA's scores order the rungs of a film.
use Rattle.std.proofs.Common.{ℕ, pos, ◌*ℤ◌}
use Rattle.lab_model.specs.declared.setup.Setup.{Setup}
use Rattle.lab_model.specs.declared.context.Context.{Context}
use Rattle.lab_model.specs.Bola.{bola_at_most, bola_gain}
use Rattle.lab_model.specs.Film.{Film, IsFilm, bitrate_of, rungs_of}
use Rattle.bola_rule.proofs.Leader.{IsOrder}
use Rattle.bola_rule.proofs.Quotients.{either_way, same_way, through}

-- scores compare by their quotients, of which each has a divisor
pub scores_order : (g : ℕ) (f : Film) (s : Setup) (c : Context) → IsFilm f → IsOrder (bola_at_most g f s c) (rungs_of f)
scores_order g f s c is = record {
  same = λ p. same_way (bola_gain g f s c p *ℤ pos (bitrate_of f p));
  total = λ p q h. either_way (bola_gain g f s c p *ℤ pos (bitrate_of f q)) (bola_gain g f s c q *ℤ pos (bitrate_of f p)) h;
  through = λ p q r low h k. through (bola_gain g f s c p) (bola_gain g f s c q) (bola_gain g f s c r) (bitrate_of f p) (bitrate_of f q) (bitrate_of f r) (is.bitrates q 0 low).0 h k;
}
