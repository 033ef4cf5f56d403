use Rattle.std.proofs.Common.{refl, ap, ℕ, ◌+◌}
use Rattle.quality_score.proofs.Pushed.{stands_push}
use Rattle.quality_score.proofs.Tally.push.Goals as goal

pub returns-clause-stands : goal.returns-clause-stands
returns-clause-stands c = λ ps s.
    let before = rw (← c.self.view_is) at s in
    stands_push _ ps _ _ _ before
    (ap (λ (n : ℕ). c.self.inside.utilities + n) c.utility.ensures.value)
    (ap (λ (n : ℕ). c.self.inside.changes + n) c.change.ensures.value)
    refl refl
