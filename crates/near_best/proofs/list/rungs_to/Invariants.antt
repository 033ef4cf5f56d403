use Rattle.lab_model.specs.Film.{segments_of}
use Rattle.labels.specs.Labels.{AreRungs}
use Rattle.near_best.proofs.list.rungs_to.Given as goal

abbrev pub invariant-loop-back : goal.invariant-loop-back
invariant-loop-back l = AreRungs l.scene (segments_of l.scene.film) l.rungs.items
