use Rattle.near_best.proofs.cap.best_cap.Given as goal

abbrev pub decreases-loop-cap : goal.decreases-loop-cap
decreases-loop-cap l = l.cap
