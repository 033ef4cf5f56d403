-- What one more played segment adds to the sums along those before it.
use Rattle.std.proofs.Common.{◌≡◌, ℕ, ◌+◌, List, [], ◌∷◌, ◌++◌, Option, Some, refl, arith}
use Rattle.lab_model.specs.declared.context.Played.{Played}
use Rattle.lab_model.specs.Weighing.{Weighing, change_of, utility_of}
use Rattle.lab_model.specs.Sums.{changes_of, last_rung, utilities_of}

-- its utility
pub utilities_push : (w : Weighing) (ps : List Played) (p : Played) → utilities_of w (ps ++ p ∷ []) ≡ utilities_of w ps + utility_of w p.segment p.rung
utilities_push w [] p = omega arith
utilities_push w (q ∷ ps) p = let e = utilities_push w ps p in omega (arith, e)

-- its change from the last rung before
pub changes_push : (w : Weighing) (before : Option ℕ) (ps : List Played) (p : Played)
    → changes_of w before (ps ++ p ∷ []) ≡ changes_of w before ps + change_of w p.segment (last_rung before ps) p.rung
changes_push w before [] p = omega arith
changes_push w before (q ∷ ps) p = let e = changes_push w (Some q.rung) ps p in omega (arith, e)

-- and its rung is the last
pub last_push : (before : Option ℕ) (ps : List Played) (p : Played) → last_rung before (ps ++ p ∷ []) ≡ Some p.rung
last_push before [] p = refl
last_push before (q ∷ ps) p = last_push (Some q.rung) ps p
