-- What one more played segment makes of a tally.
use Rattle.std.proofs.Common.{◌≡◌, ◌∙◌, ℕ, ◌+◌, List, [], ◌∷◌, ◌++◌, Option, Some, None, sym, ap, arith, length-append}
use Rattle.lab_model.specs.declared.context.Played.{Played}
use Rattle.lab_model.specs.Weighing.{Weighing, change_of, utility_of}
use Rattle.lab_model.specs.Sums.{changes_of}
use Rattle.lab_model.proofs.Pushes.{changes_push, last_push, utilities_push}
use Rattle.quality_score.specs.Tallied.{IsTallyOf, Tallied}

-- a tally that was told one more stands for one more
pub stands_push : (w : Weighing) (ps : List Played) (p : Played) (t now : Tallied) → IsTallyOf w ps t
    → now.utilities ≡ t.utilities + utility_of w p.segment p.rung → now.changes ≡ t.changes + change_of w p.segment t.last p.rung
    → now.last ≡ Some p.rung → now.count ≡ t.count + 1 → IsTallyOf w (ps ++ p ∷ []) now
stands_push w ps p t now s u v l n = record {
  utilities = u ∙ ap (λ (x : ℕ). x + utility_of w p.segment p.rung) s.utilities ∙ sym (utilities_push w ps p);
  changes = v ∙ ap (λ (x : ℕ). x + change_of w p.segment t.last p.rung) s.changes ∙ ap (λ (x : Option ℕ). changes_of w None ps + change_of w p.segment x p.rung) s.last ∙ sym (changes_push w None ps p);
  last = l ∙ sym (last_push None ps p);
  count = let k = s.count in let m = length-append ps (p ∷ []) in omega (arith, n, k, m);
}
