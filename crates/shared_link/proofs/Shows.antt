-- What bodies show at their end, one after the other.
use Rattle.std.proofs.Common.{◌≡◌, ◌∙◌, ℕ, ◌<◌, ◌≤◌, List, [], ◌∷◌, ◌++◌, length, get_or, sym, ap, subst, ⊎_elim, arith}
use Rattle.std.proofs.lemmas.Bool.{cases_lt}
use Rattle.std.proofs.lemmas.List.{get_or_append_left, length_push}
use Rattle.std.proofs.Math.Seq.{get_or-append_seam}
use Rattle.player_core.specs.declared.body.Body.{Body}
use Rattle.player_core.specs.declared.session.Session.{Session}
use Rattle.player_core.specs.Seen.{StandsFor, seen}
use Rattle.player_core.specs.Session.{shown, shown_by}
use Rattle.player_core.specs.State.{Player}
use Rattle.shared_link.specs.Table.{AreShown, Stand}

-- one body more
pub shown_next : (ps : ℕ → Player) (bs : List Body) (ss : List Session) (b : Body) (s : Session) → (Stand ps bs → AreShown ps (length bs) ss) → ((h : List ℕ) → shown s ≡ shown_by (seen b h))
    → Stand ps (bs ++ b ∷ []) → AreShown ps (length (bs ++ b ∷ [])) (ss ++ s ∷ [])
shown_next ps bs ss b s shows here stand =
    let longer = length_push bs b in
    let more = length_push ss s in
    let before = shows (λ i d low. subst (StandsFor (ps i)) (get_or_append_left bs (b ∷ []) d i low) (stand i d (omega (arith, low, longer)))) in
    let many = before.many in
    let last : StandsFor (ps (length bs)) b = subst (StandsFor (ps (length bs))) (get_or-append_seam bs b [] b) (stand (length bs) b (omega (arith, longer))) in
    record {
      many = omega (arith, longer, more, many);
      each = λ i d low.
          ⊎_elim
          (λ (early : i < length bs). ap shown (get_or_append_left ss (s ∷ []) d i (omega (arith, early, many))) ∙ before.each i d early)
          (λ (late : length bs ≤ i).
          let place : i ≡ length bs = omega (arith, late, low, longer) in
          let at : i ≡ length ss = omega (arith, place, many) in
          ap (λ k. shown (get_or (ss ++ s ∷ []) k d)) at ∙ ap shown (get_or-append_seam ss s [] d) ∙ here (ps (length bs)).history ∙ ap shown_by last ∙ ap (λ k. shown_by (ps k)) (sym place))
          (cases_lt i (length bs));
    }
