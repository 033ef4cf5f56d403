-- The laws of sessions, for each task within the limits.
use Rattle.std.proofs.Common.{ℕ, [], refl, arith}
use Rattle.lab_model.specs.Seeks.{SeeksFit}
use Rattle.player_core.specs.Ends.{SessionsEnd}
use Rattle.player_core.specs.Lists.{RulesAreLists}
use Rattle.player_core.proofs.Chain.{task_case}
use Rattle.player_core.proofs.Ends.{end_early, end_found}
use Rattle.player_core.proofs.Lists as lists

-- a script without seeks fits every film
pub no_seeks : (segments : ℕ) → SeeksFit [] segments
no_seeks segments = record {
  count = omega arith;
  instants = λ k d low. absurd (omega (arith, low));
  rising = λ k low. absurd (omega (arith, low));
  targets = λ k d low. absurd (omega (arith, low));
}

-- sessions end
pub sessions_end : SessionsEnd
sessions_end g seeks kind is script rule = let c = task_case g seeks kind is script rule in record { early = end_early _ c; ended = end_found _ c }

-- rules are lists
pub rules_are_lists : RulesAreLists
rules_are_lists g kind is rule off = lists.rules_are_lists _ (task_case g [] kind is (no_seeks _) rule) off refl
