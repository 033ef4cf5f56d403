-- RobustMPC (SIGCOMM 2015) in this project's fixed point: what it chooses by looking a few segments ahead.
use Rattle.std.specs.Prelude.{ℕ, ◌-◌, List, [], ◌∷◌, zero, suc, map, min, ℤ, int_lt, slice_index}
use Rattle.std.specs.List.{best_of, flat_map}
use Rattle.lab_model.specs.declared.setup.Setup.{Setup}
use Rattle.lab_model.specs.declared.context.Context.{Context}
use Rattle.lab_model.specs.Film.{Film, rungs_of, segments_of}
use Rattle.lab_model.specs.Horizon.{horizon_score}
use Rattle.lab_model.specs.Ladder.{rungs_below}
use Rattle.lab_model.specs.Rates.{robust_rate}

-- all lists of so many rungs of a ladder with this count, in lexicographic order
unfoldable pub lists_of : ℕ → ℕ → List (List ℕ)
lists_of count zero = [] ∷ []
lists_of count (suc n) = flat_map (λ r. map (λ rs. r ∷ rs) (lists_of count n)) (rungs_below count)

-- the first list of the greatest score
abbrev pub best_list : (List ℕ → ℤ) → List (List ℕ) → List ℕ
best_list score [] = []
best_list score (x ∷ xs) = best_of (λ l best. int_lt (score best) (score l)) x xs

-- the lists that are looked at: as long as the horizon, up to the last segment
abbrev pub lists_ahead : ℕ → Film → ℕ → List (List ℕ)
lists_ahead horizon f next = lists_of (rungs_of f) (min horizon (segments_of f - next))

-- RobustMPC: the first rung of the first list with the greatest horizon score, 0 without samples
abbrev pub mpc_choice : ℕ → Film → Setup → Context → List ℕ → ℕ
mpc_choice horizon f s c [] = 0
mpc_choice horizon f s c (x ∷ xs) =
    slice_index (best_list (horizon_score f s (robust_rate (x ∷ xs)) c.next c.level c.last) (lists_ahead horizon f c.next)) 0
