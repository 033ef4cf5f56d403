-- Frontiers: the labels of all rung prefixes that no different one dominates.
use Rattle.std.specs.Prelude.{◌≡◌, ℕ, ◌&&◌, Bool, not, List, [], ◌∷◌, ◌++◌, fold, map}
use Rattle.std.specs.List.{Contains, filter, flat_map, list_any}
use Rattle.std.specs.BTreeSet.{insert_key}
use Rattle.std.specs.Ordering.{ordering_then, nat_cmp, int_cmp, eq_by_cmp}
use Rattle.std.specs.declared.cmp.Ordering.{Ordering}
use Rattle.lab_model.specs.declared.label.Label.{Label}
use Rattle.lab_model.specs.Ladder.{rungs_below}
use Rattle.lab_model.specs.Mpc.{lists_of}
use Rattle.lab_model.specs.Film.{rungs_of}
use Rattle.labels.specs.Labels.{Dominates, dominates, label_at}
use Rattle.player_core.specs.Scene.{Task}

-- by finish time, then delay, then value
abbrev pub label_cmp : Label → Label → Ordering
label_cmp a b = ordering_then (nat_cmp a.t b.t) (ordering_then (nat_cmp a.p b.p) (int_cmp a.v b.v))

-- the two are the same label
abbrev pub is_same : Label → Label → Bool
is_same a b = eq_by_cmp label_cmp a b

-- the labels in order, without repeats
abbrev pub in_order : List Label → List Label
in_order ls = fold (λ xs l. insert_key label_cmp xs l) [] ls

-- the first dominates the second, and isn't it
abbrev pub beats : Label → Label → Bool
beats a b = dominates a b && not (is_same a b)

-- no label of the list beats this one
abbrev pub is_kept : List Label → Label → Bool
is_kept ls l = not (list_any (λ m. beats m l) ls)

-- the same as a fact: no different label of the list dominates this one
abbrev pub IsKept : List Label → Label → Type 0
IsKept ls l = (m : Label) → Contains ls m → Dominates m l → m ≡ l

-- the distinct labels of a list that no different one dominates, in order
abbrev pub undominated : List Label → List Label
undominated ls = filter (is_kept ls) (in_order ls)

-- the labels of all rung lists that end at a segment on a rung
unfoldable pub prefix_labels : Task → ℕ → ℕ → List Label
prefix_labels g i q = map (λ before. label_at g (before ++ q ∷ []) i) (lists_of (rungs_of g.film) i)

-- the frontier of a segment and a rung
unfoldable pub frontier : Task → ℕ → ℕ → List Label
frontier g i q = undominated (prefix_labels g i q)

-- the labels of one segment with their rungs, by rung, then place
abbrev pub by_rung : ℕ → (ℕ → List Label) → List (ℕ × Label)
by_rung rungs chain = flat_map (λ q. map (λ l. (q, l)) (chain q)) (rungs_below rungs)
