-- The law of made cases: small buffers, small frontiers.
use Rattle.std.specs.Prelude.{ℕ, ◌≤◌}
use Rattle.labels.specs.Frontier.{frontier}
use Rattle.labels.specs.Read.{SpentAt, labels_in}
use Rattle.demo_case.specs.Case.{demo_task}

-- the greatest number that has a made case
abbrev pub most_number : ℕ
most_number = 2147483647

-- the most labels of a made case: 160 frontiers, and in each at most 484 values, which are 121 sums of utilities by 4 first rungs
abbrev pub most_demo_labels : ℕ
most_demo_labels = 77440

-- the labels that the planner may make for a made case
abbrev pub demo_budget : ℕ
demo_budget = 200000

-- the frontiers of a made case have no more labels
abbrev pub DemoIsSmall : Type 0
DemoIsSmall = (n : ℕ) → n ≤ most_number → labels_in (demo_task n) (frontier (demo_task n)) ≤ most_demo_labels

-- so no segment spends the budget
abbrev pub DemoFitsBudget : Type 0
DemoFitsBudget = (n segment : ℕ) → n ≤ most_number → SpentAt (demo_task n) (frontier (demo_task n)) demo_budget segment → ⊥
