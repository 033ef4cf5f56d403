-- Labels: what the planner keeps of a rung list up to a segment, and what becomes of it on the next one.
use Rattle.std.specs.Prelude.{◌≡◌, ℕ, zero, suc, ◌+◌, ◌-◌, ◌*◌, ◌≤◌, ◌<◌, ◌&&◌, Bool, List, length, max, slice_index, Some, ℤ, pos, ◌+ℤ◌, ◌-ℤ◌, ◌≤ℤ◌, nat_le, int_le}
use Rattle.std.specs.List.{All}
use Rattle.lab_model.specs.declared.label.Label.{Label}
use Rattle.lab_model.specs.Film.{rungs_of, size_of}
use Rattle.lab_model.specs.Weighing.{Weighing, change_of, utility_of}
use Rattle.network_clock.specs.Network.{done_at}
use Rattle.player_core.specs.Available.{available_at}
use Rattle.player_core.specs.Scene.{Task}

-- so many rungs of the ladder
abbrev pub AreRungs : Task → ℕ → List ℕ → Type 0
AreRungs g n rungs = (length rungs ≡ n) × All (λ q. q < rungs_of g.film) rungs

-- the instant from which a segment may be asked for
abbrev pub there_at : Task → ℕ → ℕ
there_at g segment = available_at g.film g.ahead segment

-- the instant at which a segment has come on a rung that was asked for at an instant
abbrev pub came_at : Task → ℕ → ℕ → ℕ → ℕ
came_at g start segment rung = done_at g.periods start (size_of g.film segment rung)

-- the label of segment 0 on a rung
abbrev pub start_label : Task → ℕ → Label
start_label g q =
    let t = came_at g (there_at g 0) 0 q in
    record { t = t; p = t; v = pos (1000 * utility_of g.setup.weights 0 q + g.setup.weights.stall * t) -ℤ pos (g.setup.weights.startup * t) }

-- the instant at which a segment is asked for, after a label of the segment before: when that one is loaded, there is room in the buffer, and it is there
abbrev pub request_at : Task → ℕ → Label → ℕ
request_at g segment l = max (max l.t (l.p + (segment + 1) * g.film.seg_ms - g.setup.buffer_ms)) (there_at g segment)

-- the value of a successor, to a segment on rung `r`, of a label of rung `q` with this value
abbrev pub next_value : Weighing → ℕ → ℕ → ℤ → ℕ → ℤ
next_value w segment q v r = (v +ℤ pos (1000 * utility_of w segment r)) -ℤ pos (w.switch * change_of w segment (Some q) r)

-- the successor of a label of rung `q`, to a segment on rung `r`
abbrev pub next_label : Task → ℕ → ℕ → Label → ℕ → Label
next_label g segment q l r =
    let t = came_at g (request_at g segment l) segment r in
    record {
      t = t;
      p = max l.p (t - segment * g.film.seg_ms);
      v = next_value g.setup.weights segment q l.v r;
    }

-- the value that a label comes to at the end under these weights, in thousandths of a point
abbrev pub value_at_end : Weighing → Label → ℤ
value_at_end w l = l.v -ℤ pos (w.stall * l.p)

-- the same for a task
abbrev pub end_value : Task → Label → ℤ
end_value g l = value_at_end g.setup.weights l

-- the label of a segment along a rung list
unfoldable pub label_at : Task → List ℕ → ℕ → Label
label_at g rungs zero = start_label g (slice_index rungs 0)
label_at g rungs (suc i) = next_label g (suc i) (slice_index rungs i) (label_at g rungs i) (slice_index rungs (suc i))

-- the first is no later, has no longer a delay and no less a value
abbrev pub dominates : Label → Label → Bool
dominates a b = nat_le a.t b.t && nat_le a.p b.p && int_le b.v a.v

-- the same as a fact
abbrev pub Dominates : Label → Label → Type 0
Dominates a b = (a.t ≤ b.t) × (a.p ≤ b.p) × (b.v ≤ℤ a.v)
