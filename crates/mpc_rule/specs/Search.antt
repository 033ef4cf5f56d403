-- The search of RobustMPC: a list of rungs in hand, the lists that complete it in lexicographic order, and the best of them.
use Rattle.std.specs.Prelude.{◌≡◌, ℕ, zero, suc, ◌+◌, ◌-◌, ◌*◌, ◌≤◌, ◌<◌, ◌==◌, List, [], ◌∷◌, Option, Some, None, slice_index, slice_index_or, if◌then◌else◌, ℤ, pos, ◌+ℤ◌, ◌-ℤ◌, ◌≤ℤ◌, int_lt, fold, IfSome}
use Rattle.std.specs.List.{Contains, flat_map}
use Rattle.lab_model.specs.Weighing.{change_of, utility_of}
use Rattle.lab_model.specs.Horizon.{foretold_ms, horizon_score, next_level}
use Rattle.lab_model.specs.Mpc.{best_list, lists_of}
use Rattle.lab_model.specs.Ladder.{rungs_below}
use Rattle.mpc_rule.specs.declared.outlook.Foretold.{Foretold}
use Rattle.mpc_rule.specs.declared.forecast.Table.{Table}
use Rattle.mpc_rule.specs.declared.forecast.Draft.{Draft}
use Rattle.mpc_rule.specs.Lookahead.{Lookahead, ladder_of, room_of, weights_of}

-- the list of no rungs
abbrev pub start_of : Lookahead → Draft
start_of o = record { first = 0; before = o.context.last; count = 0; level = o.context.level; score = pos 0 }

-- the segment for which a list in hand has no rung yet
abbrev pub segment_after : Lookahead → Draft → ℕ
segment_after o d = o.context.next + d.count

-- the milliseconds in which a segment is foretold to come on a rung
abbrev pub wait_at : Lookahead → ℕ → ℕ → ℕ
wait_at o segment rung = foretold_ms o.film o.rate (record { segment = segment; rung = rung })

-- what is foretold of a segment on a rung
abbrev pub foretold_at : Lookahead → ℕ → ℕ → Foretold
foretold_at o segment rung = record { wait = wait_at o segment rung; utility = utility_of (weights_of o) segment rung }

-- the milliseconds of the segment for which a list in hand has no rung yet
abbrev pub wait_of : Lookahead → Draft → ℕ → ℕ
wait_of o d rung = wait_at o (segment_after o d) rung

-- how far the utility changes to one more rung
abbrev pub change_after : Lookahead → Draft → ℕ → ℕ
change_after o d rung = change_of (weights_of o) (segment_after o d) d.before rung

-- what one more rung takes from the score by its change and by its stall, where its segment comes in so many milliseconds
abbrev pub loss_of : Lookahead → Draft → ℕ → ℕ → ℕ
loss_of o d rung wait =
    (weights_of o).switch * change_after o d rung + (weights_of o).stall * (wait - d.level)

-- what one more rung adds to the score
abbrev pub gain_of : Lookahead → Draft → ℕ → ℤ
gain_of o d rung = pos (1000 * utility_of (weights_of o) (segment_after o d) rung) -ℤ pos (loss_of o d rung (wait_of o d rung))

-- the list in hand with one more rung
unfoldable pub extended : Lookahead → Draft → ℕ → Draft
extended o d rung = record {
  first = (if d.count == 0 then rung else d.first);
  before = Some rung;
  count = d.count + 1;
  level = next_level o.film o.setup.buffer_ms d.level (wait_of o d rung);
  score = d.score +ℤ gain_of o d rung;
}

-- the list in hand completed by so many rungs, in lexicographic order
unfoldable pub completions : Lookahead → ℕ → Draft → List Draft
completions o zero d = d ∷ []
completions o (suc n) d = flat_map (λ rung. completions o n (extended o d rung)) (rungs_below (ladder_of o))

-- the list that is kept of two: the first, unless the second has a greater score
abbrev pub better : Option Draft → Draft → Option Draft
better None d = Some d
better (Some best) d = Some (if int_lt best.score d.score then d else best)

-- the list that is kept after all completions, in order
abbrev pub best_after : Lookahead → ℕ → Draft → Option Draft → Option Draft
best_after o n d best = fold better best (completions o n d)

-- the first rung of a list that is kept, 0 where there is none
abbrev pub first_rung : Option Draft → ℕ
first_rung None = 0
first_rung (Some d) = d.first

-- the first rung of the first list with the greatest horizon score, of those as long as the look ahead
abbrev pub best_rung : Lookahead → ℕ
best_rung o =
    let c = o.context in slice_index (best_list (horizon_score o.film o.setup o.rate c.next c.level c.last) (lists_of (ladder_of o) o.span)) 0

-- how many rungs more make a list in hand a whole one
abbrev pub rungs_left : Lookahead → Draft → ℕ
rungs_left o d = o.span - d.count

-- a list in hand is at most as long as the look ahead, and its level and its score lie within their limits
pub record IsDraft (o : Lookahead) (d : Draft) : Type 0 where
  pub count : d.count ≤ o.span
  pub before : IfSome d.before (λ rung. rung < ladder_of o)
  pub level : d.level ≤ room_of o
  pub least : pos 0 ≤ℤ (d.score +ℤ pos (200001000000000000 * d.count))
  pub most : d.score ≤ℤ pos (1000000000 * d.count)

-- this is foretold of a segment on a rung, within limits
pub record IsForetold (o : Lookahead) (segment rung : ℕ) (t : Foretold) : Type 0 where
  pub value : t ≡ foretold_at o segment rung
  pub wait : t.wait ≤ 200000000000
  pub utility : t.utility ≤ 1000000

-- the first places of a row are what is foretold of a segment
abbrev pub IsForetoldRow : Lookahead → ℕ → List Foretold → Type 0
IsForetoldRow o segment row = (rung : ℕ) (d : Foretold) → rung < ladder_of o → IsForetold o segment rung (slice_index_or row rung d)

-- the first rows of a table are what is foretold of the segments that are looked at
abbrev pub IsForetoldTable : Lookahead → Table → Type 0
IsForetoldTable o t = (k : ℕ) (d : List Foretold) → k < o.span → IsForetoldRow o (o.context.next + k) (slice_index_or t.rows k d)

-- this is foretold on a rung of the segment after so many
abbrev pub IsTold : Lookahead → ℕ → ℕ → Foretold → Type 0
IsTold o count rung t = IsForetold o (o.context.next + count) rung t

-- a list is a whole one: it is one of those as long as the look ahead
pub record IsWholeDraft (o : Lookahead) (d : Draft) : Type 0 where
  pub list : Contains (completions o o.span (start_of o)) d
  pub draft : IsDraft o d

-- a list in hand is the beginning, so many rungs long, of whole lists
pub record IsPart (o : Lookahead) (done : ℕ) (d : Draft) : Type 0 where
  pub count : d.count ≡ done
  pub draft : IsDraft o d
  pub lists : (e : Draft) → Contains (completions o (o.span - done) d) e
      → Contains (completions o o.span (start_of o)) e
