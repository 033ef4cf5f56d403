-- The numbers of a sound player are small, and what its end shows.
use Rattle.std.proofs.Common.{ℕ, ◌+◌, ◌<◌, ◌≤◌, length, mul-le-mul, arith}
use Rattle.lab_model.specs.Limits.{longest_film}
use Rattle.std.specs.List.{All}
use Rattle.lab_model.specs.Film.{rungs_of, segments_of, most_segments}
use Rattle.player_core.specs.State.{Case, Player}
use Rattle.player_core.specs.Session.{end_of, last_player}
use Rattle.player_core.specs.Sound.{IsCase, Sound, all_turns}
use Rattle.player_core.proofs.Ends.{last_sound, last_t, played_bound}

-- a session has at most 1152032 turns
pub turns_most : (c : Case) → IsCase c → all_turns c ≤ 1152032
turns_most c is = let count = is.film.segments.1 in omega (arith, count)

module _ (c : Case) (is : IsCase c) (from : ℕ) (p : Player) (h : Sound c from p) where
  -- what is loaded ends at 120000000 or before
  pub end_most : p.y ≤ longest_film
  end_most =
      let end = h.loaded_end in
      let next = h.next in
      let count = is.film.segments.1 in
      let most = mul-le-mul (let low : p.k ≤ most_segments = omega (arith, next, count) in low) is.film.seg_ms.1 in
      omega (arith, end, most)

  -- the position is at most 120000000
  pub position_most : p.x ≤ longest_film
  position_most = let most = end_most in let position = h.position in omega (arith, most, position)

  -- the next segment is at most 2000
  pub next_most : p.k ≤ most_segments
  next_most = let next = h.next in let count = is.film.segments.1 in omega (arith, next, count)

  -- at most 2000 segments are loaded
  pub loaded_most : length p.loaded ≤ most_segments
  loaded_most = let room = h.room in let next = next_most in omega (arith, room, next)

  -- at most 1152033 stalls were counted
  pub stalls_most : p.stalls ≤ 1152033
  stalls_most = let stalls = h.stalls in let turns = turns_most c is in omega (arith, stalls, turns)

  -- at most 230406400000000 bits were wasted
  pub wasted_small : p.wasted ≤ 230406400000000
  wasted_small = let wasted = h.wasted in let turns = turns_most c is in omega (arith, wasted, turns)

-- ---- the player at the end

module _ (c : Case) (is : IsCase c) where
  -- all that was played at the end is of a segment and a rung of the film
  pub last_rungs : All (λ q. (q.rung < rungs_of c.film) × (q.segment < segments_of c.film)) (last_player c).played
  last_rungs k d low = let of = (last_sound c is).1.played k d low in (of.of_rungs, of.of_segments)

  -- at the end at most 34000 segments were played
  pub last_count : length (last_player c).played ≤ 34000
  last_count = let sound = last_sound c is in played_bound c is sound.0 (last_player c) sound.1

  -- the milliseconds before the start, in stalls and in seeks are at most those up to the end
  pub last_times : (last_player c).startup_ms + (last_player c).stall_ms + (last_player c).seek_ms ≤ end_of c
  last_times = let times = (last_sound c is).1.times in let at = last_t c is in omega (arith, times, at)
