-- Sessions end.
use Rattle.std.proofs.Common.{◌≡◌, ℕ, zero, suc, ◌+◌, ◌*◌, ◌<◌, ◌≤◌, ◌⊎◌, inl, inr, Bool, true, false, sym, ◌∙◌, ap, length, mul-le-mul_left, mul-le-mul_right, add-one, ⊎_elim, arith}
use Rattle.std.proofs.lemmas.Bool.{cases_Bool, cases_eq, false_from_ne_true, true≢false}
use Rattle.lab_model.specs.Film.{segments_of}
use Rattle.network_clock.proofs.Search.{least_before, least_found, least_is}
use Rattle.player_core.specs.Limits.{latest_ms}
use Rattle.player_core.specs.State.{Case, Player, first_player}
use Rattle.player_core.specs.Parts.{instant, is_ended, pass_ms}
use Rattle.player_core.specs.Session.{end_of, ends_at, last_player, player_after}
use Rattle.player_core.specs.Sound.{IsCase, Sound, turns_left}
use Rattle.player_core.proofs.Counts.{begun_most}
use Rattle.player_core.proofs.Soundness.{pass_sound}
use Rattle.player_core.proofs.Players.{instant_any_sound, instant_sound, instant_t, player_next, player_sound, start_sound}
use Rattle.player_core.proofs.Moves.{Moved, instant_moves}
use Rattle.player_core.proofs.Waits.{instant_still, pass_turns, waits_few, waits_less, waits_ms}

-- more milliseconds than a session still lasts
abbrev pub stay_ms : (c : Case) → IsCase c → ℕ → Player → ℕ
stay_ms c is from p = (is.longest + 10001) * turns_left c from p + waits_ms c p

-- one turn fewer is worth any wait
stride_less : (stride fewer turns wait before : ℕ) → fewer + 1 ≤ turns → wait < stride → (stride * fewer + wait) + 1 ≤ stride * turns + before
stride_less stride fewer turns wait before less low = let most = mul-le-mul_left stride less in omega (arith, most, low)

-- ---- each millisecond takes one

module _ (c : Case) (is : IsCase c) (n : ℕ) where
  stay_from : (p q : Player) → Moved c n p (n + 1) q → Sound c (n + 1) (pass_ms c q) → turns_left c (n + 1) (pass_ms c q) ≡ turns_left c (n + 1) q → waits_ms c (pass_ms c q) + 1 ≤ waits_ms c q
      → stay_ms c is (n + 1) (pass_ms c q) + 1 ≤ stay_ms c is n p
  stay_from p q (inl less) later same fewer =
      let few = waits_few c is (n + 1) (pass_ms c q) later in
      stride_less (is.longest + 10001) (turns_left c (n + 1) (pass_ms c q)) (turns_left c n p) (waits_ms c (pass_ms c q)) (waits_ms c p) (omega (arith, less, same)) (omega (arith, few))
  stay_from p q (inr stays) later same fewer =
      let waits = ap (waits_ms c) stays.0 in
      let most = stays.1 in
      let turns = mul-le-mul_left (is.longest + 10001) (let m : turns_left c (n + 1) (pass_ms c q) ≤ turns_left c n p = omega (arith, most, same) in m) in
      omega (arith, waits, turns, fewer)

  stay_less : (p : Player) → p.t ≡ n → Sound c n p → is_ended (instant c p).mode ≡ false → stay_ms c is (n + 1) (pass_ms c (instant c p)) + 1 ≤ stay_ms c is n p
  stay_less p e h goes =
      let both = instant_sound c is n p e h goes in
      stay_from p (instant c p) (instant_moves c is n p e h goes) (pass_sound c is (n + 1) (instant c p) both.0 both.1 goes) (pass_turns c is (n + 1) (instant c p) both.0 (n + 1))
      (waits_less c is (n + 1) (instant c p) both.0 both.1 (instant_still c p goes) goes)

-- the player is sound and stays no longer than was left
stays : (c : Case) (is : IsCase c) (n : ℕ) → ((k : ℕ) → k < n → ends_at c k ≡ false) → n + stay_ms c is n (player_after c n) ≤ stay_ms c is 0 first_player
unfolding player_after
stays c is zero goes = omega arith
stays c is (suc n) goes =
    let before = stays c is n (λ k low. goes k (omega arith)) in
    let sound = player_sound c is n (λ k low. goes k (omega arith)) in
    let on = goes n (omega arith) in
    let less = stay_less c is n (player_after c n) sound.1 sound.0 on in
    let next = ap (λ p. stay_ms c is (suc n) p) (player_next c n on) in
    let one = ap (λ k. stay_ms c is k (pass_ms c (instant c (player_after c n)))) (add-one n) in
    omega (arith, before, less, next, one)

stay_few : (c : Case) (is : IsCase c) → stay_ms c is 0 first_player < latest_ms
stay_few c is =
    let start = start_sound c is in
    let few = waits_few c is 0 first_player start in
    omega (arith, few, is.lasts)

-- ---- a search goes through the instants

searched_more : (test : ℕ → Bool) (n : ℕ) → ((k : ℕ) → k < n → test k ≡ false) → (test n ≡ true) ⊎ (test n ≡ false) → ((k : ℕ) × (k < suc n) × (test k ≡ true)) ⊎ ((k : ℕ) → k < suc n → test k ≡ false)
searched_more test n none (inl here) = inl (n, omega arith, here)
searched_more test n none (inr not_here) =
    inr (λ k low. ⊎_elim (λ (e : k ≡ n). ap test e ∙ not_here) (λ (other : k ≡ n → ⊥). none k (omega (arith, low, other))) (cases_eq k n))

searched_next : (test : ℕ → Bool) (n : ℕ) → ((k : ℕ) × (k < n) × (test k ≡ true)) ⊎ ((k : ℕ) → k < n → test k ≡ false) → ((k : ℕ) × (k < suc n) × (test k ≡ true)) ⊎ ((k : ℕ) → k < suc n → test k ≡ false)
searched_next test n (inl found) = let low = found.1 in inl (found.0, omega (arith, low), found.2)
searched_next test n (inr none) = searched_more test n none (cases_Bool (test n))

-- a test passes below a number, or it fails everywhere below it
searched : (test : ℕ → Bool) (n : ℕ) → ((k : ℕ) × (k < n) × (test k ≡ true)) ⊎ ((k : ℕ) → k < n → test k ≡ false)
searched test zero = inr (λ k low. absurd (omega arith))
searched test (suc n) = searched_next test n (searched test n)

ends_by : (c : Case) (is : IsCase c) (n : ℕ) → stay_ms c is 0 first_player < n → ((k : ℕ) × (k < n) × (ends_at c k ≡ true)) ⊎ ((k : ℕ) → k < n → ends_at c k ≡ false) → (k : ℕ) × (k < n) × (ends_at c k ≡ true)
ends_by c is n late (inl found) = found
ends_by c is n late (inr none) = let most = stays c is n none in absurd (omega (arith, late, most))

-- the law: a session within the limits ends
pub sessions_end : (c : Case) → IsCase c → (n : ℕ) × (n < latest_ms) × (ends_at c n ≡ true)
sessions_end c is = ends_by c is latest_ms (stay_few c is) (searched (ends_at c) latest_ms)

-- ---- the first ended instant

-- at its end a session has ended
pub end_found : (c : Case) → IsCase c → ends_at c (end_of c) ≡ true
unfolding end_of
end_found c is = let last = sessions_end c is in (least_found latest_ms (ends_at c) last.0 last.1 last.2).1

-- it ends before the latest instant
pub end_early : (c : Case) → IsCase c → end_of c < latest_ms
unfolding end_of
end_early c is =
    let last = sessions_end c is in
    let most = (least_found latest_ms (ends_at c) last.0 last.1 last.2).0 in
    let low = last.1 in
    omega (arith, most, low)

-- at no instant before its end it has ended
pub end_before : (c : Case) (k : ℕ) → k < end_of c → ends_at c k ≡ false
unfolding end_of
end_before c k low = false_from_ne_true (ends_at c k) (least_before latest_ms (ends_at c) k low)

-- an instant at which it has ended, where it has at none before, is its end
pub end_is : (c : Case) (n : ℕ) → n < latest_ms → ends_at c n ≡ true → ((k : ℕ) → k < n → ends_at c k ≡ false) → n ≡ end_of c
unfolding end_of
end_is c n low here before = least_is latest_ms (ends_at c) n low here (λ k early passes. true≢false (sym passes ∙ before k early))

-- ---- the player at the end

-- the player at the end is at its instant
pub last_t : (c : Case) → IsCase c → (last_player c).t ≡ end_of c
unfolding last_player
last_t c is = instant_t c (player_after c (end_of c)) ∙ (player_sound c is (end_of c) (end_before c)).1

-- the player at the end is sound
pub last_sound : (c : Case) → IsCase c → (from : ℕ) × Sound c from (last_player c)
unfolding last_player
last_sound c is =
    let sound = player_sound c is (end_of c) (end_before c) in
    instant_any_sound c is (end_of c) (player_after c (end_of c)) sound.1 sound.0

-- at most so many segments are played
pub played_bound : (c : Case) → IsCase c → (from : ℕ) (p : Player) → Sound c from p → length p.played ≤ 34000
played_bound c is from p h =
    let n = segments_of c.film in
    let position = h.position in
    let end = h.loaded_end in
    let whole = mul-le-mul_right c.film.seg_ms h.next in
    let before = begun_most c.film p.x n is.film.seg_ms.0 (omega (arith, position, end, whole)) in
    let begun = h.begun in
    let count = is.film.segments.1 in
    omega (arith, before, begun, count)
