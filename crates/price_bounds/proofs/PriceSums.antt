-- The sums of windows' prices, window by window.
use Rattle.std.proofs.Common.{◌≡◌, ◌∙◌, ℕ, ◌+◌, ◌*◌, ◌≤◌, ◌<◌, List, [], ◌∷◌, length, take, get_or, Bool, true, false, cond, refl, sym, ap, arith}
use Rattle.std.specs.Prelude.{◌==◌, if◌then◌else◌}
use Rattle.std.specs.List.{All, sum_by}
use Rattle.std.proofs.lemmas.Bool.{cond_both}
use Rattle.std.proofs.lemmas.List.Elements.{All-head, All-tail}
use Rattle.std.proofs.lemmas.List.Sums.{sum_by-cons}
use Rattle.price_bounds.specs.declared.window.Window.{Window}
use Rattle.price_bounds.specs.Windows.{AreCheap, AreWindows, CanBound, IsWindow, has_segment, most_price, price_ending, price_of}

-- the prices of the windows that pass a test
abbrev pub price_where : (Window → Bool) → List Window → ℕ
price_where test ws = sum_by (λ w. if test w then w.price else 0) ws

-- where each is at most the greatest price, all of them are at most as many of it
pub where_low : (test : Window → Bool) (ws : List Window) → All (λ w. w.price ≤ most_price) ws → price_where test ws ≤ length ws * most_price
where_low test [] h = omega arith
where_low test (w ∷ ws) h =
    let rest = where_low test ws (All-tail (λ (v : Window). v.price ≤ most_price) w ws h) in
    let here = All-head (λ (v : Window). v.price ≤ most_price) w ws h in
    let parts = sum_by-cons (λ (v : Window). if test v then v.price else 0) w ws in
    let own : (if test w then w.price else 0) ≤ w.price = cond_both (test w) w.price 0 (λ n. n ≤ w.price) (λ _. omega arith) (λ _. omega arith) in
    omega (arith, rest, here, parts, own)

-- windows of which a bound is reckoned are cheap
pub are_cheap : (segments : ℕ) (ws : List Window) → CanBound segments ws → AreCheap ws
are_cheap segments ws h = record { few = h.few; prices = λ i d low. (h.windows i d low).price.1 }

-- so the price of a segment fits
pub each_price : (segments : ℕ) (ws : List Window) → CanBound segments ws → (i : ℕ) → price_of ws i ≤ 4000000000000000
each_price segments ws h i =
    let all = where_low (λ w. has_segment w i) ws (are_cheap segments ws h).prices in
    let few = h.few in
    omega (arith, all, few)

-- and that of the windows that end with it
pub ending_price : (segments : ℕ) (ws : List Window) → CanBound segments ws → (i : ℕ) → price_ending ws i ≤ 4000000000000000
ending_price segments ws h i =
    let all = where_low (λ w. w.last == i) ws (are_cheap segments ws h).prices in
    let few = h.few in
    omega (arith, all, few)
