-- The prices of segments' bits, window by window.
use Rattle.std.proofs.Common.{◌≡◌, ◌∙◌, ℕ, ◌+◌, ◌*◌, List, [], ◌∷◌, Bool, true, false, refl, sym, ap, arith}
use Rattle.std.specs.Prelude.{if◌then◌else◌}
use Rattle.std.specs.List.{sum_by}
use Rattle.std.proofs.lemmas.Bool.{cond_both, false≢true}
use Rattle.std.proofs.lemmas.List.Sums.{sum_by-cons}
use Rattle.lab_model.specs.declared.context.Played.{Played}
use Rattle.lab_model.specs.Film.{size_of}
use Rattle.player_core.specs.Scene.{Task}
use Rattle.price_bounds.specs.declared.window.Window.{Window}
use Rattle.price_bounds.specs.ListPart.{priced_bits}
use Rattle.price_bounds.specs.Windows.{has_segment, price_of}

-- the bits of a played segment, where a window has it
abbrev pub bits_of : Task → Window → Played → ℕ
bits_of g w p = if has_segment w p.segment then size_of g.film p.segment p.rung else 0

-- the bits of the played segments that a window has
abbrev pub bits_in : Task → Window → List Played → ℕ
bits_in g w ps = sum_by (bits_of g w) ps

-- the price of a segment, one window more
pub price_more : (w : Window) (ws : List Window) (segment : ℕ) → price_of (w ∷ ws) segment ≡ (if has_segment w segment then w.price else 0) + price_of ws segment
price_more w ws segment = sum_by-cons (λ (v : Window). if has_segment v segment then v.price else 0) w ws

clash : {P : Type 0} {b : Bool} → b ≡ true → b ≡ false → P
clash is isnt = absurd (false≢true (sym isnt ∙ is))

price_bits : (has : Bool) (price size : ℕ) → (if has then price else 0) * size ≡ price * (if has then size else 0)
price_bits has price size =
    cond_both has price 0 (λ p. p * size ≡ price * (if has then size else 0))
    (λ is. cond_both has size 0 (λ s. price * size ≡ price * s) (λ _. refl) (λ isnt. clash is isnt))
    (λ isnt. cond_both has size 0 (λ s. 0 * size ≡ price * s) (λ is. clash is isnt) (λ _. omega arith))

share : (own price size taken bits rest other : ℕ) → own * size ≡ price * taken → (own + other) * size + (price * bits + rest) ≡ price * (taken + bits) + (other * size + rest)
share own price size taken bits rest other e = omega (arith, e)

module _ (g : Task) where
  -- without windows nothing is priced
  pub priced_none : (ps : List Played) → priced_bits g [] ps ≡ 0
  priced_none [] = refl
  priced_none (p ∷ ps) = sum_by-cons (λ (q : Played). price_of [] q.segment * size_of g.film q.segment q.rung) p ps ∙ (let rest = priced_none ps in omega (arith, rest))

  -- one window more prices the bits that it has
  pub priced_more : (w : Window) (ws : List Window) (ps : List Played) → priced_bits g (w ∷ ws) ps ≡ w.price * bits_in g w ps + priced_bits g ws ps
  priced_more w ws [] = omega arith
  priced_more w ws (p ∷ ps) =
      let size = size_of g.film p.segment p.rung in
      let own = if has_segment w p.segment then w.price else 0 in
      let all = sum_by-cons (λ (q : Played). price_of (w ∷ ws) q.segment * size_of g.film q.segment q.rung) p ps in
      let rest = priced_more w ws ps in
      let bits = sum_by-cons (bits_of g w) p ps in
      let others = sum_by-cons (λ (q : Played). price_of ws q.segment * size_of g.film q.segment q.rung) p ps in
      let price = price_more w ws p.segment in
      let parts = share own w.price size (bits_of g w p) (bits_in g w ps) (priced_bits g ws ps) (price_of ws p.segment) (price_bits (has_segment w p.segment) w.price size) in
      all ∙ ap (λ n. n * size + priced_bits g (w ∷ ws) ps) price ∙ ap (λ n. (own + price_of ws p.segment) * size + n) rest ∙ parts
      ∙ sym (ap (λ n. w.price * n + priced_bits g ws (p ∷ ps)) bits ∙ ap (λ n. w.price * (bits_of g w p + bits_in g w ps) + n) others)
