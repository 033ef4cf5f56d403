use Rattle.std.proofs.Common.{◌≡◌, ◌≤◌, ◌∙◌, ◌++◌, ◌∷◌, [], Option, ℕ, ap, ◌-◌, length, length-append, arith}
use Rattle.std.specs.Option.{unwrap_or}
use Rattle.std.proofs.lemmas.List.{length-drop}
use Rattle.std.proofs.lemmas.List.Elements.{All-drop, All-push}
use Rattle.lab_model.specs.Rates.{last_of}
use Rattle.throughput_rule.proofs.Sums.{gone, sum_kept, sum_within}
use Rattle.throughput_rule.proofs.window.Window.push.Goals as goal

pub overflow_add-self : goal.overflow_add-self
overflow_add-self c =
    let most = sum_within c.self.inside.ring.items c.self.invariant.2 in
    omega (arith, most, c.self.invariant.0, c.self.invariant.1, c.self.invariant.3, c.args.s.high)

pub invariant_of-self : goal.invariant_of-self
invariant_of-self c =
    let w = c.self.inside.ring.capacity in
    let xs = c.self.inside.ring.items in
    let told = xs ++ c.args.s.rate ∷ [] in
    let more = length-append xs (c.args.s.rate ∷ []) in
    let left = length-drop (length told - w) told in
    let fits : length (last_of w told) ≤ w = omega (arith, more, left) in
    let oldest : c.unwrap_or-oldest.result ≡ gone w xs c.args.s.rate = c.unwrap_or-oldest.ensures ∙ ap (λ (o : Option ℕ). unwrap_or o 0) c.push_back.ensures.value in
    let kept = sum_kept w c.args.s.rate xs c.self.invariant.0.0 c.self.invariant.1 in
    rw c.push_back.ensures.items (
      c.self.invariant.0,
      fits,
      All-drop (λ x. x ≤ 10000000000) (length told - w) told (All-push (λ x. x ≤ 10000000000) xs c.args.s.rate c.self.invariant.2 c.args.s.high),
      omega (arith, oldest, kept, c.self.invariant.3),
    )
