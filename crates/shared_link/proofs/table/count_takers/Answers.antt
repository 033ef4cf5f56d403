use Rattle.std.proofs.Common.{◌≡◌, ◌∙◌, true, false, sym, arith}
use Rattle.shared_link.proofs.Takers.{takers_more, takers_none}
use Rattle.shared_link.proofs.table.count_takers.Goals as goal
use Rattle.shared_link.proofs.table.count_takers.Goals.{then-takes_bits, else-takes_bits}

pub loop-body-init : goal.loop-body-init
loop-body-init c = record { few = omega arith; takers = λ ps stand. sym (takers_none c.args.period ps) }

pub loop-body-preserved : goal.loop-body-preserved
loop-body-preserved c =
    let h = c.loop-body.invariant in
    let few = h.few in
    elim c.if-takes_bits.branch [
      | then-takes_bits w ↦ let now = w.takers-is in record {
        few = omega (arith, few, now);
        takers = λ ps stand.
            let yes : c.takes_bits.result ≡ true = w.if-takes_bits.true in
            let more = takers_more c.args.period ps c.args.bodies.now c.loop-body.body-index c.body-item.result true stand c.loop-body-test.true c.body-item.is (λ history. sym yes ∙ c.takes_bits.ensures history) in
            let before = h.takers ps stand in
            omega (arith, now, before, more);
      }
      | else-takes_bits w ↦ let now = w.takers-is in record {
        few = omega (arith, few, now);
        takers = λ ps stand.
            let no : c.takes_bits.result ≡ false = w.if-takes_bits.false in
            let more = takers_more c.args.period ps c.args.bodies.now c.loop-body.body-index c.body-item.result false stand c.loop-body-test.true c.body-item.is (λ history. sym no ∙ c.takes_bits.ensures history) in
            let before = h.takers ps stand in
            omega (arith, now, before, more);
      }
    ]
