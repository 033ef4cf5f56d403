use Rattle.std.proofs.Common.{◌∙◌, ap, length, set, sym}
use Rattle.std.proofs.lemmas.List.Edits.{map_over_more}
use Rattle.throughput_rule.specs.Windows.{window_after}
use Rattle.throughput_rule.proofs.Loops.{all_written}
use Rattle.throughput_rule.proofs.rule.tell.Goals as goal

pub loop-window-init : goal.loop-window-init
loop-window-init c = c.deref_mut-window-items.ensures.value

pub loop-window-preserved : goal.loop-window-preserved
loop-window-preserved c =
    ap (λ k. set c.loop-window.window-items c.loop-window.window-index k) (c.push.ensures ∙ ap (window_after c.args.s.rate) (sym c.window-item.is))
    ∙ map_over_more (window_after c.args.s.rate) c.args.windows.now.items c.loop-window.window-items c.loop-window.window-index c.window-item.result
    (rw c.deref_mut-window-items.ensures.value at c.loop-window-test.true) c.loop-window.invariant c.window-item.is

pub returns : goal.returns
returns c =
    all_written (window_after c.args.s.rate) c.args.windows.now.items c.loop-window.window-items c.loop-window.window-index _ c.loop-window.invariant
    (rw c.deref_mut-window-items.ensures.value at c.loop-window-test.false) (sym c.deref_mut-window-items.ensures.len ∙ ap length c.deref_mut-window-items.ensures.value)
