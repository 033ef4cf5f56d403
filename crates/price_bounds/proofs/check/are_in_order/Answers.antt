use Rattle.price_bounds.proofs.Verdicts.{order_test}
use Rattle.price_bounds.proofs.check.are_in_order.Goals as goal

pub returns-then-windows-le-MOST_WINDOWS : goal.returns-then-windows-le-MOST_WINDOWS
returns-then-windows-le-MOST_WINDOWS c =
    order_test c.args.segments c.args.windows.now c.bad_window.result c.is_none.result c.if-windows-le-MOST_WINDOWS.true c.bad_window.ensures c.is_none.ensures
