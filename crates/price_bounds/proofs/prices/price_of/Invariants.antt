use Rattle.std.proofs.Common.{◌≡◌, ◌*◌, ◌≤◌, take}
use Rattle.price_bounds.specs.Windows.{price_of}
use Rattle.price_bounds.proofs.prices.price_of.Given as goal

abbrev pub invariant-loop-w : goal.invariant-loop-w
invariant-loop-w l = record {
  so_far : l.sum ≡ price_of (take l.w-index l.windows) l.segment;
  limit : l.sum ≤ l.w-index * 1000000000000;
}
