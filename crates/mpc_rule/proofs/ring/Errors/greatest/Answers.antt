use Rattle.std.proofs.Common.{◌≡◌, rules, arith}
use Rattle.lab_model.specs.Rates.{greatest}
use Rattle.mpc_rule.proofs.History.{greatest_most}
use Rattle.mpc_rule.proofs.ring.Errors.greatest.Goals as goal

pub returns-clause-limit : goal.returns-clause-limit
returns-clause-limit c =
    let value : c.fold.result ≡ greatest c.self.inside.ring.items = search rules in
    let most = greatest_most 10000000000000 c.self.inside.ring.items c.self.invariant.numbers in
    omega (arith, value, most)
