use Rattle.std.proofs.Common.{arith}
use Rattle.std.proofs.lemmas.Int.{clamps, ints}
use Rattle.session_report.proofs.Sums.{bests_within, regrets_within, scores_within, stands_more, worst_within}
use Rattle.session_report.proofs.regret.Total.add.Goals as goal

pub overflow_add-self : goal.overflow_add-self
overflow_add-self c =
    let stands = c.requires.list.1 in
    let within = scores_within c.requires.list.0 stands.near in
    omega (arith, ints)

pub overflow_add-self-2 : goal.overflow_add-self-2
overflow_add-self-2 c =
    let stands = c.requires.list.1 in
    let within = bests_within c.requires.list.0 stands.near in
    omega (arith, ints)

pub overflow_add-self-3 : goal.overflow_add-self-3
overflow_add-self-3 c =
    let stands = c.requires.list.1 in
    let within = regrets_within c.requires.list.0 stands.near in
    omega (arith, ints)

pub returns : goal.returns
returns c = λ ps stands.
    let scores = scores_within ps stands.near in
    let bests = bests_within ps stands.near in
    let regrets = regrets_within ps stands.near in
    let worst = worst_within ps stands.near in
    stands_more ps _ _ c.args.self.now _ c.requires.pair (omega arith) stands (omega (arith, ints)) (omega (arith, ints)) (omega (arith, ints)) (omega (arith, ints, clamps)) (omega arith)
