use Rattle.std.proofs.Common.{◌+◌, ◌<◌, ◌∙◌, ℕ, List, length, length-set, subst, arith}
use Rattle.mpc_rule.specs.declared.outlook.Foretold.{Foretold}
use Rattle.mpc_rule.specs.Lookahead.{Lookahead}
use Rattle.mpc_rule.specs.Search.{IsForetoldRow}
use Rattle.mpc_rule.proofs.Places.{filled_more}
use Rattle.mpc_rule.proofs.outlook.Outlook.table.Goals as goal

pub loop-k-preserved : goal.loop-k-preserved
loop-k-preserved c =
    let o = c.args.self.now in
    let row = subst (λ (x : Lookahead). IsForetoldRow o (x.context.next + c.loop-k.k) c.row.result) c.self.view_is c.row.ensures in
    let room : c.loop-k.k < length c.loop-k.rows = omega arith in
    record {
      places = length-set c.loop-k.rows c.loop-k.k c.row.result ∙ c.loop-k.invariant.places;
      filled = filled_more (λ (k : ℕ) (row : List Foretold). IsForetoldRow o (o.context.next + k) row) c.loop-k.rows c.loop-k.k c.row.result room c.loop-k.invariant.filled row;
    }
