use Rattle.std.proofs.Common.{◌≡◌, ◌∙◌, ◌-◌, Some, ap, sym, arith, ℕ, suc}
use Rattle.std.specs.Prelude.{fold}
use Rattle.std.specs.List.{flat_map}
use Rattle.std.proofs.lemmas.Int.{ints}
use Rattle.lab_model.specs.Ladder.{rungs_below}
use Rattle.mpc_rule.specs.declared.forecast.Draft.{Draft}
use Rattle.mpc_rule.specs.Lookahead.{Lookahead, ladder_of}
use Rattle.mpc_rule.specs.Search.{best_after, better, completions, extended, rungs_left}
use Rattle.mpc_rule.proofs.Floors.{all_best, beats, kept_under, rungs_best, stays, whole_best}
use Rattle.mpc_rule.proofs.Parts.{left_extended}
use Rattle.mpc_rule.proofs.search.Search.+best_after.Goals as goal
use Rattle.mpc_rule.proofs.search.Search.+best_after.Goals.{then-could_beat, else-could_beat}

pub returns-then-best-draft : goal.returns-then-best-draft
returns-then-best-draft t c =
    let o = c.args.self.now in let d = c.args.draft in let best = c.args.best in
    let less = c.if-best-draft.true in
    let span = ap (λ (x : Lookahead). x.span) c.self.view_is in
    let none : rungs_left o d ≡ 0 = omega (arith, span) in
    rw none (sym (whole_best o d (Some best) ∙ beats best d (omega (arith, ints, less))))

pub returns-else-best-draft : goal.returns-else-best-draft
returns-else-best-draft t c =
    let o = c.args.self.now in let d = c.args.draft in let best = c.args.best in
    let less = c.if-best-draft.false in
    let span = ap (λ (x : Lookahead). x.span) c.self.view_is in
    let none : rungs_left o d ≡ 0 = omega (arith, span) in
    rw none (sym (whole_best o d (Some best) ∙ stays best d (omega (arith, ints, less))))

pub best_after-best-requires : goal.best_after-best-requires
best_after-best-requires t c =
    let o = c.args.self.now in
    let span = ap (λ (x : Lookahead). x.span) c.self.view_is in
    let fewer = left_extended o c.args.draft c.with_rung-longer.result c.loop-rung.rung (rw c.self.view_is at c.with_rung-longer.ensures.value) in
    (omega (arith, span, fewer), rw c.self.view_is at c.with_rung-longer.ensures.draft)

pub loop-rung-preserved : goal.loop-rung-preserved
loop-rung-preserved t c =
    let o = c.args.self.now in let n = rungs_left o c.args.draft - 1 in
    let longer = c.with_rung-longer.result in let best = c.loop-rung.best in
    let value = rw c.self.view_is at c.with_rung-longer.ensures.value in
    let fewer : rungs_left o longer ≡ n = left_extended o c.args.draft longer c.loop-rung.rung value in
    let next = ap (λ (d : Draft). best_after o n d (Some best)) value
    ∙ rungs_best o n c.args.draft (Some c.args.best) (Some best) c.loop-rung.rung c.loop-rung.invariant in
    elim c.if-could_beat.branch [
      | then-could_beat w ↦ ap Some w.best-is ∙ w.best_after-best.ensures ∙ ap (λ (k : ℕ). best_after o k longer (Some best)) fewer ∙ next
      | else-could_beat w ↦ ap Some w.best-is
          ∙ sym (kept_under best (completions o (rungs_left o longer) longer) (c.could_beat.ensures w.if-could_beat.false))
          ∙ ap (λ (k : ℕ). best_after o k longer (Some best)) fewer ∙ next
    ]

pub returns : goal.returns
returns t c =
    let o = c.args.self.now in let d = c.args.draft in let n = rungs_left o d - 1 in
    let span = ap (λ (x : Lookahead). x.span) c.self.view_is in
    let rungs = ap ladder_of c.self.view_is in
    let all : c.loop-rung.rung ≡ ladder_of o = omega (arith, rungs) in
    let same : suc n ≡ rungs_left o d = omega (arith, span) in
    c.loop-rung.invariant
    ∙ ap (λ (k : ℕ). fold better (Some c.args.best) (flat_map (λ q. completions o n (extended o d q)) (rungs_below k))) all
    ∙ all_best o n d (Some c.args.best) ∙ ap (λ (k : ℕ). best_after o k d (Some c.args.best)) same
