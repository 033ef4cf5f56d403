use Rattle.std.proofs.Common.{◌≡◌, ◌∙◌, ◌+◌, ◌-◌, ◌*◌, ◌==◌, ap, arith}
use Rattle.std.specs.Prelude.{if◌then◌else◌}
use Rattle.std.proofs.lemmas.Int.{ints}
use Rattle.lab_model.specs.Weighing.{utility_of}
use Rattle.mpc_rule.specs.declared.outlook.Foretold.{Foretold}
use Rattle.mpc_rule.specs.Lookahead.{weights_of}
use Rattle.mpc_rule.specs.Search.{gain_of, loss_of, segment_after, wait_of}
use Rattle.mpc_rule.proofs.Drafts.{IsGain, draft_grows, extended_is, first_kept, first_new, loss_most}
use Rattle.mpc_rule.proofs.forecast.Forecast.with_rung.Goals as goal
use Rattle.mpc_rule.proofs.forecast.Forecast.with_rung.Goals.{then-draft-eq0, else-draft-eq0}

pub overflow_sub-gain : goal.overflow_sub-gain
overflow_sub-gain c =
    let most = loss_most c.switch_weight.result c.change-change.result c.stall_weight.result c.saturating_sub-stall.result (omega arith) (omega arith) (omega arith) (omega arith) in
    omega (arith, ints, most)

pub overflow_add-result-2 : goal.overflow_add-result-2
overflow_add-result-2 c =
    let most = loss_most c.switch_weight.result c.change-change.result c.stall_weight.result c.saturating_sub-stall.result (omega arith) (omega arith) (omega arith) (omega arith) in
    omega (arith, ints, most)

pub returns-clause-value : goal.returns-clause-value
returns-clause-value c =
    let o = c.args.self.now in let d = c.args.draft in let r = c.args.rung in
    let most = loss_most c.switch_weight.result c.change-change.result c.stall_weight.result c.saturating_sub-stall.result (omega arith) (omega arith) (omega arith) (omega arith) in
    let wait : c.foretold-told.result.wait ≡ wait_of o d r = ap (λ (t : Foretold). t.wait) c.foretold-told.ensures.value in
    let utility : c.foretold-told.result.utility ≡ utility_of (weights_of o) (segment_after o d) r = ap (λ (t : Foretold). t.utility) c.foretold-told.ensures.value in
    let late : c.saturating_sub-stall.result ≡ wait_of o d r - d.level = omega (arith, wait) in
    let loss : c.switch_weight.result * c.change-change.result + c.stall_weight.result * c.saturating_sub-stall.result ≡ loss_of o d r (wait_of o d r) =
    λ i. c.switch_weight.ensures.value i * c.change-change.ensures.value i + c.stall_weight.ensures.value i * late i in
    let first : c.if-draft-eq0.result ≡ (if d.count == 0 then r else d.first) = elim c.if-draft-eq0.branch [
      | then-draft-eq0 w ↦ w.result-is ∙ first_new d.count r d.first w.if-draft-eq0.true
      | else-draft-eq0 w ↦ let some = w.if-draft-eq0.false in w.result-is ∙ first_kept d.count r d.first (omega (arith, some))
    ] in
    extended_is o d r _ _ _ first (omega (arith, wait)) (omega (arith, ints, most, utility, loss))

pub returns-clause-draft : goal.returns-clause-draft
returns-clause-draft c =
    let o = c.args.self.now in let d = c.args.draft in let r = c.args.rung in
    let most = loss_most c.switch_weight.result c.change-change.result c.stall_weight.result c.saturating_sub-stall.result (omega arith) (omega arith) (omega arith) (omega arith) in
    let wait : c.foretold-told.result.wait ≡ wait_of o d r = ap (λ (t : Foretold). t.wait) c.foretold-told.ensures.value in
    let utility : c.foretold-told.result.utility ≡ utility_of (weights_of o) (segment_after o d) r = ap (λ (t : Foretold). t.utility) c.foretold-told.ensures.value in
    let late : c.saturating_sub-stall.result ≡ wait_of o d r - d.level = omega (arith, wait) in
    let loss : c.switch_weight.result * c.change-change.result + c.stall_weight.result * c.saturating_sub-stall.result ≡ loss_of o d r (wait_of o d r) =
    λ i. c.switch_weight.ensures.value i * c.change-change.ensures.value i + c.stall_weight.ensures.value i * late i in
    let gain : IsGain (gain_of o d r) = record {
      least = omega (arith, ints, most, utility, loss);
      most = omega (arith, ints, most, utility, loss);
    } in
    draft_grows o d r _ _ _ (omega (arith, wait)) (omega (arith, ints, most, utility, loss)) c.requires.rung (omega arith) gain c.requires.room c.requires.draft
