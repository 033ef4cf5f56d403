use Rattle.std.proofs.Common.{rules, ◌≡◌, ◌∙◌, ◌+◌, ℕ, get_or, ap, length, sym, arith, of_z, to_z}
use Rattle.std.specs.Int.{w64}
use Rattle.std.specs.Prelude.{ℤ}
use Rattle.std.proofs.lemmas.List.{length-map}
use Rattle.frontier_planner.specs.declared.thin.Followed.{Followed}
use Rattle.frontier_planner.specs.Linked.{no_reached, pair_of}
use Rattle.labels.specs.Labels.{request_at}
use Rattle.frontier_planner.proofs.Thinned.{waiting_more}
use Rattle.frontier_planner.proofs.thin.waiting_labels.Goals as goal

pub loop-old-init : goal.loop-old-init
loop-old-init c = record { count = ap length c.in_ok-waits.ensures.items; each = λ k low. absurd (omega (arith, low)) }

pub loop-old-preserved : goal.loop-old-preserved
loop-old-preserved c =
    let n = c.loop-old.old-index in
    let old = get_or c.args.before.now n no_reached in
    let so = c.loop-old.invariant in
    let long = c.len-place.ensures in
    let ok = c.loop-old.waits.ok.0 in
    let count = so.count in
    let place : n ≡ c.len-place.result = omega (arith, long, ok, count) in
    let value : to_z w64 (of_z w64 old.label.v) ≡ old.label.v = search rules in
    let b = c.label_before-here.result in
    let g = c.args.brief.now.scene in
    let asked = c.request-request.ensures.value ∙ ap (λ s. request_at s (b.segment + 1) b.label) c.label_before-here.ensures.scene ∙ ap (λ n. request_at g n b.label) c.label_before-here.ensures.next ∙ ap (request_at g c.args.segment) c.label_before-here.ensures.label in
    let more = waiting_more c.args.brief.now.scene c.args.segment n c.args.before.now c.loop-old.waits.items c.push.new.self.items _ c.loop-old-test.true so.count so.each c.in_ok-push.ensures.items
    (ap (λ (t : ℕ). let f : Followed = record { rung = old.rung; label = record { t = t; p = old.label.p; v = old.label.v }; place = n } in f) (sym asked)
    ∙ ap (λ (m : ℕ). let f : Followed = record { rung = old.rung; label = record { t = c.request-request.result; p = old.label.p; v = old.label.v }; place = m } in f) place
    ∙ ap (λ (v : ℤ). let f : Followed = record { rung = old.rung; label = record { t = c.request-request.result; p = old.label.p; v = v }; place = c.len-place.result } in f) (sym value)) in
    record { count = more.0; each = more.1 }

pub returns : goal.returns
returns c =
    let late = c.loop-old-test.false in
    let within = c.loop-old.auto.old-index-end in
    let count = c.loop-old.invariant.count in
    let long = length-map c.args.before.now pair_of in
    record { count = omega (arith, late, within, count, long); each = λ k low. c.loop-old.invariant.each k (omega (arith, late, long, low)) }
