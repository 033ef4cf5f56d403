use Rattle.std.proofs.Common.{false, refl, subst, true}
use Rattle.lab_words.specs.declared.Verb.TheVariants as verb
use Rattle.lab_words.specs.Command.{view}
use Rattle.abrlab_top.specs.Choice.{no_choice}
use Rattle.abrlab_top.specs.Demo.{demo_text}
use Rattle.abrlab_top.specs.Request.{IsRequest}
use Rattle.abrlab_top.specs.Stages.{row_by_row}
use Rattle.abrlab_top.proofs.Jointly.{simulate_ends}
use Rattle.abrlab_top.proofs.Whole.{alone_ends, check_ends, compare_ends, ends_by, plan_ends}
use Rattle.abrlab_top.proofs.command.answer_command.Goals as goal

pub returns-in-Simulate : goal.returns-in-Simulate
returns-in-Simulate g c =
    let is = subst (IsRequest (view c.args.command)) c.in-Simulate.is c.of.ensures in
    simulate_ends false (view c.args.command) _ _ _ _ _ is.0 is.1 (rw is.2 at c.simulate.ensures)

pub returns-in-Players : goal.returns-in-Players
returns-in-Players g c =
    let is = subst (IsRequest (view c.args.command)) c.in-Players.is c.of.ensures in
    simulate_ends true (view c.args.command) _ _ _ _ _ is.0 is.1 (rw is.2 at c.players.ensures)

pub returns-in-Compare : goal.returns-in-Compare
returns-in-Compare g c =
    let is = subst (IsRequest (view c.args.command)) c.in-Compare.is c.of.ensures in
    compare_ends no_choice false (view c.args.command).near (view c.args.command) _ _ _ _ _ is.0 is.1 refl (λ files t some i read r n. cc) (rw is.2 at c.compare.ensures)

pub returns-in-Regret : goal.returns-in-Regret
returns-in-Regret g c =
    let is = subst (IsRequest (view c.args.command)) c.in-Regret.is c.of.ensures in
    compare_ends no_choice true false (view c.args.command) _ _ _ _ _ is.0 is.1 is.2 (λ files t some i read r n. cc) (rw is.3 at c.regret.ensures)

pub returns-in-NearRegret : goal.returns-in-NearRegret
returns-in-NearRegret g c =
    let is = subst (IsRequest (view c.args.command)) c.in-NearRegret.is c.of.ensures in
    let ends = rw is.3 at c.near_regret.ensures in
    compare_ends (record no_choice { bounds = ends.bounds }) true true (view c.args.command) _ _ _ _ _ is.0 is.1 is.2 (λ files t some i read r n. ends.are files t some i read) ends.ends

pub returns-in-Plan : goal.returns-in-Plan
returns-in-Plan g c =
    let is = subst (IsRequest (view c.args.command)) c.in-Plan.is c.of.ensures in
    let asked = rw is.3 at c.plan.ensures in
    plan_ends no_choice false (view c.args.command) _ _ _ _ _ is.0 is.1 (λ files t some i read n. cc) (rw is.2 at asked)

pub returns-in-NearPlan : goal.returns-in-NearPlan
returns-in-NearPlan g c =
    let is = subst (IsRequest (view c.args.command)) c.in-NearPlan.is c.of.ensures in
    let asked = rw is.3 at c.near_plan.ensures in
    let ends = rw is.2 at asked in
    plan_ends (record no_choice { certificate = ends.certificate }) true (view c.args.command) _ _ _ _ _ is.0 is.1 (λ files t some i read n. ends.is files t some i read) ends.ends

pub returns-in-Check : goal.returns-in-Check
returns-in-Check g c =
    let is = subst (IsRequest (view c.args.command)) c.in-Check.is c.of.ensures in
    check_ends false (view c.args.command) _ _ _ _ _ is.0 is.1 (rw is.2 at c.check.ensures)

pub returns-in-PriceCheck : goal.returns-in-PriceCheck
returns-in-PriceCheck g c =
    let is = subst (IsRequest (view c.args.command)) c.in-PriceCheck.is c.of.ensures in
    check_ends true (view c.args.command) _ _ _ _ _ is.0 is.1 (rw is.2 at c.price_check.ensures)

pub demo-requires : goal.demo-requires
demo-requires g c = (subst (IsRequest (view c.args.command)) c.in-Demo.is c.of.ensures).2

pub returns-in-Demo : goal.returns-in-Demo
returns-in-Demo g c =
    let is = subst (IsRequest (view c.args.command)) c.in-Demo.is c.of.ensures in
    ends_by no_choice verb.Demo (view c.args.command) _ _ _ _ _ is.0 (λ files t some i read. tt) (alone_ends row_by_row (demo_text (view c.args.command).number) _ _ _ _ (rw is.1 at c.demo.ensures))
