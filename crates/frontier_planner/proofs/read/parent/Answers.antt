use Rattle.std.proofs.Common.{subst}
use Rattle.label_arena.specs.Chains.{HasLink}
use Rattle.frontier_planner.proofs.Reading.{link_parent, link_some, link_stands, stands_own}
use Rattle.frontier_planner.proofs.read.parent.Goals as goal

pub parent-requires : goal.parent-requires
parent-requires c = stands_own c.args.brief.now.scene c.args.arena.now c.args.segment c.args.reached c.requires.reached

pub unreachable-requires : goal.unreachable-requires
unreachable-requires c =
    let a = c.args.arena.now in
    let x = c.args.reached in
    link_some c.args.brief.now.grid c.args.brief.now.scene a c.requires.holds c.args.segment c.requires.segment.0 c.requires.segment.1 x c.requires.reached (subst (HasLink a x.node) c.in_default.is c.parent.ensures.value)

pub rung_of-rung-requires-clause-there : goal.rung_of-rung-requires-clause-there
rung_of-rung-requires-clause-there c =
    let a = c.args.arena.now in
    let x = c.args.reached in
    (link_stands c.args.brief.now.grid c.args.brief.now.scene a c.requires.holds c.args.segment c.requires.segment.0 c.requires.segment.1 x c.requires.reached c.in-Some.node (subst (HasLink a x.node) c.in-Some.is c.parent.ensures.value)).0

pub label-label-requires : goal.label-label-requires
label-label-requires c =
    let a = c.args.arena.now in
    let x = c.args.reached in
    (link_stands c.args.brief.now.grid c.args.brief.now.scene a c.requires.holds c.args.segment c.requires.segment.0 c.requires.segment.1 x c.requires.reached c.in-Some.node (subst (HasLink a x.node) c.in-Some.is c.parent.ensures.value)).1

pub returns-clause-parent : goal.returns-clause-parent
returns-clause-parent c =
    let a = c.args.arena.now in
    let x = c.args.reached in
    (link_parent c.args.brief.now.grid c.args.brief.now.scene a c.requires.holds c.args.segment c.requires.segment.0 c.requires.segment.1 x c.requires.reached c.in-Some.node c.rung_of-rung.result c.label-label.result (subst (HasLink a x.node) c.in-Some.is c.parent.ensures.value)
    c.spare.ensures.sound c.rung_of-rung.ensures.rung c.rung_of-rung.ensures.there c.label-label.ensures).0

pub returns-clause-there : goal.returns-clause-there
returns-clause-there c =
    let a = c.args.arena.now in
    let x = c.args.reached in
    (link_parent c.args.brief.now.grid c.args.brief.now.scene a c.requires.holds c.args.segment c.requires.segment.0 c.requires.segment.1 x c.requires.reached c.in-Some.node c.rung_of-rung.result c.label-label.result (subst (HasLink a x.node) c.in-Some.is c.parent.ensures.value)
    c.spare.ensures.sound c.rung_of-rung.ensures.rung c.rung_of-rung.ensures.there c.label-label.ensures).1
