use Rattle.std.proofs.Common.{◌∙◌, [], None, refl, ap, arith}
use Rattle.std.specs.Prelude.{replicate}
use Rattle.label_arena.specs.Chains.{node_count, with_room}
use Rattle.label_arena.specs.Links.{no_head}
use Rattle.label_arena.proofs.Kept.{same_arena, same_holdings}
use Rattle.label_arena.proofs.Room.{none_start, room_start, stands_start}
use Rattle.label_arena.proofs.arena.Arena.with_room.Goals as goal

pub invariant_of-arena : goal.invariant_of-arena
invariant_of-arena c =
    same_arena c.new.result.items [] c.in_ok-heads.heads.items (replicate c.args.chains no_head) None None 0 c.new.ensures.items c.in_ok-heads.ensures refl
    (stands_start c.args.chains)

pub make_room-requires : goal.make_room-requires
make_room-requires c =
    let same = same_holdings c.new.result.items [] c.in_ok-heads.heads.items (replicate c.args.chains no_head) 0 c.new.ensures.items c.in_ok-heads.ensures in
    let count = ap node_count same ∙ none_start c.args.chains in
    omega (arith, count, c.requires.room)

pub returns : goal.returns
returns c =
    let same = same_holdings c.new.result.items [] c.in_ok-heads.heads.items (replicate c.args.chains no_head) 0 c.new.ensures.items c.in_ok-heads.ensures in
    c.in_ok-make_room.ensures.ok ∙ (ap (with_room c.args.room) same ∙ room_start c.args.chains c.args.room)
