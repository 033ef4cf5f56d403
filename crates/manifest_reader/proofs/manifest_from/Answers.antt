use Rattle.std.proofs.Common.{arith}
use Rattle.serde_json.specs.View.{view}
use Rattle.manifest_reader.proofs.Limits.{bitrates_of-ladder, parts-film}
use Rattle.manifest_reader.proofs.manifest_from.Goals as goal

pub sizes_of-requires : goal.sizes_of-requires
sizes_of-requires c =
    let ladder = bitrates_of-ladder (view c.args.object.now) c.in_ok-bitrates.bitrates.items c.in_ok-bitrates.ensures in
    omega (arith, ladder.count.1)

pub unreachable-requires : goal.unreachable-requires
unreachable-requires c =
    c.in-None.ensures.none (parts-film (view c.args.object.now) c.in_ok-seg_ms.seg_ms c.in_ok-bitrates.bitrates.items c.in_ok-sizes.sizes.items c.len.result (omega arith) c.in_ok-seg_ms.ensures c.in_ok-bitrates.ensures c.in_ok-sizes.ensures)
