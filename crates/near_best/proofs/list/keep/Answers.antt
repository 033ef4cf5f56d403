use Rattle.std.proofs.Common.{◌∙◌, ap, sym, subst, take}
use Rattle.std.specs.List.{All}
use Rattle.near_best.specs.Kept.{IsKept}
use Rattle.near_best.proofs.Inserted.{All-insert_take}
use Rattle.near_best.proofs.list.keep.Goals as goal

pub returns : goal.returns
returns c =
    let kept = IsKept c.args.scene.now c.args.segment in
    let place = c.place_for-place.result in
    let put = c.truncate.ensures.items ∙ ap (take c.args.most) c.in_ok-insert.ensures.items in
    subst (All kept) (sym put) (All-insert_take kept c.args.most c.args.labels.now.items place c.args.new c.requires.labels c.requires.new)
