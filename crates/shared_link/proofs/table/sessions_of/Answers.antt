use Rattle.std.proofs.Common.{◌∷◌, [], ◌++◌, length, subst, sym}
use Rattle.shared_link.specs.Table.{AreShown}
use Rattle.shared_link.proofs.Shows.{shown_next}
use Rattle.shared_link.proofs.table.sessions_of.Goals as goal

pub loop-body-preserved : goal.loop-body-preserved
loop-body-preserved c = λ ps stand.
    let more = c.loop-body.yielded ++ c.in-Some.body ∷ [] in
    subst (AreShown ps (length more)) (sym c.in_ok-push.ensures.items)
    (shown_next ps c.loop-body.yielded c.loop-body.sessions.items c.in-Some.body c.into_session.result (c.loop-body.invariant ps) c.into_session.ensures stand)
