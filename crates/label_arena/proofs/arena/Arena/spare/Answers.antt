use Rattle.std.proofs.Common.{subst}
use Rattle.label_arena.specs.Chains.{Holdings, IsSound}
use Rattle.label_arena.proofs.Kept.{sound}
use Rattle.label_arena.proofs.arena.Arena.spare.Goals as goal

pub returns-clause-sound : goal.returns-clause-sound
returns-clause-sound c =
    let s = c.self.inside in
    subst (λ (a : Holdings). IsSound a) c.self.view_is (sound s.nodes.items s.heads.items s.free s.spare c.self.invariant)
