use Rattle.player_core.proofs.Halves.{of_back}
use Rattle.player_core.proofs.body.sizes_loaded.Goals as goal

pub sizes_of-requires-2-clause-loaded : goal.sizes_of-requires-2-clause-loaded
sizes_of-requires-2-clause-loaded c = of_back _ _ _ _ c.as_slices.ensures.items c.requires.loaded
