use Rattle.sg_plane.proofs.Filled.{lies_in_bounds, is_filled, reaches_near}
use Rattle.sg_plane.proofs.laws.reach_laws.Goals as goal

pub returns : goal.returns
returns c = record { bounds = lies_in_bounds; filled = is_filled; grown = reaches_near }
