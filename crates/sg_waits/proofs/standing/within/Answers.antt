use Rattle.std.proofs.Common.{[], arith, length, ◌≡◌}
use Rattle.sg_waits.proofs.Named.{index_within}
use Rattle.sg_waits.proofs.standing.within.Goals as goal

pub returns : goal.returns
returns c = let sized : length c.args.layers.now ≡ 64 = c.type_inv.layers in index_within c.args.layers.now c.args.steps _ [] (omega arith)
