use Rattle.std.proofs.Common.{ap, ◌∙◌, ℤ, pos}
use lib.Signed.{lt_z}
use Rattle.sg_distance.proofs.Fitting.{clean}
use Rattle.sg_distance.proofs.Parity.{passes-spot}
use Rattle.sg_segment.specs.Sides.{cross}
use Rattle.sg_distance.proofs.areas.passes_right.Goals as goal

pub returns : goal.returns
returns c =
    ap (λ (z : ℤ). lt_z (pos 0) z) (clean c.orient.result (cross c.args.low c.args.high c.args.spot) (record { sfits = c.orient.type_inv }) c.orient.ensures.value)
    ∙ passes-spot c.args.low c.args.high c.args.spot
