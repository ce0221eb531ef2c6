use Rattle.std.proofs.Common.{Bool, List, sym, ap, ◌∙◌, drop, ◌+◌}
use Rattle.sg_shape.specs.Plane.{edges, edges_of}
use Rattle.sg_shape.specs.declared.spots.Spot.{Spot}
use Rattle.sg_segment.proofs.Parity.{rings_more}
use Rattle.sg_segment.specs.Sides.{point_at}
use Rattle.sg_segment.specs.Statuses.{parity, xor}
use Rattle.sg_distance.proofs.areas.is_inside.Goals as goal

pub loop-ring-preserved : goal.loop-ring-preserved
loop-ring-preserved c =
    rings_more (point_at c.args.spot) c.args.rings.now c.loop-ring.ring-index c.loop-ring.inside c.is_inside_ring.result c.ring-item.result c.loop-ring-test.true c.ring-item.is
    (c.is_inside_ring.ensures ∙ ap (λ (ring : List Spot). parity (edges ring) (point_at c.args.spot)) c.as_slice.ensures) c.loop-ring.invariant
    ∙ ap (λ (b : Bool). xor b (parity (edges_of (drop (c.loop-ring.ring-index + 1) c.args.rings.now)) (point_at c.args.spot))) (sym c.differ-inside.ensures)
