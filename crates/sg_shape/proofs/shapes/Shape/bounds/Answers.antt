use Rattle.sg_shape.proofs.BoundsLemmas.{polygon_bounds}
use Rattle.sg_shape.proofs.shapes.Shape.bounds.Goals as goal

pub returns-in-Polygon : goal.returns-in-Polygon
returns-in-Polygon c =
    polygon_bounds c.bounds_of_all.result c.args.self.now c.in-Polygon.rings c.in-Polygon.is c.requires (rw (← c.as_slice-in-Polygon.ensures) c.bounds_of_all.ensures)
