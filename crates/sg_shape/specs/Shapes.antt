-- What each shape is made of.
use Rattle.std.specs.Prelude.{List, [], ◌∷◌, flat_map}
use Rattle.sg_shape.specs.declared.spots.Spot.{Spot}
use Rattle.sg_shape.specs.declared.shapes.Shape.{Shape}
use Rattle.sg_shape.specs.declared.shapes.Shape.TheVariants as shape
use Rattle.sg_shape.specs.Plane.{Point, Parts, Status, status}

-- A shape's points, lines and areas. Each shape has one area; it has no rings where the shape is no polygon,
-- and is then outside everywhere.
abbrev pub parts_of : Shape → Parts
parts_of (shape.Empty kind) = record { points = []; lines = []; areas = [] ∷ [] }
parts_of (shape.Point spot) = record { points = spot ∷ []; lines = []; areas = [] ∷ [] }
parts_of (shape.Line path) = record { points = []; lines = path ∷ []; areas = [] ∷ [] }
parts_of (shape.Polygon rings) = record { points = []; lines = []; areas = rings ∷ [] }

-- the status of a point in a shape
abbrev pub status_in : Shape → Point → Status
status_in s p = status (parts_of s) p

-- all spots, in order
abbrev pub spots : Shape → List Spot
spots (shape.Empty kind) = []
spots (shape.Point spot) = spot ∷ []
spots (shape.Line path) = path
spots (shape.Polygon rings) = flat_map (λ ring. ring) rings
