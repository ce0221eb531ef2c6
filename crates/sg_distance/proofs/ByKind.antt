-- What holds of all spots of a shape's lines, at a point and at a line.
use Rattle.std.proofs.Common.{◌≡◌, arith, subst, List, []}
use Rattle.std.specs.List.{All}
use Rattle.sg_distance.specs.Shapes.{lines_of, area_of}
use Rattle.sg_shape.specs.declared.spots.Spot.{Spot}
use Rattle.sg_shape.specs.declared.shapes.Shape.{Shape}
use Rattle.sg_shape.specs.declared.shapes.Shape.TheVariants as shape

pub at_point : (P : Spot → Type 0) (k : Shape) (s : Spot) → k ≡ shape.Point s → All (All P) (lines_of k) → P s
at_point P k s e h = subst (λ (t : Shape). All (All P) (lines_of t)) e h 0 [] (omega arith) 0 s (omega arith)

pub at_line : (P : Spot → Type 0) (k : Shape) (path : List Spot) → k ≡ shape.Line path → All (All P) (lines_of k) → All P path
at_line P k path e h = subst (λ (t : Shape). All (All P) (lines_of t)) e h 0 [] (omega arith)

pub of_area : (P : Spot → Type 0) (k : Shape) → All (All P) (lines_of k) → All (All P) (area_of k)
of_area P (shape.Empty kind) h = h
of_area P (shape.Point s) h = λ n d l. absurd (omega arith)
of_area P (shape.Line path) h = λ n d l. absurd (omega arith)
of_area P (shape.Polygon rings) h = h
