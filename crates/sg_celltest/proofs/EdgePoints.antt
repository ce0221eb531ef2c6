-- The points of a sound shape, by its edges.
use Rattle.std.proofs.Common.{◌≡◌, refl, sym, ap, ◌∙◌, Bool, true, false}
use mathlib.Core.Bool.{◌||◌}
use Rattle.sg_segment.specs.Statuses.{parity}
use Rattle.sg_distance.specs.Figure.{on_any, inside_any}
use Rattle.sg_distance.specs.Shapes.{lines_of, area_of}
use Rattle.sg_distance.proofs.Points.{has_status}
use Rattle.sg_distance.proofs.ShapeTests.{areas_are}
use Rattle.sg_distance.proofs.Soundness.{chains_are, sound_of}
use Rattle.sg_shape.specs.declared.shapes.Shape.{Shape}
use Rattle.sg_shape.specs.Plane.{Point, edges_of}
use Rattle.sg_shape.specs.Boxes.{has_point}
use Rattle.sg_shape.specs.Shapes.{parts_of}
use Rattle.sg_shape.specs.Sound.{IsSound}

or_false : (b : Bool) → (b || false) ≡ b
or_false true = refl
or_false false = refl

-- those on its edges, and those with an odd number of its rings' edges on their right
pub point_is : (k : Shape) → IsSound k → (p : Point) → has_point (parts_of k) p ≡ (on_any (edges_of (lines_of k)) p || parity (edges_of (area_of k)) p)
point_is k s p =
    sym (has_status (parts_of k) (sound_of k s) p)
    ∙ (λ i. on_any (edges_of (chains_are k i)) p || inside_any (areas_are k i) p)
    ∙ ap (λ (b : Bool). on_any (edges_of (lines_of k)) p || b) (or_false (parity (edges_of (area_of k)) p))
