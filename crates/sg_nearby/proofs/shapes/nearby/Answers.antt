use Rattle.std.proofs.Common.{◌≡◌, sym, subst, List, false}
use Rattle.std.specs.List.{All}
use Rattle.sg_shape.specs.declared.spots.Spot.{Spot}
use Rattle.sg_shape.specs.declared.shapes.Shape.{Shape}
use Rattle.sg_shape.specs.declared.shapes.Shape.TheVariants as shape
use Rattle.sg_shape.specs.Sound.{IsSound, is_out}
use Rattle.sg_nearby.specs.Nearby.{SameIn, HasSpotsOf, IsThin}
use Rattle.sg_nearby.proofs.Rings.{line_parts, same_line, sound_line}
use Rattle.sg_nearby.proofs.shapes.nearby.Goals as goal

pub thin-requires-clause-within : goal.thin-requires-clause-within
thin-requires-clause-within c = subst (λ (r : List Spot). All (λ s. is_out s ≡ false) r) (sym c.as_slice.ensures) (line_parts c.in-Line.path (subst IsSound c.in-Line.is c.requires.sound)).1

thin_of : (c : goal.In_ok-thin-in-Line) → IsThin c.args.cell.now c.in-Line.path c.in_ok-thin-in-Line.field-0
thin_of c = subst (λ (r : List Spot). IsThin c.args.cell.now r c.in_ok-thin-in-Line.field-0) c.as_slice.ensures c.in_ok-thin-in-Line.ensures

pub returns-in_ok-thin-in-Line-clause-same : goal.returns-in_ok-thin-in-Line-clause-same
returns-in_ok-thin-in-Line-clause-same c =
    subst (λ (k : Shape). SameIn c.args.cell.now (shape.Line c.in_ok-thin-in-Line.field-0) k) (sym c.in-Line.is)
    (same_line c.args.cell.now c.in-Line.path c.in_ok-thin-in-Line.field-0 (thin_of c))

pub returns-in_ok-thin-in-Line-clause-sound : goal.returns-in_ok-thin-in-Line-clause-sound
returns-in_ok-thin-in-Line-clause-sound c = sound_line c.args.cell.now c.in-Line.path c.in_ok-thin-in-Line.field-0 (subst IsSound c.in-Line.is c.requires.sound) (thin_of c)

pub returns-in_ok-thin-in-Line-clause-spots : goal.returns-in_ok-thin-in-Line-clause-spots
returns-in_ok-thin-in-Line-clause-spots c = subst (λ (k : Shape). HasSpotsOf (shape.Line c.in_ok-thin-in-Line.field-0) k) (sym c.in-Line.is) (thin_of c).among

pub returns-in_ok-thin_rings-in-Polygon-clause-spots : goal.returns-in_ok-thin_rings-in-Polygon-clause-spots
returns-in_ok-thin_rings-in-Polygon-clause-spots c =
    let made = c.in_ok-thin_rings-in-Polygon.field-0 in
    subst (λ (k : Shape). HasSpotsOf (shape.Polygon made) k) (sym c.in-Polygon.is)
    (subst (λ (r : List (List Spot)). HasSpotsOf (shape.Polygon made) (shape.Polygon r)) c.as_slice-in-Polygon.ensures c.in_ok-thin_rings-in-Polygon.ensures.spots)
