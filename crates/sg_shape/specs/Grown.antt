-- A shape grown by a distance: its bounds moved out, cut at the limits of coordinates, as a shape.
use Rattle.std.specs.Prelude.{◌≡◌, ◌⊎◌, ℕ, Bool, true, false, [], ◌∷◌, pos, neg_ℤ, ◌+ℤ◌, ◌-ℤ◌, ◌*ℤ◌, ◌≤ℤ◌}
use Rattle.std.specs.Int.{int_min, int_max}
use Rattle.std.proofs.Common.{int_eq}
use Rattle.sg_shape.specs.declared.spots.Spot.{Spot}
use Rattle.sg_shape.specs.declared.bounds.Bounds.{Bounds}
use Rattle.sg_shape.specs.declared.shapes.Kind.{Kind}
use Rattle.sg_shape.specs.declared.shapes.Shape.{Shape}
use Rattle.sg_shape.specs.declared.shapes.Shape.TheVariants as shape
use Rattle.sg_shape.specs.Bounds.{IsBounds}
use Rattle.sg_shape.specs.Plane.{Point}

-- the limits of coordinates, as a box
abbrev pub limits : Bounds
limits = record { xmin = neg_ℤ (pos 16000000); ymin = neg_ℤ (pos 16000000); xmax = pos 16000000; ymax = pos 16000000 }

-- the box moved out by d on each side and cut at an outer one
abbrev pub moved_within : Bounds → Bounds → ℕ → Bounds
moved_within outer b d = record {
  xmin = int_max (b.xmin -ℤ pos d) outer.xmin;
  ymin = int_max (b.ymin -ℤ pos d) outer.ymin;
  xmax = int_min (b.xmax +ℤ pos d) outer.xmax;
  ymax = int_min (b.ymax +ℤ pos d) outer.ymax;
}

-- cut at the limits
abbrev pub moved_out : Bounds → ℕ → Bounds
moved_out b d = moved_within limits b d

-- the corners of a box
abbrev pub low : Bounds → Spot
low b = record { x = b.xmin; y = b.ymin }

abbrev pub low_right : Bounds → Spot
low_right b = record { x = b.xmax; y = b.ymin }

abbrev pub high : Bounds → Spot
high b = record { x = b.xmax; y = b.ymax }

abbrev pub high_left : Bounds → Spot
high_left b = record { x = b.xmin; y = b.ymax }

-- the box as a shape, by whether it has no length in x, and none in y
abbrev pub by_sides : Bool → Bool → Bounds → Shape
by_sides true true b = shape.Point (low b)
by_sides true false b = shape.Line (low b ∷ high b ∷ [])
by_sides false true b = shape.Line (low b ∷ high b ∷ [])
by_sides false false b = shape.Polygon ((low b ∷ low_right b ∷ high b ∷ high_left b ∷ low b ∷ []) ∷ [])

abbrev pub as_shape : Bounds → Shape
as_shape b = by_sides (int_eq b.xmin b.xmax) (int_eq b.ymin b.ymax) b

-- nothing from nothing, and else the box of the bounds
abbrev pub IsGrown : Shape → ℕ → Shape → Type 0
IsGrown s d g =
    ((kind : Kind) × (s ≡ shape.Empty kind) × (g ≡ shape.Empty kind))
    ⊎ ((b : Bounds) × IsBounds b s × (g ≡ as_shape (moved_out b d)))

-- the point lies in the closed box
pub record PointIn (b : Bounds) (p : Point) : Type 0 where
  pub left : (b.xmin *ℤ pos p.n) ≤ℤ p.x
  pub right : p.x ≤ℤ (b.xmax *ℤ pos p.n)
  pub below : (b.ymin *ℤ pos p.n) ≤ℤ p.y
  pub above : p.y ≤ℤ (b.ymax *ℤ pos p.n)
