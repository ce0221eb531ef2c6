-- The least box that holds all spots of a shape.
use Rattle.std.specs.Prelude.{◌≡◌, List, ◌≤ℤ◌, All, Any}
use Rattle.std.specs.Int.{int_min, int_max}
use Rattle.sg_shape.specs.declared.spots.Spot.{Spot}
use Rattle.sg_shape.specs.declared.bounds.Bounds.{Bounds}
use Rattle.sg_shape.specs.declared.shapes.Kind.{Kind}
use Rattle.sg_shape.specs.declared.shapes.Shape.{Shape}
use Rattle.sg_shape.specs.declared.shapes.Shape.TheVariants as shape
use Rattle.sg_shape.specs.Shapes.{spots}

-- a geometry that is written EMPTY
abbrev pub IsEmpty : Shape → Type 0
IsEmpty s = (kind : Kind) × (s ≡ shape.Empty kind)

-- the spot lies in the box, its sides included
pub record IsInside (b : Bounds) (s : Spot) : Type 0 where
  pub left : b.xmin ≤ℤ s.x
  pub right : s.x ≤ℤ b.xmax
  pub below : b.ymin ≤ℤ s.y
  pub above : s.y ≤ℤ b.ymax

-- each spot lies inside, and on each side there is one
pub record Bounding (b : Bounds) (all : List Spot) : Type 0 where
  pub inside : All (IsInside b) all
  pub left : Any (λ t. t.x ≡ b.xmin) all
  pub right : Any (λ t. t.x ≡ b.xmax) all
  pub below : Any (λ t. t.y ≡ b.ymin) all
  pub above : Any (λ t. t.y ≡ b.ymax) all

abbrev pub IsBounds : Bounds → Shape → Type 0
IsBounds b s = Bounding b (spots s)

-- the least box that holds both
abbrev pub joined : Bounds → Bounds → Bounds
joined a b = record { xmin = int_min a.xmin b.xmin; ymin = int_min a.ymin b.ymin; xmax = int_max a.xmax b.xmax; ymax = int_max a.ymax b.ymax }
