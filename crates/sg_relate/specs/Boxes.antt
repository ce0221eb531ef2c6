-- Boxes of two shapes: those that allow a relation, and what they have in common.
use Rattle.std.specs.Prelude.{◌⊎◌, true, ℤ, neg_ℤ, pos, ◌<ℤ◌, ◌≤ℤ◌}
use Rattle.std.specs.Int.{int_min, int_max}
use Rattle.sg_shape.specs.declared.bounds.Bounds.{Bounds}
use Rattle.sg_shape.specs.declared.cells.CellBox.{CellBox}
use Rattle.sg_shape.specs.declared.matrices.Pred.{Pred}
use Rattle.sg_shape.specs.declared.matrices.Pred.TheVariants.{Intersects, Contains, Within, Equals, Touches}

-- the one stretch of numbers ends before the other begins
abbrev pub IsGap : ℤ → ℤ → ℤ → ℤ → Type 0
IsGap low high from to = (high <ℤ from) ⊎ (to <ℤ low)

-- so do boxes, in x or in y
abbrev pub AreApart : Bounds → Bounds → Type 0
AreApart a b = IsGap a.xmin a.xmax b.xmin b.xmax ⊎ IsGap a.ymin a.ymax b.ymin b.ymax

-- each number of the one stretch is one of the other
abbrev pub IsPart : ℤ → ℤ → ℤ → ℤ → Type 0
IsPart low high from to = (from ≤ℤ low) × (high ≤ℤ to)

-- each place of the one box is one of the other
abbrev pub LiesIn : Bounds → Bounds → Type 0
LiesIn a b = IsPart a.xmin a.xmax b.xmin b.xmax × IsPart a.ymin a.ymax b.ymin b.ymax

-- Where common points are asked for, the boxes have a common place; where one shape is to lie in the other, its box does;
-- and where they are to be the same, each lies in the other.
abbrev pub MayRelate : Pred → Bounds → Bounds → Type 0
MayRelate Intersects a b = ¬ AreApart a b
MayRelate Contains a b = LiesIn b a
MayRelate Within a b = LiesIn a b
MayRelate Equals a b = LiesIn a b × LiesIn b a
MayRelate Touches a b = ¬ AreApart a b

-- the common places of two boxes
abbrev pub common : Bounds → Bounds → Bounds
common a b = record { xmin = int_max a.xmin b.xmin; ymin = int_max a.ymin b.ymin; xmax = int_min a.xmax b.xmax; ymax = int_min a.ymax b.ymax }

-- the box with all its sides
abbrev pub closed : Bounds → CellBox
closed b = record { xlow = b.xmin; ylow = b.ymin; xhigh = b.xmax; yhigh = b.ymax; closed_x = true; closed_y = true }

-- its lower side isn't above its upper one, and both lie within the limits of coordinates
pub record HasHeights (b : Bounds) : Type 0 where
  pub low : neg_ℤ (pos 16000000) ≤ℤ b.ymin
  pub rises : b.ymin ≤ℤ b.ymax
  pub high : b.ymax ≤ℤ pos 16000000
