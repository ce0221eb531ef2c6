-- Which shapes are sound, and the first fault of the others.
use Rattle.std.specs.Prelude.{◌≡◌, ℕ, Bool, false, not, ◌&&◌, if◌then◌else◌, List, [], ◌∷◌, length, ℤ, pos, neg_ℤ, int_le, nat_lt, ◌==◌, Option, None, Some, option_map}
use Rattle.std.specs.List.{position_from}
use Rattle.sg_shape.specs.declared.spots.Spot.{Spot}
use Rattle.sg_shape.specs.declared.shapes.Shape.{Shape}
use Rattle.sg_shape.specs.declared.shapes.Shape.TheVariants as shape
use Rattle.sg_shape.specs.declared.shapes.ShapeFault.{ShapeFault}
use Rattle.sg_shape.specs.declared.shapes.ShapeFault.TheVariants as fault
use Rattle.sg_shape.specs.Plane.{same_spot, last_of}
use Rattle.sg_shape.specs.Shapes.{spots}

-- the limits of coordinates
abbrev pub coord_ok : ℤ → Bool
coord_ok z = int_le (neg_ℤ (pos 16000000)) z && int_le z (pos 16000000)

abbrev pub is_out : Spot → Bool
is_out s = not (coord_ok s.x && coord_ok s.y)

-- the first spot outside the limits
abbrev pub first_out : Shape → Option ℕ
first_out s = position_from is_out 0 (spots s)

-- the last spot isn't the first
abbrev pub is_open : List Spot → Bool
is_open [] = false
is_open (s ∷ ss) = not (same_spot s (last_of s ss))

-- a ring of fewer than four spots
abbrev pub is_short : List Spot → Bool
is_short ring = nat_lt (length ring) 4

-- the first part of too few spots
abbrev pub too_few : Shape → Option ℕ
too_few (shape.Empty kind) = None
too_few (shape.Point spot) = None
too_few (shape.Line path) = if nat_lt (length path) 2 then Some 0 else None
too_few (shape.Polygon rings) = if length rings == 0 then Some 0 else position_from is_short 0 rings

-- the first ring that isn't closed
abbrev pub ring_open : Shape → Option ℕ
ring_open (shape.Empty kind) = None
ring_open (shape.Point spot) = None
ring_open (shape.Line path) = None
ring_open (shape.Polygon rings) = position_from is_open 0 rings

abbrev pub or_else : Option ShapeFault → Option ShapeFault → Option ShapeFault
or_else (Some f) g = Some f
or_else None g = g

-- the first fault, in this order
abbrev pub fault_of : Shape → Option ShapeFault
fault_of s =
    if nat_lt 2048 (length (spots s)) then Some fault.TooMany
    else or_else (option_map (λ ring. fault.TooFew ring) (too_few s))
    (or_else (option_map (λ ring. fault.RingOpen ring) (ring_open s))
    (option_map (λ at. fault.CoordOut at) (first_out s)))

-- no fault at all
abbrev pub IsSound : Shape → Type 0
IsSound s = fault_of s ≡ None
