-- The lists of edges that a walk counts by: of a shape its points, the ends of its open lines, its lines, and each area's rings.
use Rattle.std.specs.Prelude.{◌≡◌, Bool, true, false, List, [], ◌∷◌, ◌++◌}
use Rattle.sg_shape.specs.Plane.{Parts, same_spot, last_of, edges_of}
use Rattle.sg_shape.specs.declared.spots.Spot.{Spot}
use Rattle.sg_shape.specs.declared.spots.Edge.{Edge}

abbrev pub dot : Spot → Edge
dot s = record { from = s; to = s }

abbrev pub dots : List Spot → List Edge
dots [] = []
dots (s ∷ ss) = dot s ∷ dots ss

abbrev pub end_dots_of : Spot → Spot → Bool → List Edge
end_dots_of s t true = []
end_dots_of s t false = dot s ∷ dot t ∷ []

abbrev pub end_dots : List (List Spot) → List Edge
end_dots [] = []
end_dots ([] ∷ ls) = end_dots ls
end_dots ((s ∷ ss) ∷ ls) = end_dots_of s (last_of s ss) (same_spot s (last_of s ss)) ++ end_dots ls

abbrev pub area_edges : List (List (List Spot)) → List (List Edge)
area_edges [] = []
area_edges (a ∷ as') = edges_of a ∷ area_edges as'

abbrev pub layers : Parts → List (List Edge)
layers k = dots k.points ∷ end_dots k.lines ∷ edges_of k.lines ∷ area_edges k.areas

-- those of both shapes in one walk
abbrev pub both_layers : Parts → Parts → List (List Edge)
both_layers a b = layers a ++ layers b

-- the shape has one area
abbrev pub One : Parts → Type 0
One k = (rings : List (List Spot)) × (k.areas ≡ rings ∷ [])
