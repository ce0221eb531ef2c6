-- Figures of points, lines and areas, by their edges.
use Rattle.std.specs.Prelude.{◌≡◌, Bool, ◌||◌, List, [], ◌∷◌, ◌++◌}
use Rattle.std.specs.List.{list_any}
use Rattle.sg_shape.specs.declared.spots.Spot.{Spot}
use Rattle.sg_shape.specs.declared.spots.Edge.{Edge}
use Rattle.sg_shape.specs.Plane.{Point, Parts, on_edge, edges_of, last_of}
use Rattle.sg_segment.specs.Statuses.{parity}

-- a point, as a line from itself to itself
abbrev pub dots : List Spot → List (List Spot)
dots [] = []
dots (s ∷ ss) = (s ∷ s ∷ []) ∷ dots ss

abbrev pub rings_of : List (List (List Spot)) → List (List Spot)
rings_of [] = []
rings_of (a ∷ as') = a ++ rings_of as'

-- all lines and rings of a figure
abbrev pub chains : Parts → List (List Spot)
chains k = dots k.points ++ (k.lines ++ rings_of k.areas)

abbrev pub bones : Parts → List Edge
bones k = edges_of (chains k)

abbrev pub on_any : List Edge → Point → Bool
on_any es p = list_any (λ e. on_edge e p) es

abbrev pub inside_any : List (List (List Spot)) → Point → Bool
inside_any as' p = list_any (λ a. parity (edges_of a) p) as'

-- the point is In or Bd
abbrev pub has : Parts → Point → Bool
has k p = on_any (bones k) p || inside_any k.areas p

-- each line has two spots or more, and each ring's last is its first
abbrev pub Joined : List (List Spot) → Type 0
Joined [] = Unit {0}
Joined ([] ∷ ls) = ⊥
Joined ((s ∷ []) ∷ ls) = ⊥
Joined ((s ∷ t ∷ ss) ∷ ls) = Joined ls

abbrev pub Closed : List (List Spot) → Type 0
Closed [] = Unit {0}
Closed ([] ∷ rs) = Closed rs
Closed ((s ∷ ss) ∷ rs) = (last_of s ss ≡ s) × Closed rs

abbrev pub AllClosed : List (List (List Spot)) → Type 0
AllClosed [] = Unit {0}
AllClosed (a ∷ as') = Closed a × AllClosed as'

pub record Sound (k : Parts) : Type 0 where
  pub joined : Joined (chains k)
  pub closed : AllClosed k.areas
