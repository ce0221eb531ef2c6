-- The forms whose signs decide a point's status in a shape and its place in a box.
use Rattle.std.specs.Prelude.{List, [], ◌∷◌, ◌++◌, ℤ, pos, ◌-ℤ◌, ◌*ℤ◌, neg_ℤ}
use Rattle.std.specs.List.{flat_map}
use Rattle.sg_shape.specs.declared.spots.Spot.{Spot}
use Rattle.sg_shape.specs.declared.spots.Edge.{Edge}
use Rattle.sg_shape.specs.declared.cells.CellBox.{CellBox}
use Rattle.sg_shape.specs.Plane.{Parts, edges_of, last_of}
use Rattle.sg_plane.specs.Samples.{Form}

-- x - s, and y - s
abbrev pub across : ℤ → Form
across s = record { a = pos 1; b = pos 0; c = neg_ℤ s }

abbrev pub above : ℤ → Form
above s = record { a = pos 0; b = pos 1; c = neg_ℤ s }

-- on which side of an edge's line a point lies
abbrev pub side : Edge → Form
side e = record {
  a = e.to.y -ℤ e.from.y;
  b = neg_ℤ (e.to.x -ℤ e.from.x);
  c = (e.to.x -ℤ e.from.x) *ℤ e.from.y -ℤ e.from.x *ℤ (e.to.y -ℤ e.from.y);
}

abbrev pub spot_forms : Spot → List Form
spot_forms s = across s.x ∷ above s.y ∷ []

abbrev pub edge_forms : Edge → List Form
edge_forms e = side e ∷ (spot_forms e.from ++ spot_forms e.to)

abbrev pub ends_forms : List Spot → List Form
ends_forms [] = []
ends_forms (s ∷ ss) = spot_forms s ++ spot_forms (last_of s ss)

abbrev pub rings_forms : List (List Spot) → List Form
rings_forms rings = flat_map edge_forms (edges_of rings)

abbrev pub forms : Parts → List Form
forms k = flat_map spot_forms k.points ++ (flat_map ends_forms k.lines ++ (flat_map edge_forms (edges_of k.lines) ++ flat_map rings_forms k.areas))

abbrev pub box_forms : CellBox → List Form
box_forms c = across c.xlow ∷ across c.xhigh ∷ above c.ylow ∷ above c.yhigh ∷ []
