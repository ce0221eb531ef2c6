-- Edges whose boxes lie farther apart than the bound have no near points.
use Rattle.std.proofs.Common.{◌≡◌, arith, ℕ, refl, Bool, true, false, List, [], ◌∷◌}
use mathlib.Core.Bool.{◌&&◌, ◌||◌}
use mathlib.Core.Logic.{inl, inr}
use lib.IntN.{ℤ, pos, ◌-ℤ◌, ◌*ℤ◌}
use lib.Signed.{◌<ℤ◌, ◌≤ℤ◌, lt_z}
use Rattle.std.specs.List.{list_any, All}
use Rattle.sg_algebra.proofs.Ring.{sums}
use Rattle.sg_algebra.proofs.Comparisons.{true-from_le, lt-from_true, left_true, right_true, both, either_true, or_left, or_right, is_false}
use Rattle.sg_distance.proofs.Signs.{n*n}
use Rattle.sg_distance.proofs.Found.{Both, edges_found}
use Rattle.sg_distance.proofs.EdgeTests.{edges_mean}
use Rattle.sg_distance.proofs.Bounds.{EdgesIn, lines_in, edge_in, apart_x, apart_y}
use Rattle.sg_distance.proofs.Pairs.{near-turned}
use Rattle.sg_distance.specs.Edges.{below, cross_test, foot_test, spot_test, edges_test, gap_at, dot_at}
use Rattle.sg_distance.proofs.Nearness.{SquareWithin}
use Rattle.sg_segment.specs.Sides.{cross}
use Rattle.sg_distance.specs.Shapes.{are_near, is_near_any, are_apart, is_gap}
use Rattle.sg_distance.specs.declared.edges.Limit.{Limit}
use Rattle.sg_shape.specs.Plane.{Point, edges_of}
use Rattle.sg_shape.specs.Bounds.{IsInside}
use Rattle.sg_shape.specs.Grown.{PointIn}
use Rattle.sg_shape.specs.declared.bounds.Bounds.{Bounds}
use Rattle.sg_shape.specs.declared.spots.Spot.{Spot}
use Rattle.sg_shape.specs.declared.spots.Edge.{Edge}

-- ---- what is below the bound is at most the bound
weaker : (s : Bool) (a b : ℤ) → below s a b ≡ true → below false a b ≡ true
weaker false a b h = h
weaker true a b h = true-from_le a b (let k : a <ℤ b = lt-from_true a b h in omega (arith, sums))

weaker_foot : (s : Bool) (D : ℤ) (c : Spot) (e : Edge) → foot_test s D c e ≡ true → foot_test false D c e ≡ true
weaker_foot s D c e t =
    let r = right_true (lt_z (pos 0) (dot_at e.from e.to c)) (lt_z (dot_at e.from e.to c) (gap_at e.from e.to) && below s (cross e.from e.to c *ℤ cross e.from e.to c) (D *ℤ gap_at e.from e.to)) t in
    both (lt_z (pos 0) (dot_at e.from e.to c)) _ (left_true (lt_z (pos 0) (dot_at e.from e.to c)) _ t)
    (both (lt_z (dot_at e.from e.to c) (gap_at e.from e.to)) _ (left_true (lt_z (dot_at e.from e.to c) (gap_at e.from e.to)) _ r)
    (weaker s _ _ (right_true (lt_z (dot_at e.from e.to c) (gap_at e.from e.to)) (below s (cross e.from e.to c *ℤ cross e.from e.to c) (D *ℤ gap_at e.from e.to)) r)))

weaker_or : (a b c d : Bool) → (a ≡ true → c ≡ true) → (b ≡ true → d ≡ true) → (a || b) ≡ true → (c || d) ≡ true
weaker_or a b c d f g t = elim (either_true a b t) [ inl l ↦ or_left c d (f l) | inr r ↦ or_right c d (g r) ]

weaker_spot : (s : Bool) (D : ℤ) (c : Spot) (e : Edge) → spot_test s D c e ≡ true → spot_test false D c e ≡ true
weaker_spot s D c e t =
    weaker_or (below s (gap_at e.from c) D) (below s (gap_at e.to c) D || foot_test s D c e) (below false (gap_at e.from c) D) (below false (gap_at e.to c) D || foot_test false D c e)
    (weaker s (gap_at e.from c) D)
    (weaker_or (below s (gap_at e.to c) D) (foot_test s D c e) (below false (gap_at e.to c) D) (foot_test false D c e) (weaker s (gap_at e.to c) D) (weaker_foot s D c e)) t

weaker_edges : (s : Bool) (D : ℤ) (e f : Edge) → edges_test s D e f ≡ true → edges_test false D e f ≡ true
weaker_edges s D e f t =
    weaker_or (cross_test e f) _ (cross_test e f) _ (λ x. x)
    (weaker_or (spot_test s D f.from e) _ (spot_test false D f.from e) _ (weaker_spot s D f.from e)
    (weaker_or (spot_test s D f.to e) _ (spot_test false D f.to e) _ (weaker_spot s D f.to e)
    (weaker_or (spot_test s D e.from f) (spot_test s D e.to f) (spot_test false D e.from f) (spot_test false D e.to f) (weaker_spot s D e.from f) (weaker_spot s D e.to f)))) t

-- ---- boxes apart
-- no near points in two boxes that lie apart
pub apart_points : (d : ℤ) → pos 0 ≤ℤ d → (a b : Bounds) (p q : Point) → PointIn a p → PointIn b q → SquareWithin false (d *ℤ d) p q → are_apart d a b ≡ true → ⊥
apart_points d o a b p q i j n t = elim (either_true (is_gap d a.xmin a.xmax b.xmin b.xmax) (is_gap d a.ymin a.ymax b.ymin b.ymax) t) [
  | inl x ↦ elim (either_true (lt_z d (b.xmin -ℤ a.xmax)) (lt_z d (a.xmin -ℤ b.xmax)) x) [
    | inl l ↦ apart_x a b d o p q i j n (below_of a.xmax b.xmin l)
    | inr l ↦ apart_x b a d o q p j i (near-turned false (d *ℤ d) p q n) (below_of b.xmax a.xmin l)
  ]
  | inr y ↦ elim (either_true (lt_z d (b.ymin -ℤ a.ymax)) (lt_z d (a.ymin -ℤ b.ymax)) y) [
    | inl l ↦ apart_y a b d o p q i j n (below_of a.ymax b.ymin l)
    | inr l ↦ apart_y b a d o q p j i (near-turned false (d *ℤ d) p q n) (below_of b.ymax a.ymin l)
  ]
]
  where
    below_of : (x y : ℤ) → lt_z d (y -ℤ x) ≡ true → x <ℤ (y -ℤ d)
    below_of x y h = let k : d <ℤ (y -ℤ x) = lt-from_true d (y -ℤ x) h in omega (arith, sums)

square_over : (n : ℕ) → pos 0 ≤ℤ (pos n *ℤ pos n)
square_over n = n*n (pos n) (pos n) (omega (arith, sums)) (omega (arith, sums))

pub apart_edges : (l : Limit) (a b : Bounds) (e f : Edge) → IsInside a e.from → IsInside a e.to → IsInside b f.from → IsInside b f.to → are_apart (pos l.distance) a b ≡ true → are_near l e f ≡ false
apart_edges l a b e f ef et ff ft h = is_false (are_near l e f) (λ t.
    let m : Both false (pos l.distance *ℤ pos l.distance) e f =
    edges_found false (pos l.distance *ℤ pos l.distance) e.from e.to f.from f.to (square_over l.distance)
    (edges_mean false (pos l.distance *ℤ pos l.distance) e f (weaker_edges l.strict (pos l.distance *ℤ pos l.distance) e f t)) in
    apart_points (pos l.distance) (omega (arith, sums)) a b m.z m.w (edge_in a e m.z ef et m.on_first) (edge_in b f m.w ff ft m.on_second) m.near h)

-- ---- an edge and all edges of a shape
pub any_none : (f : Edge → Bool) (es : List Edge) → ((e : Edge) → f e ≡ false) → list_any f es ≡ false
any_none f [] h = refl
any_none f (e ∷ es) h = rw (h e) (any_none f es h)

apart_any : (l : Limit) (a b : Bounds) (e : Edge) (fs : List Edge) → IsInside a e.from → IsInside a e.to → EdgesIn b fs → are_apart (pos l.distance) a b ≡ true → is_near_any l fs e ≡ false
apart_any l a b e [] ef et i h = refl
apart_any l a b e (f ∷ fs) ef et i h = rw (apart_edges l a b e f ef et i.0.0 i.0.1 h) (apart_any l a b e fs ef et i.1 h)

pub apart_lines : (l : Limit) (a b : Bounds) (e : Edge) (ls : List (List Spot)) → IsInside a e.from → IsInside a e.to → All (All (IsInside b)) ls → are_apart (pos l.distance) a b ≡ true → is_near_any l (edges_of ls) e ≡ false
apart_lines l a b e ls ef et i h = apart_any l a b e (edges_of ls) ef et (lines_in b ls i) h
