-- The test of two shapes decides whether they are near.
use Rattle.std.proofs.Common.{ℕ, ◌≡◌, ◌↔◌, arith, refl, sym, ◌∙◌, subst, Bool, true, false, List, [], ◌∷◌, ◌++◌, IsTrue, zero, suc, ◌==◌}
use Rattle.std.proofs.lemmas.Bool.{eqb-true, eqb-false}
use Rattle.std.specs.List.{list_any}
use mathlib.Core.Bool.{◌||◌, ◌&&◌}
use mathlib.Core.Logic.{◌⊎◌, inl, inr}
use lib.IntN.{ℤ, pos, ◌*ℤ◌}
use lib.Signed.{◌<ℤ◌}
use Rattle.sg_algebra.proofs.Ring.{sums, products}
use Rattle.sg_algebra.proofs.Comparisons.{le-from_true, true-from_le, lt-from_true, true-from_lt, right_true, both, either_true, or_left, or_right}
use Rattle.sg_distance.proofs.Signs.{n*n, p*p}
use Rattle.sg_distance.proofs.Below.{below-at}
use Rattle.sg_distance.proofs.Mix.{on-from}
use Rattle.sg_distance.proofs.Walk.{any-right}
use Rattle.sg_distance.proofs.Reach.{Touch, holds, first_inside}
use Rattle.sg_distance.proofs.Found.{bound_over, near_self}
use Rattle.sg_distance.proofs.EdgeTests.{bones_pass, near_test, true_below}
use Rattle.sg_distance.proofs.Points.{has_status}
use Rattle.sg_distance.proofs.Bounds.{EdgesIn, lines_in, figure_in}
use Rattle.sg_distance.proofs.Apart.{apart_points}
use Rattle.sg_distance.proofs.Statuses.{NearByStatus, test_finds, test_misses_none}
use Rattle.sg_distance.proofs.Soundness.{lines_joined, on_lines, chains_are, sound_of}
use Rattle.sg_distance.proofs.Nearness.{Below, SquareWithin}
use Rattle.sg_distance.specs.Edges.{below}
use Rattle.sg_segment.specs.Sides.{point_at}
use Rattle.sg_segment.specs.Statuses.{parity}
use Rattle.sg_distance.specs.Figure.{on_any, Joined}
use Rattle.sg_distance.specs.Shapes.{lines_of, area_of, is_near_any, first_odd, shapes_test, are_apart}
use Rattle.sg_distance.specs.declared.edges.Limit.{Limit}
use Rattle.sg_shape.specs.Plane.{Point, on_edge, edges, edges_from, edges_of}
use Rattle.sg_shape.specs.Shapes.{parts_of}
use Rattle.sg_shape.specs.Boxes.{HasPoint}
use Rattle.sg_shape.specs.Sound.{IsSound}
use Rattle.sg_shape.specs.Bounds.{IsInside, IsBounds, IsEmpty}
use Rattle.sg_shape.specs.Grown.{PointIn}
use Rattle.sg_shape.specs.Near.{Near, apart, is_within, square}
use Rattle.sg_shape.specs.declared.bounds.Bounds.{Bounds}
use Rattle.sg_shape.specs.declared.spots.Spot.{Spot}
use Rattle.sg_shape.specs.declared.shapes.Kind.{Kind}
use Rattle.sg_shape.specs.declared.shapes.Shape.{Shape}
use Rattle.sg_shape.specs.declared.shapes.Shape.TheVariants as shape

-- ---- two points within the distance
limit_same : (d m n : ℤ) → (d *ℤ (m *ℤ n)) *ℤ (d *ℤ (m *ℤ n)) ≡ (d *ℤ d) *ℤ ((m *ℤ n) *ℤ (m *ℤ n))
limit_same d m n = simp products

pub close_near : (p q : Point) (d : ℕ) (strict : Bool) → IsTrue (is_within p q d strict) → SquareWithin strict (pos d *ℤ pos d) p q
close_near p q d true h =
    below-at true _ _ _ _ refl (limit_same (pos d) (pos p.n) (pos q.n)) (lt-from_true (apart p q) (square (pos d *ℤ (pos p.n *ℤ pos q.n))) h)
close_near p q d false h =
    below-at false _ _ _ _ refl (limit_same (pos d) (pos p.n) (pos q.n)) (le-from_true (apart p q) (square (pos d *ℤ (pos p.n *ℤ pos q.n))) h)

near_close : (p q : Point) (d : ℕ) (strict : Bool) → SquareWithin strict (pos d *ℤ pos d) p q → IsTrue (is_within p q d strict)
near_close p q d true h =
    true-from_lt (apart p q) (square (pos d *ℤ (pos p.n *ℤ pos q.n))) (below-at true _ _ _ _ refl (sym (limit_same (pos d) (pos p.n) (pos q.n))) h)
near_close p q d false h =
    true-from_le (apart p q) (square (pos d *ℤ (pos p.n *ℤ pos q.n))) (below-at false _ _ _ _ refl (sym (limit_same (pos d) (pos p.n) (pos q.n))) h)

abbrev squared : Limit → ℤ
squared l = pos l.distance *ℤ pos l.distance

to_near : (l : Limit) (a b : Shape) → NearByStatus l.strict (squared l) (parts_of a) (parts_of b) → Near a b l.distance l.strict
to_near l a b n = record { p = n.p; q = n.q; first = n.of_a; second = n.of_b; close = near_close n.p n.q l.distance l.strict n.near }

from_near : (l : Limit) (a b : Shape) → Near a b l.distance l.strict → NearByStatus l.strict (squared l) (parts_of a) (parts_of b)
from_near l a b n = record { p = n.p; q = n.q; of_a = n.first; of_b = n.second; near = close_near n.p n.q l.distance l.strict n.close }

-- ---- a first spot that lies in the area lies inside it, or the lines meet there
odd_inside : (rings ls : List (List Spot)) → first_odd rings ls ≡ true → first_inside rings ls ≡ true
odd_inside rings [] h = h
odd_inside rings ([] ∷ ls) h = odd_inside rings ls h
odd_inside rings ((s ∷ ss) ∷ ls) h = elim (either_true (parity (edges_of rings) (point_at s)) (first_odd rings ls) h) [
  | inl l ↦ or_left (holds rings (point_at s)) (first_inside rings ls) (or_right (on_any (edges_of rings) (point_at s)) (parity (edges_of rings) (point_at s)) l)
  | inr r ↦ or_right (holds rings (point_at s)) (first_inside rings ls) (odd_inside rings ls r)
]

inside_odd : (rings ls : List (List Spot)) → Joined ls → first_inside rings ls ≡ true → Touch (edges_of ls) (edges_of rings) ⊎ (first_odd rings ls ≡ true)
inside_odd rings [] j h = absurd (cc)
inside_odd rings ([] ∷ ls) j h = absurd j
inside_odd rings ((s ∷ []) ∷ ls) j h = absurd j
inside_odd rings ((s ∷ t ∷ ss) ∷ ls) j h = elim (either_true (holds rings (point_at s)) (first_inside rings ls) h) [
  | inl l ↦ elim (either_true (on_any (edges_of rings) (point_at s)) (parity (edges_of rings) (point_at s)) l) [
    | inl o ↦ inl (record {
      z = point_at s;
      first = or_left (on_edge (record { from = s; to = t }) (point_at s)) (list_any (λ e. on_edge e (point_at s)) (edges_from t ss ++ edges_of ls)) (on-from s t);
      second = o;
    })
    | inr o ↦ inr (or_left (parity (edges_of rings) (point_at s)) (first_odd rings ls) o)
  ]
  | inr r ↦ elim (inside_odd rings ls j r) [
    | inl m ↦ inl (record { z = m.z; first = any-right (λ e. on_edge e m.z) (edges (s ∷ t ∷ ss)) (edges_of ls) m.first; second = m.second })
    | inr o ↦ inr (or_right (parity (edges_of rings) (point_at s)) (first_odd rings ls) o)
  ]
]

-- the edges of the area are among those of the shape
area_on : (k : Shape) (z : Point) → on_any (edges_of (area_of k)) z ≡ true → on_any (edges_of (lines_of k)) z ≡ true
area_on (shape.Empty kind) z h = h
area_on (shape.Point s) z h = absurd (cc)
area_on (shape.Line path) z h = absurd (cc)
area_on (shape.Polygon rings) z h = h

pub areas_are : (k : Shape) → (parts_of k).areas ≡ area_of k ∷ []
areas_are (shape.Empty kind) = refl
areas_are (shape.Point s) = refl
areas_are (shape.Line path) = refl
areas_are (shape.Polygon rings) = refl

-- ---- the test
abbrev lines_pass : Limit → Shape → Shape → Bool
lines_pass l a b = list_any (is_near_any l (edges_of (lines_of b))) (edges_of (lines_of a))

-- the test over a shape's lines and area is the one over its parts
near_test_is : (l : Limit) (a b : Shape) →
    near_test l.strict (squared l) (parts_of a) (parts_of b)
    ≡ (below l.strict (pos 0) (squared l) && (lines_pass l a b || ((first_inside (area_of a) (lines_of b) || false) || (first_inside (area_of b) (lines_of a) || false))))
near_test_is l a b = rw (chains_are a, chains_are b, areas_are a, areas_are b) refl

or_false : (b : Bool) → (b || false) ≡ true → b ≡ true
or_false true h = refl
or_false false h = h

pub passes_near : (l : Limit) (a b : Shape) → IsSound a → IsSound b → Below l.strict (pos 0) (squared l) → shapes_test l a b ≡ true → Near a b l.distance l.strict
passes_near l a b sa sb o t =
    to_near l a b (test_finds l.strict (squared l) (parts_of a) (parts_of b) (sound_of a sa) (sound_of b sb)
    (near_test_is l a b ∙ both (below l.strict (pos 0) (squared l)) _ (true_below l.strict (pos 0) (squared l) o) whole))
  where
    rest : Bool
    rest = (first_inside (area_of a) (lines_of b) || false) || (first_inside (area_of b) (lines_of a) || false)

    whole : (lines_pass l a b || rest) ≡ true
    whole = elim (either_true (lines_pass l a b) (first_odd (area_of a) (lines_of b) || first_odd (area_of b) (lines_of a)) t) [
      | inl h ↦ or_left (lines_pass l a b) rest h
      | inr h ↦ or_right (lines_pass l a b) rest (elim (either_true (first_odd (area_of a) (lines_of b)) (first_odd (area_of b) (lines_of a)) h) [
        | inl x ↦ or_left (first_inside (area_of a) (lines_of b) || false) _ (or_left (first_inside (area_of a) (lines_of b)) false (odd_inside (area_of a) (lines_of b) x))
        | inr x ↦ or_right (first_inside (area_of a) (lines_of b) || false) _ (or_left (first_inside (area_of b) (lines_of a)) false (odd_inside (area_of b) (lines_of a) x))
      ])
    ]

pub near_passes : (l : Limit) (a b : Shape) → IsSound a → IsSound b → Near a b l.distance l.strict → shapes_test l a b ≡ true
near_passes l a b sa sb n =
    by_cases (right_true (below l.strict (pos 0) (squared l)) (lines_pass l a b || ((first_inside (area_of a) (lines_of b) || false) || (first_inside (area_of b) (lines_of a) || false)))
    (sym (near_test_is l a b) ∙ test_misses_none l.strict (squared l) (parts_of a) (parts_of b) (sound_of a sa) (sound_of b sb) (from_near l a b n)))
  where
    m : NearByStatus l.strict (squared l) (parts_of a) (parts_of b)
    m = from_near l a b n

    bound : Below l.strict (pos 0) (squared l)
    bound = bound_over l.strict (squared l) m.p m.q m.near

    lines : lines_pass l a b ≡ true → shapes_test l a b ≡ true
    lines h = or_left (lines_pass l a b) (first_odd (area_of a) (lines_of b) || first_odd (area_of b) (lines_of a)) h

    meet : (z : Point) → on_any (edges_of (lines_of a)) z ≡ true → on_any (edges_of (lines_of b)) z ≡ true → shapes_test l a b ≡ true
    meet z oa ob = lines (bones_pass l.strict (squared l) (edges_of (lines_of a)) (edges_of (lines_of b)) z z oa ob (near_self l.strict (squared l) z bound))

    in_area_of_a : first_inside (area_of a) (lines_of b) ≡ true → shapes_test l a b ≡ true
    in_area_of_a h = elim (inside_odd (area_of a) (lines_of b) (lines_joined b sb) h) [
      | inl t ↦ meet t.z (area_on a t.z t.second) t.first
      | inr x ↦ or_right (lines_pass l a b) _ (or_left (first_odd (area_of a) (lines_of b)) (first_odd (area_of b) (lines_of a)) x)
    ]

    in_area_of_b : first_inside (area_of b) (lines_of a) ≡ true → shapes_test l a b ≡ true
    in_area_of_b h = elim (inside_odd (area_of b) (lines_of a) (lines_joined a sa) h) [
      | inl t ↦ meet t.z t.first (area_on b t.z t.second)
      | inr x ↦ or_right (lines_pass l a b) _ (or_right (first_odd (area_of a) (lines_of b)) (first_odd (area_of b) (lines_of a)) x)
    ]

    by_cases : (lines_pass l a b || ((first_inside (area_of a) (lines_of b) || false) || (first_inside (area_of b) (lines_of a) || false))) ≡ true → shapes_test l a b ≡ true
    by_cases t = elim (either_true (lines_pass l a b) _ t) [
      | inl h ↦ lines h
      | inr h ↦ elim (either_true (first_inside (area_of a) (lines_of b) || false) (first_inside (area_of b) (lines_of a) || false) h) [
        | inl x ↦ in_area_of_a (or_false (first_inside (area_of a) (lines_of b)) x)
        | inr x ↦ in_area_of_b (or_false (first_inside (area_of b) (lines_of a)) x)
      ]
    ]

-- ---- shapes that are never near
no_room : (d : ℕ) (strict : Bool) → (strict && (d == 0)) ≡ true → Below strict (pos 0) (pos d *ℤ pos d) → ⊥
no_room zero true h o = let k : pos 0 <ℤ (pos 0 *ℤ pos 0) = o in omega (arith, sums)
no_room (suc d) true h o = let e : suc d ≡ 0 = eqb-true (suc d) 0 h in absurd (omega arith)
no_room d false h o = absurd (cc)

-- no distance is below 0
pub none_below_zero : (d : ℕ) (strict : Bool) (a b : Shape) → (strict && (d == 0)) ≡ true → Near a b d strict → ⊥
none_below_zero d strict a b h n = no_room d strict h (bound_over strict (pos d *ℤ pos d) n.p n.q (close_near n.p n.q d strict n.close))

-- every other limit is met by the distance 0
pub zero_meets : (l : Limit) → (l.strict && (l.distance == 0)) ≡ false → Below l.strict (pos 0) (squared l)
zero_meets l h = by_size l.distance l.strict h
  where
    by_size : (d : ℕ) (strict : Bool) → (strict && (d == 0)) ≡ false → Below strict (pos 0) (pos d *ℤ pos d)
    by_size d false h = n*n (pos d) (pos d) (omega (arith, sums)) (omega (arith, sums))
    by_size zero true h = absurd (eqb-false 0 0 h refl)
    by_size (suc d) true h = p*p (pos (suc d)) (pos (suc d)) (omega (arith, sums)) (omega (arith, sums))

pub decides : (l : Limit) (a b : Shape) → IsSound a → IsSound b → (l.strict && (l.distance == 0)) ≡ false → (IsTrue (shapes_test l a b) ↔ Near a b l.distance l.strict)
decides l a b sa sb h = (passes_near l a b sa sb (zero_meets l h), near_passes l a b sa sb)

-- an empty shape has no points
pub no_points : (k : Shape) → IsEmpty k → (p : Point) → HasPoint (parts_of k) p → ⊥
no_points k e p h = none e.0 (subst (λ (t : Shape). HasPoint (parts_of t) p) e.1 h)
  where
    none : (kind : Kind) → HasPoint (parts_of (shape.Empty kind)) p → ⊥
    none kind t = cc

pub none_near_first : (d : ℕ) (strict : Bool) (a b : Shape) → IsEmpty a → Near a b d strict → ⊥
none_near_first d strict a b e n = no_points a e n.p n.first

pub none_near_second : (d : ℕ) (strict : Bool) (a b : Shape) → IsEmpty b → Near a b d strict → ⊥
none_near_second d strict a b e n = no_points b e n.q n.second

-- a sound shape's points lie in its bounds
pub point_in : (k : Shape) (b : Bounds) → IsSound k → IsBounds b k → (p : Point) → HasPoint (parts_of k) p → PointIn b p
point_in k b s i p n =
    figure_in b (parts_of k) (sound_of k s)
    (subst (λ (ls : List (List Spot)). EdgesIn b (edges_of ls)) (sym (chains_are k)) (lines_in b (lines_of k) (on_lines (IsInside b) k i.inside)))
    p (has_status (parts_of k) (sound_of k s) p ∙ n)

pub apart_shapes : (d : ℕ) (strict : Bool) (a b : Shape) (r t : Bounds) → IsSound a → IsSound b → IsBounds r a → IsBounds t b → are_apart (pos d) r t ≡ true → Near a b d strict → ⊥
apart_shapes d strict a b r t sa sb ra tb h n =
    apart_points (pos d) (omega (arith, sums)) r t n.p n.q (point_in a r sa ra n.p n.first) (point_in b t sb tb n.q n.second) (weaker strict (close_near n.p n.q d strict n.close)) h
  where
    weaker : (strict : Bool) → SquareWithin strict (pos d *ℤ pos d) n.p n.q → SquareWithin false (pos d *ℤ pos d) n.p n.q
    weaker true h = omega (arith, sums)
    weaker false h = h
