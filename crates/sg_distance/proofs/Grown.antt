-- A shape that was grown has exactly the points of its box, and each point near the shape.
use Rattle.std.proofs.Common.{ℕ, ◌≡◌, ◌↔◌, arith, refl, sym, ap, ◌∙◌, subst, Bool, true, false, cond, List, [], ◌∷◌, int_lt, int_eq, neg_ℤ}
use Rattle.std.proofs.lemmas.Bool.Decides.{Decides-int_eq}
use Rattle.std.specs.List.{All, Any}
use Rattle.std.specs.Int.{int_min, int_max}
use mathlib.Core.Logic.{inl, inr}
use lib.IntN.{ℤ, pos, ◌+ℤ◌, ◌-ℤ◌, ◌*ℤ◌}
use lib.Signed.{◌<ℤ◌, ◌≤ℤ◌, lt_z}
use Rattle.sg_algebra.proofs.Ring.{sums}
use Rattle.sg_algebra.specs.Orders.{cmp, less, same, more}
use Rattle.sg_algebra.proofs.Comparisons.{lt-from_true, le-from_false, or_left}
use Rattle.sg_distance.proofs.Whole.{here, has_of}
use Rattle.sg_distance.proofs.Points.{has_status}
use Rattle.sg_distance.proofs.Bounds.{EdgesIn, lines_in, figure_in, moved_out as near_box}
use Rattle.sg_distance.proofs.Boxed.{Corners, ring_of, boxed, flat_on, upright_on, between_low}
use Rattle.sg_distance.proofs.Soundness.{on_lines, chains_are, sound_of, all_cons, all_none}
use Rattle.sg_distance.proofs.ShapeTests.{no_points, point_in, close_near}
use Rattle.sg_distance.specs.Figure.{on_any, bones, inside_any}
use Rattle.sg_distance.specs.Shapes.{lines_of}
use Rattle.sg_distance.specs.Grown.{HasItsBox, HasAllNear}
use Rattle.sg_shape.proofs.Limits.{IsBoxIn, bounds_in, at_least, at_most, grown_sound}
use Rattle.sg_shape.specs.Plane.{Point, on_edge, edges_of}
use Rattle.sg_shape.specs.Shapes.{parts_of, spots}
use Rattle.sg_shape.specs.Boxes.{HasPoint}
use Rattle.sg_shape.specs.Sound.{IsSound}
use Rattle.sg_shape.specs.Bounds.{IsInside, IsBounds}
use Rattle.sg_shape.specs.Grown.{PointIn, moved_out, low, low_right, high, high_left, by_sides, as_shape}
use Rattle.sg_shape.specs.declared.bounds.Bounds.{Bounds}
use Rattle.sg_shape.specs.declared.spots.Spot.{Spot}
use Rattle.sg_shape.specs.declared.shapes.Kind.{Kind}
use Rattle.sg_shape.specs.declared.shapes.Shape.{Shape}
use Rattle.sg_shape.specs.declared.shapes.Shape.TheVariants as shape

-- ---- the sides in order
pub record Ordered (b : Bounds) : Type 0 where
  pub across : b.xmin ≤ℤ b.xmax
  pub up : b.ymin ≤ℤ b.ymax

at_side : (P : Spot → Type 0) (Q : Spot → Type 0) (ss : List Spot) (R : Type 0) → All P ss → Any Q ss → ((t : Spot) → P t → Q t → R) → R
at_side P Q ss R all some f = f some.1 (subst P some.3 (all some.0 some.1 some.2)) some.4

pub bounds_ordered : (k : Shape) (b : Bounds) → IsBounds b k → Ordered b
bounds_ordered k b i = record {
  across = at_side (IsInside b) (λ t. t.x ≡ b.xmin) (spots k) (b.xmin ≤ℤ b.xmax) i.inside i.left (λ t h e. subst (λ (v : ℤ). v ≤ℤ b.xmax) e h.right);
  up = at_side (IsInside b) (λ t. t.y ≡ b.ymin) (spots k) (b.ymin ≤ℤ b.ymax) i.inside i.below (λ t h e. subst (λ (v : ℤ). v ≤ℤ b.ymax) e h.above);
}

-- bounds are unique
same_bounds : (k : Shape) (b c : Bounds) → IsBounds b k → IsBounds c k → b ≡ c
same_bounds k b c i j = four (antisym left_1 left_2) (antisym below_1 below_2) (antisym right_1 right_2) (antisym above_1 above_2)
  where
    antisym : {x y : ℤ} → x ≤ℤ y → y ≤ℤ x → x ≡ y
    antisym {x} {y} h l = omega (arith, sums)

    left_1 : b.xmin ≤ℤ c.xmin
    left_1 = at_side (IsInside b) (λ t. t.x ≡ c.xmin) (spots k) (b.xmin ≤ℤ c.xmin) i.inside j.left (λ t h e. subst (λ (v : ℤ). b.xmin ≤ℤ v) e h.left)

    left_2 : c.xmin ≤ℤ b.xmin
    left_2 = at_side (IsInside c) (λ t. t.x ≡ b.xmin) (spots k) (c.xmin ≤ℤ b.xmin) j.inside i.left (λ t h e. subst (λ (v : ℤ). c.xmin ≤ℤ v) e h.left)

    below_1 : b.ymin ≤ℤ c.ymin
    below_1 = at_side (IsInside b) (λ t. t.y ≡ c.ymin) (spots k) (b.ymin ≤ℤ c.ymin) i.inside j.below (λ t h e. subst (λ (v : ℤ). b.ymin ≤ℤ v) e h.below)

    below_2 : c.ymin ≤ℤ b.ymin
    below_2 = at_side (IsInside c) (λ t. t.y ≡ b.ymin) (spots k) (c.ymin ≤ℤ b.ymin) j.inside i.below (λ t h e. subst (λ (v : ℤ). c.ymin ≤ℤ v) e h.below)

    right_1 : b.xmax ≤ℤ c.xmax
    right_1 = at_side (IsInside c) (λ t. t.x ≡ b.xmax) (spots k) (b.xmax ≤ℤ c.xmax) j.inside i.right (λ t h e. subst (λ (v : ℤ). v ≤ℤ c.xmax) e h.right)

    right_2 : c.xmax ≤ℤ b.xmax
    right_2 = at_side (IsInside b) (λ t. t.x ≡ c.xmax) (spots k) (c.xmax ≤ℤ b.xmax) i.inside j.right (λ t h e. subst (λ (v : ℤ). v ≤ℤ b.xmax) e h.right)

    above_1 : b.ymax ≤ℤ c.ymax
    above_1 = at_side (IsInside c) (λ t. t.y ≡ b.ymax) (spots k) (b.ymax ≤ℤ c.ymax) j.inside i.above (λ t h e. subst (λ (v : ℤ). v ≤ℤ c.ymax) e h.above)

    above_2 : c.ymax ≤ℤ b.ymax
    above_2 = at_side (IsInside b) (λ t. t.y ≡ c.ymax) (spots k) (c.ymax ≤ℤ b.ymax) i.inside j.above (λ t h e. subst (λ (v : ℤ). v ≤ℤ b.ymax) e h.above)

    four : b.xmin ≡ c.xmin → b.ymin ≡ c.ymin → b.xmax ≡ c.xmax → b.ymax ≡ c.ymax → b ≡ c
    four e f g h =
        ap (λ (v : ℤ). record { xmin = v; ymin = b.ymin; xmax = b.xmax; ymax = b.ymax }) e
        ∙ ap (λ (v : ℤ). record { xmin = c.xmin; ymin = v; xmax = b.xmax; ymax = b.ymax }) f
        ∙ ap (λ (v : ℤ). record { xmin = c.xmin; ymin = c.ymin; xmax = v; ymax = b.ymax }) g
        ∙ ap (λ (v : ℤ). record { xmin = c.xmin; ymin = c.ymin; xmax = c.xmax; ymax = v }) h

-- ---- the one and the other of two numbers
max_case : (P : ℤ → Type 0) (x y : ℤ) → (y <ℤ x → P x) → (x ≤ℤ y → P y) → P (int_max x y)
max_case P x y f g = by_test (int_lt y x) refl
  where
    by_test : (b : Bool) → int_lt y x ≡ b → P (cond b x y)
    by_test true e = f (lt-from_true y x e)
    by_test false e = g (le-from_false y x e)

min_case : (P : ℤ → Type 0) (x y : ℤ) → (y <ℤ x → P y) → (x ≤ℤ y → P x) → P (int_min x y)
min_case P x y f g = by_test (int_lt y x) refl
  where
    by_test : (b : Bool) → int_lt y x ≡ b → P (cond b y x)
    by_test true e = f (lt-from_true y x e)
    by_test false e = g (le-from_false y x e)

-- ---- the box as a shape
-- all corners lie inside
corners_in : (t u : Bool) (b : Bounds) → Ordered b → All (IsInside b) (spots (by_sides t u b))
corners_in t u b o = by_kind t u
  where
    c1 : IsInside b (low b)
    c1 = let x = o.across in let y = o.up in record { left = omega (arith, sums); right = omega (arith, sums); below = omega (arith, sums); above = omega (arith, sums) }

    c2 : IsInside b (low_right b)
    c2 = let x = o.across in let y = o.up in record { left = omega (arith, sums); right = omega (arith, sums); below = omega (arith, sums); above = omega (arith, sums) }

    c3 : IsInside b (high b)
    c3 = let x = o.across in let y = o.up in record { left = omega (arith, sums); right = omega (arith, sums); below = omega (arith, sums); above = omega (arith, sums) }

    c4 : IsInside b (high_left b)
    c4 = let x = o.across in let y = o.up in record { left = omega (arith, sums); right = omega (arith, sums); below = omega (arith, sums); above = omega (arith, sums) }

    none : All (IsInside b) []
    none = all_none (IsInside b)

    cons : (s : Spot) (ss : List Spot) → IsInside b s → All (IsInside b) ss → All (IsInside b) (s ∷ ss)
    cons s ss h k = all_cons (IsInside b) s ss h k

    by_kind : (t u : Bool) → All (IsInside b) (spots (by_sides t u b))
    by_kind true true = cons (low b) [] c1 none
    by_kind true false = cons (low b) (high b ∷ []) c1 (cons (high b) [] c3 none)
    by_kind false true = cons (low b) (high b ∷ []) c1 (cons (high b) [] c3 none)
    by_kind false false =
        cons (low b) (low_right b ∷ high b ∷ high_left b ∷ low b ∷ []) c1
        (cons (low_right b) (high b ∷ high_left b ∷ low b ∷ []) c2
        (cons (high b) (high_left b ∷ low b ∷ []) c3 (cons (high_left b) (low b ∷ []) c4 (cons (low b) [] c1 none))))

-- its points lie in the box
shape_in : (g : Shape) (b : Bounds) → IsSound g → All (IsInside b) (spots g) → (p : Point) → HasPoint (parts_of g) p → PointIn b p
shape_in g b s i p h =
    figure_in b (parts_of g) (sound_of g s)
    (subst (λ (ls : List (List Spot)). EdgesIn b (edges_of ls)) (sym (chains_are g)) (lines_in b (lines_of g) (on_lines (IsInside b) g i)))
    p (has_status (parts_of g) (sound_of g s) p ∙ h)

-- a point on the lines is a point of the shape
on_shape : (g : Shape) → IsSound g → (p : Point) → on_any (edges_of (lines_of g)) p ≡ true → HasPoint (parts_of g) p
on_shape g s p h =
    sym (has_status (parts_of g) (sound_of g s) p)
    ∙ or_left (on_any (bones (parts_of g)) p) (inside_any (parts_of g).areas p) (ap (λ (ls : List (List Spot)). on_any (edges_of ls) p) (chains_are g) ∙ h)

-- each point of the box is one of the shape's
box_held : (t u : Bool) (b : Bounds) → IsSound (by_sides t u b) → Ordered b → int_eq b.xmin b.xmax ≡ t → int_eq b.ymin b.ymax ≡ u → (p : Point) → PointIn b p → HasPoint (parts_of (by_sides t u b)) p
box_held t u b s o et eu p i = by_kind t u s et eu
  where
    equal : (x y : ℤ) → int_eq x y ≡ true → x ≡ y
    equal x y e = (Decides-int_eq x y).0 e

    x_is : b.xmin ≡ b.xmax → p.x ≡ b.xmin *ℤ pos p.n
    x_is e = let l = i.left in let r : p.x ≤ℤ (b.xmin *ℤ pos p.n) = subst (λ (v : ℤ). p.x ≤ℤ (v *ℤ pos p.n)) (sym e) i.right in omega (arith, sums)

    y_is : b.ymin ≡ b.ymax → p.y ≡ b.ymin *ℤ pos p.n
    y_is e = let l = i.below in let r : p.y ≤ℤ (b.ymin *ℤ pos p.n) = subst (λ (v : ℤ). p.y ≤ℤ (v *ℤ pos p.n)) (sym e) i.above in omega (arith, sums)

    by_kind : (t u : Bool) → IsSound (by_sides t u b) → int_eq b.xmin b.xmax ≡ t → int_eq b.ymin b.ymax ≡ u → HasPoint (parts_of (by_sides t u b)) p
    by_kind true true s et eu =
        on_shape (by_sides true true b) s p (or_left (on_edge (record { from = low b; to = low b }) p) false
        (flat_on (low b) (low b) p refl (y_is (equal b.ymin b.ymax eu))
        (between_low b.xmin b.xmin p.x (pos p.n) i.left (subst (λ (v : ℤ). p.x ≤ℤ (v *ℤ pos p.n)) (sym (equal b.xmin b.xmax et)) i.right))))
    by_kind true false s et eu =
        on_shape (by_sides true false b) s p (or_left (on_edge (record { from = low b; to = high b }) p) false
        (upright_on (low b) (high b) p (equal b.xmin b.xmax et) (x_is (equal b.xmin b.xmax et)) (between_low b.ymin b.ymax p.y (pos p.n) i.below i.above)))
    by_kind false true s et eu =
        on_shape (by_sides false true b) s p (or_left (on_edge (record { from = low b; to = high b }) p) false
        (flat_on (low b) (high b) p (equal b.ymin b.ymax eu) (y_is (equal b.ymin b.ymax eu)) (between_low b.xmin b.xmax p.x (pos p.n) i.left i.right)))
    by_kind false false s et eu =
        sym (has_status (parts_of (by_sides false false b)) (sound_of (by_sides false false b) s) p)
        ∙ has_of (parts_of (by_sides false false b)) (ring_of corners) p here (boxed corners p i.left i.right i.below i.above)
      where
        tall : b.ymin <ℤ b.ymax
        tall = elim (cmp b.ymin b.ymax) [
          | less l ↦ l
          | same e ↦ absurd (clash (int_eq b.ymin b.ymax) ((Decides-int_eq b.ymin b.ymax).1 e) eu)
          | more l ↦ absurd (let k = o.up in omega (arith, sums))
        ]
          where
            clash : (v : Bool) → v ≡ true → v ≡ false → ⊥
            clash true e f = cc
            clash false e f = cc

        corners : Corners
        corners = record { ll = low b; lr = low_right b; ur = high b; ul = high_left b; bottom = refl; right = refl; top = refl; left = refl; tall = tall }

-- ---- grown
moved_ordered : (k : Shape) (b : Bounds) (d : ℕ) → IsSound k → IsBounds b k → Ordered (moved_out b d)
moved_ordered k b d s i =
    let o : Ordered b = bounds_ordered k b i in
    let l : IsBoxIn b = bounds_in k b s i in
    record {
      across = side b.xmin b.xmax o.across (at_most b.xmin l.left) (at_least b.xmax l.right);
      up = side b.ymin b.ymax o.up (at_most b.ymin l.below) (at_least b.ymax l.above);
    }
  where
    side : (x y : ℤ) → x ≤ℤ y → x ≤ℤ pos 16000000 → neg_ℤ (pos 16000000) ≤ℤ y → int_max (x -ℤ pos d) (neg_ℤ (pos 16000000)) ≤ℤ int_min (y +ℤ pos d) (pos 16000000)
    side x y h l r =
        max_case (λ (v : ℤ). v ≤ℤ int_min (y +ℤ pos d) (pos 16000000)) (x -ℤ pos d) (neg_ℤ (pos 16000000))
        (λ a. min_case (λ (v : ℤ). (x -ℤ pos d) ≤ℤ v) (y +ℤ pos d) (pos 16000000) (λ c. omega (arith, sums)) (λ c. omega (arith, sums)))
        (λ a. min_case (λ (v : ℤ). neg_ℤ (pos 16000000) ≤ℤ v) (y +ℤ pos d) (pos 16000000) (λ c. omega (arith, sums)) (λ c. omega (arith, sums)))

-- the shape that a box makes has exactly the points of the box
box_points : (k : Shape) (b : Bounds) (d : ℕ) → IsSound k → IsBounds b k → (p : Point) → HasPoint (parts_of (as_shape (moved_out b d))) p ↔ PointIn (moved_out b d) p
box_points k b d s i p =
    let m : Bounds = moved_out b d in
    let o : Ordered (moved_out b d) = moved_ordered k b d s i in
    let g : IsSound (as_shape (moved_out b d)) = grown_sound k b d s i in (
      shape_in (as_shape (moved_out b d)) (moved_out b d) g (corners_in (int_eq (moved_out b d).xmin (moved_out b d).xmax) (int_eq (moved_out b d).ymin (moved_out b d).ymax) (moved_out b d) o) p,
      box_held (int_eq (moved_out b d).xmin (moved_out b d).xmax) (int_eq (moved_out b d).ymin (moved_out b d).ymax) (moved_out b d) g o refl refl p,
    )

pub has_its_box : HasItsBox
has_its_box k g d b s i grown p = elim grown [
  | inl e ↦ absurd (boundless e.0 (subst (λ (t : Shape). IsBounds b t) e.1 i))
  | inr e ↦
      subst (λ (t : Shape). HasPoint (parts_of t) p ↔ PointIn (moved_out b d) p) (sym e.2)
      (subst (λ (c : Bounds). HasPoint (parts_of (as_shape (moved_out c d))) p ↔ PointIn (moved_out b d) p) (same_bounds k b e.0 i e.1) (box_points k b d s i p))
]
  where
    boundless : (kind : Kind) → IsBounds b (shape.Empty kind) → ⊥
    boundless kind j = let h = j.left.2 in omega arith

pub has_all_near : HasAllNear
has_all_near k g d s grown p q h n l = elim grown [
  | inl e ↦ absurd (no_points k (e.0, e.1) q h)
  | inr e ↦ subst (λ (t : Shape). HasPoint (parts_of t) p) (sym e.2) ((box_points k e.0 d s e.1 p).1 (cut e.0 (near_box e.0 (pos d) (omega (arith, sums)) p q (point_in k e.0 s e.1 q h) (close_near p q d false n))))
]
  where
    cut : (b : Bounds) → PointIn (record { xmin = b.xmin -ℤ pos d; ymin = b.ymin -ℤ pos d; xmax = b.xmax +ℤ pos d; ymax = b.ymax +ℤ pos d }) p → PointIn (moved_out b d) p
    cut b i = record {
      left = max_case (λ (v : ℤ). (v *ℤ pos p.n) ≤ℤ p.x) (b.xmin -ℤ pos d) (neg_ℤ (pos 16000000)) (λ a. i.left) (λ a. l.left);
      right = min_case (λ (v : ℤ). p.x ≤ℤ (v *ℤ pos p.n)) (b.xmax +ℤ pos d) (pos 16000000) (λ a. l.right) (λ a. i.right);
      below = max_case (λ (v : ℤ). (v *ℤ pos p.n) ≤ℤ p.y) (b.ymin -ℤ pos d) (neg_ℤ (pos 16000000)) (λ a. i.below) (λ a. l.below);
      above = min_case (λ (v : ℤ). p.y ≤ℤ (v *ℤ pos p.n)) (b.ymax +ℤ pos d) (pos 16000000) (λ a. l.above) (λ a. i.above);
    }
