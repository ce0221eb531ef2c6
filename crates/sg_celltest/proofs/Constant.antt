-- Where no edge of a shape meets a cell, or what lies within its sides, the points there are all points of the shape, or none is.
use Rattle.std.proofs.Common.{◌≡◌, ℕ, arith, refl, sym, ap, ◌∙◌, subst, Bool, true, false, List, [], ◌∷◌, ◌++◌}
use Rattle.std.specs.Prelude.{◌↔◌, IsTrue}
use Rattle.std.specs.List.{list_any}
use mathlib.Core.Bool.{◌&&◌, ◌||◌}
use mathlib.Core.Logic.{◌⊎◌, inl, inr}
use lib.IntN.{ℤ, pos, ◌+ℤ◌, ◌-ℤ◌, ◌*ℤ◌, *ℤ_comm, zero-*ℤ}
use lib.Signed.{◌<ℤ◌, ◌≤ℤ◌, lt_z, le_z}
use Rattle.sg_algebra.proofs.Ring.{sums, products, mul-nonneg, lt-mul_right}
use Rattle.sg_algebra.proofs.Cancelling.{le-cancel_right, lt-cancel_right}
use Rattle.sg_algebra.specs.Orders.{Cmp, cmp, less, same, more}
use Rattle.sg_distance.proofs.Signs.{p*p, n*n}
use Rattle.sg_algebra.proofs.Comparisons.{le-from_true, true-from_le, lt-from_true, true-from_lt, left_true, right_true, both, either_true, or_left, or_right}
use Rattle.sg_distance.proofs.Mix.{Along, along-on}
use Rattle.sg_distance.proofs.Walk.{Even, MetIn, walk_rings}
use Rattle.sg_distance.proofs.Reach.{same_parity}
use Rattle.sg_distance.proofs.Soundness.{sound_of}
use Rattle.sg_distance.proofs.ShapeTests.{areas_are}
use Rattle.sg_celltest.proofs.EdgePoints.{point_is}
use Rattle.sg_segment.specs.Statuses.{xor, parity}
use Rattle.sg_distance.specs.Figure.{on_any, Closed, AllClosed}
use Rattle.sg_distance.specs.Shapes.{lines_of, area_of}
use Rattle.sg_segment.specs.Cells.{is_inside}
use Rattle.sg_shape.specs.declared.spots.Spot.{Spot}
use Rattle.sg_shape.specs.declared.spots.Edge.{Edge}
use Rattle.sg_shape.specs.declared.cells.CellBox.{CellBox}
use Rattle.sg_shape.specs.declared.shapes.Shape.{Shape}
use Rattle.sg_shape.specs.declared.shapes.Shape.TheVariants as shape
use Rattle.sg_shape.specs.Plane.{Point, on_edge, edges_of}
use Rattle.sg_shape.specs.Boxes.{is_held, has_point, within, in_box, HasPoint, MeetsBox, CoversBox, IsCellBox}
use Rattle.sg_shape.specs.Shapes.{parts_of}
use Rattle.sg_shape.specs.Sound.{IsSound}
use Rattle.sg_celltest.specs.Edges.{all_edges, NoneIn, SomeIn, corner, middle}

-- ---- the area of a shape
closed_area : (k : Shape) → IsSound k → Closed (area_of k)
closed_area k s = (subst AllClosed (areas_are k) (sound_of k s).closed).0

-- the edges of the area are among those of the shape
area_on : (k : Shape) (z : Point) → on_any (edges_of (area_of k)) z ≡ true → on_any (all_edges k) z ≡ true
area_on (shape.Empty kind) z h = h
area_on (shape.Point s) z h = absurd (cc)
area_on (shape.Line path) z h = absurd (cc)
area_on (shape.Polygon rings) z h = h

-- ---- between two points of a cell
record Weighted (f g h : ℤ) : Type 0 where
  k : ℤ
  s : ℤ
  t : ℤ
  k_over : pos 0 <ℤ k
  s_over : pos 0 ≤ℤ s
  t_over : pos 0 ≤ℤ t
  some : pos 0 <ℤ (s +ℤ t)
  sum : k *ℤ h ≡ s *ℤ f +ℤ t *ℤ g

not_below : (f g h : ℤ) → Weighted f g h → pos 0 ≤ℤ f → pos 0 ≤ℤ g → pos 0 ≤ℤ h
not_below f g h w fo go =
    let a : pos 0 ≤ℤ (w.s *ℤ f) = n*n w.s f w.s_over fo in
    let b : pos 0 ≤ℤ (w.t *ℤ g) = n*n w.t g w.t_over go in
    let c : h *ℤ w.k ≡ w.k *ℤ h = *ℤ_comm h w.k in
    let e : w.k *ℤ h ≡ w.s *ℤ f +ℤ w.t *ℤ g = w.sum in
    let z : pos 0 *ℤ w.k ≡ pos 0 = zero-*ℤ w.k in
    le-cancel_right (pos 0) h w.k w.k_over (omega (arith, sums))

-- above 0 at the second point, which has some weight
above_second : (f g h : ℤ) → (w : Weighted f g h) → pos 0 <ℤ w.t → pos 0 ≤ℤ f → pos 0 <ℤ g → pos 0 <ℤ h
above_second f g h w to fo go =
    let a : pos 0 ≤ℤ (w.s *ℤ f) = n*n w.s f w.s_over fo in
    let b : pos 0 <ℤ (w.t *ℤ g) = p*p w.t g to go in
    let c : h *ℤ w.k ≡ w.k *ℤ h = *ℤ_comm h w.k in
    let e : w.k *ℤ h ≡ w.s *ℤ f +ℤ w.t *ℤ g = w.sum in
    let z : pos 0 *ℤ w.k ≡ pos 0 = zero-*ℤ w.k in
    lt-cancel_right (pos 0) h w.k w.k_over (omega (arith, sums))

above_both : (f g h : ℤ) → Weighted f g h → pos 0 <ℤ f → pos 0 <ℤ g → pos 0 <ℤ h
above_both f g h w fo go = by_weight (cmp (pos 0) w.t)
  where
    turned : Weighted g f h
    turned =
        let e : w.k *ℤ h ≡ w.s *ℤ f +ℤ w.t *ℤ g = w.sum in
        let o : pos 0 <ℤ (w.s +ℤ w.t) = w.some in
        record { k = w.k; s = w.t; t = w.s; k_over = w.k_over; s_over = w.t_over; t_over = w.s_over; some = omega (arith, sums); sum = omega (arith, sums) }

    by_weight : Cmp (pos 0) w.t → pos 0 <ℤ h
    by_weight (less l) = above_second f g h w l (omega (arith, sums)) go
    by_weight (same l) = let o : pos 0 <ℤ (w.s +ℤ w.t) = w.some in above_second g f h turned (omega (arith, sums)) (omega (arith, sums)) fo
    by_weight (more l) = let o : pos 0 ≤ℤ w.t = w.t_over in absurd (omega (arith, sums))

dif : (a k s t x n px pn qx qn : ℤ) → k *ℤ x ≡ s *ℤ px +ℤ t *ℤ qx → k *ℤ n ≡ s *ℤ pn +ℤ t *ℤ qn →
    k *ℤ (x -ℤ a *ℤ n) ≡ s *ℤ (px -ℤ a *ℤ pn) +ℤ t *ℤ (qx -ℤ a *ℤ qn)
dif a k s t x n px pn qx qn ex en =
    let c : a *ℤ (k *ℤ n) ≡ a *ℤ (s *ℤ pn +ℤ t *ℤ qn) = ap (λ (v : ℤ). a *ℤ v) en in
    let l : k *ℤ (x -ℤ a *ℤ n) ≡ k *ℤ x -ℤ a *ℤ (k *ℤ n) = simp products in
    let r : s *ℤ (px -ℤ a *ℤ pn) +ℤ t *ℤ (qx -ℤ a *ℤ qn) ≡ (s *ℤ px +ℤ t *ℤ qx) -ℤ a *ℤ (s *ℤ pn +ℤ t *ℤ qn) = simp products (omega (arith, sums)) in
    omega (arith, sums)

fid : (a k s t x n px pn qx qn : ℤ) → k *ℤ x ≡ s *ℤ px +ℤ t *ℤ qx → k *ℤ n ≡ s *ℤ pn +ℤ t *ℤ qn →
    k *ℤ (a *ℤ n -ℤ x) ≡ s *ℤ (a *ℤ pn -ℤ px) +ℤ t *ℤ (a *ℤ qn -ℤ qx)
fid a k s t x n px pn qx qn ex en =
    let c : a *ℤ (k *ℤ n) ≡ a *ℤ (s *ℤ pn +ℤ t *ℤ qn) = ap (λ (v : ℤ). a *ℤ v) en in
    let l : k *ℤ (a *ℤ n -ℤ x) ≡ a *ℤ (k *ℤ n) -ℤ k *ℤ x = simp products in
    let r : s *ℤ (a *ℤ pn -ℤ px) +ℤ t *ℤ (a *ℤ qn -ℤ qx) ≡ a *ℤ (s *ℤ pn +ℤ t *ℤ qn) -ℤ (s *ℤ px +ℤ t *ℤ qx) = simp products (omega (arith, sums)) in
    omega (arith, sums)

module _ (p q z : Point) (a : Along p q z) where
  weight : pos 0 <ℤ (a.s +ℤ a.t)
  weight = by_weights (cmp (pos 0) a.s) (cmp (pos 0) a.t)
    where
      s_over : pos 0 ≤ℤ a.s
      s_over = a.s_over

      t_over : pos 0 ≤ℤ a.t
      t_over = a.t_over

      none : a.s ≡ pos 0 → a.t ≡ pos 0 → pos 0 <ℤ (a.s +ℤ a.t)
      none e f = absurd (
          let l : pos 0 <ℤ (a.k *ℤ pos z.n) = p*p a.k (pos z.n) a.k_over (omega (arith, sums, z.is_over)) in
          let g : a.k *ℤ pos z.n ≡ a.s *ℤ pos p.n +ℤ a.t *ℤ pos q.n = a.in_n in
          let u : a.s *ℤ pos p.n ≡ pos 0 = ap (λ (v : ℤ). v *ℤ pos p.n) e ∙ zero-*ℤ (pos p.n) in
          let v : a.t *ℤ pos q.n ≡ pos 0 = ap (λ (v : ℤ). v *ℤ pos q.n) f ∙ zero-*ℤ (pos q.n) in
          omega (arith, sums))

      by_weights : Cmp (pos 0) a.s → Cmp (pos 0) a.t → pos 0 <ℤ (a.s +ℤ a.t)
      by_weights (less l) d = omega (arith, sums, l, t_over)
      by_weights (more l) d = absurd (omega (arith, sums, l, s_over))
      by_weights (same e) (less l) = omega (arith, sums, l, s_over)
      by_weights (same e) (more l) = absurd (omega (arith, sums, l, t_over))
      by_weights (same e) (same f) = none (sym e) (sym f)

  abbrev low_x : (v : ℤ) → Weighted (p.x -ℤ v *ℤ pos p.n) (q.x -ℤ v *ℤ pos q.n) (z.x -ℤ v *ℤ pos z.n)
  low_x v = record { k = a.k; s = a.s; t = a.t; k_over = a.k_over; s_over = a.s_over; t_over = a.t_over; some = weight; sum = dif v a.k a.s a.t z.x (pos z.n) p.x (pos p.n) q.x (pos q.n) a.in_x a.in_n }

  abbrev high_x : (v : ℤ) → Weighted (v *ℤ pos p.n -ℤ p.x) (v *ℤ pos q.n -ℤ q.x) (v *ℤ pos z.n -ℤ z.x)
  high_x v = record { k = a.k; s = a.s; t = a.t; k_over = a.k_over; s_over = a.s_over; t_over = a.t_over; some = weight; sum = fid v a.k a.s a.t z.x (pos z.n) p.x (pos p.n) q.x (pos q.n) a.in_x a.in_n }

  abbrev low_y : (v : ℤ) → Weighted (p.y -ℤ v *ℤ pos p.n) (q.y -ℤ v *ℤ pos q.n) (z.y -ℤ v *ℤ pos z.n)
  low_y v = record { k = a.k; s = a.s; t = a.t; k_over = a.k_over; s_over = a.s_over; t_over = a.t_over; some = weight; sum = dif v a.k a.s a.t z.y (pos z.n) p.y (pos p.n) q.y (pos q.n) a.in_y a.in_n }

  abbrev high_y : (v : ℤ) → Weighted (v *ℤ pos p.n -ℤ p.y) (v *ℤ pos q.n -ℤ q.y) (v *ℤ pos z.n -ℤ z.y)
  high_y v = record { k = a.k; s = a.s; t = a.t; k_over = a.k_over; s_over = a.s_over; t_over = a.t_over; some = weight; sum = fid v a.k a.s a.t z.y (pos z.n) p.y (pos p.n) q.y (pos q.n) a.in_y a.in_n }

-- ---- a cell holds what lies between two of its points
within-parts : (low high v : ℤ) (closed : Bool) (n : ℕ) → within low high closed v n ≡ true → (pos 0 ≤ℤ (v -ℤ low *ℤ pos n)) × (pos 0 ≤ℤ (high *ℤ pos n -ℤ v))
within-parts low high v closed n h =
    let l : (low *ℤ pos n) ≤ℤ v = le-from_true (low *ℤ pos n) v (left_true (le_z (low *ℤ pos n) v) (lt_z v (high *ℤ pos n) || (closed && le_z v (high *ℤ pos n))) h) in
    let m : v ≤ℤ (high *ℤ pos n) = at_most (either_true (lt_z v (high *ℤ pos n)) (closed && le_z v (high *ℤ pos n)) (right_true (le_z (low *ℤ pos n) v) (lt_z v (high *ℤ pos n) || (closed && le_z v (high *ℤ pos n))) h)) in
    (omega (arith, sums), omega (arith, sums))
  where
    at_most : (lt_z v (high *ℤ pos n) ≡ true) ⊎ ((closed && le_z v (high *ℤ pos n)) ≡ true) → v ≤ℤ (high *ℤ pos n)
    at_most (inl t) = let l : v <ℤ (high *ℤ pos n) = lt-from_true v (high *ℤ pos n) t in omega (arith, sums)
    at_most (inr t) = le-from_true v (high *ℤ pos n) (right_true closed (le_z v (high *ℤ pos n)) t)

strictly : (low high v : ℤ) (n : ℕ) → within low high false v n ≡ true → pos 0 <ℤ (high *ℤ pos n -ℤ v)
strictly low high v n h =
    let l : v <ℤ (high *ℤ pos n) = lt-from_true v (high *ℤ pos n) (only (lt_z v (high *ℤ pos n)) (right_true (le_z (low *ℤ pos n) v) (lt_z v (high *ℤ pos n) || false) h)) in
    omega (arith, sums)
  where
    only : (b : Bool) → (b || false) ≡ true → b ≡ true
    only true h = refl
    only false h = h

within-made : (low high v : ℤ) (closed : Bool) (n : ℕ) → pos 0 ≤ℤ (v -ℤ low *ℤ pos n) → (lt_z v (high *ℤ pos n) || (closed && le_z v (high *ℤ pos n))) ≡ true → within low high closed v n ≡ true
within-made low high v closed n l h = both (le_z (low *ℤ pos n) v) (lt_z v (high *ℤ pos n) || (closed && le_z v (high *ℤ pos n))) (true-from_le (low *ℤ pos n) v (omega (arith, sums))) h

within-between : (low high u v w : ℤ) (closed : Bool) (m n o : ℕ) →
    Weighted (u -ℤ low *ℤ pos m) (v -ℤ low *ℤ pos n) (w -ℤ low *ℤ pos o) → Weighted (high *ℤ pos m -ℤ u) (high *ℤ pos n -ℤ v) (high *ℤ pos o -ℤ w) →
    within low high closed u m ≡ true → within low high closed v n ≡ true → within low high closed w o ≡ true
within-between low high u v w true m n o a b h k =
    let p = within-parts low high u true m h in
    let q = within-parts low high v true n k in
    let r : pos 0 ≤ℤ (high *ℤ pos o -ℤ w) = not_below (high *ℤ pos m -ℤ u) (high *ℤ pos n -ℤ v) (high *ℤ pos o -ℤ w) b p.1 q.1 in
    within-made low high w true o (not_below (u -ℤ low *ℤ pos m) (v -ℤ low *ℤ pos n) (w -ℤ low *ℤ pos o) a p.0 q.0)
    (or_right (lt_z w (high *ℤ pos o)) (true && le_z w (high *ℤ pos o)) (true-from_le w (high *ℤ pos o) (omega (arith, sums))))
within-between low high u v w false m n o a b h k =
    let p = within-parts low high u false m h in
    let q = within-parts low high v false n k in
    let r : pos 0 <ℤ (high *ℤ pos o -ℤ w) = above_both (high *ℤ pos m -ℤ u) (high *ℤ pos n -ℤ v) (high *ℤ pos o -ℤ w) b (strictly low high u m h) (strictly low high v n k) in
    within-made low high w false o (not_below (u -ℤ low *ℤ pos m) (v -ℤ low *ℤ pos n) (w -ℤ low *ℤ pos o) a p.0 q.0)
    (or_left (lt_z w (high *ℤ pos o)) (false && le_z w (high *ℤ pos o)) (true-from_lt w (high *ℤ pos o) (omega (arith, sums))))

box-between : (c : CellBox) (p q z : Point) → Along p q z → in_box c p ≡ true → in_box c q ≡ true → in_box c z ≡ true
box-between c p q z a h k =
    both (within c.xlow c.xhigh c.closed_x z.x z.n) (within c.ylow c.yhigh c.closed_y z.y z.n)
    (within-between c.xlow c.xhigh p.x q.x z.x c.closed_x p.n q.n z.n (low_x p q z a c.xlow) (high_x p q z a c.xhigh)
    (left_true (within c.xlow c.xhigh c.closed_x p.x p.n) (within c.ylow c.yhigh c.closed_y p.y p.n) h) (left_true (within c.xlow c.xhigh c.closed_x q.x q.n) (within c.ylow c.yhigh c.closed_y q.y q.n) k))
    (within-between c.ylow c.yhigh p.y q.y z.y c.closed_y p.n q.n z.n (low_y p q z a c.ylow) (high_y p q z a c.yhigh)
    (right_true (within c.xlow c.xhigh c.closed_x p.x p.n) (within c.ylow c.yhigh c.closed_y p.y p.n) h) (right_true (within c.xlow c.xhigh c.closed_x q.x q.n) (within c.ylow c.yhigh c.closed_y q.y q.n) k))

-- ---- what lies between a point of the cell and one inside is inside, but for the first point itself
record Inner (low high v n : ℤ) : Type 0 where
  above : pos 0 <ℤ (v -ℤ low *ℤ n)
  below : pos 0 <ℤ (high *ℤ n -ℤ v)

inner : (low high v n : ℤ) → (lt_z (low *ℤ n) v && lt_z v (high *ℤ n)) ≡ true → Inner low high v n
inner low high v n h =
    let l : (low *ℤ n) <ℤ v = lt-from_true (low *ℤ n) v (left_true (lt_z (low *ℤ n) v) (lt_z v (high *ℤ n)) h) in
    let m : v <ℤ (high *ℤ n) = lt-from_true v (high *ℤ n) (right_true (lt_z (low *ℤ n) v) (lt_z v (high *ℤ n)) h) in
    record { above = omega (arith, sums); below = omega (arith, sums) }

inner-test : (low high v n : ℤ) → pos 0 <ℤ (v -ℤ low *ℤ n) → pos 0 <ℤ (high *ℤ n -ℤ v) → (lt_z (low *ℤ n) v && lt_z v (high *ℤ n)) ≡ true
inner-test low high v n a b =
    both (lt_z (low *ℤ n) v) (lt_z v (high *ℤ n)) (true-from_lt (low *ℤ n) v (omega (arith, sums))) (true-from_lt v (high *ℤ n) (omega (arith, sums)))

inside-between : (c : CellBox) (p q z : Point) (a : Along p q z) → pos 0 <ℤ a.t → in_box c p ≡ true → is_inside c q ≡ true → is_inside c z ≡ true
inside-between c p q z a to h k =
    let px = within-parts c.xlow c.xhigh p.x c.closed_x p.n (left_true (within c.xlow c.xhigh c.closed_x p.x p.n) (within c.ylow c.yhigh c.closed_y p.y p.n) h) in
    let py = within-parts c.ylow c.yhigh p.y c.closed_y p.n (right_true (within c.xlow c.xhigh c.closed_x p.x p.n) (within c.ylow c.yhigh c.closed_y p.y p.n) h) in
    let qx : Inner c.xlow c.xhigh q.x (pos q.n) = inner c.xlow c.xhigh q.x (pos q.n) (left_true (lt_z (c.xlow *ℤ pos q.n) q.x && lt_z q.x (c.xhigh *ℤ pos q.n)) (lt_z (c.ylow *ℤ pos q.n) q.y && lt_z q.y (c.yhigh *ℤ pos q.n)) k) in
    let qy : Inner c.ylow c.yhigh q.y (pos q.n) = inner c.ylow c.yhigh q.y (pos q.n) (right_true (lt_z (c.xlow *ℤ pos q.n) q.x && lt_z q.x (c.xhigh *ℤ pos q.n)) (lt_z (c.ylow *ℤ pos q.n) q.y && lt_z q.y (c.yhigh *ℤ pos q.n)) k) in
    both (lt_z (c.xlow *ℤ pos z.n) z.x && lt_z z.x (c.xhigh *ℤ pos z.n)) (lt_z (c.ylow *ℤ pos z.n) z.y && lt_z z.y (c.yhigh *ℤ pos z.n))
    (inner-test c.xlow c.xhigh z.x (pos z.n)
    (above_second (p.x -ℤ c.xlow *ℤ pos p.n) (q.x -ℤ c.xlow *ℤ pos q.n) (z.x -ℤ c.xlow *ℤ pos z.n) (low_x p q z a c.xlow) to px.0 qx.above)
    (above_second (c.xhigh *ℤ pos p.n -ℤ p.x) (c.xhigh *ℤ pos q.n -ℤ q.x) (c.xhigh *ℤ pos z.n -ℤ z.x) (high_x p q z a c.xhigh) to px.1 qx.below))
    (inner-test c.ylow c.yhigh z.y (pos z.n)
    (above_second (p.y -ℤ c.ylow *ℤ pos p.n) (q.y -ℤ c.ylow *ℤ pos q.n) (z.y -ℤ c.ylow *ℤ pos z.n) (low_y p q z a c.ylow) to py.0 qy.above)
    (above_second (c.yhigh *ℤ pos p.n -ℤ p.y) (c.yhigh *ℤ pos q.n -ℤ q.y) (c.yhigh *ℤ pos z.n -ℤ z.y) (high_y p q z a c.yhigh) to py.1 qy.below))

-- the first point itself, by another name
back : (p q z : Point) (a : Along p q z) → a.t ≡ pos 0 → Along z z p
back p q z a e =
    let o : pos 0 <ℤ (a.s +ℤ a.t) = weight p q z a in
    record {
      k = a.s;
      s = a.k;
      t = pos 0;
      k_over = omega (arith, sums);
      s_over = let k : pos 0 <ℤ a.k = a.k_over in omega (arith, sums);
      t_over = omega (arith, sums);
      in_x = alone a.s a.k a.t p.x q.x z.x e a.in_x;
      in_y = alone a.s a.k a.t p.y q.y z.y e a.in_y;
      in_n = alone a.s a.k a.t (pos p.n) (pos q.n) (pos z.n) e a.in_n;
    }
  where
    alone : (s k t x y z : ℤ) → t ≡ pos 0 → k *ℤ z ≡ s *ℤ x +ℤ t *ℤ y → s *ℤ x ≡ k *ℤ z +ℤ pos 0 *ℤ z
    alone s k t x y z e h =
        let u : t *ℤ y ≡ pos 0 = ap (λ (v : ℤ). v *ℤ y) e ∙ zero-*ℤ y in
        let v : pos 0 *ℤ z ≡ pos 0 = zero-*ℤ z in
        omega (arith, sums)

any_more : (f g : Edge → Bool) → ((e : Edge) → f e ≡ true → g e ≡ true) → (es : List Edge) → list_any f es ≡ true → list_any g es ≡ true
any_more f g h [] t = absurd (cc)
any_more f g h (e ∷ es) t = elim (either_true (f e) (list_any f es) t) [
  | inl l ↦ or_left (g e) (list_any g es) (h e l)
  | inr r ↦ or_right (g e) (list_any g es) (any_more f g h es r)
]

-- ---- one status
module _ (k : Shape) (s : IsSound k) (c : CellBox) where
  abbrev odd_at : Point → Bool
  odd_at p = parity (edges_of (area_of k)) p

  -- where no edge meets the cell
  same_in_cell : NoneIn (all_edges k) (in_box c) → (p q : Point) → in_box c p ≡ true → in_box c q ≡ true → odd_at p ≡ odd_at q
  same_in_cell none p q h j = by_walk (walk_rings p q (area_of k) (closed_area k s))
    where
      by_walk : Even p q (edges_of (area_of k)) → odd_at p ≡ odd_at q
      by_walk (inl m) = absurd (none m.z (area_on k m.z m.on) (box-between c p q m.z m.along h j))
      by_walk (inr e) = same_parity (odd_at p) (odd_at q) e

  -- where none meets what lies within its sides, from a point of the cell that is on no edge to one inside
  same_inside : NoneIn (all_edges k) (is_inside c) → (p q : Point) → (on_any (all_edges k) p ≡ true → ⊥) → in_box c p ≡ true → is_inside c q ≡ true → odd_at p ≡ odd_at q
  same_inside none p q off h j = by_walk (walk_rings p q (area_of k) (closed_area k s))
    where
      by_weight : (m : MetIn p q (edges_of (area_of k))) → Cmp (pos 0) m.along.t → ⊥
      by_weight m (less l) = none m.z (area_on k m.z m.on) (inside-between c p q m.z m.along l h j)
      by_weight m (same e) = off (any_more (λ f. on_edge f m.z) (λ f. on_edge f p) (λ f t. along-on f m.z m.z p (back p q m.z m.along (sym e)) t t) (all_edges k) (area_on k m.z m.on))
      by_weight m (more l) = let o : pos 0 ≤ℤ m.along.t = m.along.t_over in absurd (omega (arith, sums))

      by_walk : Even p q (edges_of (area_of k)) → odd_at p ≡ odd_at q
      by_walk (inl m) = absurd (by_weight m (cmp (pos 0) m.along.t))
      by_walk (inr e) = same_parity (odd_at p) (odd_at q) e

  -- ---- meets
  pub met_by_edges : SomeIn (all_edges k) (in_box c) → MeetsBox k c
  met_by_edges m = (m.0, point_is k s m.0 ∙ or_left (on_any (all_edges k) m.0) (odd_at m.0) m.1, m.2)

  pub met_by_corner : (r : Bool) → NoneIn (all_edges k) (in_box c) → in_box c (corner c) ≡ true → r ≡ has_point (parts_of k) (corner c) → IsTrue r ↔ MeetsBox k c
  met_by_corner r none low e = (
    λ t. (corner c, sym e ∙ t, low),
    λ m.
        e ∙ point_is k s (corner c)
        ∙ elim (either_true (on_any (all_edges k) m.0) (odd_at m.0) (sym (point_is k s m.0) ∙ m.1)) [
          | inl l ↦ absurd (none m.0 l m.2)
          | inr o ↦ or_right (on_any (all_edges k) (corner c)) (odd_at (corner c)) (same_in_cell none (corner c) m.0 low m.2 ∙ o)
        ],
  )

  -- ---- covers
  pub covered_by_middle : (r : Bool) → NoneIn (all_edges k) (is_inside c) → is_inside c (middle c) ≡ true → in_box c (middle c) ≡ true → r ≡ has_point (parts_of k) (middle c) → IsTrue r ↔ CoversBox k c
  covered_by_middle r none deep low e = (
    λ t p h. covered p h (on_any (all_edges k) p) refl (sym (point_is k s (middle c)) ∙ (sym e ∙ t)),
    λ f. e ∙ f (middle c) low,
  )
    where
      covered : (p : Point) → in_box c p ≡ true → (b : Bool) → on_any (all_edges k) p ≡ b → (on_any (all_edges k) (middle c) || odd_at (middle c)) ≡ true → HasPoint (parts_of k) p
      covered p h true g t = point_is k s p ∙ or_left (on_any (all_edges k) p) (odd_at p) g
      covered p h false g t =
          point_is k s p
          ∙ elim (either_true (on_any (all_edges k) (middle c)) (odd_at (middle c)) t) [
            | inl l ↦ absurd (none (middle c) l deep)
            | inr o ↦ or_right (on_any (all_edges k) p) (odd_at p) (same_inside none p (middle c) (λ l. absurd (let z : true ≡ false = sym l ∙ g in cc)) h deep ∙ o)
          ]
