-- Three spots on one side of a box: no point of the box lies on the edges between them, or within their triangle.
use Rattle.std.proofs.Common.{ℕ, ◌≡◌, arith, refl, sym, ◌∙◌, Bool, true, false, not, [], ◌∷◌, ℤ, pos, neg_ℤ}
use mathlib.Core.Bool.{◌&&◌, ◌||◌}
use mathlib.Core.Logic.{◌⊎◌, inl, inr}
use lib.IntN.{◌+ℤ◌, ◌-ℤ◌, ◌*ℤ◌}
use lib.Signed.{◌<ℤ◌, ◌≤ℤ◌, lt_z, le_z}
use Rattle.sg_algebra.proofs.Ring.{sums, plus_one, minus_one}
use Rattle.sg_algebra.proofs.Comparisons.{le-from_true, lt-from_true, left_true, right_true, either_true, is_false}
use Rattle.sg_algebra.proofs.Edges.{on_edge-turned, crosses_ray-turned}
use Rattle.sg_distance.proofs.Bounds.{figure_in}
use Rattle.sg_segment.specs.Statuses.{xor, parity}
use Rattle.sg_distance.specs.Figure.{has, Sound}
use Rattle.sg_shape.specs.declared.bounds.Bounds.{Bounds}
use Rattle.sg_shape.specs.declared.cells.CellBox.{CellBox}
use Rattle.sg_shape.specs.declared.spots.Spot.{Spot}
use Rattle.sg_shape.specs.declared.spots.Edge.{Edge}
use Rattle.sg_shape.specs.Bounds.{IsInside}
use Rattle.sg_shape.specs.Grown.{PointIn}
use Rattle.sg_shape.specs.Plane.{Point, Parts, on_edge, crosses_ray}
use Rattle.sg_shape.specs.Boxes.{in_box, within}
use Rattle.sg_shape.specs.Sound.{is_out, coord_ok}
use Rattle.sg_nearby.specs.Nearby.{lies_left, lies_right, lies_below, lies_above, are_beside}

abbrev edge : Spot → Spot → Edge
edge u v = record { from = u; to = v }

-- the way over the second spot and the short way are one to the point
pub record Idle (s t u : Spot) (p : Point) : Type 0 where
  pub first : on_edge (edge s t) p ≡ false
  pub second : on_edge (edge t u) p ≡ false
  pub short : on_edge (edge s u) p ≡ false
  pub odd : xor (crosses_ray (edge s t) p) (crosses_ray (edge t u) p) ≡ crosses_ray (edge s u) p

triangle : Spot → Spot → Spot → Parts
triangle s t u = record { points = []; lines = []; areas = ((s ∷ t ∷ u ∷ s ∷ []) ∷ []) ∷ [] }

none_of_three : (a b c : Bool) (t : Bool) → ((a || (b || (c || false))) || (t || false)) ≡ false → (a ≡ false) × ((b ≡ false) × ((c ≡ false) × (t ≡ false)))
none_of_three true b c t h = absurd (cc)
none_of_three false true c t h = absurd (cc)
none_of_three false false true t h = absurd (cc)
none_of_three false false false true h = absurd (cc)
none_of_three false false false false h = (refl, (refl, (refl, refl)))

by_sum : (a b c : Bool) → xor a (xor b (xor c false)) ≡ false → xor a b ≡ c
by_sum true true true h = absurd (cc)
by_sum true true false h = refl
by_sum true false true h = refl
by_sum true false false h = absurd (cc)
by_sum false true true h = refl
by_sum false true false h = absurd (cc)
by_sum false false true h = absurd (cc)
by_sum false false false h = refl

idle_by : (b : Bounds) (s t u : Spot) (p : Point) → IsInside b s → IsInside b t → IsInside b u → (PointIn b p → ⊥) → Idle s t u p
unfolding triangle
idle_by b s t u p i j k out =
    let k0 : Sound (triangle s t u) = record { joined = tt; closed = ((refl, tt), tt) } in
    let f : has (triangle s t u) p ≡ false = is_false (has (triangle s t u) p) (λ h. absurd (out (figure_in b (triangle s t u) k0 ((i, j), ((j, k), ((k, i), tt))) p h))) in
    let n = none_of_three (on_edge (edge s t) p) (on_edge (edge t u) p) (on_edge (edge u s) p) (parity (edge s t ∷ edge t u ∷ edge u s ∷ []) p) f in
    record {
      first = n.0;
      second = n.1.0;
      short = is_false (on_edge (edge s u) p) (λ h. absurd (let z : true ≡ false = sym (on_edge-turned s u p ∙ h) ∙ n.1.1.0 in cc));
      odd = by_sum (crosses_ray (edge s t) p) (crosses_ray (edge t u) p) (crosses_ray (edge u s) p) n.1.1.1 ∙ crosses_ray-turned s u p;
    }

-- ---- within the limits
record In (s : Spot) : Type 0 where
  left : neg_ℤ (pos 16000000) ≤ℤ s.x
  right : s.x ≤ℤ pos 16000000
  below : neg_ℤ (pos 16000000) ≤ℤ s.y
  above : s.y ≤ℤ pos 16000000

limits : (s : Spot) → is_out s ≡ false → In s
limits s h =
    let e : (coord_ok s.x && coord_ok s.y) ≡ true = is_true (coord_ok s.x && coord_ok s.y) h in
    let x = left_true (coord_ok s.x) (coord_ok s.y) e in
    let y = right_true (coord_ok s.x) (coord_ok s.y) e in
    record {
      left = le-from_true (neg_ℤ (pos 16000000)) s.x (left_true (le_z (neg_ℤ (pos 16000000)) s.x) (le_z s.x (pos 16000000)) x);
      right = le-from_true s.x (pos 16000000) (right_true (le_z (neg_ℤ (pos 16000000)) s.x) (le_z s.x (pos 16000000)) x);
      below = le-from_true (neg_ℤ (pos 16000000)) s.y (left_true (le_z (neg_ℤ (pos 16000000)) s.y) (le_z s.y (pos 16000000)) y);
      above = le-from_true s.y (pos 16000000) (right_true (le_z (neg_ℤ (pos 16000000)) s.y) (le_z s.y (pos 16000000)) y);
    }
  where
    is_true : (b : Bool) → not b ≡ false → b ≡ true
    is_true true e = refl
    is_true false e = absurd (cc)

low_end : (low high v : ℤ) (closed : Bool) (n : ℕ) → within low high closed v n ≡ true → (low *ℤ pos n) ≤ℤ v
low_end low high v closed n h = le-from_true (low *ℤ pos n) v (left_true (le_z (low *ℤ pos n) v) (lt_z v (high *ℤ pos n) || (closed && le_z v (high *ℤ pos n))) h)

high_end : (low high v : ℤ) (closed : Bool) (n : ℕ) → within low high closed v n ≡ true → v ≤ℤ (high *ℤ pos n)
high_end low high v closed n h = at_most (either_true (lt_z v (high *ℤ pos n)) (closed && le_z v (high *ℤ pos n)) (right_true (le_z (low *ℤ pos n) v) (lt_z v (high *ℤ pos n) || (closed && le_z v (high *ℤ pos n))) h))
  where
    at_most : (lt_z v (high *ℤ pos n) ≡ true) ⊎ ((closed && le_z v (high *ℤ pos n)) ≡ true) → v ≤ℤ (high *ℤ pos n)
    at_most (inl t) = let l : v <ℤ (high *ℤ pos n) = lt-from_true v (high *ℤ pos n) t in omega (arith, sums)
    at_most (inr t) = le-from_true v (high *ℤ pos n) (right_true closed (le_z v (high *ℤ pos n)) t)

three : (a b c : Bool) → (a && b && c) ≡ true → (a ≡ true) × ((b ≡ true) × (c ≡ true))
three true true true h = (refl, (refl, refl))
three true true false h = absurd (cc)
three true false c h = absurd (cc)
three false b c h = absurd (cc)

module _ (c : CellBox) (s t u : Spot) (p : Point) (i : In s) (j : In t) (k : In u) (w : in_box c p ≡ true) where
  across : within c.xlow c.xhigh c.closed_x p.x p.n ≡ true
  across = left_true (within c.xlow c.xhigh c.closed_x p.x p.n) (within c.ylow c.yhigh c.closed_y p.y p.n) w

  up : within c.ylow c.yhigh c.closed_y p.y p.n ≡ true
  up = right_true (within c.xlow c.xhigh c.closed_x p.x p.n) (within c.ylow c.yhigh c.closed_y p.y p.n) w

  over : pos 1 ≤ℤ pos p.n
  over = omega (arith, sums, p.is_over)

  by_left : (lies_left c s && lies_left c t && lies_left c u) ≡ true → Idle s t u p
  by_left h =
      let e = three (lies_left c s) (lies_left c t) (lies_left c u) h in
      idle_by (record { xmin = neg_ℤ (pos 16000000); ymin = neg_ℤ (pos 16000000); xmax = c.xlow -ℤ pos 1; ymax = pos 16000000 }) s t u p
      (inside s i (lt-from_true s.x c.xlow e.0)) (inside t j (lt-from_true t.x c.xlow e.1.0)) (inside u k (lt-from_true u.x c.xlow e.1.1))
      (λ q. let a : p.x ≤ℤ ((c.xlow -ℤ pos 1) *ℤ pos p.n) = q.right in
      let b : (c.xlow -ℤ pos 1) *ℤ pos p.n ≡ c.xlow *ℤ pos p.n -ℤ pos p.n = minus_one c.xlow (pos p.n) in
      let d : (c.xlow *ℤ pos p.n) ≤ℤ p.x = low_end c.xlow c.xhigh p.x c.closed_x p.n across in
      let o : pos 1 ≤ℤ pos p.n = over in
      omega (arith, sums))
    where
      inside : (v : Spot) → In v → v.x <ℤ c.xlow → IsInside (record { xmin = neg_ℤ (pos 16000000); ymin = neg_ℤ (pos 16000000); xmax = c.xlow -ℤ pos 1; ymax = pos 16000000 }) v
      inside v n l = record { left = n.left; right = omega (arith, sums); below = n.below; above = n.above }

  by_right : (lies_right c s && lies_right c t && lies_right c u) ≡ true → Idle s t u p
  by_right h =
      let e = three (lies_right c s) (lies_right c t) (lies_right c u) h in
      idle_by (record { xmin = c.xhigh +ℤ pos 1; ymin = neg_ℤ (pos 16000000); xmax = pos 16000000; ymax = pos 16000000 }) s t u p
      (inside s i (lt-from_true c.xhigh s.x e.0)) (inside t j (lt-from_true c.xhigh t.x e.1.0)) (inside u k (lt-from_true c.xhigh u.x e.1.1))
      (λ q. let a : ((c.xhigh +ℤ pos 1) *ℤ pos p.n) ≤ℤ p.x = q.left in
      let b : (c.xhigh +ℤ pos 1) *ℤ pos p.n ≡ c.xhigh *ℤ pos p.n +ℤ pos p.n = plus_one c.xhigh (pos p.n) in
      let d : p.x ≤ℤ (c.xhigh *ℤ pos p.n) = high_end c.xlow c.xhigh p.x c.closed_x p.n across in
      let o : pos 1 ≤ℤ pos p.n = over in
      omega (arith, sums))
    where
      inside : (v : Spot) → In v → c.xhigh <ℤ v.x → IsInside (record { xmin = c.xhigh +ℤ pos 1; ymin = neg_ℤ (pos 16000000); xmax = pos 16000000; ymax = pos 16000000 }) v
      inside v n l = record { left = omega (arith, sums); right = n.right; below = n.below; above = n.above }

  by_below : (lies_below c s && lies_below c t && lies_below c u) ≡ true → Idle s t u p
  by_below h =
      let e = three (lies_below c s) (lies_below c t) (lies_below c u) h in
      idle_by (record { xmin = neg_ℤ (pos 16000000); ymin = neg_ℤ (pos 16000000); xmax = pos 16000000; ymax = c.ylow -ℤ pos 1 }) s t u p
      (inside s i (lt-from_true s.y c.ylow e.0)) (inside t j (lt-from_true t.y c.ylow e.1.0)) (inside u k (lt-from_true u.y c.ylow e.1.1))
      (λ q. let a : p.y ≤ℤ ((c.ylow -ℤ pos 1) *ℤ pos p.n) = q.above in
      let b : (c.ylow -ℤ pos 1) *ℤ pos p.n ≡ c.ylow *ℤ pos p.n -ℤ pos p.n = minus_one c.ylow (pos p.n) in
      let d : (c.ylow *ℤ pos p.n) ≤ℤ p.y = low_end c.ylow c.yhigh p.y c.closed_y p.n up in
      let o : pos 1 ≤ℤ pos p.n = over in
      omega (arith, sums))
    where
      inside : (v : Spot) → In v → v.y <ℤ c.ylow → IsInside (record { xmin = neg_ℤ (pos 16000000); ymin = neg_ℤ (pos 16000000); xmax = pos 16000000; ymax = c.ylow -ℤ pos 1 }) v
      inside v n l = record { left = n.left; right = n.right; below = n.below; above = omega (arith, sums) }

  by_above : (lies_above c s && lies_above c t && lies_above c u) ≡ true → Idle s t u p
  by_above h =
      let e = three (lies_above c s) (lies_above c t) (lies_above c u) h in
      idle_by (record { xmin = neg_ℤ (pos 16000000); ymin = c.yhigh +ℤ pos 1; xmax = pos 16000000; ymax = pos 16000000 }) s t u p
      (inside s i (lt-from_true c.yhigh s.y e.0)) (inside t j (lt-from_true c.yhigh t.y e.1.0)) (inside u k (lt-from_true c.yhigh u.y e.1.1))
      (λ q. let a : ((c.yhigh +ℤ pos 1) *ℤ pos p.n) ≤ℤ p.y = q.below in
      let b : (c.yhigh +ℤ pos 1) *ℤ pos p.n ≡ c.yhigh *ℤ pos p.n +ℤ pos p.n = plus_one c.yhigh (pos p.n) in
      let d : p.y ≤ℤ (c.yhigh *ℤ pos p.n) = high_end c.ylow c.yhigh p.y c.closed_y p.n up in
      let o : pos 1 ≤ℤ pos p.n = over in
      omega (arith, sums))
    where
      inside : (v : Spot) → In v → c.yhigh <ℤ v.y → IsInside (record { xmin = neg_ℤ (pos 16000000); ymin = c.yhigh +ℤ pos 1; xmax = pos 16000000; ymax = pos 16000000 }) v
      inside v n l = record { left = n.left; right = n.right; below = omega (arith, sums); above = n.above }

  by_side : are_beside c s t u ≡ true → Idle s t u p
  by_side h =
      let lefts = lies_left c s && lies_left c t && lies_left c u in
      let rights = lies_right c s && lies_right c t && lies_right c u in
      let belows = lies_below c s && lies_below c t && lies_below c u in
      let aboves = lies_above c s && lies_above c t && lies_above c u in
      elim (either_true ((lefts || rights) || belows) aboves h) [
        | inl f ↦ elim (either_true (lefts || rights) belows f) [
          | inl g ↦ elim (either_true lefts rights g) [ inl l ↦ by_left l | inr r ↦ by_right r ]
          | inr b ↦ by_below b
        ]
        | inr a ↦ by_above a
      ]

pub idle : (c : CellBox) (s t u : Spot) → is_out s ≡ false → is_out t ≡ false → is_out u ≡ false → are_beside c s t u ≡ true → (p : Point) → in_box c p ≡ true → Idle s t u p
idle c s t u i j k h p w = by_side c s t u p (limits s i) (limits t j) (limits u k) w h
