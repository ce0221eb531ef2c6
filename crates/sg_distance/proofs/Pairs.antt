-- Two edges with near points: they cross, or an end of one is near the other.
use Rattle.std.proofs.Common.{ℕ, ◌≡◌, ◌≤◌, arith, refl, sym, ap, ◌∙◌, subst, Bool, true}
use mathlib.Core.Bool.{◌&&◌}
use lib.IntN.{ℤ, pos, ◌+ℤ◌, ◌-ℤ◌, ◌*ℤ◌, neg_ℤ, *ℤ_comm, zero-*ℤ, *ℤ-zero}
use lib.Signed.{◌<ℤ◌, ◌≤ℤ◌, le_z}
use Rattle.sg_algebra.proofs.Ring.{sums, products, nonneg_diff-mul, mul-neg, neg-mul, add-mul, times_one}
use Rattle.sg_algebra.specs.Orders.{Cmp, cmp, less, same, more}
use Rattle.sg_algebra.proofs.Comparisons.{le-from_true, left_true, right_true}
use Rattle.sg_distance.proofs.Signs.{n*n, p*p}
use Rattle.sg_distance.proofs.Below.{le-below, below-mul, below-cancel, below-at, square-within, square-zero}
use Rattle.sg_distance.proofs.Mix.{Along, one_times, on-line, line-mix}
use Rattle.sg_algebra.proofs.Edges.{between-not_after, between-swap}
use Rattle.sg_distance.proofs.Quad.{count_of}
use Rattle.sg_distance.proofs.Foot.{two_squares, spot_near, along_of, across_of, square}
use Rattle.sg_shape.specs.Plane.{Point, on_edge, between}
use Rattle.sg_segment.specs.Sides.{point_at}
use Rattle.sg_shape.specs.declared.spots.Spot.{Spot}
use Rattle.sg_shape.specs.declared.spots.Edge.{Edge}
use Rattle.sg_distance.proofs.Nearness.{Below, SquareWithin, along_at, across_at, square_of}

abbrev edge : Spot → Spot → Edge
edge u v = record { from = u; to = v }

pub near-turned : (strict : Bool) (D : ℤ) (p q : Point) → SquareWithin strict D p q → SquareWithin strict D q p
near-turned strict D p q h = below-at strict _ _ _ _ (squares p.x p.y (pos p.n) q.x q.y (pos q.n)) (bound D (pos p.n) (pos q.n)) h
  where
    squares : (px py pn qx qy qn : ℤ) → (px *ℤ qn -ℤ qx *ℤ pn) *ℤ (px *ℤ qn -ℤ qx *ℤ pn) +ℤ (py *ℤ qn -ℤ qy *ℤ pn) *ℤ (py *ℤ qn -ℤ qy *ℤ pn)
        ≡ (qx *ℤ pn -ℤ px *ℤ qn) *ℤ (qx *ℤ pn -ℤ px *ℤ qn) +ℤ (qy *ℤ pn -ℤ py *ℤ qn) *ℤ (qy *ℤ pn -ℤ py *ℤ qn)
    squares px py pn qx qy qn = simp products (omega (arith, sums))

    bound : (D m n : ℤ) → D *ℤ ((m *ℤ n) *ℤ (m *ℤ n)) ≡ D *ℤ ((n *ℤ m) *ℤ (n *ℤ m))
    bound D m n = simp products

-- ---- a point of an edge as a sum of the ends
product_up : (e x n : ℤ) → pos 0 ≤ℤ e → pos 0 ≤ℤ x → x ≤ℤ (e *ℤ n) → (pos 0 ≤ℤ (x *ℤ e)) × ((x *ℤ e) ≤ℤ (e *ℤ e *ℤ n))
product_up e x n eo xo xn =
    let a : (x *ℤ e) ≤ℤ ((e *ℤ n) *ℤ e) = nonneg_diff-mul x (e *ℤ n) e eo xn in
    let b : (e *ℤ n) *ℤ e ≡ e *ℤ e *ℤ n = simp products in
    (n*n x e xo eo, omega (arith, sums))

product_within : (a b x n : ℤ) → pos 0 ≤ℤ n → between (a *ℤ n) (b *ℤ n) x ≡ true →
    (pos 0 ≤ℤ ((x -ℤ a *ℤ n) *ℤ (b -ℤ a))) × (((x -ℤ a *ℤ n) *ℤ (b -ℤ a)) ≤ℤ ((b -ℤ a) *ℤ (b -ℤ a) *ℤ n))
product_within a b x n nn h = by_order (cmp a b)
  where
    dn : (b -ℤ a) *ℤ n ≡ b *ℤ n -ℤ a *ℤ n
    dn = simp products

    straight : a ≤ℤ b → (pos 0 ≤ℤ ((x -ℤ a *ℤ n) *ℤ (b -ℤ a))) × (((x -ℤ a *ℤ n) *ℤ (b -ℤ a)) ≤ℤ ((b -ℤ a) *ℤ (b -ℤ a) *ℤ n))
    straight k =
        let w : (le_z (a *ℤ n) x && le_z x (b *ℤ n)) ≡ true = sym (between-not_after (a *ℤ n) (b *ℤ n) x (nonneg_diff-mul a b n nn k)) ∙ h in
        let l1 : (a *ℤ n) ≤ℤ x = le-from_true (a *ℤ n) x (left_true (le_z (a *ℤ n) x) (le_z x (b *ℤ n)) w) in
        let l2 : x ≤ℤ (b *ℤ n) = le-from_true x (b *ℤ n) (right_true (le_z (a *ℤ n) x) (le_z x (b *ℤ n)) w) in
        let e : (b -ℤ a) *ℤ n ≡ b *ℤ n -ℤ a *ℤ n = dn in
        product_up (b -ℤ a) (x -ℤ a *ℤ n) n (omega (arith, sums)) (omega (arith, sums)) (omega (arith, sums))

    back : b ≤ℤ a → (pos 0 ≤ℤ ((x -ℤ a *ℤ n) *ℤ (b -ℤ a))) × (((x -ℤ a *ℤ n) *ℤ (b -ℤ a)) ≤ℤ ((b -ℤ a) *ℤ (b -ℤ a) *ℤ n))
    back k =
        let w : (le_z (b *ℤ n) x && le_z x (a *ℤ n)) ≡ true = sym (between-not_after (b *ℤ n) (a *ℤ n) x (nonneg_diff-mul b a n nn k)) ∙ between-swap (b *ℤ n) (a *ℤ n) x ∙ h in
        let l1 : (b *ℤ n) ≤ℤ x = le-from_true (b *ℤ n) x (left_true (le_z (b *ℤ n) x) (le_z x (a *ℤ n)) w) in
        let l2 : x ≤ℤ (a *ℤ n) = le-from_true x (a *ℤ n) (right_true (le_z (b *ℤ n) x) (le_z x (a *ℤ n)) w) in
        let e : (a -ℤ b) *ℤ n ≡ a *ℤ n -ℤ b *ℤ n = turned_dn in
        let m : (pos 0 ≤ℤ ((a *ℤ n -ℤ x) *ℤ (a -ℤ b))) × (((a *ℤ n -ℤ x) *ℤ (a -ℤ b)) ≤ℤ ((a -ℤ b) *ℤ (a -ℤ b) *ℤ n)) =
        product_up (a -ℤ b) (a *ℤ n -ℤ x) n (omega (arith, sums)) (omega (arith, sums)) (omega (arith, sums)) in
        let f : (a *ℤ n -ℤ x) *ℤ (a -ℤ b) ≡ (x -ℤ a *ℤ n) *ℤ (b -ℤ a) = flip_one in
        let g : (a -ℤ b) *ℤ (a -ℤ b) *ℤ n ≡ (b -ℤ a) *ℤ (b -ℤ a) *ℤ n = flip_two in
        let m0 : pos 0 ≤ℤ ((a *ℤ n -ℤ x) *ℤ (a -ℤ b)) = m.0 in
        let m1 : ((a *ℤ n -ℤ x) *ℤ (a -ℤ b)) ≤ℤ ((a -ℤ b) *ℤ (a -ℤ b) *ℤ n) = m.1 in
        (omega (arith, sums), omega (arith, sums))
      where
        turned_dn : (a -ℤ b) *ℤ n ≡ a *ℤ n -ℤ b *ℤ n
        turned_dn = simp products

        flip_one : (a *ℤ n -ℤ x) *ℤ (a -ℤ b) ≡ (x -ℤ a *ℤ n) *ℤ (b -ℤ a)
        flip_one = simp products (omega (arith, sums))

        flip_two : (a -ℤ b) *ℤ (a -ℤ b) *ℤ n ≡ (b -ℤ a) *ℤ (b -ℤ a) *ℤ n
        flip_two = simp products (omega (arith, sums))

    by_order : Cmp a b → (pos 0 ≤ℤ ((x -ℤ a *ℤ n) *ℤ (b -ℤ a))) × (((x -ℤ a *ℤ n) *ℤ (b -ℤ a)) ≤ℤ ((b -ℤ a) *ℤ (b -ℤ a) *ℤ n))
    by_order (less k) = straight (omega (arith, sums))
    by_order (same k) = straight (omega (arith, sums))
    by_order (more k) = back (omega (arith, sums))

-- on the line and within the span of an edge that has a length
pub along_span : (u v : Spot) (w : Point) → pos 0 <ℤ square u v → across_of u v w ≡ pos 0 → pos 0 ≤ℤ along_of u v w → along_of u v w ≤ℤ (square u v *ℤ pos w.n) → Along (point_at u) (point_at v) w
along_span u v w l c a b = record {
  k = square u v;
  s = square u v *ℤ pos w.n -ℤ along_of u v w;
  t = along_of u v w;
  k_over = l;
  s_over = omega (arith, sums);
  t_over = a;
  in_x = in_first u.x u.y v.x v.y w.x w.y (pos w.n) c;
  in_y = in_second u.x u.y v.x v.y w.x w.y (pos w.n) c;
  in_n = let e : (square u v *ℤ pos w.n -ℤ along_of u v w) *ℤ pos 1 ≡ square u v *ℤ pos w.n -ℤ along_of u v w = times_one (square u v *ℤ pos w.n -ℤ along_of u v w) in
      let f : along_of u v w *ℤ pos 1 ≡ along_of u v w = times_one (along_of u v w) in omega (arith, sums);
}
  where
    in_first : (ax ay bx by x y n : ℤ) → across_at ax ay bx by x y n ≡ pos 0 →
        square_of ax ay bx by *ℤ x ≡ (square_of ax ay bx by *ℤ n -ℤ along_at ax ay bx by x y n) *ℤ ax +ℤ along_at ax ay bx by x y n *ℤ bx
    in_first ax ay bx by x y n c =
        let e : (by -ℤ ay) *ℤ across_at ax ay bx by x y n ≡ pos 0 = ap (λ (v : ℤ). (by -ℤ ay) *ℤ v) c ∙ *ℤ-zero (by -ℤ ay) in
        let f : (x -ℤ ax *ℤ n) *ℤ square_of ax ay bx by ≡ along_at ax ay bx by x y n *ℤ (bx -ℤ ax) -ℤ (by -ℤ ay) *ℤ across_at ax ay bx by x y n = lagrange (x -ℤ ax *ℤ n) (y -ℤ ay *ℤ n) (bx -ℤ ax) (by -ℤ ay) in
        let g : (x -ℤ ax *ℤ n) *ℤ square_of ax ay bx by ≡ square_of ax ay bx by *ℤ x -ℤ (square_of ax ay bx by *ℤ n) *ℤ ax = spread x ax n (square_of ax ay bx by) in
        let h : (square_of ax ay bx by *ℤ n -ℤ along_at ax ay bx by x y n) *ℤ ax +ℤ along_at ax ay bx by x y n *ℤ bx ≡ (square_of ax ay bx by *ℤ n) *ℤ ax +ℤ along_at ax ay bx by x y n *ℤ (bx -ℤ ax) = collect (square_of ax ay bx by *ℤ n) (along_at ax ay bx by x y n) ax bx in
        omega (arith, sums)
      where
        lagrange : (X Y e f : ℤ) → X *ℤ (e *ℤ e +ℤ f *ℤ f) ≡ (X *ℤ e +ℤ Y *ℤ f) *ℤ e -ℤ f *ℤ (Y *ℤ e -ℤ X *ℤ f)
        lagrange X Y e f = simp products (omega (arith, sums))

        spread : (x a n q : ℤ) → (x -ℤ a *ℤ n) *ℤ q ≡ q *ℤ x -ℤ (q *ℤ n) *ℤ a
        spread x a n q = simp products

        collect : (q l a b : ℤ) → (q -ℤ l) *ℤ a +ℤ l *ℤ b ≡ q *ℤ a +ℤ l *ℤ (b -ℤ a)
        collect q l a b = simp products (omega (arith, sums))

    in_second : (ax ay bx by x y n : ℤ) → across_at ax ay bx by x y n ≡ pos 0 →
        square_of ax ay bx by *ℤ y ≡ (square_of ax ay bx by *ℤ n -ℤ along_at ax ay bx by x y n) *ℤ ay +ℤ along_at ax ay bx by x y n *ℤ by
    in_second ax ay bx by x y n c =
        let e : (bx -ℤ ax) *ℤ across_at ax ay bx by x y n ≡ pos 0 = ap (λ (v : ℤ). (bx -ℤ ax) *ℤ v) c ∙ *ℤ-zero (bx -ℤ ax) in
        let f : (y -ℤ ay *ℤ n) *ℤ square_of ax ay bx by ≡ along_at ax ay bx by x y n *ℤ (by -ℤ ay) +ℤ (bx -ℤ ax) *ℤ across_at ax ay bx by x y n = lagrange (x -ℤ ax *ℤ n) (y -ℤ ay *ℤ n) (bx -ℤ ax) (by -ℤ ay) in
        let g : (y -ℤ ay *ℤ n) *ℤ square_of ax ay bx by ≡ square_of ax ay bx by *ℤ y -ℤ (square_of ax ay bx by *ℤ n) *ℤ ay = spread y ay n (square_of ax ay bx by) in
        let h : (square_of ax ay bx by *ℤ n -ℤ along_at ax ay bx by x y n) *ℤ ay +ℤ along_at ax ay bx by x y n *ℤ by ≡ (square_of ax ay bx by *ℤ n) *ℤ ay +ℤ along_at ax ay bx by x y n *ℤ (by -ℤ ay) = collect (square_of ax ay bx by *ℤ n) (along_at ax ay bx by x y n) ay by in
        omega (arith, sums)
      where
        lagrange : (X Y e f : ℤ) → Y *ℤ (e *ℤ e +ℤ f *ℤ f) ≡ (X *ℤ e +ℤ Y *ℤ f) *ℤ f +ℤ e *ℤ (Y *ℤ e -ℤ X *ℤ f)
        lagrange X Y e f = simp products (omega (arith, sums))

        spread : (x a n q : ℤ) → (x -ℤ a *ℤ n) *ℤ q ≡ q *ℤ x -ℤ (q *ℤ n) *ℤ a
        spread x a n q = simp products

        collect : (q l a b : ℤ) → (q -ℤ l) *ℤ a +ℤ l *ℤ b ≡ q *ℤ a +ℤ l *ℤ (b -ℤ a)
        collect q l a b = simp products (omega (arith, sums))

-- an edge with no length holds one point
dot_along : (u v : Spot) (w : Point) → square u v ≤ℤ pos 0 → on_edge (edge u v) w ≡ true → Along (point_at u) (point_at v) w
dot_along u v w l h =
    let z : (v.x -ℤ u.x ≡ pos 0) × (v.y -ℤ u.y ≡ pos 0) = square-zero (v.x -ℤ u.x) (v.y -ℤ u.y) l in
    let ex : v.x ≡ u.x = let e : v.x -ℤ u.x ≡ pos 0 = z.0 in omega (arith, sums) in
    let ey : v.y ≡ u.y = let e : v.y -ℤ u.y ≡ pos 0 = z.1 in omega (arith, sums) in
    let bx : between (u.x *ℤ pos w.n) (u.x *ℤ pos w.n) w.x ≡ true = subst (λ (t : ℤ). between (u.x *ℤ pos w.n) (t *ℤ pos w.n) w.x ≡ true) ex (left_true _ _ (right_true _ _ h)) in
    let by : between (u.y *ℤ pos w.n) (u.y *ℤ pos w.n) w.y ≡ true = subst (λ (t : ℤ). between (u.y *ℤ pos w.n) (t *ℤ pos w.n) w.y ≡ true) ey (right_true _ _ (right_true _ _ h)) in
    let x : w.x ≡ u.x *ℤ pos w.n = pinned (u.x *ℤ pos w.n) w.x bx in
    let y : w.y ≡ u.y *ℤ pos w.n = pinned (u.y *ℤ pos w.n) w.y by in
    let ox : pos 1 *ℤ w.x ≡ w.x = one_times w.x in
    let oy : pos 1 *ℤ w.y ≡ w.y = one_times w.y in
    let cx : u.x *ℤ pos w.n ≡ pos w.n *ℤ u.x = *ℤ_comm u.x (pos w.n) in
    let cy : u.y *ℤ pos w.n ≡ pos w.n *ℤ u.y = *ℤ_comm u.y (pos w.n) in
    let zx : pos 0 *ℤ v.x ≡ pos 0 = zero-*ℤ v.x in
    let zy : pos 0 *ℤ v.y ≡ pos 0 = zero-*ℤ v.y in
    record {
      k = pos 1;
      s = pos w.n;
      t = pos 0;
      k_over = omega (arith, sums);
      s_over = omega (arith, sums);
      t_over = omega (arith, sums);
      in_x = omega (arith, sums);
      in_y = omega (arith, sums);
      in_n = in_count (pos w.n);
    }
  where
    pinned : (a x : ℤ) → between a a x ≡ true → x ≡ a
    pinned a x h =
        let w : (le_z a x && le_z x a) ≡ true = sym (between-not_after a a x (omega (arith, sums))) ∙ h in
        let l1 : a ≤ℤ x = le-from_true a x (left_true (le_z a x) (le_z x a) w) in
        let l2 : x ≤ℤ a = le-from_true x a (right_true (le_z a x) (le_z x a) w) in
        omega (arith, sums)

    in_count : (n : ℤ) → pos 1 *ℤ n ≡ n *ℤ pos 1 +ℤ pos 0 *ℤ pos 1
    in_count n =
        let a : pos 1 *ℤ n ≡ n = one_times n in
        let b : n *ℤ pos 1 ≡ n = times_one n in
        let c : pos 0 *ℤ pos 1 ≡ pos 0 = zero-*ℤ (pos 1) in
        omega (arith, sums)

abbrev on_parts : Spot → Spot → Point → Bool
on_parts u v w = between (u.x *ℤ pos w.n) (v.x *ℤ pos w.n) w.x && between (u.y *ℤ pos w.n) (v.y *ℤ pos w.n) w.y

on_x : (u v : Spot) (w : Point) → on_edge (edge u v) w ≡ true → between (u.x *ℤ pos w.n) (v.x *ℤ pos w.n) w.x ≡ true
on_x u v w h = left_true _ _ (right_true _ _ h)

on_y : (u v : Spot) (w : Point) → on_edge (edge u v) w ≡ true → between (u.y *ℤ pos w.n) (v.y *ℤ pos w.n) w.y ≡ true
on_y u v w h = right_true _ _ (right_true _ _ h)

pub on-along : (u v : Spot) (w : Point) → on_edge (edge u v) w ≡ true → Along (point_at u) (point_at v) w
on-along u v w h = by_length (cmp (pos 0) (square u v))
  where
    long : pos 0 <ℤ square u v → Along (point_at u) (point_at v) w
    long l =
        let px : (pos 0 ≤ℤ ((w.x -ℤ u.x *ℤ pos w.n) *ℤ (v.x -ℤ u.x))) × (((w.x -ℤ u.x *ℤ pos w.n) *ℤ (v.x -ℤ u.x)) ≤ℤ ((v.x -ℤ u.x) *ℤ (v.x -ℤ u.x) *ℤ pos w.n)) =
        product_within u.x v.x w.x (pos w.n) (omega (arith, sums)) (on_x u v w h) in
        let py : (pos 0 ≤ℤ ((w.y -ℤ u.y *ℤ pos w.n) *ℤ (v.y -ℤ u.y))) × (((w.y -ℤ u.y *ℤ pos w.n) *ℤ (v.y -ℤ u.y)) ≤ℤ ((v.y -ℤ u.y) *ℤ (v.y -ℤ u.y) *ℤ pos w.n)) =
        product_within u.y v.y w.y (pos w.n) (omega (arith, sums)) (on_y u v w h) in
        let p0 : pos 0 ≤ℤ ((w.x -ℤ u.x *ℤ pos w.n) *ℤ (v.x -ℤ u.x)) = px.0 in
        let p1 : ((w.x -ℤ u.x *ℤ pos w.n) *ℤ (v.x -ℤ u.x)) ≤ℤ ((v.x -ℤ u.x) *ℤ (v.x -ℤ u.x) *ℤ pos w.n) = px.1 in
        let q0 : pos 0 ≤ℤ ((w.y -ℤ u.y *ℤ pos w.n) *ℤ (v.y -ℤ u.y)) = py.0 in
        let q1 : ((w.y -ℤ u.y *ℤ pos w.n) *ℤ (v.y -ℤ u.y)) ≤ℤ ((v.y -ℤ u.y) *ℤ (v.y -ℤ u.y) *ℤ pos w.n) = py.1 in
        let s : square u v *ℤ pos w.n ≡ (v.x -ℤ u.x) *ℤ (v.x -ℤ u.x) *ℤ pos w.n +ℤ (v.y -ℤ u.y) *ℤ (v.y -ℤ u.y) *ℤ pos w.n = add-mul ((v.x -ℤ u.x) *ℤ (v.x -ℤ u.x)) ((v.y -ℤ u.y) *ℤ (v.y -ℤ u.y)) (pos w.n) in
        along_span u v w l (on-line (edge u v) w h) (omega (arith, sums)) (omega (arith, sums))

    by_length : Cmp (pos 0) (square u v) → Along (point_at u) (point_at v) w
    by_length (less l) = long l
    by_length (same l) = dot_along u v w (omega (arith, sums)) h
    by_length (more l) = dot_along u v w (omega (arith, sums)) h

-- ---- a weighted point
pub mixed : (p q : Point) (s t : ℤ) → pos 0 ≤ℤ s → pos 0 ≤ℤ t → pos 0 <ℤ (s +ℤ t) → (z : Point) × Along p q z × (z.x ≡ s *ℤ p.x +ℤ t *ℤ q.x) × (z.y ≡ s *ℤ p.y +ℤ t *ℤ q.y) × (pos z.n ≡ s *ℤ pos p.n +ℤ t *ℤ pos q.n)
mixed p q s t so to st =
    let pn : pos 0 <ℤ pos p.n = omega (arith, sums, p.is_over) in
    let qn : pos 0 <ℤ pos q.n = omega (arith, sums, q.is_over) in
    let m : (n : ℕ) × ((1 ≤ n) × (pos n ≡ s *ℤ pos p.n +ℤ t *ℤ pos q.n)) = count_of (s *ℤ pos p.n +ℤ t *ℤ pos q.n) (positive (pos p.n) (pos q.n) s t pn qn so to st) in (
      record { x = s *ℤ p.x +ℤ t *ℤ q.x; y = s *ℤ p.y +ℤ t *ℤ q.y; n = m.0; is_over = m.1.0 },
      record {
        k = pos 1;
        s = s;
        t = t;
        k_over = omega (arith, sums);
        s_over = so;
        t_over = to;
        in_x = one_times (s *ℤ p.x +ℤ t *ℤ q.x);
        in_y = one_times (s *ℤ p.y +ℤ t *ℤ q.y);
        in_n = one_times (pos m.0) ∙ m.1.1;
      },
      refl,
      refl,
      m.1.1,
    )
  where
    positive : (m n a b : ℤ) → pos 0 <ℤ m → pos 0 <ℤ n → pos 0 ≤ℤ a → pos 0 ≤ℤ b → pos 0 <ℤ (a +ℤ b) → pos 0 <ℤ (a *ℤ m +ℤ b *ℤ n)
    positive m n a b hm hn ha hb hab =
        elim (cmp (pos 0) a) [
          | less l ↦ let r : pos 0 <ℤ (a *ℤ m) = p*p a m l hm in let t : pos 0 ≤ℤ (b *ℤ n) = n*n b n hb (omega (arith, sums)) in omega (arith, sums)
          | same l ↦ let r : pos 0 ≤ℤ (a *ℤ m) = n*n a m ha (omega (arith, sums)) in let t : pos 0 <ℤ (b *ℤ n) = p*p b n (omega (arith, sums)) hn in omega (arith, sums)
          | more l ↦ absurd (omega (arith, sums))
        ]

pub across-mix : (a b : Spot) (p q z : Point) (s t : ℤ) → z.x ≡ s *ℤ p.x +ℤ t *ℤ q.x → z.y ≡ s *ℤ p.y +ℤ t *ℤ q.y → pos z.n ≡ s *ℤ pos p.n +ℤ t *ℤ pos q.n →
    across_of a b z ≡ s *ℤ across_of a b p +ℤ t *ℤ across_of a b q
across-mix a b p q z s t ex ey en =
    sym (one_times (across_of a b z))
    ∙ line-mix a.x a.y b.x b.y (pos 1) s t z.x z.y (pos z.n) p.x p.y (pos p.n) q.x q.y (pos q.n) (one_times z.x ∙ ex) (one_times z.y ∙ ey) (one_times (pos z.n) ∙ en)

pub along-mix : (a b : Spot) (p q z : Point) (s t : ℤ) → z.x ≡ s *ℤ p.x +ℤ t *ℤ q.x → z.y ≡ s *ℤ p.y +ℤ t *ℤ q.y → pos z.n ≡ s *ℤ pos p.n +ℤ t *ℤ pos q.n →
    along_of a b z ≡ s *ℤ along_of a b p +ℤ t *ℤ along_of a b q
along-mix a b p q z s t ex ey en =
    rw (ex, ey, en) (by_numbers a.x a.y b.x b.y p.x p.y (pos p.n) q.x q.y (pos q.n) s t)
  where
    by_numbers : (ax ay bx by px py pn qx qy qn s t : ℤ) → along_at ax ay bx by (s *ℤ px +ℤ t *ℤ qx) (s *ℤ py +ℤ t *ℤ qy) (s *ℤ pn +ℤ t *ℤ qn)
        ≡ s *ℤ along_at ax ay bx by px py pn +ℤ t *ℤ along_at ax ay bx by qx qy qn
    by_numbers ax ay bx by px py pn qx qy qn s t =
        part (px -ℤ ax *ℤ pn) (py -ℤ ay *ℤ pn) (qx -ℤ ax *ℤ qn) (qy -ℤ ay *ℤ qn) (bx -ℤ ax) (by -ℤ ay) s t
        (s *ℤ px +ℤ t *ℤ qx -ℤ ax *ℤ (s *ℤ pn +ℤ t *ℤ qn)) (s *ℤ py +ℤ t *ℤ qy -ℤ ay *ℤ (s *ℤ pn +ℤ t *ℤ qn))
        (rel ax px pn qx qn s t) (rel ay py pn qy qn s t)
      where
        rel : (a p n q m s t : ℤ) → s *ℤ p +ℤ t *ℤ q -ℤ a *ℤ (s *ℤ n +ℤ t *ℤ m) ≡ s *ℤ (p -ℤ a *ℤ n) +ℤ t *ℤ (q -ℤ a *ℤ m)
        rel a p n q m s t = simp products (omega (arith, sums))

        part : (g h i j e f s t X Y : ℤ) → X ≡ s *ℤ g +ℤ t *ℤ i → Y ≡ s *ℤ h +ℤ t *ℤ j → X *ℤ e +ℤ Y *ℤ f ≡ s *ℤ (g *ℤ e +ℤ h *ℤ f) +ℤ t *ℤ (i *ℤ e +ℤ j *ℤ f)
        part g h i j e f s t X Y u v = rw (u, v) (simp products (omega (arith, sums)))

-- ---- the slide: w above the edge from a to b and near its line, r no farther from the line and behind a; then a is near a point between w and r
pub record NearLine (strict : Bool) (D : ℤ) (a b : Spot) (w r : Point) (M : ℤ) : Type 0 where
  pub low : (neg_ℤ M *ℤ pos r.n) ≤ℤ (across_of a b r *ℤ pos w.n)
  pub high : (across_of a b r *ℤ pos w.n) ≤ℤ (M *ℤ pos r.n)
  pub low_w : neg_ℤ M ≤ℤ across_of a b w
  pub high_w : across_of a b w ≤ℤ M
  pub bound : Below strict (M *ℤ M) ((D *ℤ (pos w.n *ℤ pos w.n)) *ℤ square a b)

pub slide : (strict : Bool) (D : ℤ) (a b : Spot) (w r : Point) (M : ℤ) → pos 0 <ℤ square a b → NearLine strict D a b w r M → pos 0 <ℤ along_of a b w → along_of a b r ≤ℤ pos 0 →
    (z : Point) × (Along w r z × SquareWithin strict D z (point_at a))
slide strict D a b w r M l n hw hr =
    let m : (z : Point) × Along w r z × (z.x ≡ neg_ℤ (along_of a b r) *ℤ w.x +ℤ along_of a b w *ℤ r.x) × (z.y ≡ neg_ℤ (along_of a b r) *ℤ w.y +ℤ along_of a b w *ℤ r.y) × (pos z.n ≡ neg_ℤ (along_of a b r) *ℤ pos w.n +ℤ along_of a b w *ℤ pos r.n) =
    mixed w r (neg_ℤ (along_of a b r)) (along_of a b w) (omega (arith, sums)) (omega (arith, sums)) (omega (arith, sums)) in
    let z : Point = m.0 in
    let al : along_of a b z ≡ neg_ℤ (along_of a b r) *ℤ along_of a b w +ℤ along_of a b w *ℤ along_of a b r = along-mix a b w r z (neg_ℤ (along_of a b r)) (along_of a b w) m.2 m.3 m.4 in
    let ac : across_of a b z ≡ neg_ℤ (along_of a b r) *ℤ across_of a b w +ℤ along_of a b w *ℤ across_of a b r = across-mix a b w r z (neg_ℤ (along_of a b r)) (along_of a b w) m.2 m.3 m.4 in
    (z, (m.1, spot_near strict D z a (shown z (neg_ℤ (along_of a b r)) (along_of a b w) (omega (arith, sums)) (omega (arith, sums)) (al ∙ cancel (along_of a b r) (along_of a b w)) ac m.4)))
  where
    cancel : (x y : ℤ) → neg_ℤ x *ℤ y +ℤ y *ℤ x ≡ pos 0
    cancel x y = let e : neg_ℤ x *ℤ y ≡ neg_ℤ (x *ℤ y) = neg-mul x y in let f : y *ℤ x ≡ x *ℤ y = *ℤ_comm y x in omega (arith, sums)

    -- across at z against M
    reach : (s t lw lr wn rn zn z M : ℤ) → pos 0 ≤ℤ s → pos 0 ≤ℤ t → pos 0 ≤ℤ wn → z ≡ s *ℤ lw +ℤ t *ℤ lr → zn ≡ s *ℤ wn +ℤ t *ℤ rn → lw ≤ℤ M → (lr *ℤ wn) ≤ℤ (M *ℤ rn) → (z *ℤ wn) ≤ℤ (M *ℤ zn)
    reach s t lw lr wn rn zn z M so to wo e f h k =
        let a : ((s *ℤ wn) *ℤ lw) ≤ℤ ((s *ℤ wn) *ℤ M) = let x : (lw *ℤ (s *ℤ wn)) ≤ℤ (M *ℤ (s *ℤ wn)) = nonneg_diff-mul lw M (s *ℤ wn) (n*n s wn so wo) h in
        let c1 : lw *ℤ (s *ℤ wn) ≡ (s *ℤ wn) *ℤ lw = *ℤ_comm lw (s *ℤ wn) in let c2 : M *ℤ (s *ℤ wn) ≡ (s *ℤ wn) *ℤ M = *ℤ_comm M (s *ℤ wn) in omega (arith, sums) in
        let b : ((lr *ℤ wn) *ℤ t) ≤ℤ ((M *ℤ rn) *ℤ t) = nonneg_diff-mul (lr *ℤ wn) (M *ℤ rn) t to k in
        let g : (s *ℤ lw +ℤ t *ℤ lr) *ℤ wn ≡ (s *ℤ wn) *ℤ lw +ℤ (lr *ℤ wn) *ℤ t = simp products in
        let i : M *ℤ (s *ℤ wn +ℤ t *ℤ rn) ≡ (s *ℤ wn) *ℤ M +ℤ (M *ℤ rn) *ℤ t = simp products in
        let j : z *ℤ wn ≡ (s *ℤ lw +ℤ t *ℤ lr) *ℤ wn = ap (λ (v : ℤ). v *ℤ wn) e in
        let o : M *ℤ zn ≡ M *ℤ (s *ℤ wn +ℤ t *ℤ rn) = ap (λ (v : ℤ). M *ℤ v) f in
        omega (arith, sums)

    shown : (z : Point) (s t : ℤ) → pos 0 ≤ℤ s → pos 0 ≤ℤ t → along_of a b z ≡ pos 0 → across_of a b z ≡ s *ℤ across_of a b w +ℤ t *ℤ across_of a b r → pos z.n ≡ s *ℤ pos w.n +ℤ t *ℤ pos r.n →
        Below strict ((z.x -ℤ a.x *ℤ pos z.n) *ℤ (z.x -ℤ a.x *ℤ pos z.n) +ℤ (z.y -ℤ a.y *ℤ pos z.n) *ℤ (z.y -ℤ a.y *ℤ pos z.n)) (D *ℤ (pos z.n *ℤ pos z.n))
    shown z s t so to al ac zn =
        let wn : pos 0 <ℤ pos w.n = omega (arith, sums, w.is_over) in
        let up : (across_of a b z *ℤ pos w.n) ≤ℤ (M *ℤ pos z.n) = reach s t (across_of a b w) (across_of a b r) (pos w.n) (pos r.n) (pos z.n) (across_of a b z) M so to (omega (arith, sums)) ac zn n.high_w n.high in
        let down : (neg_ℤ (across_of a b z) *ℤ pos w.n) ≤ℤ (M *ℤ pos z.n) =
        reach s t (neg_ℤ (across_of a b w)) (neg_ℤ (across_of a b r)) (pos w.n) (pos r.n) (pos z.n) (neg_ℤ (across_of a b z)) M so to (omega (arith, sums))
        (turn_sum (across_of a b z) s t (across_of a b w) (across_of a b r) ac) zn
        (let h : neg_ℤ M ≤ℤ across_of a b w = n.low_w in omega (arith, sums))
        (let h : (neg_ℤ M *ℤ pos r.n) ≤ℤ (across_of a b r *ℤ pos w.n) = n.low in let e : neg_ℤ M *ℤ pos r.n ≡ neg_ℤ (M *ℤ pos r.n) = neg-mul M (pos r.n) in let f : neg_ℤ (across_of a b r) *ℤ pos w.n ≡ neg_ℤ (across_of a b r *ℤ pos w.n) = neg-mul (across_of a b r) (pos w.n) in omega (arith, sums)) in
        let dn : neg_ℤ (across_of a b z) *ℤ pos w.n ≡ neg_ℤ (across_of a b z *ℤ pos w.n) = neg-mul (across_of a b z) (pos w.n) in
        let sq : ((across_of a b z *ℤ pos w.n) *ℤ (across_of a b z *ℤ pos w.n)) ≤ℤ ((M *ℤ pos z.n) *ℤ (M *ℤ pos z.n)) = square-within (across_of a b z *ℤ pos w.n) (M *ℤ pos z.n) (omega (arith, sums)) up in
        let zp : pos 0 <ℤ pos z.n = omega (arith, sums, z.is_over) in
        let bd : Below strict ((M *ℤ M) *ℤ (pos z.n *ℤ pos z.n)) (((D *ℤ (pos w.n *ℤ pos w.n)) *ℤ square a b) *ℤ (pos z.n *ℤ pos z.n)) = below-mul strict (M *ℤ M) ((D *ℤ (pos w.n *ℤ pos w.n)) *ℤ square a b) (pos z.n *ℤ pos z.n) (p*p (pos z.n) (pos z.n) zp zp) n.bound in
        let lag : along_of a b z *ℤ along_of a b z +ℤ across_of a b z *ℤ across_of a b z ≡ ((z.x -ℤ a.x *ℤ pos z.n) *ℤ (z.x -ℤ a.x *ℤ pos z.n) +ℤ (z.y -ℤ a.y *ℤ pos z.n) *ℤ (z.y -ℤ a.y *ℤ pos z.n)) *ℤ square a b =
        two_squares (z.x -ℤ a.x *ℤ pos z.n) (z.y -ℤ a.y *ℤ pos z.n) (b.x -ℤ a.x) (b.y -ℤ a.y) in
        let az : along_of a b z *ℤ along_of a b z ≡ pos 0 = ap (λ (v : ℤ). v *ℤ along_of a b z) al ∙ zero-*ℤ (along_of a b z) in
        below-cancel strict _ _ (square a b *ℤ (pos w.n *ℤ pos w.n)) (p*p (square a b) (pos w.n *ℤ pos w.n) l (p*p (pos w.n) (pos w.n) wn wn))
        (le-below strict _ _ _
        (left_part ((z.x -ℤ a.x *ℤ pos z.n) *ℤ (z.x -ℤ a.x *ℤ pos z.n) +ℤ (z.y -ℤ a.y *ℤ pos z.n) *ℤ (z.y -ℤ a.y *ℤ pos z.n)) (square a b) (across_of a b z) (along_of a b z *ℤ along_of a b z) (pos w.n) (M *ℤ pos z.n) lag az sq)
        (below-at strict _ _ _ _ (regroup M (pos z.n)) (arrange D (pos w.n) (square a b) (pos z.n)) bd))
      where
        turn_sum : (z s t x y : ℤ) → z ≡ s *ℤ x +ℤ t *ℤ y → neg_ℤ z ≡ s *ℤ neg_ℤ x +ℤ t *ℤ neg_ℤ y
        turn_sum z s t x y e = let f : s *ℤ neg_ℤ x ≡ neg_ℤ (s *ℤ x) = mul-neg s x in let g : t *ℤ neg_ℤ y ≡ neg_ℤ (t *ℤ y) = mul-neg t y in omega (arith, sums)

        regroup : (m z : ℤ) → (m *ℤ m) *ℤ (z *ℤ z) ≡ (m *ℤ z) *ℤ (m *ℤ z)
        regroup m z = simp products

        arrange : (D w q z : ℤ) → ((D *ℤ (w *ℤ w)) *ℤ q) *ℤ (z *ℤ z) ≡ (D *ℤ (z *ℤ z)) *ℤ (q *ℤ (w *ℤ w))
        arrange D w q z = simp products

        left_part : (d q c o w m : ℤ) → o +ℤ c *ℤ c ≡ d *ℤ q → o ≡ pos 0 → ((c *ℤ w) *ℤ (c *ℤ w)) ≤ℤ (m *ℤ m) → (d *ℤ (q *ℤ (w *ℤ w))) ≤ℤ (m *ℤ m)
        left_part d q c o w m e f h =
            let a : c *ℤ c ≡ d *ℤ q = omega (arith, sums) in
            let b : (c *ℤ c) *ℤ (w *ℤ w) ≡ (d *ℤ q) *ℤ (w *ℤ w) = ap (λ (v : ℤ). v *ℤ (w *ℤ w)) a in
            let g : (c *ℤ w) *ℤ (c *ℤ w) ≡ (c *ℤ c) *ℤ (w *ℤ w) = simp products in
            let i : d *ℤ (q *ℤ (w *ℤ w)) ≡ (d *ℤ q) *ℤ (w *ℤ w) = simp products in
            omega (arith, sums)
