-- What the test of two edges finds: two near points.
use Rattle.std.proofs.Common.{◌≡◌, arith, refl, sym, ◌∙◌, subst, Bool, true}
use mathlib.Core.Logic.{◌⊎◌, inl, inr}
use lib.IntN.{ℤ, pos, ◌+ℤ◌, ◌-ℤ◌, ◌*ℤ◌, neg_ℤ, zero-*ℤ}
use lib.Signed.{◌<ℤ◌, ◌≤ℤ◌}
use Rattle.sg_algebra.proofs.Ring.{sums, products, mul-neg, times_one}
use Rattle.sg_algebra.specs.Orders.{cmp, less, same, more}
use Rattle.sg_distance.proofs.Signs.{p*p, p/p, Alike, over, under}
use Rattle.sg_distance.proofs.Below.{le-below, below-mul, below-cancel, below-at, square-over}
use Rattle.sg_distance.proofs.Mix.{Along, one_times, along-on_edge, on-from, on-to}
use Rattle.sg_distance.proofs.Quad.{weights, Weights, Crossing, crossing_of, side_at}
use Rattle.sg_distance.proofs.Foot.{NearEdge, near_from, near_to, near_foot, AtFoot, along_of, across_of, square}
use Rattle.sg_distance.proofs.Pairs.{near-turned, mixed}
use Rattle.sg_distance.proofs.Cross.{Crosses, EdgesNear, by_a, by_b, by_c, by_d, crossed}
use Rattle.sg_shape.specs.Plane.{Point, on_edge}
use Rattle.sg_segment.specs.Sides.{point_at}
use Rattle.sg_shape.specs.declared.spots.Spot.{Spot}
use Rattle.sg_shape.specs.declared.spots.Edge.{Edge}
use Rattle.sg_distance.proofs.Nearness.{Below, SquareWithinAt, SquareWithin, along_at, across_at, square_of}

abbrev edge : Spot → Spot → Edge
edge u v = record { from = u; to = v }

-- ---- the bound itself
pub bound_over : (strict : Bool) (D : ℤ) (p q : Point) → SquareWithin strict D p q → Below strict (pos 0) D
bound_over strict D p q h =
    let pn : pos 0 <ℤ pos p.n = omega (arith, sums, p.is_over) in
    let qn : pos 0 <ℤ pos q.n = omega (arith, sums, q.is_over) in
    let w : pos 0 <ℤ (pos p.n *ℤ pos q.n) = p*p (pos p.n) (pos q.n) pn qn in
    let x : pos 0 ≤ℤ ((p.x *ℤ pos q.n -ℤ q.x *ℤ pos p.n) *ℤ (p.x *ℤ pos q.n -ℤ q.x *ℤ pos p.n)) = square-over (p.x *ℤ pos q.n -ℤ q.x *ℤ pos p.n) in
    let y : pos 0 ≤ℤ ((p.y *ℤ pos q.n -ℤ q.y *ℤ pos p.n) *ℤ (p.y *ℤ pos q.n -ℤ q.y *ℤ pos p.n)) = square-over (p.y *ℤ pos q.n -ℤ q.y *ℤ pos p.n) in
    below-cancel strict (pos 0) D ((pos p.n *ℤ pos q.n) *ℤ (pos p.n *ℤ pos q.n)) (p*p (pos p.n *ℤ pos q.n) (pos p.n *ℤ pos q.n) w w)
    (below-at strict (pos 0) (D *ℤ ((pos p.n *ℤ pos q.n) *ℤ (pos p.n *ℤ pos q.n))) _ _ (sym (zero-*ℤ ((pos p.n *ℤ pos q.n) *ℤ (pos p.n *ℤ pos q.n)))) refl
    (le-below strict (pos 0) _ _ (omega (arith, sums)) h))

pub near_self : (strict : Bool) (D : ℤ) (z : Point) → Below strict (pos 0) D → SquareWithin strict D z z
near_self strict D z h =
    let zn : pos 0 <ℤ pos z.n = omega (arith, sums, z.is_over) in
    let w : pos 0 <ℤ (pos z.n *ℤ pos z.n) = p*p (pos z.n) (pos z.n) zn zn in
    below-at strict _ _ _ _ (zero-*ℤ ((pos z.n *ℤ pos z.n) *ℤ (pos z.n *ℤ pos z.n)) ∙ sym (none z.x z.y (pos z.n))) refl
    (below-mul strict (pos 0) D ((pos z.n *ℤ pos z.n) *ℤ (pos z.n *ℤ pos z.n)) (p*p (pos z.n *ℤ pos z.n) (pos z.n *ℤ pos z.n) w w) h)
  where
    none : (x y n : ℤ) → (x *ℤ n -ℤ x *ℤ n) *ℤ (x *ℤ n -ℤ x *ℤ n) +ℤ (y *ℤ n -ℤ y *ℤ n) *ℤ (y *ℤ n -ℤ y *ℤ n) ≡ pos 0
    none x y n =
        let a : x *ℤ n -ℤ x *ℤ n ≡ pos 0 = omega (arith, sums) in
        let b : y *ℤ n -ℤ y *ℤ n ≡ pos 0 = omega (arith, sums) in
        rw (a, b) refl

-- ---- the foot
foot_point : (strict : Bool) (D : ℤ) (p : Point) (u v : Spot) → AtFoot strict D p u v → (w : Point) × (Along (point_at u) (point_at v) w × SquareWithin strict D p w)
foot_point strict D p u v f =
    let pn : pos 0 <ℤ pos p.n = omega (arith, sums, p.is_over) in
    let h : pos 0 <ℤ along_of u v p = f.after in
    let k : along_of u v p <ℤ (square u v *ℤ pos p.n) = f.before in
    let l : pos 0 <ℤ square u v = p/p (square u v) (pos p.n) (omega (arith, sums)) (omega (arith, sums)) in
    let m : (z : Point) × Along (point_at u) (point_at v) z × (z.x ≡ (square u v *ℤ pos p.n -ℤ along_of u v p) *ℤ u.x +ℤ along_of u v p *ℤ v.x) × (z.y ≡ (square u v *ℤ pos p.n -ℤ along_of u v p) *ℤ u.y +ℤ along_of u v p *ℤ v.y) × (pos z.n ≡ (square u v *ℤ pos p.n -ℤ along_of u v p) *ℤ pos 1 +ℤ along_of u v p *ℤ pos 1) =
    mixed (point_at u) (point_at v) (square u v *ℤ pos p.n -ℤ along_of u v p) (along_of u v p) (omega (arith, sums)) (omega (arith, sums)) (omega (arith, sums)) in
    let n : pos m.0.n ≡ square u v *ℤ pos p.n = m.4 ∙ count (square u v *ℤ pos p.n) (along_of u v p) in (
      m.0,
      (
        m.1,
        subst (λ (t : ℤ). SquareWithinAt strict D p.x p.y (pos p.n) t m.0.y (pos m.0.n)) (sym m.2)
            (subst (λ (t : ℤ). SquareWithinAt strict D p.x p.y (pos p.n) ((square u v *ℤ pos p.n -ℤ along_of u v p) *ℤ u.x +ℤ along_of u v p *ℤ v.x) t (pos m.0.n)) (sym m.3)
            (subst (λ (t : ℤ). SquareWithinAt strict D p.x p.y (pos p.n) ((square u v *ℤ pos p.n -ℤ along_of u v p) *ℤ u.x +ℤ along_of u v p *ℤ v.x) ((square u v *ℤ pos p.n -ℤ along_of u v p) *ℤ u.y +ℤ along_of u v p *ℤ v.y) t) (sym n)
            (by_numbers u.x u.y v.x v.y p.x p.y (pos p.n) pn l f.line))),
      ),
    )
  where
    count : (q l : ℤ) → (q -ℤ l) *ℤ pos 1 +ℤ l *ℤ pos 1 ≡ q
    count q l = let a : (q -ℤ l) *ℤ pos 1 ≡ q -ℤ l = times_one (q -ℤ l) in let b : l *ℤ pos 1 ≡ l = times_one l in omega (arith, sums)

    by_numbers : (ax ay bx by x y n : ℤ) → pos 0 <ℤ n → pos 0 <ℤ square_of ax ay bx by →
        Below strict (across_at ax ay bx by x y n *ℤ across_at ax ay bx by x y n) ((D *ℤ (n *ℤ n)) *ℤ square_of ax ay bx by) →
        SquareWithinAt strict D x y n ((square_of ax ay bx by *ℤ n -ℤ along_at ax ay bx by x y n) *ℤ ax +ℤ along_at ax ay bx by x y n *ℤ bx)
        ((square_of ax ay bx by *ℤ n -ℤ along_at ax ay bx by x y n) *ℤ ay +ℤ along_at ax ay bx by x y n *ℤ by) (square_of ax ay bx by *ℤ n)
    by_numbers ax ay bx by x y n nn l h =
        below-at strict _ _ _ _
        (sym (squares (x -ℤ ax *ℤ n) (y -ℤ ay *ℤ n) (bx -ℤ ax) (by -ℤ ay) n
        (x *ℤ (square_of ax ay bx by *ℤ n) -ℤ ((square_of ax ay bx by *ℤ n -ℤ along_at ax ay bx by x y n) *ℤ ax +ℤ along_at ax ay bx by x y n *ℤ bx) *ℤ n)
        (y *ℤ (square_of ax ay bx by *ℤ n) -ℤ ((square_of ax ay bx by *ℤ n -ℤ along_at ax ay bx by x y n) *ℤ ay +ℤ along_at ax ay bx by x y n *ℤ by) *ℤ n)
        (in_x (x -ℤ ax *ℤ n) (y -ℤ ay *ℤ n) (bx -ℤ ax) (by -ℤ ay) n x ax (along_at ax ay bx by x y n) (square_of ax ay bx by) bx refl refl refl refl)
        (in_y (x -ℤ ax *ℤ n) (y -ℤ ay *ℤ n) (bx -ℤ ax) (by -ℤ ay) n y ay (along_at ax ay bx by x y n) (square_of ax ay bx by) by refl refl refl refl)))
        (bound (square_of ax ay bx by) n)
        (below-mul strict _ _ ((n *ℤ n) *ℤ square_of ax ay bx by) (p*p (n *ℤ n) (square_of ax ay bx by) (p*p n n nn nn) l) h)
      where
        squares : (X Y e f n P Q : ℤ) → P ≡ neg_ℤ (n *ℤ (f *ℤ (Y *ℤ e -ℤ X *ℤ f))) → Q ≡ n *ℤ (e *ℤ (Y *ℤ e -ℤ X *ℤ f)) →
            P *ℤ P +ℤ Q *ℤ Q ≡ ((Y *ℤ e -ℤ X *ℤ f) *ℤ (Y *ℤ e -ℤ X *ℤ f)) *ℤ ((n *ℤ n) *ℤ (e *ℤ e +ℤ f *ℤ f))
        squares X Y e f n P Q g h = rw (g, h) (collect n (Y *ℤ e -ℤ X *ℤ f) e f)
          where
            collect : (n L e f : ℤ) → neg_ℤ (n *ℤ (f *ℤ L)) *ℤ neg_ℤ (n *ℤ (f *ℤ L)) +ℤ (n *ℤ (e *ℤ L)) *ℤ (n *ℤ (e *ℤ L)) ≡ (L *ℤ L) *ℤ ((n *ℤ n) *ℤ (e *ℤ e +ℤ f *ℤ f))
            collect n L e f = simp products (omega (arith, sums))

        in_x : (X Y e f n x a l q b : ℤ) → X ≡ x -ℤ a *ℤ n → b -ℤ a ≡ e → l ≡ X *ℤ e +ℤ Y *ℤ f → q ≡ e *ℤ e +ℤ f *ℤ f →
            x *ℤ (q *ℤ n) -ℤ ((q *ℤ n -ℤ l) *ℤ a +ℤ l *ℤ b) *ℤ n ≡ neg_ℤ (n *ℤ (f *ℤ (Y *ℤ e -ℤ X *ℤ f)))
        in_x X Y e f n x a l q b g j h i =
            let s1 : x *ℤ (q *ℤ n) -ℤ ((q *ℤ n -ℤ l) *ℤ a +ℤ l *ℤ b) *ℤ n ≡ n *ℤ ((x -ℤ a *ℤ n) *ℤ q -ℤ l *ℤ (b -ℤ a)) = spread x a b n q l in
            let s2 : (X *ℤ (e *ℤ e +ℤ f *ℤ f) -ℤ (X *ℤ e +ℤ Y *ℤ f) *ℤ e) ≡ neg_ℤ (f *ℤ (Y *ℤ e -ℤ X *ℤ f)) = lagrange X Y e f in
            s1 ∙ rw (← g, j, h, i, s2) (mul-neg n (f *ℤ (Y *ℤ e -ℤ X *ℤ f)))
          where
            spread : (x a b n q l : ℤ) → x *ℤ (q *ℤ n) -ℤ ((q *ℤ n -ℤ l) *ℤ a +ℤ l *ℤ b) *ℤ n ≡ n *ℤ ((x -ℤ a *ℤ n) *ℤ q -ℤ l *ℤ (b -ℤ a))
            spread x a b n q l = simp products (omega (arith, sums))

            lagrange : (X Y e f : ℤ) → X *ℤ (e *ℤ e +ℤ f *ℤ f) -ℤ (X *ℤ e +ℤ Y *ℤ f) *ℤ e ≡ neg_ℤ (f *ℤ (Y *ℤ e -ℤ X *ℤ f))
            lagrange X Y e f = simp products (omega (arith, sums))

        in_y : (X Y e f n y a l q b : ℤ) → Y ≡ y -ℤ a *ℤ n → b -ℤ a ≡ f → l ≡ X *ℤ e +ℤ Y *ℤ f → q ≡ e *ℤ e +ℤ f *ℤ f →
            y *ℤ (q *ℤ n) -ℤ ((q *ℤ n -ℤ l) *ℤ a +ℤ l *ℤ b) *ℤ n ≡ n *ℤ (e *ℤ (Y *ℤ e -ℤ X *ℤ f))
        in_y X Y e f n y a l q b g j h i =
            let s1 : y *ℤ (q *ℤ n) -ℤ ((q *ℤ n -ℤ l) *ℤ a +ℤ l *ℤ b) *ℤ n ≡ n *ℤ ((y -ℤ a *ℤ n) *ℤ q -ℤ l *ℤ (b -ℤ a)) = spread y a b n q l in
            let s2 : (Y *ℤ (e *ℤ e +ℤ f *ℤ f) -ℤ (X *ℤ e +ℤ Y *ℤ f) *ℤ f) ≡ e *ℤ (Y *ℤ e -ℤ X *ℤ f) = lagrange X Y e f in
            s1 ∙ rw (← g, j, h, i, s2) refl
          where
            spread : (x a b n q l : ℤ) → x *ℤ (q *ℤ n) -ℤ ((q *ℤ n -ℤ l) *ℤ a +ℤ l *ℤ b) *ℤ n ≡ n *ℤ ((x -ℤ a *ℤ n) *ℤ q -ℤ l *ℤ (b -ℤ a))
            spread x a b n q l = simp products (omega (arith, sums))

            lagrange : (X Y e f : ℤ) → Y *ℤ (e *ℤ e +ℤ f *ℤ f) -ℤ (X *ℤ e +ℤ Y *ℤ f) *ℤ f ≡ e *ℤ (Y *ℤ e -ℤ X *ℤ f)
            lagrange X Y e f = simp products (omega (arith, sums))

        bound : (q n : ℤ) → ((D *ℤ (n *ℤ n)) *ℤ q) *ℤ ((n *ℤ n) *ℤ q) ≡ D *ℤ ((n *ℤ (q *ℤ n)) *ℤ (n *ℤ (q *ℤ n)))
        bound q n = simp products

pub edge_point : (strict : Bool) (D : ℤ) (p : Point) (u v : Spot) → NearEdge strict D p u v → (w : Point) × ((on_edge (edge u v) w ≡ true) × SquareWithin strict D p w)
edge_point strict D p u v (near_from h) = (point_at u, (on-from u v, h))
edge_point strict D p u v (near_to h) = (point_at v, (on-to u v, h))
edge_point strict D p u v (near_foot f) =
    let m : (w : Point) × (Along (point_at u) (point_at v) w × SquareWithin strict D p w) = foot_point strict D p u v f in
    (m.0, (along-on_edge u v m.0 m.1.0, m.1.1))

-- ---- where two edges cross
cross_point : (a b c d : Spot) → Crosses a b c d → (z : Point) × ((on_edge (edge a b) z ≡ true) × (on_edge (edge c d) z ≡ true))
cross_point a b c d x =
    let w : Weights c.x c.y (pos 1) d.x d.y (pos 1) a.x a.y b.x b.y (across_of a b (point_at d)) (neg_ℤ (across_of a b (point_at c))) (neg_ℤ (side_at c.x c.y (pos 1) d.x d.y (pos 1) b.x b.y)) (side_at c.x c.y (pos 1) d.x d.y (pos 1) a.x a.y) =
    weights c.x c.y (pos 1) d.x d.y (pos 1) a.x a.y b.x b.y in
    let k : Crossing (point_at c) (point_at d) (point_at a) (point_at b) =
    crossing_of (point_at c) (point_at d) a b (across_of a b (point_at d)) (neg_ℤ (across_of a b (point_at c))) (neg_ℤ (side_at c.x c.y (pos 1) d.x d.y (pos 1) b.x b.y)) (side_at c.x c.y (pos 1) d.x d.y (pos 1) a.x a.y)
    (alike (across_of a b (point_at c)) (across_of a b (point_at d)) (across_of c d (point_at a)) (across_of c d (point_at b)) (side_at c.x c.y (pos 1) d.x d.y (pos 1) a.x a.y) (side_at c.x c.y (pos 1) d.x d.y (pos 1) b.x b.y)
    (same_side c.x c.y d.x d.y a.x a.y) (same_side c.x c.y d.x d.y b.x b.y) (total (across_of a b (point_at d)) (neg_ℤ (across_of a b (point_at c))) (neg_ℤ (side_at c.x c.y (pos 1) d.x d.y (pos 1) b.x b.y)) (side_at c.x c.y (pos 1) d.x d.y (pos 1) a.x a.y) w.in_n) x.apart x.not_left x.not_right) w in
    (k.z, (along-on_edge a b k.z k.second, along-on_edge c d k.z k.first))
  where
    total : (a b c d : ℤ) → a *ℤ pos 1 +ℤ b *ℤ pos 1 ≡ c +ℤ d → a +ℤ b ≡ c +ℤ d
    total a b c d e = let f : a *ℤ pos 1 ≡ a = times_one a in let g : b *ℤ pos 1 ≡ b = times_one b in omega (arith, sums)

    same_side : (px py qx qy ux uy : ℤ) → side_at px py (pos 1) qx qy (pos 1) ux uy ≡ across_at px py qx qy ux uy (pos 1)
    same_side px py qx qy ux uy = rw (times_one px, times_one py, one_times (qx *ℤ uy -ℤ qy *ℤ ux), one_times ux, one_times uy) (expand px py qx qy ux uy)
      where
        expand : (px py qx qy ux uy : ℤ) → px *ℤ (qy -ℤ uy) -ℤ py *ℤ (qx -ℤ ux) +ℤ (qx *ℤ uy -ℤ qy *ℤ ux) ≡ (uy -ℤ py) *ℤ (qx -ℤ px) -ℤ (ux -ℤ px) *ℤ (qy -ℤ py)
        expand px py qx qy ux uy = simp products (omega (arith, sums))

    alike : (c d x y s t : ℤ) → s ≡ x → t ≡ y → d +ℤ neg_ℤ c ≡ neg_ℤ t +ℤ s → ((c <ℤ pos 0) × (pos 0 <ℤ d)) ⊎ ((d <ℤ pos 0) × (pos 0 <ℤ c)) →
        (pos 0 <ℤ x → pos 0 <ℤ y → ⊥) → (x <ℤ pos 0 → y <ℤ pos 0 → ⊥) → Alike d (neg_ℤ c) (neg_ℤ t) s
    alike c d x y s t es et n (inl p) l r =
        let c0 : c <ℤ pos 0 = p.0 in let d0 : pos 0 <ℤ d = p.1 in
        over (omega (arith, sums)) (omega (arith, sums)) (omega (arith, sums))
        (elim (cmp (pos 0) y) [ less h ↦ absurd (l (omega (arith, sums)) h) | same h ↦ omega (arith, sums) | more h ↦ omega (arith, sums) ])
        (elim (cmp x (pos 0)) [ less h ↦ absurd (r h (omega (arith, sums))) | same h ↦ omega (arith, sums) | more h ↦ omega (arith, sums) ])
    alike c d x y s t es et n (inr p) l r =
        let d0 : d <ℤ pos 0 = p.0 in let c0 : pos 0 <ℤ c = p.1 in
        under (omega (arith, sums)) (omega (arith, sums)) (omega (arith, sums))
        (elim (cmp y (pos 0)) [ less h ↦ absurd (r (omega (arith, sums)) h) | same h ↦ omega (arith, sums) | more h ↦ omega (arith, sums) ])
        (elim (cmp (pos 0) x) [ less h ↦ absurd (l h (omega (arith, sums))) | same h ↦ omega (arith, sums) | more h ↦ omega (arith, sums) ])

-- two near points, one on each edge
pub record Both (strict : Bool) (D : ℤ) (e f : Edge) : Type 0 where
  pub z : Point
  pub w : Point
  pub on_first : on_edge e z ≡ true
  pub on_second : on_edge f w ≡ true
  pub near : SquareWithin strict D z w

pub edges_found : (strict : Bool) (D : ℤ) (a b c d : Spot) → Below strict (pos 0) D → EdgesNear strict D a b c d → Both strict D (edge a b) (edge c d)
edges_found strict D a b c d o (by_c n) =
    let m : (w : Point) × ((on_edge (edge a b) w ≡ true) × SquareWithin strict D (point_at c) w) = edge_point strict D (point_at c) a b n in
    record { z = m.0; w = point_at c; on_first = m.1.0; on_second = on-from c d; near = near-turned strict D (point_at c) m.0 m.1.1 }
edges_found strict D a b c d o (by_d n) =
    let m : (w : Point) × ((on_edge (edge a b) w ≡ true) × SquareWithin strict D (point_at d) w) = edge_point strict D (point_at d) a b n in
    record { z = m.0; w = point_at d; on_first = m.1.0; on_second = on-to c d; near = near-turned strict D (point_at d) m.0 m.1.1 }
edges_found strict D a b c d o (by_a n) =
    let m : (w : Point) × ((on_edge (edge c d) w ≡ true) × SquareWithin strict D (point_at a) w) = edge_point strict D (point_at a) c d n in
    record { z = point_at a; w = m.0; on_first = on-from a b; on_second = m.1.0; near = m.1.1 }
edges_found strict D a b c d o (by_b n) =
    let m : (w : Point) × ((on_edge (edge c d) w ≡ true) × SquareWithin strict D (point_at b) w) = edge_point strict D (point_at b) c d n in
    record { z = point_at b; w = m.0; on_first = on-to a b; on_second = m.1.0; near = m.1.1 }
edges_found strict D a b c d o (crossed x) =
    let m : (z : Point) × ((on_edge (edge a b) z ≡ true) × (on_edge (edge c d) z ≡ true)) = cross_point a b c d x in
    record { z = m.0; w = m.0; on_first = m.1.0; on_second = m.1.1; near = near_self strict D m.0 o }
