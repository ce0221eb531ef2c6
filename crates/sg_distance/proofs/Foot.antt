-- The point of an edge that is nearest to a point: an end, or the foot.
use Rattle.std.proofs.Common.{◌≡◌, arith, refl, ap, ◌∙◌, Bool}
use lib.IntN.{ℤ, pos, ◌+ℤ◌, ◌-ℤ◌, ◌*ℤ◌}
use lib.Signed.{◌<ℤ◌, ◌≤ℤ◌}
use Rattle.sg_algebra.proofs.Ring.{sums, products, times_one}
use Rattle.sg_algebra.specs.Orders.{Cmp, cmp, less, same, more}
use Rattle.sg_distance.proofs.Signs.{n*n, p*p, n*w, p/p}
use Rattle.sg_distance.proofs.Below.{le-below, below-mul, below-cancel, below-at, square-over}
use Rattle.sg_distance.proofs.Mix.{Along}
use Rattle.sg_shape.specs.Plane.{Point}
use Rattle.sg_segment.specs.Sides.{point_at}
use Rattle.sg_shape.specs.declared.spots.Spot.{Spot}
use Rattle.sg_distance.proofs.Nearness.{Below, SquareWithinAt, SquareWithin, along_at, across_at, square_of}

-- (x, y) and (ex, ey): the squares of along and across are the product of the squares
pub two_squares : (x y ex ey : ℤ) →
    (x *ℤ ex +ℤ y *ℤ ey) *ℤ (x *ℤ ex +ℤ y *ℤ ey) +ℤ (y *ℤ ex -ℤ x *ℤ ey) *ℤ (y *ℤ ex -ℤ x *ℤ ey) ≡ (x *ℤ x +ℤ y *ℤ y) *ℤ (ex *ℤ ex +ℤ ey *ℤ ey)
two_squares x y ex ey = simp products (omega (arith, sums))

-- on relative numbers: p = (x, y) over n, the edge from 0 to (ex, ey), and the edge's point with k * w = t * e and k * wn = m
-- behind the start, the start is no farther
start_at : (x y ex ey n t m : ℤ) → pos 0 ≤ℤ n → pos 0 ≤ℤ t → pos 0 ≤ℤ m → (x *ℤ ex +ℤ y *ℤ ey) ≤ℤ pos 0 →
    ((x *ℤ x +ℤ y *ℤ y) *ℤ (m *ℤ m)) ≤ℤ ((m *ℤ x -ℤ t *ℤ ex *ℤ n) *ℤ (m *ℤ x -ℤ t *ℤ ex *ℤ n) +ℤ (m *ℤ y -ℤ t *ℤ ey *ℤ n) *ℤ (m *ℤ y -ℤ t *ℤ ey *ℤ n))
start_at x y ex ey n t m nn to mo h =
    let e : (m *ℤ x -ℤ t *ℤ ex *ℤ n) *ℤ (m *ℤ x -ℤ t *ℤ ex *ℤ n) +ℤ (m *ℤ y -ℤ t *ℤ ey *ℤ n) *ℤ (m *ℤ y -ℤ t *ℤ ey *ℤ n)
    ≡ (x *ℤ x +ℤ y *ℤ y) *ℤ (m *ℤ m) -ℤ (m *ℤ t *ℤ n) *ℤ (x *ℤ ex +ℤ y *ℤ ey) -ℤ (m *ℤ t *ℤ n) *ℤ (x *ℤ ex +ℤ y *ℤ ey) +ℤ ((t *ℤ ex *ℤ n) *ℤ (t *ℤ ex *ℤ n) +ℤ (t *ℤ ey *ℤ n) *ℤ (t *ℤ ey *ℤ n)) =
    simp products (omega (arith, sums)) in
    let a : pos 0 ≤ℤ (m *ℤ t *ℤ n) = n*n (m *ℤ t) n (n*n m t mo to) nn in
    let b : ((m *ℤ t *ℤ n) *ℤ (x *ℤ ex +ℤ y *ℤ ey)) ≤ℤ pos 0 = n*w (m *ℤ t *ℤ n) (x *ℤ ex +ℤ y *ℤ ey) a h in
    let c : pos 0 ≤ℤ ((t *ℤ ex *ℤ n) *ℤ (t *ℤ ex *ℤ n)) = square-over (t *ℤ ex *ℤ n) in
    let d : pos 0 ≤ℤ ((t *ℤ ey *ℤ n) *ℤ (t *ℤ ey *ℤ n)) = square-over (t *ℤ ey *ℤ n) in
    omega (arith, sums)

-- the line is no farther
across_sq : (x y ex ey n t m : ℤ) →
    ((y *ℤ ex -ℤ x *ℤ ey) *ℤ (y *ℤ ex -ℤ x *ℤ ey) *ℤ (m *ℤ m))
    ≤ℤ (((m *ℤ x -ℤ t *ℤ ex *ℤ n) *ℤ (m *ℤ x -ℤ t *ℤ ex *ℤ n) +ℤ (m *ℤ y -ℤ t *ℤ ey *ℤ n) *ℤ (m *ℤ y -ℤ t *ℤ ey *ℤ n)) *ℤ (ex *ℤ ex +ℤ ey *ℤ ey))
across_sq x y ex ey n t m =
    let X : ℤ = m *ℤ x -ℤ t *ℤ ex *ℤ n in
    let Y : ℤ = m *ℤ y -ℤ t *ℤ ey *ℤ n in
    let l : (X *ℤ ex +ℤ Y *ℤ ey) *ℤ (X *ℤ ex +ℤ Y *ℤ ey) +ℤ (Y *ℤ ex -ℤ X *ℤ ey) *ℤ (Y *ℤ ex -ℤ X *ℤ ey) ≡ (X *ℤ X +ℤ Y *ℤ Y) *ℤ (ex *ℤ ex +ℤ ey *ℤ ey) = two_squares X Y ex ey in
    let a : (m *ℤ y -ℤ t *ℤ ey *ℤ n) *ℤ ex -ℤ (m *ℤ x -ℤ t *ℤ ex *ℤ n) *ℤ ey ≡ m *ℤ (y *ℤ ex -ℤ x *ℤ ey) = simp products (omega (arith, sums)) in
    let b : (Y *ℤ ex -ℤ X *ℤ ey) *ℤ (Y *ℤ ex -ℤ X *ℤ ey) ≡ (m *ℤ (y *ℤ ex -ℤ x *ℤ ey)) *ℤ (m *ℤ (y *ℤ ex -ℤ x *ℤ ey)) = ap (λ (v : ℤ). v *ℤ v) a in
    let c : (m *ℤ (y *ℤ ex -ℤ x *ℤ ey)) *ℤ (m *ℤ (y *ℤ ex -ℤ x *ℤ ey)) ≡ (y *ℤ ex -ℤ x *ℤ ey) *ℤ (y *ℤ ex -ℤ x *ℤ ey) *ℤ (m *ℤ m) = regroup m (y *ℤ ex -ℤ x *ℤ ey) in
    let d : pos 0 ≤ℤ ((X *ℤ ex +ℤ Y *ℤ ey) *ℤ (X *ℤ ex +ℤ Y *ℤ ey)) = square-over (X *ℤ ex +ℤ Y *ℤ ey) in
    finish ((X *ℤ ex +ℤ Y *ℤ ey) *ℤ (X *ℤ ex +ℤ Y *ℤ ey)) ((Y *ℤ ex -ℤ X *ℤ ey) *ℤ (Y *ℤ ex -ℤ X *ℤ ey)) ((X *ℤ X +ℤ Y *ℤ Y) *ℤ (ex *ℤ ex +ℤ ey *ℤ ey)) ((y *ℤ ex -ℤ x *ℤ ey) *ℤ (y *ℤ ex -ℤ x *ℤ ey) *ℤ (m *ℤ m)) l (b ∙ c) d
  where
    regroup : (m c : ℤ) → (m *ℤ c) *ℤ (m *ℤ c) ≡ c *ℤ c *ℤ (m *ℤ m)
    regroup m c = simp products

    finish : (a b c d : ℤ) → a +ℤ b ≡ c → b ≡ d → pos 0 ≤ℤ a → d ≤ℤ c
    finish a b c d e f h = omega (arith, sums)

-- k times a difference from a point between two spots
scaled_dif : (k s t a b w wn p n : ℤ) → k *ℤ w ≡ s *ℤ a +ℤ t *ℤ b → k *ℤ wn ≡ s +ℤ t →
    k *ℤ (p *ℤ wn -ℤ w *ℤ n) ≡ (k *ℤ wn) *ℤ (p -ℤ a *ℤ n) -ℤ t *ℤ (b -ℤ a) *ℤ n
scaled_dif k s t a b w wn p n e f =
    let g : (k *ℤ w) *ℤ n ≡ (s *ℤ a +ℤ t *ℤ b) *ℤ n = ap (λ (v : ℤ). v *ℤ n) e in
    let h : (k *ℤ wn) *ℤ (a *ℤ n) ≡ (s +ℤ t) *ℤ (a *ℤ n) = ap (λ (v : ℤ). v *ℤ (a *ℤ n)) f in
    let l : k *ℤ (p *ℤ wn -ℤ w *ℤ n) ≡ (k *ℤ wn) *ℤ p -ℤ (k *ℤ w) *ℤ n = simp products in
    let r : (k *ℤ wn) *ℤ (p -ℤ a *ℤ n) ≡ (k *ℤ wn) *ℤ p -ℤ (k *ℤ wn) *ℤ (a *ℤ n) = simp products in
    let o : (s *ℤ a +ℤ t *ℤ b) *ℤ n ≡ (s +ℤ t) *ℤ (a *ℤ n) +ℤ t *ℤ (b -ℤ a) *ℤ n = simp products (omega (arith, sums)) in
    omega (arith, sums)

scale_sum : (k a b : ℤ) → (a *ℤ a +ℤ b *ℤ b) *ℤ (k *ℤ k) ≡ (k *ℤ a) *ℤ (k *ℤ a) +ℤ (k *ℤ b) *ℤ (k *ℤ b)
scale_sum k a b = simp products

scale_bound : (D p w k : ℤ) → D *ℤ ((p *ℤ w) *ℤ (p *ℤ w)) *ℤ (k *ℤ k) ≡ (D *ℤ (p *ℤ p)) *ℤ ((k *ℤ w) *ℤ (k *ℤ w))
scale_bound D p w k = simp products

spot_near_at : (strict : Bool) (D x y n ux uy : ℤ) →
    Below strict ((x -ℤ ux *ℤ n) *ℤ (x -ℤ ux *ℤ n) +ℤ (y -ℤ uy *ℤ n) *ℤ (y -ℤ uy *ℤ n)) (D *ℤ (n *ℤ n)) → SquareWithinAt strict D x y n ux uy (pos 1)
spot_near_at strict D x y n ux uy h = rw (times_one x, times_one y, times_one n) h

pub near_spot_at : (strict : Bool) (D x y n ux uy : ℤ) → SquareWithinAt strict D x y n ux uy (pos 1) →
    Below strict ((x -ℤ ux *ℤ n) *ℤ (x -ℤ ux *ℤ n) +ℤ (y -ℤ uy *ℤ n) *ℤ (y -ℤ uy *ℤ n)) (D *ℤ (n *ℤ n))
near_spot_at strict D x y n ux uy h = rw (times_one x, times_one y, times_one n) at h

-- a spot's near point, by relative numbers
pub spot_near : (strict : Bool) (D : ℤ) (p : Point) (u : Spot) →
    Below strict ((p.x -ℤ u.x *ℤ pos p.n) *ℤ (p.x -ℤ u.x *ℤ pos p.n) +ℤ (p.y -ℤ u.y *ℤ pos p.n) *ℤ (p.y -ℤ u.y *ℤ pos p.n)) (D *ℤ (pos p.n *ℤ pos p.n)) →
    SquareWithin strict D p (point_at u)
spot_near strict D p u h = spot_near_at strict D p.x p.y (pos p.n) u.x u.y h

abbrev rel_x : Spot → Point → ℤ
rel_x u p = p.x -ℤ u.x *ℤ pos p.n

abbrev rel_y : Spot → Point → ℤ
rel_y u p = p.y -ℤ u.y *ℤ pos p.n

-- p near a point of the edge, in relative numbers
near_scaled : (strict : Bool) (D : ℤ) (p w : Point) (u v : Spot) (a : Along (point_at u) (point_at v) w) → SquareWithin strict D p w →
    Below strict
    (((a.k *ℤ pos w.n) *ℤ rel_x u p -ℤ a.t *ℤ (v.x -ℤ u.x) *ℤ pos p.n) *ℤ ((a.k *ℤ pos w.n) *ℤ rel_x u p -ℤ a.t *ℤ (v.x -ℤ u.x) *ℤ pos p.n)
    +ℤ ((a.k *ℤ pos w.n) *ℤ rel_y u p -ℤ a.t *ℤ (v.y -ℤ u.y) *ℤ pos p.n) *ℤ ((a.k *ℤ pos w.n) *ℤ rel_y u p -ℤ a.t *ℤ (v.y -ℤ u.y) *ℤ pos p.n))
    ((D *ℤ (pos p.n *ℤ pos p.n)) *ℤ ((a.k *ℤ pos w.n) *ℤ (a.k *ℤ pos w.n)))
near_scaled strict D p w u v a h =
    let s1 : a.s *ℤ pos 1 ≡ a.s = times_one a.s in
    let t1 : a.t *ℤ pos 1 ≡ a.t = times_one a.t in
    let m : a.k *ℤ pos w.n ≡ a.s *ℤ pos 1 +ℤ a.t *ℤ pos 1 = a.in_n in
    let x : a.k *ℤ (p.x *ℤ pos w.n -ℤ w.x *ℤ pos p.n) ≡ (a.k *ℤ pos w.n) *ℤ rel_x u p -ℤ a.t *ℤ (v.x -ℤ u.x) *ℤ pos p.n = scaled_dif a.k a.s a.t u.x v.x w.x (pos w.n) p.x (pos p.n) a.in_x (omega (arith, sums)) in
    let y : a.k *ℤ (p.y *ℤ pos w.n -ℤ w.y *ℤ pos p.n) ≡ (a.k *ℤ pos w.n) *ℤ rel_y u p -ℤ a.t *ℤ (v.y -ℤ u.y) *ℤ pos p.n = scaled_dif a.k a.s a.t u.y v.y w.y (pos w.n) p.y (pos p.n) a.in_y (omega (arith, sums)) in
    below-at strict _ _ _ _
    (scale_sum a.k (p.x *ℤ pos w.n -ℤ w.x *ℤ pos p.n) (p.y *ℤ pos w.n -ℤ w.y *ℤ pos p.n) ∙ two x y)
    (scale_bound D (pos p.n) (pos w.n) a.k)
    (below-mul strict _ _ (a.k *ℤ a.k) (p*p a.k a.k a.k_over a.k_over) h)
  where
    two : {a b c d : ℤ} → a ≡ c → b ≡ d → a *ℤ a +ℤ b *ℤ b ≡ c *ℤ c +ℤ d *ℤ d
    two {a} {b} {c} {d} e f = rw (e, f) refl

abbrev pub along_of : Spot → Spot → Point → ℤ
along_of u v p = along_at u.x u.y v.x v.y p.x p.y (pos p.n)

abbrev pub across_of : Spot → Spot → Point → ℤ
across_of u v p = across_at u.x u.y v.x v.y p.x p.y (pos p.n)

abbrev pub square : Spot → Spot → ℤ
square u v = square_of u.x u.y v.x v.y

pub foot_start : (strict : Bool) (D : ℤ) (p w : Point) (u v : Spot) → Along (point_at u) (point_at v) w → along_of u v p ≤ℤ pos 0 → SquareWithin strict D p w → SquareWithin strict D p (point_at u)
foot_start strict D p w u v a h q =
    let m : pos 0 <ℤ (a.k *ℤ pos w.n) = p*p a.k (pos w.n) a.k_over (omega (arith, sums, w.is_over)) in
    let b : ((rel_x u p *ℤ rel_x u p +ℤ rel_y u p *ℤ rel_y u p) *ℤ ((a.k *ℤ pos w.n) *ℤ (a.k *ℤ pos w.n))) ≤ℤ
    (((a.k *ℤ pos w.n) *ℤ rel_x u p -ℤ a.t *ℤ (v.x -ℤ u.x) *ℤ pos p.n) *ℤ ((a.k *ℤ pos w.n) *ℤ rel_x u p -ℤ a.t *ℤ (v.x -ℤ u.x) *ℤ pos p.n)
    +ℤ ((a.k *ℤ pos w.n) *ℤ rel_y u p -ℤ a.t *ℤ (v.y -ℤ u.y) *ℤ pos p.n) *ℤ ((a.k *ℤ pos w.n) *ℤ rel_y u p -ℤ a.t *ℤ (v.y -ℤ u.y) *ℤ pos p.n)) =
    start_at (rel_x u p) (rel_y u p) (v.x -ℤ u.x) (v.y -ℤ u.y) (pos p.n) a.t (a.k *ℤ pos w.n) (omega (arith, sums)) a.t_over (omega (arith, sums)) h in
    spot_near strict D p u
    (below-cancel strict _ _ ((a.k *ℤ pos w.n) *ℤ (a.k *ℤ pos w.n)) (p*p (a.k *ℤ pos w.n) (a.k *ℤ pos w.n) m m)
    (le-below strict _ _ _ b (near_scaled strict D p w u v a q)))

pub foot_line : (strict : Bool) (D : ℤ) (p w : Point) (u v : Spot) → Along (point_at u) (point_at v) w → pos 0 <ℤ square u v → SquareWithin strict D p w →
    Below strict (across_of u v p *ℤ across_of u v p) ((D *ℤ (pos p.n *ℤ pos p.n)) *ℤ square u v)
foot_line strict D p w u v a l q =
    let m : pos 0 <ℤ (a.k *ℤ pos w.n) = p*p a.k (pos w.n) a.k_over (omega (arith, sums, w.is_over)) in
    below-cancel strict _ _ ((a.k *ℤ pos w.n) *ℤ (a.k *ℤ pos w.n)) (p*p (a.k *ℤ pos w.n) (a.k *ℤ pos w.n) m m)
    (le-below strict _ _ _ (across_sq (rel_x u p) (rel_y u p) (v.x -ℤ u.x) (v.y -ℤ u.y) (pos p.n) a.t (a.k *ℤ pos w.n))
    (below-at strict _ _ _ _ refl (swap (D *ℤ (pos p.n *ℤ pos p.n)) ((a.k *ℤ pos w.n) *ℤ (a.k *ℤ pos w.n)) (square u v))
    (below-mul strict _ _ (square u v) l (near_scaled strict D p w u v a q))))
  where
    swap : (a b c : ℤ) → (a *ℤ b) *ℤ c ≡ (a *ℤ c) *ℤ b
    swap a b c = simp products

pub along-turned : (u v : Spot) (p : Point) → along_of v u p ≡ square u v *ℤ pos p.n -ℤ along_of u v p
along-turned u v p = by_numbers u.x u.y v.x v.y p.x p.y (pos p.n)
  where
    by_numbers : (ax ay bx by x y n : ℤ) → along_at bx by ax ay x y n ≡ square_of ax ay bx by *ℤ n -ℤ along_at ax ay bx by x y n
    by_numbers ax ay bx by x y n = simp products (omega (arith, sums))

pub turn : (u v : Spot) (w : Point) → Along (point_at u) (point_at v) w → Along (point_at v) (point_at u) w
turn u v w a = record {
  k = a.k;
  s = a.t;
  t = a.s;
  k_over = a.k_over;
  s_over = a.t_over;
  t_over = a.s_over;
  in_x = let e : a.k *ℤ w.x ≡ a.s *ℤ u.x +ℤ a.t *ℤ v.x = a.in_x in omega (arith, sums);
  in_y = let e : a.k *ℤ w.y ≡ a.s *ℤ u.y +ℤ a.t *ℤ v.y = a.in_y in omega (arith, sums);
  in_n = let e : a.k *ℤ pos w.n ≡ a.s *ℤ pos 1 +ℤ a.t *ℤ pos 1 = a.in_n in omega (arith, sums);
}

-- p's foot lies strictly within the edge, and the line is near
pub record AtFoot (strict : Bool) (D : ℤ) (p : Point) (u v : Spot) : Type 0 where
  pub after : pos 0 <ℤ along_of u v p
  pub before : along_of u v p <ℤ (square u v *ℤ pos p.n)
  pub line : Below strict (across_of u v p *ℤ across_of u v p) ((D *ℤ (pos p.n *ℤ pos p.n)) *ℤ square u v)

-- p near an edge is near an end or its foot
pub data NearEdge (strict : Bool) (D : ℤ) (p : Point) (u v : Spot) : Type 0 where
  near_from : SquareWithin strict D p (point_at u) → NearEdge strict D p u v
  near_to : SquareWithin strict D p (point_at v) → NearEdge strict D p u v
  near_foot : AtFoot strict D p u v → NearEdge strict D p u v

pub near_edge : (strict : Bool) (D : ℤ) (p w : Point) (u v : Spot) → Along (point_at u) (point_at v) w → SquareWithin strict D p w → NearEdge strict D p u v
near_edge strict D p w u v a q = by_start (cmp (pos 0) (along_of u v p))
  where
    pn : pos 0 <ℤ pos p.n
    pn = omega (arith, sums, p.is_over)

    start : along_of u v p ≤ℤ pos 0 → NearEdge strict D p u v
    start h = near_from (foot_start strict D p w u v a h q)

    end : (square u v *ℤ pos p.n) ≤ℤ along_of u v p → NearEdge strict D p u v
    end h =
        let e : along_of v u p ≡ square u v *ℤ pos p.n -ℤ along_of u v p = along-turned u v p in
        near_to (foot_start strict D p w v u (turn u v w a) (omega (arith, sums)) q)

    within : pos 0 <ℤ along_of u v p → along_of u v p <ℤ (square u v *ℤ pos p.n) → NearEdge strict D p u v
    within h k =
        let l : pos 0 <ℤ square u v = p/p (square u v) (pos p.n) (omega (arith, sums)) (omega (arith, sums, pn)) in
        near_foot (record { after = h; before = k; line = foot_line strict D p w u v a l q })

    by_end : pos 0 <ℤ along_of u v p → Cmp (along_of u v p) (square u v *ℤ pos p.n) → NearEdge strict D p u v
    by_end h (less k) = within h k
    by_end h (same k) = end (omega (arith, sums))
    by_end h (more k) = end (omega (arith, sums))

    by_start : Cmp (pos 0) (along_of u v p) → NearEdge strict D p u v
    by_start (less h) = by_end h (cmp (along_of u v p) (square u v *ℤ pos p.n))
    by_start (same h) = start (omega (arith, sums))
    by_start (more h) = start (omega (arith, sums))
