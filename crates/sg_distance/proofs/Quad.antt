-- Four points of the plane, two of them spots: the weights with which the lines through two and two meet.
use Rattle.std.proofs.Common.{ℕ, ◌≡◌, ◌≤◌, arith, refl, ap, ◌∙◌, zero, suc}
use lib.IntN.{ℤ, pos, negsuc, ◌+ℤ◌, ◌-ℤ◌, ◌*ℤ◌, neg_ℤ}
use lib.Signed.{◌<ℤ◌, ◌≤ℤ◌}
use Rattle.sg_algebra.proofs.Ring.{sums, products, neg-mul, times_one}
use Rattle.sg_algebra.specs.Orders.{cmp, less, same, more}
use Rattle.sg_distance.proofs.Mix.{line_at, Along, one_times}
use Rattle.sg_distance.proofs.Signs.{Ties, Alike, over, under, p*p, n*n}
use Rattle.sg_shape.specs.Plane.{Point}
use Rattle.sg_segment.specs.Sides.{point_at}
use Rattle.sg_shape.specs.declared.spots.Spot.{Spot}

-- where the spot u lies against the line from p to q: above 0 on its left
abbrev pub side_at : ℤ → ℤ → ℤ → ℤ → ℤ → ℤ → ℤ → ℤ → ℤ
side_at px py pn qx qy qn ux uy = px *ℤ (qy -ℤ qn *ℤ uy) -ℤ py *ℤ (qx -ℤ qn *ℤ ux) +ℤ pn *ℤ (qx *ℤ uy -ℤ qy *ℤ ux)

pub meet-x : (px py pn qx qy qn ux uy vx vy : ℤ) →
    line_at ux uy vx vy qx qy qn *ℤ px -ℤ line_at ux uy vx vy px py pn *ℤ qx
    ≡ side_at px py pn qx qy qn ux uy *ℤ vx -ℤ side_at px py pn qx qy qn vx vy *ℤ ux
meet-x px py pn qx qy qn ux uy vx vy = simp products (omega (arith, sums))

pub meet-y : (px py pn qx qy qn ux uy vx vy : ℤ) →
    line_at ux uy vx vy qx qy qn *ℤ py -ℤ line_at ux uy vx vy px py pn *ℤ qy
    ≡ side_at px py pn qx qy qn ux uy *ℤ vy -ℤ side_at px py pn qx qy qn vx vy *ℤ uy
meet-y px py pn qx qy qn ux uy vx vy = simp products (omega (arith, sums))

pub meet-n : (px py pn qx qy qn ux uy vx vy : ℤ) →
    line_at ux uy vx vy qx qy qn *ℤ pn -ℤ line_at ux uy vx vy px py pn *ℤ qn
    ≡ side_at px py pn qx qy qn ux uy -ℤ side_at px py pn qx qy qn vx vy
meet-n px py pn qx qy qn ux uy vx vy = simp products (omega (arith, sums))

-- the heights' ties of four weights, from the sums in y and n
pub ties-of : (a b c d py pn qy qn uy vy : ℤ) → a *ℤ py +ℤ b *ℤ qy ≡ c *ℤ uy +ℤ d *ℤ vy → a *ℤ pn +ℤ b *ℤ qn ≡ c +ℤ d →
    Ties a b c d (qy *ℤ pn -ℤ py *ℤ qn) (uy *ℤ pn -ℤ py) (vy *ℤ pn -ℤ py) (uy *ℤ qn -ℤ qy) (vy *ℤ qn -ℤ qy) (vy -ℤ uy)
ties-of a b c d py pn qy qn uy vy ey en =
    let yp : (a *ℤ py +ℤ b *ℤ qy) *ℤ pn ≡ (c *ℤ uy +ℤ d *ℤ vy) *ℤ pn = ap (λ (v : ℤ). v *ℤ pn) ey in
    let np : (a *ℤ pn +ℤ b *ℤ qn) *ℤ py ≡ (c +ℤ d) *ℤ py = ap (λ (v : ℤ). v *ℤ py) en in
    let yq : (a *ℤ py +ℤ b *ℤ qy) *ℤ qn ≡ (c *ℤ uy +ℤ d *ℤ vy) *ℤ qn = ap (λ (v : ℤ). v *ℤ qn) ey in
    let nq : (a *ℤ pn +ℤ b *ℤ qn) *ℤ qy ≡ (c +ℤ d) *ℤ qy = ap (λ (v : ℤ). v *ℤ qy) en in
    let nu : (a *ℤ pn +ℤ b *ℤ qn) *ℤ uy ≡ (c +ℤ d) *ℤ uy = ap (λ (v : ℤ). v *ℤ uy) en in
    let nv : (a *ℤ pn +ℤ b *ℤ qn) *ℤ vy ≡ (c +ℤ d) *ℤ vy = ap (λ (v : ℤ). v *ℤ vy) en in
    record {
      at_p = tie_p a b c d py pn qy qn uy vy yp np;
      at_q = tie_q a b c d py pn qy qn uy vy yq nq;
      at_u = tie_u a b c d py pn qy qn uy vy ey nu;
      at_v = tie_v a b c d py pn qy qn uy vy ey nv;
    }
  where
    tie_p : (a b c d py pn qy qn uy vy : ℤ) → (a *ℤ py +ℤ b *ℤ qy) *ℤ pn ≡ (c *ℤ uy +ℤ d *ℤ vy) *ℤ pn → (a *ℤ pn +ℤ b *ℤ qn) *ℤ py ≡ (c +ℤ d) *ℤ py →
        b *ℤ (qy *ℤ pn -ℤ py *ℤ qn) ≡ c *ℤ (uy *ℤ pn -ℤ py) +ℤ d *ℤ (vy *ℤ pn -ℤ py)
    tie_p a b c d py pn qy qn uy vy y n =
        let l : b *ℤ (qy *ℤ pn -ℤ py *ℤ qn) ≡ (a *ℤ py +ℤ b *ℤ qy) *ℤ pn -ℤ (a *ℤ pn +ℤ b *ℤ qn) *ℤ py = simp products (omega (arith, sums)) in
        let r : c *ℤ (uy *ℤ pn -ℤ py) +ℤ d *ℤ (vy *ℤ pn -ℤ py) ≡ (c *ℤ uy +ℤ d *ℤ vy) *ℤ pn -ℤ (c +ℤ d) *ℤ py = simp products (omega (arith, sums)) in
        omega (arith, sums)

    tie_q : (a b c d py pn qy qn uy vy : ℤ) → (a *ℤ py +ℤ b *ℤ qy) *ℤ qn ≡ (c *ℤ uy +ℤ d *ℤ vy) *ℤ qn → (a *ℤ pn +ℤ b *ℤ qn) *ℤ qy ≡ (c +ℤ d) *ℤ qy →
        a *ℤ (qy *ℤ pn -ℤ py *ℤ qn) +ℤ (c *ℤ (uy *ℤ qn -ℤ qy) +ℤ d *ℤ (vy *ℤ qn -ℤ qy)) ≡ pos 0
    tie_q a b c d py pn qy qn uy vy y n =
        let l : a *ℤ (qy *ℤ pn -ℤ py *ℤ qn) ≡ (a *ℤ pn +ℤ b *ℤ qn) *ℤ qy -ℤ (a *ℤ py +ℤ b *ℤ qy) *ℤ qn = simp products (omega (arith, sums)) in
        let r : c *ℤ (uy *ℤ qn -ℤ qy) +ℤ d *ℤ (vy *ℤ qn -ℤ qy) ≡ (c *ℤ uy +ℤ d *ℤ vy) *ℤ qn -ℤ (c +ℤ d) *ℤ qy = simp products (omega (arith, sums)) in
        omega (arith, sums)

    tie_u : (a b c d py pn qy qn uy vy : ℤ) → a *ℤ py +ℤ b *ℤ qy ≡ c *ℤ uy +ℤ d *ℤ vy → (a *ℤ pn +ℤ b *ℤ qn) *ℤ uy ≡ (c +ℤ d) *ℤ uy →
        a *ℤ (uy *ℤ pn -ℤ py) +ℤ (b *ℤ (uy *ℤ qn -ℤ qy) +ℤ d *ℤ (vy -ℤ uy)) ≡ pos 0
    tie_u a b c d py pn qy qn uy vy y n =
        let l : a *ℤ (uy *ℤ pn -ℤ py) +ℤ b *ℤ (uy *ℤ qn -ℤ qy) ≡ (a *ℤ pn +ℤ b *ℤ qn) *ℤ uy -ℤ (a *ℤ py +ℤ b *ℤ qy) = simp products (omega (arith, sums)) in
        let r : d *ℤ (vy -ℤ uy) ≡ (c *ℤ uy +ℤ d *ℤ vy) -ℤ (c +ℤ d) *ℤ uy = simp products (omega (arith, sums)) in
        omega (arith, sums)

    tie_v : (a b c d py pn qy qn uy vy : ℤ) → a *ℤ py +ℤ b *ℤ qy ≡ c *ℤ uy +ℤ d *ℤ vy → (a *ℤ pn +ℤ b *ℤ qn) *ℤ vy ≡ (c +ℤ d) *ℤ vy →
        a *ℤ (vy *ℤ pn -ℤ py) +ℤ b *ℤ (vy *ℤ qn -ℤ qy) ≡ c *ℤ (vy -ℤ uy)
    tie_v a b c d py pn qy qn uy vy y n =
        let l : a *ℤ (vy *ℤ pn -ℤ py) +ℤ b *ℤ (vy *ℤ qn -ℤ qy) ≡ (a *ℤ pn +ℤ b *ℤ qn) *ℤ vy -ℤ (a *ℤ py +ℤ b *ℤ qy) = simp products (omega (arith, sums)) in
        let r : c *ℤ (vy -ℤ uy) ≡ (c +ℤ d) *ℤ vy -ℤ (c *ℤ uy +ℤ d *ℤ vy) = simp products (omega (arith, sums)) in
        omega (arith, sums)

-- the weights, with the sums that they keep
pub record Weights (px py pn qx qy qn ux uy vx vy a b c d : ℤ) : Type 0 where
  pub in_x : a *ℤ px +ℤ b *ℤ qx ≡ c *ℤ ux +ℤ d *ℤ vx
  pub in_y : a *ℤ py +ℤ b *ℤ qy ≡ c *ℤ uy +ℤ d *ℤ vy
  pub in_n : a *ℤ pn +ℤ b *ℤ qn ≡ c +ℤ d

pub weights : (px py pn qx qy qn ux uy vx vy : ℤ) →
    Weights px py pn qx qy qn ux uy vx vy (line_at ux uy vx vy qx qy qn) (neg_ℤ (line_at ux uy vx vy px py pn))
    (neg_ℤ (side_at px py pn qx qy qn vx vy)) (side_at px py pn qx qy qn ux uy)
weights px py pn qx qy qn ux uy vx vy =
    record {
      in_x =
          let m : line_at ux uy vx vy qx qy qn *ℤ px -ℤ line_at ux uy vx vy px py pn *ℤ qx ≡ side_at px py pn qx qy qn ux uy *ℤ vx -ℤ side_at px py pn qx qy qn vx vy *ℤ ux = meet-x px py pn qx qy qn ux uy vx vy in
          signed (line_at ux uy vx vy qx qy qn) (line_at ux uy vx vy px py pn) (side_at px py pn qx qy qn vx vy) (side_at px py pn qx qy qn ux uy) px qx ux vx m;
      in_y =
          let m : line_at ux uy vx vy qx qy qn *ℤ py -ℤ line_at ux uy vx vy px py pn *ℤ qy ≡ side_at px py pn qx qy qn ux uy *ℤ vy -ℤ side_at px py pn qx qy qn vx vy *ℤ uy = meet-y px py pn qx qy qn ux uy vx vy in
          signed (line_at ux uy vx vy qx qy qn) (line_at ux uy vx vy px py pn) (side_at px py pn qx qy qn vx vy) (side_at px py pn qx qy qn ux uy) py qy uy vy m;
      in_n = signed_one (line_at ux uy vx vy qx qy qn) (line_at ux uy vx vy px py pn) (side_at px py pn qx qy qn vx vy) (side_at px py pn qx qy qn ux uy) pn qn (meet-n px py pn qx qy qn ux uy vx vy);
    }
  where
    signed : (a b c d p q u v : ℤ) → a *ℤ p -ℤ b *ℤ q ≡ d *ℤ v -ℤ c *ℤ u → a *ℤ p +ℤ neg_ℤ b *ℤ q ≡ neg_ℤ c *ℤ u +ℤ d *ℤ v
    signed a b c d p q u v e =
        let f : neg_ℤ b *ℤ q ≡ neg_ℤ (b *ℤ q) = neg-mul b q in
        let g : neg_ℤ c *ℤ u ≡ neg_ℤ (c *ℤ u) = neg-mul c u in
        omega (arith, sums)

    signed_one : (a b c d p q : ℤ) → a *ℤ p -ℤ b *ℤ q ≡ d -ℤ c → a *ℤ p +ℤ neg_ℤ b *ℤ q ≡ neg_ℤ c +ℤ d
    signed_one a b c d p q e =
        let f : neg_ℤ b *ℤ q ≡ neg_ℤ (b *ℤ q) = neg-mul b q in
        omega (arith, sums)

-- a point from whole numbers
pub count_of : (w : ℤ) → pos 0 <ℤ w → (n : ℕ) × ((1 ≤ n) × (pos n ≡ w))
count_of (pos zero) h = absurd h.lt
count_of (pos (suc n)) h = (suc n, (omega arith, refl))
count_of (negsuc n) h = absurd h.lt

-- a point that lies both between p and q and between u and v
pub record Crossing (p q u v : Point) : Type 0 where
  pub z : Point
  pub first : Along p q z
  pub second : Along u v z

crossing_over : (p q : Point) (u v : Spot) (a b c d : ℤ) → pos 0 ≤ℤ a → pos 0 ≤ℤ b → pos 0 <ℤ (a +ℤ b) → pos 0 ≤ℤ c → pos 0 ≤ℤ d →
    a *ℤ p.x +ℤ b *ℤ q.x ≡ c *ℤ u.x +ℤ d *ℤ v.x → a *ℤ p.y +ℤ b *ℤ q.y ≡ c *ℤ u.y +ℤ d *ℤ v.y → a *ℤ pos p.n +ℤ b *ℤ pos q.n ≡ c +ℤ d →
    Crossing p q (point_at u) (point_at v)
crossing_over p q u v a b c d ha hb hab hc hd ex ey en =
    let pn : pos 0 <ℤ pos p.n = omega (arith, sums, p.is_over) in
    let qn : pos 0 <ℤ pos q.n = omega (arith, sums, q.is_over) in
    let w : pos 0 <ℤ (a *ℤ pos p.n +ℤ b *ℤ pos q.n) = positive (pos p.n) (pos q.n) a b pn qn ha hb hab in
    let m : (n : ℕ) × ((1 ≤ n) × (pos n ≡ a *ℤ pos p.n +ℤ b *ℤ pos q.n)) = count_of (a *ℤ pos p.n +ℤ b *ℤ pos q.n) w in
    let o1 : pos 1 *ℤ (a *ℤ p.x +ℤ b *ℤ q.x) ≡ a *ℤ p.x +ℤ b *ℤ q.x = one_times (a *ℤ p.x +ℤ b *ℤ q.x) in
    let o2 : pos 1 *ℤ (a *ℤ p.y +ℤ b *ℤ q.y) ≡ a *ℤ p.y +ℤ b *ℤ q.y = one_times (a *ℤ p.y +ℤ b *ℤ q.y) in
    let o3 : pos 1 *ℤ pos m.0 ≡ pos m.0 = one_times (pos m.0) in
    let c1 : c *ℤ pos 1 ≡ c = times_one c in
    let d1 : d *ℤ pos 1 ≡ d = times_one d in
    let m1 : pos m.0 ≡ a *ℤ pos p.n +ℤ b *ℤ pos q.n = m.1.1 in
    record {
      z = record { x = a *ℤ p.x +ℤ b *ℤ q.x; y = a *ℤ p.y +ℤ b *ℤ q.y; n = m.0; is_over = m.1.0 };
      first = record { k = pos 1; s = a; t = b; k_over = omega (arith, sums); s_over = ha; t_over = hb; in_x = o1; in_y = o2; in_n = o3 ∙ m1 };
      second = record { k = pos 1; s = c; t = d; k_over = omega (arith, sums); s_over = hc; t_over = hd; in_x = o1 ∙ ex; in_y = o2 ∙ ey; in_n = omega (arith, sums) };
    }
  where
    positive : (m n a b : ℤ) → pos 0 <ℤ m → pos 0 <ℤ n → pos 0 ≤ℤ a → pos 0 ≤ℤ b → pos 0 <ℤ (a +ℤ b) → pos 0 <ℤ (a *ℤ m +ℤ b *ℤ n)
    positive m n a b hm hn ha hb hab =
        elim (cmp (pos 0) a) [
          | less l ↦ let r : pos 0 <ℤ (a *ℤ m) = p*p a m l hm in let t : pos 0 ≤ℤ (b *ℤ n) = n*n b n hb (omega (arith, sums)) in omega (arith, sums)
          | same l ↦ let r : pos 0 ≤ℤ (a *ℤ m) = n*n a m ha (omega (arith, sums)) in let t : pos 0 <ℤ (b *ℤ n) = p*p b n (omega (arith, sums)) hn in omega (arith, sums)
          | more l ↦ absurd (omega (arith, sums))
        ]

pub crossing_of : (p q : Point) (u v : Spot) (a b c d : ℤ) → Alike a b c d →
    Weights p.x p.y (pos p.n) q.x q.y (pos q.n) u.x u.y v.x v.y a b c d → Crossing p q (point_at u) (point_at v)
crossing_of p q u v a b c d (over ha hb hab hc hd) w = crossing_over p q u v a b c d ha hb hab hc hd w.in_x w.in_y w.in_n
crossing_of p q u v a b c d (under ha hb hab hc hd) w =
    crossing_over p q u v (neg_ℤ a) (neg_ℤ b) (neg_ℤ c) (neg_ℤ d)
    (omega (arith, sums)) (omega (arith, sums)) (omega (arith, sums)) (omega (arith, sums)) (omega (arith, sums))
    (turn a b c d p.x q.x u.x v.x w.in_x) (turn a b c d p.y q.y u.y v.y w.in_y) (turn_one a b c d (pos p.n) (pos q.n) w.in_n)
  where
    turn : (a b c d p q u v : ℤ) → a *ℤ p +ℤ b *ℤ q ≡ c *ℤ u +ℤ d *ℤ v → neg_ℤ a *ℤ p +ℤ neg_ℤ b *ℤ q ≡ neg_ℤ c *ℤ u +ℤ neg_ℤ d *ℤ v
    turn a b c d p q u v e = rw (neg-mul a p, neg-mul b q, neg-mul c u, neg-mul d v) (omega (arith, sums))

    turn_one : (a b c d p q : ℤ) → a *ℤ p +ℤ b *ℤ q ≡ c +ℤ d → neg_ℤ a *ℤ p +ℤ neg_ℤ b *ℤ q ≡ neg_ℤ c +ℤ neg_ℤ d
    turn_one a b c d p q e = rw (neg-mul a p, neg-mul b q) (omega (arith, sums))
