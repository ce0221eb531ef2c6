-- The first edge that a point's rightward ray crosses: a point in two areas leads to an edge of one that lies in the other.
use Rattle.std.proofs.Common.{ℕ, ◌≡◌, ◌≤◌, arith, refl, sym, ap, ◌∙◌, Bool, true, false, not, List, [], ◌∷◌}
use mathlib.Core.Bool.{◌&&◌, ◌||◌}
use mathlib.Core.Logic.{◌⊎◌, inl, inr}
use lib.IntN.{ℤ, pos, ◌+ℤ◌, ◌-ℤ◌, ◌*ℤ◌, *ℤ_comm, zero-*ℤ}
use lib.Signed.{◌<ℤ◌, ◌≤ℤ◌}
use Rattle.sg_algebra.proofs.Ring.{sums, products, nonneg_diff-mul, lt-mul_right, mul_assoc, times_one}
use Rattle.sg_algebra.proofs.Cancelling.{le-cancel_right, lt-cancel_right, eq-cancel_right}
use Rattle.sg_algebra.specs.Orders.{cmp, less, same, more}
use Rattle.sg_algebra.proofs.Comparisons.{lt-from_true, true-from_lt, le-from_false, same_test, left_true, right_true, both, either_true, or_left, or_right}
use Rattle.sg_distance.proofs.Signs.{p*p, p/p, w/p}
use Rattle.sg_distance.proofs.Mix.{line_at, Along, along-on, on-line, along-on_edge, one_times}
use Rattle.sg_algebra.proofs.Edges.{on_edge-turned}
use Rattle.sg_distance.proofs.Quad.{count_of}
use Rattle.sg_distance.proofs.Reach.{holds}
use Rattle.sg_segment.specs.Sides.{point_at}
use Rattle.sg_segment.specs.Statuses.{parity}
use Rattle.sg_distance.specs.Figure.{on_any}
use Rattle.sg_shape.specs.Plane.{Point, on_edge, is_above, passes_right, crosses_ray, edges_of}
use Rattle.sg_shape.specs.declared.spots.Spot.{Spot}
use Rattle.sg_shape.specs.declared.spots.Edge.{Edge}

abbrev edge : Spot → Spot → Edge
edge u v = record { from = u; to = v }

abbrev line_of : Spot → Spot → Point → ℤ
line_of u v p = line_at u.x u.y v.x v.y p.x p.y (pos p.n)

abbrev cross_up : Spot → Spot → Point → Bool
cross_up u v p = is_above v p && not (is_above u p) && passes_right u v p

-- at one height
abbrev pub Level : Point → Point → Type 0
Level p q = p.y *ℤ pos q.n ≡ q.y *ℤ pos p.n

abbrev pub LeftOf : Point → Point → Type 0
LeftOf p q = (p.x *ℤ pos q.n) <ℤ (q.x *ℤ pos p.n)

abbrev pub NotRightOf : Point → Point → Type 0
NotRightOf p q = (p.x *ℤ pos q.n) ≤ℤ (q.x *ℤ pos p.n)

over_n : (p : Point) → pos 0 <ℤ pos p.n
over_n p = omega (arith, sums, p.is_over)

swap_right : (a b c : ℤ) → (a *ℤ b) *ℤ c ≡ (a *ℤ c) *ℤ b
swap_right a b c = mul_assoc a b c ∙ ap (λ (v : ℤ). a *ℤ v) (*ℤ_comm b c) ∙ sym (mul_assoc a c b)

-- the order of a spot's height with points at one height
above-level : (s : Spot) (p q : Point) → Level p q → is_above s p ≡ is_above s q
above-level s p q l = same_test (go p q l) (go q p (sym l))
  where
    go : (p q : Point) → Level p q → is_above s p ≡ true → is_above s q ≡ true
    go p q l e =
        let h : p.y <ℤ (s.y *ℤ pos p.n) = lt-from_true p.y (s.y *ℤ pos p.n) e in
        let k : (p.y *ℤ pos q.n) <ℤ ((s.y *ℤ pos p.n) *ℤ pos q.n) = lt-mul_right p.y (s.y *ℤ pos p.n) (pos q.n) (over_n q) h in
        let m : (s.y *ℤ pos p.n) *ℤ pos q.n ≡ (s.y *ℤ pos q.n) *ℤ pos p.n = swap_right s.y (pos p.n) (pos q.n) in
        let r : q.y <ℤ (s.y *ℤ pos q.n) = lt-cancel_right q.y (s.y *ℤ pos q.n) (pos p.n) (over_n p) (omega (arith, sums)) in
        true-from_lt q.y (s.y *ℤ pos q.n) r

-- how the line's value changes along a height
shift : (ux uy vx vy px py pn zx zy zn : ℤ) → py *ℤ zn ≡ zy *ℤ pn →
    line_at ux uy vx vy px py pn *ℤ zn ≡ line_at ux uy vx vy zx zy zn *ℤ pn +ℤ (zx *ℤ pn -ℤ px *ℤ zn) *ℤ (vy -ℤ uy)
shift ux uy vx vy px py pn zx zy zn l =
    let e : (py *ℤ zn) *ℤ (vx -ℤ ux) ≡ (zy *ℤ pn) *ℤ (vx -ℤ ux) = ap (λ (v : ℤ). v *ℤ (vx -ℤ ux)) l in
    let a : line_at ux uy vx vy px py pn *ℤ zn ≡ (py *ℤ zn) *ℤ (vx -ℤ ux) -ℤ (uy *ℤ pn *ℤ zn) *ℤ (vx -ℤ ux) -ℤ (px *ℤ zn -ℤ ux *ℤ pn *ℤ zn) *ℤ (vy -ℤ uy) = simp products (omega (arith, sums)) in
    let b : line_at ux uy vx vy zx zy zn *ℤ pn ≡ (zy *ℤ pn) *ℤ (vx -ℤ ux) -ℤ (uy *ℤ pn *ℤ zn) *ℤ (vx -ℤ ux) -ℤ (zx *ℤ pn -ℤ ux *ℤ pn *ℤ zn) *ℤ (vy -ℤ uy) = simp products (omega (arith, sums)) in
    let c : (px *ℤ zn -ℤ ux *ℤ pn *ℤ zn) *ℤ (vy -ℤ uy) ≡ (px *ℤ zn) *ℤ (vy -ℤ uy) -ℤ (ux *ℤ pn *ℤ zn) *ℤ (vy -ℤ uy) = simp products (omega (arith, sums)) in
    let d : (zx *ℤ pn -ℤ ux *ℤ pn *ℤ zn) *ℤ (vy -ℤ uy) ≡ (zx *ℤ pn) *ℤ (vy -ℤ uy) -ℤ (ux *ℤ pn *ℤ zn) *ℤ (vy -ℤ uy) = simp products (omega (arith, sums)) in
    let f : (zx *ℤ pn -ℤ px *ℤ zn) *ℤ (vy -ℤ uy) ≡ (zx *ℤ pn) *ℤ (vy -ℤ uy) -ℤ (px *ℤ zn) *ℤ (vy -ℤ uy) = simp products (omega (arith, sums)) in
    omega (arith, sums)

-- an edge passes right of p, with lo below hi
pass-true : (u v : Spot) (p : Point) → passes_right u v p ≡ true → pos 0 <ℤ line_of u v p
pass-true u v p e = let h : ((p.x -ℤ u.x *ℤ pos p.n) *ℤ (v.y -ℤ u.y)) <ℤ ((p.y -ℤ u.y *ℤ pos p.n) *ℤ (v.x -ℤ u.x)) = lt-from_true ((p.x -ℤ u.x *ℤ pos p.n) *ℤ (v.y -ℤ u.y)) ((p.y -ℤ u.y *ℤ pos p.n) *ℤ (v.x -ℤ u.x)) e in omega (arith, sums)

true-pass : (u v : Spot) (p : Point) → pos 0 <ℤ line_of u v p → passes_right u v p ≡ true
true-pass u v p e = true-from_lt ((p.x -ℤ u.x *ℤ pos p.n) *ℤ (v.y -ℤ u.y)) ((p.y -ℤ u.y *ℤ pos p.n) *ℤ (v.x -ℤ u.x)) (omega (arith, sums))

-- where the edge passes the height of q
pub record Pass (e : Edge) (q : Point) : Type 0 where
  pub lo : Spot
  pub hi : Spot
  pub rises : pos 0 <ℤ (hi.y -ℤ lo.y)
  pub low : is_above lo q ≡ false
  pub high : is_above hi q ≡ true
  pub z : Point
  pub level : Level z q
  pub right : LeftOf q z
  pub zero : line_of lo hi z ≡ pos 0
  pub on : on_edge e z ≡ true
  pub straight : (p : Point) → on_edge e p ≡ true → line_of lo hi p ≡ pos 0
  pub again : (p : Point) → cross_up lo hi p ≡ true → crosses_ray e p ≡ true

not_true : (b : Bool) → not b ≡ true → b ≡ false
not_true true e = sym e
not_true false e = refl

true_not : (b : Bool) → b ≡ false → not b ≡ true
true_not b e = ap not e

pass_up : (e : Edge) (u v : Spot) (q : Point) → cross_up u v q ≡ true → ((p : Point) → on_edge (edge u v) p ≡ true → on_edge e p ≡ true) →
    ((p : Point) → on_edge e p ≡ true → on_edge (edge u v) p ≡ true) →
    ((p : Point) → cross_up u v p ≡ true → crosses_ray e p ≡ true) → Pass e q
pass_up e u v q c on off again =
    let hi : is_above v q ≡ true = left_true (is_above v q) _ (left_true (is_above v q && not (is_above u q)) (passes_right u v q) c) in
    let lo : is_above u q ≡ false = not_true _ (right_true (is_above v q) (not (is_above u q)) (left_true (is_above v q && not (is_above u q)) (passes_right u v q) c)) in
    let pr : pos 0 <ℤ line_of u v q = pass-true u v q (right_true (is_above v q && not (is_above u q)) (passes_right u v q) c) in
    let h1 : q.y <ℤ (v.y *ℤ pos q.n) = lt-from_true q.y (v.y *ℤ pos q.n) hi in
    let h2 : (u.y *ℤ pos q.n) ≤ℤ q.y = le-from_false q.y (u.y *ℤ pos q.n) lo in
    let r : u.y <ℤ v.y = lt-cancel_right u.y v.y (pos q.n) (over_n q) (omega (arith, sums)) in
    let d : pos 0 <ℤ (v.y -ℤ u.y) = omega (arith, sums) in
    let w : pos 0 <ℤ ((v.y -ℤ u.y) *ℤ pos q.n) = p*p (v.y -ℤ u.y) (pos q.n) d (over_n q) in
    let m : (n : ℕ) × ((1 ≤ n) × (pos n ≡ (v.y -ℤ u.y) *ℤ pos q.n)) = count_of ((v.y -ℤ u.y) *ℤ pos q.n) w in
    make m.0 m.1.0 m.1.1 hi lo pr d h1 h2
  where
    make : (n : ℕ) → 1 ≤ n → pos n ≡ (v.y -ℤ u.y) *ℤ pos q.n → is_above v q ≡ true → is_above u q ≡ false → pos 0 <ℤ line_of u v q → pos 0 <ℤ (v.y -ℤ u.y) →
        q.y <ℤ (v.y *ℤ pos q.n) → (u.y *ℤ pos q.n) ≤ℤ q.y → Pass e q
    make n n1 ne hi lo pr d h1 h2 =
        let z : Point = record { x = (v.y *ℤ pos q.n -ℤ q.y) *ℤ u.x +ℤ (q.y -ℤ u.y *ℤ pos q.n) *ℤ v.x; y = q.y *ℤ (v.y -ℤ u.y); n = n; is_over = n1 } in
        let lev : Level z q = level q.y (v.y -ℤ u.y) (pos q.n) (pos n) ne in
        let alo : Along (point_at u) (point_at v) z = record {
          k = pos 1;
          s = v.y *ℤ pos q.n -ℤ q.y;
          t = q.y -ℤ u.y *ℤ pos q.n;
          k_over = omega (arith, sums);
          s_over = omega (arith, sums);
          t_over = omega (arith, sums);
          in_x = one_times ((v.y *ℤ pos q.n -ℤ q.y) *ℤ u.x +ℤ (q.y -ℤ u.y *ℤ pos q.n) *ℤ v.x);
          in_y = one_times (q.y *ℤ (v.y -ℤ u.y)) ∙ sum_y q.y u.y v.y (pos q.n);
          in_n = one_times (pos n) ∙ ne ∙ sum_n q.y u.y v.y (pos q.n);
        } in
        let zer : line_of u v z ≡ pos 0 = zero_line q.y u.x u.y v.x v.y (pos q.n) (pos n) ne in
        let s : line_of u v q *ℤ pos n ≡ line_of u v z *ℤ pos q.n +ℤ (z.x *ℤ pos q.n -ℤ q.x *ℤ pos n) *ℤ (v.y -ℤ u.y) =
        shift u.x u.y v.x v.y q.x q.y (pos q.n) z.x z.y (pos n) (sym lev) in
        let s2 : line_of u v z *ℤ pos q.n ≡ pos 0 = ap (λ (t : ℤ). t *ℤ pos q.n) zer ∙ zero-*ℤ (pos q.n) in
        let s3 : pos 0 <ℤ (line_of u v q *ℤ pos n) = p*p (line_of u v q) (pos n) pr (omega (arith, sums)) in
        let s4 : pos 0 <ℤ (z.x *ℤ pos q.n -ℤ q.x *ℤ pos n) = p/p (z.x *ℤ pos q.n -ℤ q.x *ℤ pos n) (v.y -ℤ u.y) (omega (arith, sums)) (omega (arith, sums)) in
        record {
          lo = u;
          hi = v;
          rises = d;
          low = lo;
          high = hi;
          z = z;
          level = lev;
          right = omega (arith, sums);
          zero = zer;
          on = on z (along-on_edge u v z alo);
          straight = λ p h. on-line (edge u v) p (off p h);
          again = again;
        }
      where
        level : (y d n m : ℤ) → m ≡ d *ℤ n → (y *ℤ d) *ℤ n ≡ y *ℤ m
        level y d n m e = mul_assoc y d n ∙ ap (λ (t : ℤ). y *ℤ t) (sym e)

        sum_y : (y a b n : ℤ) → y *ℤ (b -ℤ a) ≡ (b *ℤ n -ℤ y) *ℤ a +ℤ (y -ℤ a *ℤ n) *ℤ b
        sum_y y a b n = simp products (omega (arith, sums))

        sum_n : (y a b n : ℤ) → (b -ℤ a) *ℤ n ≡ (b *ℤ n -ℤ y) *ℤ pos 1 +ℤ (y -ℤ a *ℤ n) *ℤ pos 1
        sum_n y a b n =
            let g : (b *ℤ n -ℤ y) *ℤ pos 1 ≡ b *ℤ n -ℤ y = times_one (b *ℤ n -ℤ y) in
            let h : (y -ℤ a *ℤ n) *ℤ pos 1 ≡ y -ℤ a *ℤ n = times_one (y -ℤ a *ℤ n) in
            let k : (b -ℤ a) *ℤ n ≡ b *ℤ n -ℤ a *ℤ n = simp products in
            omega (arith, sums)

        zero_at : (y ux uy vx vy n : ℤ) → line_at ux uy vx vy ((vy *ℤ n -ℤ y) *ℤ ux +ℤ (y -ℤ uy *ℤ n) *ℤ vx) (y *ℤ (vy -ℤ uy)) ((vy -ℤ uy) *ℤ n) ≡ pos 0
        zero_at y ux uy vx vy n = simp products (omega (arith, sums))

        zero_line : (y ux uy vx vy n m : ℤ) → m ≡ (vy -ℤ uy) *ℤ n → line_at ux uy vx vy ((vy *ℤ n -ℤ y) *ℤ ux +ℤ (y -ℤ uy *ℤ n) *ℤ vx) (y *ℤ (vy -ℤ uy)) m ≡ pos 0
        zero_line y ux uy vx vy n m e = rw e (zero_at y ux uy vx vy n)

pub pass_of : (e : Edge) (q : Point) → crosses_ray e q ≡ true → Pass e q
pass_of e q c = elim (either_true (cross_up e.from e.to q) (cross_up e.to e.from q) c) [
  | inl l ↦ pass_up e e.from e.to q l (λ p h. h) (λ p h. h) (λ p h. or_left (cross_up e.from e.to p) (cross_up e.to e.from p) h)
  | inr r ↦ pass_up e e.to e.from q r (λ p h. on_edge-turned e.to e.from p ∙ h) (λ p h. on_edge-turned e.from e.to p ∙ h) (λ p h. or_right (cross_up e.from e.to p) (cross_up e.to e.from p) h)
]

level_trans : (p q z : Point) → Level p q → Level q z → Level p z
level_trans p q z h k =
    let a : (p.y *ℤ pos q.n) *ℤ pos z.n ≡ (q.y *ℤ pos p.n) *ℤ pos z.n = ap (λ (v : ℤ). v *ℤ pos z.n) h in
    let b : (q.y *ℤ pos z.n) *ℤ pos p.n ≡ (z.y *ℤ pos q.n) *ℤ pos p.n = ap (λ (v : ℤ). v *ℤ pos p.n) k in
    eq-cancel_right (p.y *ℤ pos z.n) (z.y *ℤ pos p.n) (pos q.n) (over_n q)
    (swap_right p.y (pos z.n) (pos q.n) ∙ a ∙ swap_right q.y (pos p.n) (pos z.n) ∙ b ∙ swap_right z.y (pos q.n) (pos p.n))

-- left of the pass, at its height, the ray is crossed
crosses-left : (e : Edge) (q p : Point) (a : Pass e q) → Level p q → LeftOf p a.z → crosses_ray e p ≡ true
crosses-left e q p a l h =
    let lv : Level p a.z = level_trans p q a.z l (sym a.level) in
    let s : line_of a.lo a.hi p *ℤ pos a.z.n ≡ line_of a.lo a.hi a.z *ℤ pos p.n +ℤ (a.z.x *ℤ pos p.n -ℤ p.x *ℤ pos a.z.n) *ℤ (a.hi.y -ℤ a.lo.y) =
    shift a.lo.x a.lo.y a.hi.x a.hi.y p.x p.y (pos p.n) a.z.x a.z.y (pos a.z.n) lv in
    let s2 : line_of a.lo a.hi a.z *ℤ pos p.n ≡ pos 0 = ap (λ (t : ℤ). t *ℤ pos p.n) a.zero ∙ zero-*ℤ (pos p.n) in
    let s3 : pos 0 <ℤ ((a.z.x *ℤ pos p.n -ℤ p.x *ℤ pos a.z.n) *ℤ (a.hi.y -ℤ a.lo.y)) = p*p (a.z.x *ℤ pos p.n -ℤ p.x *ℤ pos a.z.n) (a.hi.y -ℤ a.lo.y) (omega (arith, sums)) a.rises in
    let s4 : pos 0 <ℤ line_of a.lo a.hi p = p/p (line_of a.lo a.hi p) (pos a.z.n) (omega (arith, sums)) (omega (arith, sums)) in
    a.again p (both _ _ (both _ _ (above-level a.hi p q l ∙ a.high) (true_not _ (above-level a.lo p q l ∙ a.low))) (true-pass a.lo a.hi p s4))

-- a crossing of the ray of a point to the right is one of the ray of q
crosses-back : (e : Edge) (q p : Point) → Level p q → LeftOf q p → crosses_ray e p ≡ true → crosses_ray e q ≡ true
crosses-back e q p l h c = elim (either_true (cross_up e.from e.to p) (cross_up e.to e.from p) c) [
  | inl m ↦ or_left (cross_up e.from e.to q) (cross_up e.to e.from q) (back e.from e.to m)
  | inr m ↦ or_right (cross_up e.from e.to q) (cross_up e.to e.from q) (back e.to e.from m)
]
  where
    back : (u v : Spot) → cross_up u v p ≡ true → cross_up u v q ≡ true
    back u v m =
        let hi : is_above v p ≡ true = left_true (is_above v p) _ (left_true (is_above v p && not (is_above u p)) (passes_right u v p) m) in
        let lo : is_above u p ≡ false = not_true _ (right_true (is_above v p) (not (is_above u p)) (left_true (is_above v p && not (is_above u p)) (passes_right u v p) m)) in
        let pr : pos 0 <ℤ line_of u v p = pass-true u v p (right_true (is_above v p && not (is_above u p)) (passes_right u v p) m) in
        let h1 : p.y <ℤ (v.y *ℤ pos p.n) = lt-from_true p.y (v.y *ℤ pos p.n) hi in
        let h2 : (u.y *ℤ pos p.n) ≤ℤ p.y = le-from_false p.y (u.y *ℤ pos p.n) lo in
        let r : u.y <ℤ v.y = lt-cancel_right u.y v.y (pos p.n) (over_n p) (omega (arith, sums)) in
        let s : line_of u v q *ℤ pos p.n ≡ line_of u v p *ℤ pos q.n +ℤ (p.x *ℤ pos q.n -ℤ q.x *ℤ pos p.n) *ℤ (v.y -ℤ u.y) =
        shift u.x u.y v.x v.y q.x q.y (pos q.n) p.x p.y (pos p.n) (sym l) in
        let s2 : pos 0 <ℤ (line_of u v p *ℤ pos q.n) = p*p (line_of u v p) (pos q.n) pr (over_n q) in
        let s3 : pos 0 <ℤ ((p.x *ℤ pos q.n -ℤ q.x *ℤ pos p.n) *ℤ (v.y -ℤ u.y)) = p*p (p.x *ℤ pos q.n -ℤ q.x *ℤ pos p.n) (v.y -ℤ u.y) (omega (arith, sums)) (omega (arith, sums)) in
        let pn : pos 0 <ℤ pos p.n = over_n p in
        let s4 : pos 0 <ℤ line_of u v q = p/p (line_of u v q) (pos p.n) (omega (arith, sums)) (omega (arith, sums)) in
        both _ _ (both _ _ (sym (above-level v p q l) ∙ hi) (true_not _ (sym (above-level u p q l) ∙ lo))) (true-pass u v q s4)

-- ---- the nearest crossing
-- z isn't right of where an edge of the list passes the height of q right of q
abbrev pub Before : Point → Point → List Edge → Type 0
Before z q [] = Unit {0}
Before z q (e ∷ es) = ((a : Pass e q) → NotRightOf z a.z) × Before z q es

order_trans : (p q r : Point) → NotRightOf p q → NotRightOf q r → NotRightOf p r
order_trans p q r h k =
    let a : ((p.x *ℤ pos q.n) *ℤ pos r.n) ≤ℤ ((q.x *ℤ pos p.n) *ℤ pos r.n) = nonneg_diff-mul (p.x *ℤ pos q.n) (q.x *ℤ pos p.n) (pos r.n) (omega (arith, sums)) h in
    let b : ((q.x *ℤ pos r.n) *ℤ pos p.n) ≤ℤ ((r.x *ℤ pos q.n) *ℤ pos p.n) = nonneg_diff-mul (q.x *ℤ pos r.n) (r.x *ℤ pos q.n) (pos p.n) (omega (arith, sums)) k in
    let c : (p.x *ℤ pos q.n) *ℤ pos r.n ≡ (p.x *ℤ pos r.n) *ℤ pos q.n = swap_right p.x (pos q.n) (pos r.n) in
    let d : (q.x *ℤ pos p.n) *ℤ pos r.n ≡ (q.x *ℤ pos r.n) *ℤ pos p.n = swap_right q.x (pos p.n) (pos r.n) in
    let e : (r.x *ℤ pos q.n) *ℤ pos p.n ≡ (r.x *ℤ pos p.n) *ℤ pos q.n = swap_right r.x (pos q.n) (pos p.n) in
    le-cancel_right (p.x *ℤ pos r.n) (r.x *ℤ pos p.n) (pos q.n) (over_n q) (omega (arith, sums))

before-back : (z w q : Point) (es : List Edge) → NotRightOf z w → Before w q es → Before z q es
before-back z w q [] h b = tt
before-back z w q (e ∷ es) h b = (λ a. order_trans z w a.z h (b.0 a), before-back z w q es h b.1)

-- the first place at the height of q, right of q, at which an edge of the list passes
pub record First (q : Point) (es : List Edge) : Type 0 where
  pub z : Point
  pub level : Level z q
  pub right : LeftOf q z
  pub on : on_any es z ≡ true
  pub before : Before z q es

pub data Nearest (q : Point) (es : List Edge) : Type 0 where
  none : parity es q ≡ false → ((z : Point) → Before z q es) → Nearest q es
  some : First q es → Nearest q es

no_pass : (e : Edge) (q z : Point) → crosses_ray e q ≡ false → (a : Pass e q) → NotRightOf z a.z
no_pass e q z f a = absurd (clash (crosses_ray e q) f (a.again q (both _ _ (both _ _ a.high (true_not _ a.low)) (true-pass a.lo a.hi q (lies e q a)))))
  where
    clash : (b : Bool) → b ≡ false → b ≡ true → ⊥
    clash true f t = cc
    clash false f t = cc

    lies : (e : Edge) (q : Point) (a : Pass e q) → pos 0 <ℤ line_of a.lo a.hi q
    lies e q a =
        let s : line_of a.lo a.hi q *ℤ pos a.z.n ≡ line_of a.lo a.hi a.z *ℤ pos q.n +ℤ (a.z.x *ℤ pos q.n -ℤ q.x *ℤ pos a.z.n) *ℤ (a.hi.y -ℤ a.lo.y) =
        shift a.lo.x a.lo.y a.hi.x a.hi.y q.x q.y (pos q.n) a.z.x a.z.y (pos a.z.n) (sym a.level) in
        let s2 : line_of a.lo a.hi a.z *ℤ pos q.n ≡ pos 0 = ap (λ (t : ℤ). t *ℤ pos q.n) a.zero ∙ zero-*ℤ (pos q.n) in
        let h : (q.x *ℤ pos a.z.n) <ℤ (a.z.x *ℤ pos q.n) = a.right in
        let s3 : pos 0 <ℤ ((a.z.x *ℤ pos q.n -ℤ q.x *ℤ pos a.z.n) *ℤ (a.hi.y -ℤ a.lo.y)) = p*p (a.z.x *ℤ pos q.n -ℤ q.x *ℤ pos a.z.n) (a.hi.y -ℤ a.lo.y) (omega (arith, sums)) a.rises in
        p/p (line_of a.lo a.hi q) (pos a.z.n) (omega (arith, sums)) (omega (arith, sums))

-- one place for all passes of an edge
pass_once : (e : Edge) (q : Point) (a b : Pass e q) → NotRightOf a.z b.z
pass_once e q a b =
    let lv : Level b.z a.z = level_trans b.z q a.z b.level (sym a.level) in
    let s : line_of a.lo a.hi b.z *ℤ pos a.z.n ≡ line_of a.lo a.hi a.z *ℤ pos b.z.n +ℤ (a.z.x *ℤ pos b.z.n -ℤ b.z.x *ℤ pos a.z.n) *ℤ (a.hi.y -ℤ a.lo.y) =
    shift a.lo.x a.lo.y a.hi.x a.hi.y b.z.x b.z.y (pos b.z.n) a.z.x a.z.y (pos a.z.n) lv in
    let s1 : line_of a.lo a.hi b.z *ℤ pos a.z.n ≡ pos 0 = ap (λ (t : ℤ). t *ℤ pos a.z.n) (a.straight b.z b.on) ∙ zero-*ℤ (pos a.z.n) in
    let s2 : line_of a.lo a.hi a.z *ℤ pos b.z.n ≡ pos 0 = ap (λ (t : ℤ). t *ℤ pos b.z.n) a.zero ∙ zero-*ℤ (pos b.z.n) in
    let s3 : (a.z.x *ℤ pos b.z.n -ℤ b.z.x *ℤ pos a.z.n) ≤ℤ pos 0 = w/p (a.z.x *ℤ pos b.z.n -ℤ b.z.x *ℤ pos a.z.n) (a.hi.y -ℤ a.lo.y) (omega (arith, sums)) a.rises in
    omega (arith, sums)

pub nearest : (es : List Edge) (q : Point) → Nearest q es
nearest [] q = none refl (λ z. tt)
nearest (e ∷ es) q = by_test (crosses_ray e q) refl (nearest es q)
  where
    by_test : (b : Bool) → crosses_ray e q ≡ b → Nearest q es → Nearest q (e ∷ es)
    by_test false f (none p g) = none (rw f p) (λ z. (no_pass e q z f, g z))
    by_test false f (some n) = some (record { z = n.z; level = n.level; right = n.right; on = or_right (on_edge e n.z) (on_any es n.z) n.on; before = (no_pass e q n.z f, n.before) })
    by_test true f (none p g) =
        let a : Pass e q = pass_of e q f in
        some (record { z = a.z; level = a.level; right = a.right; on = or_left (on_edge e a.z) (on_any es a.z) a.on; before = (pass_once e q a, g a.z) })
    by_test true f (some n) =
        let a : Pass e q = pass_of e q f in
        elim (cmp (a.z.x *ℤ pos n.z.n) (n.z.x *ℤ pos a.z.n)) [
          | less l ↦ some (record {
            z = a.z;
            level = a.level;
            right = a.right;
            on = or_left (on_edge e a.z) (on_any es a.z) a.on;
            before = (pass_once e q a, before-back a.z n.z q es (omega (arith, sums)) n.before);
          })
          | same l ↦ some (record {
            z = n.z;
            level = n.level;
            right = n.right;
            on = or_right (on_edge e n.z) (on_any es n.z) n.on;
            before = (λ b. order_trans n.z a.z b.z (omega (arith, sums)) (pass_once e q a b), n.before);
          })
          | more l ↦ some (record {
            z = n.z;
            level = n.level;
            right = n.right;
            on = or_right (on_edge e n.z) (on_any es n.z) n.on;
            before = (λ b. order_trans n.z a.z b.z (omega (arith, sums)) (pass_once e q a b), n.before);
          })
        ]

-- ---- a point in both areas
same_place : (p z : Point) → Level p z → NotRightOf p z → NotRightOf z p → Along z z p
same_place p z l h k = record {
  k = pos z.n;
  s = pos p.n;
  t = pos 0;
  k_over = over_n z;
  s_over = omega (arith, sums);
  t_over = omega (arith, sums);
  in_x = let e : pos 0 *ℤ z.x ≡ pos 0 = zero-*ℤ z.x in let f : pos z.n *ℤ p.x ≡ p.x *ℤ pos z.n = *ℤ_comm (pos z.n) p.x in let g : pos p.n *ℤ z.x ≡ z.x *ℤ pos p.n = *ℤ_comm (pos p.n) z.x in omega (arith, sums);
  in_y = let e : pos 0 *ℤ z.y ≡ pos 0 = zero-*ℤ z.y in let f : pos z.n *ℤ p.y ≡ p.y *ℤ pos z.n = *ℤ_comm (pos z.n) p.y in let g : pos p.n *ℤ z.y ≡ z.y *ℤ pos p.n = *ℤ_comm (pos p.n) z.y in omega (arith, sums);
  in_n = let e : pos 0 *ℤ pos z.n ≡ pos 0 = zero-*ℤ (pos z.n) in let f : pos z.n *ℤ pos p.n ≡ pos p.n *ℤ pos z.n = *ℤ_comm (pos z.n) (pos p.n) in omega (arith, sums);
}

-- before all passes and off all edges, the ray crosses what q's ray crosses
edge_kept : (e : Edge) (q z : Point) → Level z q → LeftOf q z → ((a : Pass e q) → NotRightOf z a.z) → on_edge e z ≡ false → crosses_ray e z ≡ crosses_ray e q
edge_kept e q z l h b o = same_test (λ t. crosses-back e q z l h t) (λ t. ahead (pass_of e q t))
  where
    clash : (b : Bool) → b ≡ false → b ≡ true → ⊥
    clash true f t = cc
    clash false f t = cc

    ahead : Pass e q → crosses_ray e z ≡ true
    ahead a = elim (cmp (z.x *ℤ pos a.z.n) (a.z.x *ℤ pos z.n)) [
      | less m ↦ crosses-left e q z a l m
      | same m ↦ absurd (clash (on_edge e z) o (along-on e a.z a.z z (same_place z a.z (level_trans z q a.z l (sym a.level)) (b a) (omega (arith, sums))) a.on a.on))
      | more m ↦ absurd (let n : (z.x *ℤ pos a.z.n) ≤ℤ (a.z.x *ℤ pos z.n) = b a in omega (arith, sums))
    ]

parity_kept : (es : List Edge) (q z : Point) → Level z q → LeftOf q z → Before z q es → on_any es z ≡ false → parity es z ≡ parity es q
parity_kept [] q z l h b o = refl
parity_kept (e ∷ es) q z l h b o =
    rw (edge_kept e q z l h b.0 (left_false (on_edge e z) (on_any es z) o), parity_kept es q z l h b.1 (right_false (on_edge e z) (on_any es z) o)) refl
  where
    left_false : (s t : Bool) → (s || t) ≡ false → s ≡ false
    left_false true t e = e
    left_false false t e = refl

    right_false : (s t : Bool) → (s || t) ≡ false → t ≡ false
    right_false true t e = absurd (cc)
    right_false false t e = e

holds_kept : (rs : List (List Spot)) (q z : Point) → Level z q → LeftOf q z → Before z q (edges_of rs) → parity (edges_of rs) q ≡ true → holds rs z ≡ true
holds_kept rs q z l h b p = by_test (on_any (edges_of rs) z) refl
  where
    by_test : (t : Bool) → on_any (edges_of rs) z ≡ t → holds rs z ≡ true
    by_test true e = or_left (on_any (edges_of rs) z) (parity (edges_of rs) z) e
    by_test false e = or_right (on_any (edges_of rs) z) (parity (edges_of rs) z) (parity_kept (edges_of rs) q z l h b e ∙ p)

-- an edge of one area has a point of the other
pub record Shared (rs ss : List (List Spot)) : Type 0 where
  pub z : Point
  pub on : on_any (edges_of rs) z ≡ true
  pub inside : holds ss z ≡ true

pub both_odd : (rs ss : List (List Spot)) (q : Point) → parity (edges_of rs) q ≡ true → parity (edges_of ss) q ≡ true → Shared rs ss ⊎ Shared ss rs
both_odd rs ss q p r = choose (nearest (edges_of rs) q) (nearest (edges_of ss) q)
  where
    clash : (b : Bool) → b ≡ false → b ≡ true → ⊥
    clash true f t = cc
    clash false f t = cc

    choose : Nearest q (edges_of rs) → Nearest q (edges_of ss) → Shared rs ss ⊎ Shared ss rs
    choose (none f g) n = absurd (clash (parity (edges_of rs) q) f p)
    choose (some m) (none f g) = absurd (clash (parity (edges_of ss) q) f r)
    choose (some m) (some n) = elim (cmp (m.z.x *ℤ pos n.z.n) (n.z.x *ℤ pos m.z.n)) [
      | less l ↦ inl (record { z = m.z; on = m.on; inside = holds_kept ss q m.z m.level m.right (before-back m.z n.z q (edges_of ss) (omega (arith, sums)) n.before) r })
      | same l ↦ inl (record { z = m.z; on = m.on; inside = holds_kept ss q m.z m.level m.right (before-back m.z n.z q (edges_of ss) (omega (arith, sums)) n.before) r })
      | more l ↦ inr (record { z = n.z; on = n.on; inside = holds_kept rs q n.z n.level n.right (before-back n.z m.z q (edges_of rs) (omega (arith, sums)) m.before) p })
    ]
