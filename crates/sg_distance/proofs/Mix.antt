-- Points between two points, and what linear tests say of them.
use Rattle.std.proofs.Common.{◌≡◌, arith, refl, sym, ap, ◌∙◌, true}
use mathlib.Core.Bool.{◌&&◌}
use lib.IntN.{ℤ, pos, ◌+ℤ◌, ◌-ℤ◌, ◌*ℤ◌, *ℤ_comm, zero-*ℤ, *ℤ-zero}
use lib.Signed.{◌<ℤ◌, ◌≤ℤ◌, le_z}
use Rattle.sg_algebra.proofs.Ring.{sums, products, nonneg_diff-mul, mul-nonneg, times_one}
use Rattle.sg_algebra.proofs.Edges.{between-not_after, between-swap, on_edge-turned}
use Rattle.sg_algebra.proofs.Cancelling.{le-cancel_right, eq-cancel_right}
use Rattle.sg_algebra.specs.Orders.{Cmp, cmp, less, same, more}
use Rattle.sg_algebra.proofs.Comparisons.{le-from_true, true-from_le, left_true, right_true, both, eq-from_true, true-from_eq}
use Rattle.sg_shape.specs.Plane.{Point, eq_z, between, on_edge}
use Rattle.sg_segment.specs.Sides.{point_at}
use Rattle.sg_shape.specs.declared.spots.Spot.{Spot}
use Rattle.sg_shape.specs.declared.spots.Edge.{Edge}

-- the value of the linear test A, B, C at (x, y, n)
abbrev pub lin : ℤ → ℤ → ℤ → ℤ → ℤ → ℤ → ℤ
lin A B C x y n = A *ℤ x +ℤ (B *ℤ y +ℤ C *ℤ n)

-- z lies between p and q: some multiple of it is their sum with weights that aren't negative
pub record Along (p q z : Point) : Type 0 where
  pub k : ℤ
  pub s : ℤ
  pub t : ℤ
  pub k_over : pos 0 <ℤ k
  pub s_over : pos 0 ≤ℤ s
  pub t_over : pos 0 ≤ℤ t
  pub in_x : k *ℤ z.x ≡ s *ℤ p.x +ℤ t *ℤ q.x
  pub in_y : k *ℤ z.y ≡ s *ℤ p.y +ℤ t *ℤ q.y
  pub in_n : k *ℤ pos z.n ≡ s *ℤ pos p.n +ℤ t *ℤ pos q.n

-- a linear test of z
pub lin-mix : (A B C k s t x y n px py pn qx qy qn : ℤ) →
    k *ℤ x ≡ s *ℤ px +ℤ t *ℤ qx → k *ℤ y ≡ s *ℤ py +ℤ t *ℤ qy → k *ℤ n ≡ s *ℤ pn +ℤ t *ℤ qn →
    k *ℤ lin A B C x y n ≡ s *ℤ lin A B C px py pn +ℤ t *ℤ lin A B C qx qy qn
lin-mix A B C k s t x y n px py pn qx qy qn ex ey en =
    let a : A *ℤ (k *ℤ x) ≡ A *ℤ (s *ℤ px +ℤ t *ℤ qx) = ap (λ (v : ℤ). A *ℤ v) ex in
    let b : B *ℤ (k *ℤ y) ≡ B *ℤ (s *ℤ py +ℤ t *ℤ qy) = ap (λ (v : ℤ). B *ℤ v) ey in
    let c : C *ℤ (k *ℤ n) ≡ C *ℤ (s *ℤ pn +ℤ t *ℤ qn) = ap (λ (v : ℤ). C *ℤ v) en in
    let l : k *ℤ (A *ℤ x +ℤ (B *ℤ y +ℤ C *ℤ n)) ≡ A *ℤ (k *ℤ x) +ℤ (B *ℤ (k *ℤ y) +ℤ C *ℤ (k *ℤ n)) = simp products in
    let r : s *ℤ (A *ℤ px +ℤ (B *ℤ py +ℤ C *ℤ pn)) +ℤ t *ℤ (A *ℤ qx +ℤ (B *ℤ qy +ℤ C *ℤ qn))
    ≡ A *ℤ (s *ℤ px +ℤ t *ℤ qx) +ℤ (B *ℤ (s *ℤ py +ℤ t *ℤ qy) +ℤ C *ℤ (s *ℤ pn +ℤ t *ℤ qn)) = simp products (omega (arith, sums)) in
    l ∙ cc_sum a b c ∙ sym r
  where
    cc_sum : {a b c d e f : ℤ} → a ≡ b → c ≡ d → e ≡ f → a +ℤ (c +ℤ e) ≡ b +ℤ (d +ℤ f)
    cc_sum {a} {b} {c} {d} {e} {f} g h i = rw (g, h, i) refl

-- not negative at p and q, so not negative between
pub over-mix : (k s t f g h : ℤ) → pos 0 <ℤ k → pos 0 ≤ℤ s → pos 0 ≤ℤ t → k *ℤ h ≡ s *ℤ f +ℤ t *ℤ g → pos 0 ≤ℤ f → pos 0 ≤ℤ g → pos 0 ≤ℤ h
over-mix k s t f g h ko so to e fo go =
    let a : pos 0 ≤ℤ (s *ℤ f) = mul-nonneg s f so fo in
    let b : pos 0 ≤ℤ (t *ℤ g) = mul-nonneg t g to go in
    let c : h *ℤ k ≡ k *ℤ h = *ℤ_comm h k in
    let z : pos 0 *ℤ k ≡ pos 0 = zero-*ℤ k in
    le-cancel_right (pos 0) h k ko (omega (arith, sums))

pub lin-over : (A B C : ℤ) {p q z : Point} → Along p q z → pos 0 ≤ℤ lin A B C p.x p.y (pos p.n) → pos 0 ≤ℤ lin A B C q.x q.y (pos q.n) → pos 0 ≤ℤ lin A B C z.x z.y (pos z.n)
lin-over A B C {p} {q} {z} a f g =
    over-mix a.k a.s a.t (lin A B C p.x p.y (pos p.n)) (lin A B C q.x q.y (pos q.n)) (lin A B C z.x z.y (pos z.n)) a.k_over a.s_over a.t_over
    (lin-mix A B C a.k a.s a.t z.x z.y (pos z.n) p.x p.y (pos p.n) q.x q.y (pos q.n) a.in_x a.in_y a.in_n) f g

-- ---- an edge holds what lies between two of its points
dif-mix : (a k s t x n px pn qx qn : ℤ) → k *ℤ x ≡ s *ℤ px +ℤ t *ℤ qx → k *ℤ n ≡ s *ℤ pn +ℤ t *ℤ qn →
    k *ℤ (x -ℤ a *ℤ n) ≡ s *ℤ (px -ℤ a *ℤ pn) +ℤ t *ℤ (qx -ℤ a *ℤ qn)
dif-mix a k s t x n px pn qx qn ex en =
    let c : a *ℤ (k *ℤ n) ≡ a *ℤ (s *ℤ pn +ℤ t *ℤ qn) = ap (λ (v : ℤ). a *ℤ v) en in
    let l : k *ℤ (x -ℤ a *ℤ n) ≡ k *ℤ x -ℤ a *ℤ (k *ℤ n) = simp products in
    let r : s *ℤ (px -ℤ a *ℤ pn) +ℤ t *ℤ (qx -ℤ a *ℤ qn) ≡ (s *ℤ px +ℤ t *ℤ qx) -ℤ a *ℤ (s *ℤ pn +ℤ t *ℤ qn) = simp products (omega (arith, sums)) in
    omega (arith, sums)

fid-mix : (a k s t x n px pn qx qn : ℤ) → k *ℤ x ≡ s *ℤ px +ℤ t *ℤ qx → k *ℤ n ≡ s *ℤ pn +ℤ t *ℤ qn →
    k *ℤ (a *ℤ n -ℤ x) ≡ s *ℤ (a *ℤ pn -ℤ px) +ℤ t *ℤ (a *ℤ qn -ℤ qx)
fid-mix a k s t x n px pn qx qn ex en =
    let c : a *ℤ (k *ℤ n) ≡ a *ℤ (s *ℤ pn +ℤ t *ℤ qn) = ap (λ (v : ℤ). a *ℤ v) en in
    let l : k *ℤ (a *ℤ n -ℤ x) ≡ a *ℤ (k *ℤ n) -ℤ k *ℤ x = simp products in
    let r : s *ℤ (a *ℤ pn -ℤ px) +ℤ t *ℤ (a *ℤ qn -ℤ qx) ≡ a *ℤ (s *ℤ pn +ℤ t *ℤ qn) -ℤ (s *ℤ px +ℤ t *ℤ qx) = simp products (omega (arith, sums)) in
    omega (arith, sums)

-- numbers with x between a and b times n, seen along a weighted sum
between-up : (a b k s t x n px pn qx qn : ℤ) → a ≤ℤ b → pos 0 ≤ℤ n → pos 0 ≤ℤ pn → pos 0 ≤ℤ qn → pos 0 <ℤ k → pos 0 ≤ℤ s → pos 0 ≤ℤ t →
    k *ℤ x ≡ s *ℤ px +ℤ t *ℤ qx → k *ℤ n ≡ s *ℤ pn +ℤ t *ℤ qn →
    between (a *ℤ pn) (b *ℤ pn) px ≡ true → between (a *ℤ qn) (b *ℤ qn) qx ≡ true → between (a *ℤ n) (b *ℤ n) x ≡ true
between-up a b k s t x n px pn qx qn h nn po qo ko so to ex en bp bq =
    let wp : (le_z (a *ℤ pn) px && le_z px (b *ℤ pn)) ≡ true = sym (between-not_after (a *ℤ pn) (b *ℤ pn) px (nonneg_diff-mul a b pn po h)) ∙ bp in
    let wq : (le_z (a *ℤ qn) qx && le_z qx (b *ℤ qn)) ≡ true = sym (between-not_after (a *ℤ qn) (b *ℤ qn) qx (nonneg_diff-mul a b qn qo h)) ∙ bq in
    let p1 : (a *ℤ pn) ≤ℤ px = le-from_true (a *ℤ pn) px (left_true _ _ wp) in
    let p2 : px ≤ℤ (b *ℤ pn) = le-from_true px (b *ℤ pn) (right_true _ _ wp) in
    let q1 : (a *ℤ qn) ≤ℤ qx = le-from_true (a *ℤ qn) qx (left_true _ _ wq) in
    let q2 : qx ≤ℤ (b *ℤ qn) = le-from_true qx (b *ℤ qn) (right_true _ _ wq) in
    let z1 : pos 0 ≤ℤ (x -ℤ a *ℤ n) =
    over-mix k s t (px -ℤ a *ℤ pn) (qx -ℤ a *ℤ qn) (x -ℤ a *ℤ n) ko so to (dif-mix a k s t x n px pn qx qn ex en) (omega (arith, sums)) (omega (arith, sums)) in
    let z2 : pos 0 ≤ℤ (b *ℤ n -ℤ x) =
    over-mix k s t (b *ℤ pn -ℤ px) (b *ℤ qn -ℤ qx) (b *ℤ n -ℤ x) ko so to (fid-mix b k s t x n px pn qx qn ex en) (omega (arith, sums)) (omega (arith, sums)) in
    between-not_after (a *ℤ n) (b *ℤ n) x (nonneg_diff-mul a b n nn h)
    ∙ both _ _ (true-from_le (a *ℤ n) x (omega (arith, sums))) (true-from_le x (b *ℤ n) (omega (arith, sums)))

between-mix : (a b k s t x n px pn qx qn : ℤ) → pos 0 ≤ℤ n → pos 0 ≤ℤ pn → pos 0 ≤ℤ qn → pos 0 <ℤ k → pos 0 ≤ℤ s → pos 0 ≤ℤ t →
    k *ℤ x ≡ s *ℤ px +ℤ t *ℤ qx → k *ℤ n ≡ s *ℤ pn +ℤ t *ℤ qn →
    between (a *ℤ pn) (b *ℤ pn) px ≡ true → between (a *ℤ qn) (b *ℤ qn) qx ≡ true → between (a *ℤ n) (b *ℤ n) x ≡ true
between-mix a b k s t x n px pn qx qn nn po qo ko so to ex en bp bq = by_order (cmp a b)
  where
    straight : a ≤ℤ b → between (a *ℤ n) (b *ℤ n) x ≡ true
    straight h = between-up a b k s t x n px pn qx qn h nn po qo ko so to ex en bp bq

    by_order : Cmp a b → between (a *ℤ n) (b *ℤ n) x ≡ true
    by_order (less h) = straight (omega (arith, sums))
    by_order (same h) = straight (omega (arith, sums))
    by_order (more h) =
        between-swap (a *ℤ n) (b *ℤ n) x
        ∙ between-up b a k s t x n px pn qx qn (omega (arith, sums)) nn po qo ko so to ex en
        (between-swap (b *ℤ pn) (a *ℤ pn) px ∙ bp) (between-swap (b *ℤ qn) (a *ℤ qn) qx ∙ bq)

-- where a point lies against the line from u to v: above 0 on its left
abbrev pub line_at : ℤ → ℤ → ℤ → ℤ → ℤ → ℤ → ℤ → ℤ
line_at ux uy vx vy x y n = (y -ℤ uy *ℤ n) *ℤ (vx -ℤ ux) -ℤ (x -ℤ ux *ℤ n) *ℤ (vy -ℤ uy)

pub line-mix : (ux uy vx vy k s t x y n px py pn qx qy qn : ℤ) →
    k *ℤ x ≡ s *ℤ px +ℤ t *ℤ qx → k *ℤ y ≡ s *ℤ py +ℤ t *ℤ qy → k *ℤ n ≡ s *ℤ pn +ℤ t *ℤ qn →
    k *ℤ line_at ux uy vx vy x y n ≡ s *ℤ line_at ux uy vx vy px py pn +ℤ t *ℤ line_at ux uy vx vy qx qy qn
line-mix ux uy vx vy k s t x y n px py pn qx qy qn ex ey en =
    let a : k *ℤ (y -ℤ uy *ℤ n) ≡ s *ℤ (py -ℤ uy *ℤ pn) +ℤ t *ℤ (qy -ℤ uy *ℤ qn) = dif-mix uy k s t y n py pn qy qn ey en in
    let b : k *ℤ (x -ℤ ux *ℤ n) ≡ s *ℤ (px -ℤ ux *ℤ pn) +ℤ t *ℤ (qx -ℤ ux *ℤ qn) = dif-mix ux k s t x n px pn qx qn ex en in
    parts k s t (y -ℤ uy *ℤ n) (py -ℤ uy *ℤ pn) (qy -ℤ uy *ℤ qn) (x -ℤ ux *ℤ n) (px -ℤ ux *ℤ pn) (qx -ℤ ux *ℤ qn) (vx -ℤ ux) (vy -ℤ uy) a b
  where
    parts : (k s t g gp gq h hp hq c d : ℤ) → k *ℤ g ≡ s *ℤ gp +ℤ t *ℤ gq → k *ℤ h ≡ s *ℤ hp +ℤ t *ℤ hq →
        k *ℤ (g *ℤ c -ℤ h *ℤ d) ≡ s *ℤ (gp *ℤ c -ℤ hp *ℤ d) +ℤ t *ℤ (gq *ℤ c -ℤ hq *ℤ d)
    parts k s t g gp gq h hp hq c d a b =
        let a2 : (k *ℤ g) *ℤ c ≡ (s *ℤ gp +ℤ t *ℤ gq) *ℤ c = ap (λ (v : ℤ). v *ℤ c) a in
        let b2 : (k *ℤ h) *ℤ d ≡ (s *ℤ hp +ℤ t *ℤ hq) *ℤ d = ap (λ (v : ℤ). v *ℤ d) b in
        let l : k *ℤ (g *ℤ c -ℤ h *ℤ d) ≡ (k *ℤ g) *ℤ c -ℤ (k *ℤ h) *ℤ d = simp products in
        let r : s *ℤ (gp *ℤ c -ℤ hp *ℤ d) +ℤ t *ℤ (gq *ℤ c -ℤ hq *ℤ d) ≡ (s *ℤ gp +ℤ t *ℤ gq) *ℤ c -ℤ (s *ℤ hp +ℤ t *ℤ hq) *ℤ d = simp products (omega (arith, sums)) in
        omega (arith, sums)

zero-mix : (k s t f g h : ℤ) → pos 0 <ℤ k → k *ℤ h ≡ s *ℤ f +ℤ t *ℤ g → f ≡ pos 0 → g ≡ pos 0 → h ≡ pos 0
zero-mix k s t f g h ko e fz gz =
    let a : s *ℤ f ≡ pos 0 = ap (λ (v : ℤ). s *ℤ v) fz ∙ *ℤ-zero s in
    let b : t *ℤ g ≡ pos 0 = ap (λ (v : ℤ). t *ℤ v) gz ∙ *ℤ-zero t in
    let c : h *ℤ k ≡ k *ℤ h = *ℤ_comm h k in
    let z : pos 0 *ℤ k ≡ pos 0 = zero-*ℤ k in
    eq-cancel_right h (pos 0) k ko (omega (arith, sums))

-- the three parts of the test
pub on-line : (e : Edge) (p : Point) → on_edge e p ≡ true → line_at e.from.x e.from.y e.to.x e.to.y p.x p.y (pos p.n) ≡ pos 0
on-line e p h =
    let q : (p.x -ℤ e.from.x *ℤ pos p.n) *ℤ (e.to.y -ℤ e.from.y) ≡ (p.y -ℤ e.from.y *ℤ pos p.n) *ℤ (e.to.x -ℤ e.from.x) = eq-from_true _ _ (left_true _ _ h) in
    omega (arith, sums)

pub on_from : (e : Edge) (p : Point) → line_at e.from.x e.from.y e.to.x e.to.y p.x p.y (pos p.n) ≡ pos 0 →
    between (e.from.x *ℤ pos p.n) (e.to.x *ℤ pos p.n) p.x ≡ true → between (e.from.y *ℤ pos p.n) (e.to.y *ℤ pos p.n) p.y ≡ true → on_edge e p ≡ true
on_from e p h bx by =
    let q : (p.x -ℤ e.from.x *ℤ pos p.n) *ℤ (e.to.y -ℤ e.from.y) ≡ (p.y -ℤ e.from.y *ℤ pos p.n) *ℤ (e.to.x -ℤ e.from.x) = omega (arith, sums) in
    both (eq_z ((p.x -ℤ e.from.x *ℤ pos p.n) *ℤ (e.to.y -ℤ e.from.y)) ((p.y -ℤ e.from.y *ℤ pos p.n) *ℤ (e.to.x -ℤ e.from.x)))
    (between (e.from.x *ℤ pos p.n) (e.to.x *ℤ pos p.n) p.x && between (e.from.y *ℤ pos p.n) (e.to.y *ℤ pos p.n) p.y)
    (true-from_eq ((p.x -ℤ e.from.x *ℤ pos p.n) *ℤ (e.to.y -ℤ e.from.y)) ((p.y -ℤ e.from.y *ℤ pos p.n) *ℤ (e.to.x -ℤ e.from.x)) q)
    (both (between (e.from.x *ℤ pos p.n) (e.to.x *ℤ pos p.n) p.x) (between (e.from.y *ℤ pos p.n) (e.to.y *ℤ pos p.n) p.y) bx by)

pub along-on : (e : Edge) (p q z : Point) → Along p q z → on_edge e p ≡ true → on_edge e q ≡ true → on_edge e z ≡ true
along-on e p q z a hp hq =
    let zero_z : line_at e.from.x e.from.y e.to.x e.to.y z.x z.y (pos z.n) ≡ pos 0 =
    zero-mix a.k a.s a.t (line_at e.from.x e.from.y e.to.x e.to.y p.x p.y (pos p.n)) (line_at e.from.x e.from.y e.to.x e.to.y q.x q.y (pos q.n)) (line_at e.from.x e.from.y e.to.x e.to.y z.x z.y (pos z.n)) a.k_over
    (line-mix e.from.x e.from.y e.to.x e.to.y a.k a.s a.t z.x z.y (pos z.n) p.x p.y (pos p.n) q.x q.y (pos q.n) a.in_x a.in_y a.in_n)
    (on-line e p hp) (on-line e q hq) in
    on_from e z zero_z
    (between-mix e.from.x e.to.x a.k a.s a.t z.x (pos z.n) p.x (pos p.n) q.x (pos q.n) (omega (arith, sums)) (omega (arith, sums)) (omega (arith, sums)) a.k_over a.s_over a.t_over a.in_x a.in_n
    (left_true _ _ (right_true _ _ hp)) (left_true _ _ (right_true _ _ hq)))
    (between-mix e.from.y e.to.y a.k a.s a.t z.y (pos z.n) p.y (pos p.n) q.y (pos q.n) (omega (arith, sums)) (omega (arith, sums)) (omega (arith, sums)) a.k_over a.s_over a.t_over a.in_y a.in_n
    (right_true _ _ (right_true _ _ hp)) (right_true _ _ (right_true _ _ hq)))

-- ---- the ends of an edge
between-left : (a b : ℤ) → between a b a ≡ true
between-left a b = by_order (cmp a b)
  where
    by_order : Cmp a b → between a b a ≡ true
    by_order (less h) = between-not_after a b a (omega (arith, sums)) ∙ both (le_z a a) (le_z a b) (true-from_le a a (omega (arith, sums))) (true-from_le a b (omega (arith, sums)))
    by_order (same h) = between-not_after a b a (omega (arith, sums)) ∙ both (le_z a a) (le_z a b) (true-from_le a a (omega (arith, sums))) (true-from_le a b (omega (arith, sums)))
    by_order (more h) = between-swap a b a ∙ between-not_after b a a (omega (arith, sums)) ∙ both (le_z b a) (le_z a a) (true-from_le b a (omega (arith, sums))) (true-from_le a a (omega (arith, sums)))

pub one_times : (a : ℤ) → pos 1 *ℤ a ≡ a
one_times a = *ℤ_comm (pos 1) a ∙ times_one a

pub on-from : (u v : Spot) → on_edge (record { from = u; to = v }) (point_at u) ≡ true
on-from u v =
    let ex : u.x *ℤ pos 1 ≡ u.x = times_one u.x in
    let ey : u.y *ℤ pos 1 ≡ u.y = times_one u.y in
    let dx : u.x -ℤ u.x *ℤ pos 1 ≡ pos 0 = omega (arith, sums) in
    let dy : u.y -ℤ u.y *ℤ pos 1 ≡ pos 0 = omega (arith, sums) in
    let a : (u.y -ℤ u.y *ℤ pos 1) *ℤ (v.x -ℤ u.x) ≡ pos 0 = rw (dy, zero-*ℤ) refl in
    let b : (u.x -ℤ u.x *ℤ pos 1) *ℤ (v.y -ℤ u.y) ≡ pos 0 = rw (dx, zero-*ℤ) refl in
    on_from (record { from = u; to = v }) (point_at u) (omega (arith, sums))
    (rw (times_one u.x, times_one v.x) (between-left u.x v.x))
    (rw (times_one u.y, times_one v.y) (between-left u.y v.y))

pub on-to : (u v : Spot) → on_edge (record { from = u; to = v }) (point_at v) ≡ true
on-to u v = on_edge-turned v u (point_at v) ∙ on-from v u

pub along-on_edge : (u v : Spot) (z : Point) → Along (point_at u) (point_at v) z → on_edge (record { from = u; to = v }) z ≡ true
along-on_edge u v z a = along-on (record { from = u; to = v }) (point_at u) (point_at v) z a (on-from u v) (on-to u v)
