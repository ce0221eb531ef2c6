-- A box as a polygon, a line or a point has each point of the closed box.
use Rattle.std.proofs.Common.{◌≡◌, arith, refl, sym, ap, ◌∙◌, subst, Bool, true, false, not, List, [], ◌∷◌}
use mathlib.Core.Bool.{◌&&◌, ◌||◌}
use lib.IntN.{ℤ, pos, ◌-ℤ◌, ◌*ℤ◌, zero-*ℤ, *ℤ-zero}
use lib.Signed.{◌<ℤ◌, ◌≤ℤ◌, le_z}
use Rattle.sg_algebra.proofs.Ring.{sums}
use Rattle.sg_algebra.specs.Orders.{Cmp, cmp, less, same, more}
use Rattle.sg_algebra.proofs.Comparisons.{lt-from_true, true-from_le, true-from_lt, both, or_left, or_right, is_false}
use Rattle.sg_distance.proofs.Signs.{p*p, m*p}
use Rattle.sg_distance.proofs.Mix.{line_at, on_from}
use Rattle.sg_algebra.proofs.Edges.{between-swap}
use Rattle.sg_distance.proofs.Reach.{holds}
use Rattle.sg_shape.specs.Plane.{Point, between, on_edge, is_above, passes_right, edges_of}
use Rattle.sg_segment.specs.Statuses.{xor, parity}
use Rattle.sg_distance.specs.Figure.{on_any}
use Rattle.sg_shape.specs.declared.spots.Spot.{Spot}
use Rattle.sg_shape.specs.declared.spots.Edge.{Edge}

pub between_low : (a b v n : ℤ) → (a *ℤ n) ≤ℤ v → v ≤ℤ (b *ℤ n) → between (a *ℤ n) (b *ℤ n) v ≡ true
between_low a b v n h k = or_left (le_z (a *ℤ n) v && le_z v (b *ℤ n)) _ (both (le_z (a *ℤ n) v) (le_z v (b *ℤ n)) (true-from_le (a *ℤ n) v h) (true-from_le v (b *ℤ n) k))

-- a flat edge, in either direction
pub flat_on : (u v : Spot) (p : Point) → u.y ≡ v.y → p.y ≡ u.y *ℤ pos p.n → between (u.x *ℤ pos p.n) (v.x *ℤ pos p.n) p.x ≡ true → on_edge (record { from = u; to = v }) p ≡ true
flat_on u v p e h b =
    on_from (record { from = u; to = v }) p (zero u.x u.y v.x v.y p.x p.y (pos p.n) e h) b
    (between_low u.y v.y p.y (pos p.n) (omega (arith, sums)) (subst (λ (t : ℤ). p.y ≤ℤ (t *ℤ pos p.n)) e (omega (arith, sums))))
  where
    zero : (ux uy vx vy x y n : ℤ) → uy ≡ vy → y ≡ uy *ℤ n → line_at ux uy vx vy x y n ≡ pos 0
    zero ux uy vx vy x y n e h =
        let a : y -ℤ uy *ℤ n ≡ pos 0 = omega (arith, sums) in
        let b : vy -ℤ uy ≡ pos 0 = omega (arith, sums) in
        rw (a, b, zero-*ℤ, *ℤ-zero) refl

pub upright_on : (u v : Spot) (p : Point) → u.x ≡ v.x → p.x ≡ u.x *ℤ pos p.n → between (u.y *ℤ pos p.n) (v.y *ℤ pos p.n) p.y ≡ true → on_edge (record { from = u; to = v }) p ≡ true
upright_on u v p e h b =
    on_from (record { from = u; to = v }) p (zero u.x u.y v.x v.y p.x p.y (pos p.n) e h)
    (between_low u.x v.x p.x (pos p.n) (omega (arith, sums)) (subst (λ (t : ℤ). p.x ≤ℤ (t *ℤ pos p.n)) e (omega (arith, sums)))) b
  where
    zero : (ux uy vx vy x y n : ℤ) → ux ≡ vx → x ≡ ux *ℤ n → line_at ux uy vx vy x y n ≡ pos 0
    zero ux uy vx vy x y n e h =
        let a : x -ℤ ux *ℤ n ≡ pos 0 = omega (arith, sums) in
        let b : vx -ℤ ux ≡ pos 0 = omega (arith, sums) in
        rw (a, b, zero-*ℤ, *ℤ-zero) refl

-- the corners of a box with both sides above 0
pub record Corners : Type 0 where
  pub ll : Spot
  pub lr : Spot
  pub ur : Spot
  pub ul : Spot
  pub bottom : ll.y ≡ lr.y
  pub right : lr.x ≡ ur.x
  pub top : ur.y ≡ ul.y
  pub left : ul.x ≡ ll.x
  pub tall : ll.y <ℤ ul.y

abbrev pub ring_of : Corners → List (List Spot)
ring_of c = (c.ll ∷ c.lr ∷ c.ur ∷ c.ul ∷ c.ll ∷ []) ∷ []

pub boxed : (c : Corners) (p : Point) → (c.ll.x *ℤ pos p.n) ≤ℤ p.x → p.x ≤ℤ (c.lr.x *ℤ pos p.n) → (c.ll.y *ℤ pos p.n) ≤ℤ p.y → p.y ≤ℤ (c.ul.y *ℤ pos p.n) → holds (ring_of c) p ≡ true
boxed c p x0 x1 y0 y1 = by_height (cmp (c.ll.y *ℤ pos p.n) p.y) (cmp p.y (c.ul.y *ℤ pos p.n)) (cmp (c.ll.x *ℤ pos p.n) p.x) (cmp p.x (c.lr.x *ℤ pos p.n))
  where
    n : ℤ
    n = pos p.n

    e1 : Edge
    e1 = record { from = c.ll; to = c.lr }

    e2 : Edge
    e2 = record { from = c.lr; to = c.ur }

    e3 : Edge
    e3 = record { from = c.ur; to = c.ul }

    e4 : Edge
    e4 = record { from = c.ul; to = c.ll }

    scaled : {a b : ℤ} → a ≡ b → a *ℤ pos p.n ≡ b *ℤ pos p.n
    scaled e = ap (λ (t : ℤ). t *ℤ pos p.n) e

    bottom_on : c.ll.y *ℤ pos p.n ≡ p.y → holds (ring_of c) p ≡ true
    bottom_on h = or_left (on_any (edges_of (ring_of c)) p) (parity (edges_of (ring_of c)) p)
        (or_left (on_edge e1 p) _ (flat_on c.ll c.lr p c.bottom (sym h) (between_low c.ll.x c.lr.x p.x (pos p.n) x0 x1)))

    right_on : p.x ≡ c.lr.x *ℤ pos p.n → holds (ring_of c) p ≡ true
    right_on h =
        let a : c.ll.y *ℤ pos p.n ≡ c.lr.y *ℤ pos p.n = scaled c.bottom in
        let b : c.ur.y *ℤ pos p.n ≡ c.ul.y *ℤ pos p.n = scaled c.top in
        or_left (on_any (edges_of (ring_of c)) p) (parity (edges_of (ring_of c)) p)
        (or_right (on_edge e1 p) _ (or_left (on_edge e2 p) _ (upright_on c.lr c.ur p c.right h (between_low c.lr.y c.ur.y p.y (pos p.n) (omega (arith, sums)) (omega (arith, sums))))))

    top_on : p.y ≡ c.ul.y *ℤ pos p.n → holds (ring_of c) p ≡ true
    top_on h =
        let a : c.lr.x *ℤ pos p.n ≡ c.ur.x *ℤ pos p.n = scaled c.right in
        let b : c.ul.x *ℤ pos p.n ≡ c.ll.x *ℤ pos p.n = scaled c.left in
        let d : c.ur.y *ℤ pos p.n ≡ c.ul.y *ℤ pos p.n = scaled c.top in
        or_left (on_any (edges_of (ring_of c)) p) (parity (edges_of (ring_of c)) p)
        (or_right (on_edge e1 p) _ (or_right (on_edge e2 p) _ (or_left (on_edge e3 p) _ (flat_on c.ur c.ul p c.top (h ∙ sym d)
        (between-swap (c.ur.x *ℤ pos p.n) (c.ul.x *ℤ pos p.n) p.x ∙ between_low c.ul.x c.ur.x p.x (pos p.n) (omega (arith, sums)) (omega (arith, sums)))))))

    left_on : c.ll.x *ℤ pos p.n ≡ p.x → holds (ring_of c) p ≡ true
    left_on h =
        let b : c.ul.x *ℤ pos p.n ≡ c.ll.x *ℤ pos p.n = scaled c.left in
        or_left (on_any (edges_of (ring_of c)) p) (parity (edges_of (ring_of c)) p)
        (or_right (on_edge e1 p) _ (or_right (on_edge e2 p) _ (or_right (on_edge e3 p) _ (or_left (on_edge e4 p) false (upright_on c.ul c.ll p c.left (sym h ∙ sym b)
        (between-swap (c.ul.y *ℤ pos p.n) (c.ll.y *ℤ pos p.n) p.y ∙ between_low c.ll.y c.ul.y p.y (pos p.n) y0 y1))))))

    inside : (c.ll.y *ℤ pos p.n) <ℤ p.y → p.y <ℤ (c.ul.y *ℤ pos p.n) → (c.ll.x *ℤ pos p.n) <ℤ p.x → p.x <ℤ (c.lr.x *ℤ pos p.n) → holds (ring_of c) p ≡ true
    inside a b d e =
        or_right (on_any (edges_of (ring_of c)) p) (parity (edges_of (ring_of c)) p)
        (counted (is_above c.ll p) (is_above c.lr p) (is_above c.ur p) (is_above c.ul p) (passes_right c.ll c.lr p) (passes_right c.lr c.ll p) (passes_right c.lr c.ur p) (passes_right c.ur c.lr p) (passes_right c.ur c.ul p) (passes_right c.ul c.ur p) (passes_right c.ul c.ll p) (passes_right c.ll c.ul p)
        (not_above c.ll (omega (arith, sums))) (not_above c.lr (let t : c.ll.y *ℤ pos p.n ≡ c.lr.y *ℤ pos p.n = scaled c.bottom in omega (arith, sums)))
        (true-from_lt p.y (c.ur.y *ℤ pos p.n) (let t : c.ur.y *ℤ pos p.n ≡ c.ul.y *ℤ pos p.n = scaled c.top in omega (arith, sums))) (true-from_lt p.y (c.ul.y *ℤ pos p.n) b)
        right_passes left_fails)
      where
        not_above : (s : Spot) → (s.y *ℤ pos p.n) ≤ℤ p.y → is_above s p ≡ false
        not_above s h = is_false (is_above s p) (λ t. let k : p.y <ℤ (s.y *ℤ pos p.n) = lt-from_true p.y (s.y *ℤ pos p.n) t in omega (arith, sums))

        right_passes : passes_right c.lr c.ur p ≡ true
        right_passes =
            let z : c.ur.x -ℤ c.lr.x ≡ pos 0 = let t : c.lr.x ≡ c.ur.x = c.right in omega (arith, sums) in
            let f : (p.y -ℤ c.lr.y *ℤ pos p.n) *ℤ (c.ur.x -ℤ c.lr.x) ≡ pos 0 = ap (λ (t : ℤ). (p.y -ℤ c.lr.y *ℤ pos p.n) *ℤ t) z ∙ *ℤ-zero (p.y -ℤ c.lr.y *ℤ pos p.n) in
            let g : ((p.x -ℤ c.lr.x *ℤ pos p.n) *ℤ (c.ur.y -ℤ c.lr.y)) <ℤ pos 0 = m*p (p.x -ℤ c.lr.x *ℤ pos p.n) (c.ur.y -ℤ c.lr.y) (omega (arith, sums))
            (let t1 : c.ll.y ≡ c.lr.y = c.bottom in let t2 : c.ur.y ≡ c.ul.y = c.top in let t3 : c.ll.y <ℤ c.ul.y = c.tall in omega (arith, sums)) in
            true-from_lt ((p.x -ℤ c.lr.x *ℤ pos p.n) *ℤ (c.ur.y -ℤ c.lr.y)) ((p.y -ℤ c.lr.y *ℤ pos p.n) *ℤ (c.ur.x -ℤ c.lr.x)) (omega (arith, sums))

        left_fails : passes_right c.ll c.ul p ≡ false
        left_fails =
            let z : c.ul.x -ℤ c.ll.x ≡ pos 0 = let t : c.ul.x ≡ c.ll.x = c.left in omega (arith, sums) in
            let f : (p.y -ℤ c.ll.y *ℤ pos p.n) *ℤ (c.ul.x -ℤ c.ll.x) ≡ pos 0 = ap (λ (t : ℤ). (p.y -ℤ c.ll.y *ℤ pos p.n) *ℤ t) z ∙ *ℤ-zero (p.y -ℤ c.ll.y *ℤ pos p.n) in
            let g : pos 0 <ℤ ((p.x -ℤ c.ll.x *ℤ pos p.n) *ℤ (c.ul.y -ℤ c.ll.y)) = p*p (p.x -ℤ c.ll.x *ℤ pos p.n) (c.ul.y -ℤ c.ll.y) (omega (arith, sums)) (let t3 : c.ll.y <ℤ c.ul.y = c.tall in omega (arith, sums)) in
            is_false (passes_right c.ll c.ul p) (λ t.
            let k : ((p.x -ℤ c.ll.x *ℤ pos p.n) *ℤ (c.ul.y -ℤ c.ll.y)) <ℤ ((p.y -ℤ c.ll.y *ℤ pos p.n) *ℤ (c.ul.x -ℤ c.ll.x)) = lt-from_true ((p.x -ℤ c.ll.x *ℤ pos p.n) *ℤ (c.ul.y -ℤ c.ll.y)) ((p.y -ℤ c.ll.y *ℤ pos p.n) *ℤ (c.ul.x -ℤ c.ll.x)) t in omega (arith, sums))

        counted : (l r u w a1 a2 b1 b2 c1 c2 d1 d2 : Bool) → l ≡ false → r ≡ false → u ≡ true → w ≡ true → b1 ≡ true → d2 ≡ false →
            xor ((r && not l && a1) || (l && not r && a2)) (xor ((u && not r && b1) || (r && not u && b2)) (xor ((w && not u && c1) || (u && not w && c2)) (xor ((l && not w && d1) || (w && not l && d2)) false))) ≡ true
        counted l r u w a1 a2 b1 b2 c1 c2 d1 d2 el er eu ew eb ed = rw (el, er, eu, ew, eb, ed) refl

    by_height : Cmp (c.ll.y *ℤ pos p.n) p.y → Cmp p.y (c.ul.y *ℤ pos p.n) → Cmp (c.ll.x *ℤ pos p.n) p.x → Cmp p.x (c.lr.x *ℤ pos p.n) → holds (ring_of c) p ≡ true
    by_height (same a) b d e = bottom_on a
    by_height (more a) b d e = absurd (omega (arith, sums))
    by_height (less a) (same b) d e = top_on b
    by_height (less a) (more b) d e = absurd (omega (arith, sums))
    by_height (less a) (less b) (same d) e = left_on d
    by_height (less a) (less b) (more d) e = absurd (omega (arith, sums))
    by_height (less a) (less b) (less d) (same e) = right_on e
    by_height (less a) (less b) (less d) (more e) = absurd (omega (arith, sums))
    by_height (less a) (less b) (less d) (less e) = inside a b d e
