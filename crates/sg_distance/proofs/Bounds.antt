-- A figure's points lie within the bounds of its spots, and near points within the bounds moved out.
use Rattle.std.proofs.Common.{◌≡◌, arith, refl, sym, ap, ◌∙◌, subst, Bool, true, false, not, List, [], ◌∷◌, ◌++◌, suc}
use Rattle.std.specs.List.{All}
use mathlib.Core.Bool.{◌&&◌}
use mathlib.Core.Logic.{inl, inr}
use lib.IntN.{ℤ, pos, ◌+ℤ◌, ◌-ℤ◌, ◌*ℤ◌, neg_ℤ, *ℤ_comm, zero-*ℤ}
use lib.Signed.{◌<ℤ◌, ◌≤ℤ◌, le_z}
use Rattle.sg_algebra.proofs.Ring.{sums, products, nonneg_diff-mul, lt-mul_right}
use Rattle.sg_algebra.proofs.Cancelling.{le-cancel_right, lt-cancel_right}
use Rattle.sg_algebra.specs.Orders.{cmp, less, same, more}
use Rattle.sg_algebra.proofs.Comparisons.{le-from_true, lt-from_true, le-from_false, left_true, right_true, either_true}
use Rattle.sg_distance.proofs.Signs.{n*n, p*p}
use Rattle.sg_distance.proofs.Below.{square-over}
use Rattle.sg_distance.proofs.Walk.{Even, walk_rings}
use Rattle.sg_distance.proofs.Reach.{same_parity}
use Rattle.sg_distance.proofs.Ray.{Pass, pass_of}
use Rattle.sg_distance.proofs.Whole.{Among, here, there, Odd, odd_of, edges-append, closed_of}
use Rattle.sg_shape.specs.Plane.{Point, Parts, between, on_edge, is_above, passes_right, crosses_ray, edges_from, edges_of}
use Rattle.sg_segment.specs.Statuses.{xor, parity}
use Rattle.sg_distance.specs.Figure.{Closed, on_any, bones, rings_of, dots, inside_any, has, Sound}
use Rattle.sg_distance.proofs.Nearness.{SquareWithin}
use Rattle.sg_shape.specs.Bounds.{IsInside}
use Rattle.sg_shape.specs.Grown.{PointIn}
use Rattle.sg_shape.specs.declared.bounds.Bounds.{Bounds}
use Rattle.sg_shape.specs.declared.spots.Spot.{Spot}
use Rattle.sg_shape.specs.declared.spots.Edge.{Edge}

-- the edges' ends lie in the box
abbrev pub EdgesIn : Bounds → List Edge → Type 0
EdgesIn b [] = Unit {0}
EdgesIn b (e ∷ es) = (IsInside b e.from × IsInside b e.to) × EdgesIn b es

edges_in_left : (b : Bounds) (es fs : List Edge) → EdgesIn b (es ++ fs) → EdgesIn b es
edges_in_left b [] fs i = tt
edges_in_left b (e ∷ es) fs i = (i.0, edges_in_left b es fs i.1)

edges_in_right : (b : Bounds) (es fs : List Edge) → EdgesIn b (es ++ fs) → EdgesIn b fs
edges_in_right b [] fs i = i
edges_in_right b (e ∷ es) fs i = edges_in_right b es fs i.1

edges_in_both : (b : Bounds) (es fs : List Edge) → EdgesIn b es → EdgesIn b fs → EdgesIn b (es ++ fs)
edges_in_both b [] fs i j = j
edges_in_both b (e ∷ es) fs i j = (i.0, edges_in_both b es fs i.1 j)

path_in : (b : Bounds) (s : Spot) (ss : List Spot) → IsInside b s → All (IsInside b) ss → EdgesIn b (edges_from s ss)
path_in b s [] i j = tt
path_in b s (t ∷ ts) i j = let k : IsInside b t = j 0 t (omega arith) in ((i, k), path_in b t ts k (λ n d h. j (suc n) d (omega arith)))

pub lines_in : (b : Bounds) (ls : List (List Spot)) → All (All (IsInside b)) ls → EdgesIn b (edges_of ls)
lines_in b [] i = tt
lines_in b ([] ∷ ls) i = lines_in b ls (λ n d h. i (suc n) d (omega arith))
lines_in b ((s ∷ ss) ∷ ls) i =
    edges_in_both b (edges_from s ss) (edges_of ls)
    (path_in b s ss (i 0 [] (omega arith) 0 s (omega arith)) (λ n d h. i 0 [] (omega arith) (suc n) d (omega arith)))
    (lines_in b ls (λ n d h. i (suc n) d (omega arith)))

-- a number between two of the box
held : (lo hi a b v n : ℤ) → pos 0 ≤ℤ n → lo ≤ℤ a → lo ≤ℤ b → a ≤ℤ hi → b ≤ℤ hi → between (a *ℤ n) (b *ℤ n) v ≡ true → ((lo *ℤ n) ≤ℤ v) × (v ≤ℤ (hi *ℤ n))
held lo hi a b v n nn la lb ha hb t =
    let a1 : (lo *ℤ n) ≤ℤ (a *ℤ n) = nonneg_diff-mul lo a n nn la in
    let b1 : (lo *ℤ n) ≤ℤ (b *ℤ n) = nonneg_diff-mul lo b n nn lb in
    let a2 : (a *ℤ n) ≤ℤ (hi *ℤ n) = nonneg_diff-mul a hi n nn ha in
    let b2 : (b *ℤ n) ≤ℤ (hi *ℤ n) = nonneg_diff-mul b hi n nn hb in
    elim (either_true (le_z (a *ℤ n) v && le_z v (b *ℤ n)) (le_z (b *ℤ n) v && le_z v (a *ℤ n)) t) [
      | inl l ↦
          let x : (a *ℤ n) ≤ℤ v = le-from_true (a *ℤ n) v (left_true (le_z (a *ℤ n) v) (le_z v (b *ℤ n)) l) in
          let y : v ≤ℤ (b *ℤ n) = le-from_true v (b *ℤ n) (right_true (le_z (a *ℤ n) v) (le_z v (b *ℤ n)) l) in
          (omega (arith, sums), omega (arith, sums))
      | inr l ↦
          let x : (b *ℤ n) ≤ℤ v = le-from_true (b *ℤ n) v (left_true (le_z (b *ℤ n) v) (le_z v (a *ℤ n)) l) in
          let y : v ≤ℤ (a *ℤ n) = le-from_true v (a *ℤ n) (right_true (le_z (b *ℤ n) v) (le_z v (a *ℤ n)) l) in
          (omega (arith, sums), omega (arith, sums))
    ]

pub edge_in : (b : Bounds) (e : Edge) (p : Point) → IsInside b e.from → IsInside b e.to → on_edge e p ≡ true → PointIn b p
edge_in b e p f t o =
    let x = held b.xmin b.xmax e.from.x e.to.x p.x (pos p.n) (omega (arith, sums)) f.left t.left f.right t.right (left_true _ _ (right_true _ _ o)) in
    let y = held b.ymin b.ymax e.from.y e.to.y p.y (pos p.n) (omega (arith, sums)) f.below t.below f.above t.above (right_true _ _ (right_true _ _ o)) in
    record { left = x.0; right = x.1; below = y.0; above = y.1 }

pub any_point_in : (b : Bounds) (es : List Edge) (p : Point) → EdgesIn b es → on_any es p ≡ true → PointIn b p
any_point_in b [] p i o = absurd (cc)
any_point_in b (e ∷ es) p i o = elim (either_true (on_edge e p) (on_any es p) o) [
  | inl l ↦ edge_in b e p i.0.0 i.0.1 l
  | inr l ↦ any_point_in b es p i.1 l
]

-- ---- outside the box nothing is crossed an odd number of times
clash : (b : Bool) → b ≡ true → b ≡ false → ⊥
clash true e f = cc
clash false e f = cc

-- an edge whose ray crossing lies in the box
crossing_in : (b : Bounds) (e : Edge) (p : Point) → IsInside b e.from → IsInside b e.to → crosses_ray e p ≡ true →
    (p.x <ℤ (b.xmax *ℤ pos p.n)) × (((b.ymin *ℤ pos p.n) ≤ℤ p.y) × (p.y <ℤ (b.ymax *ℤ pos p.n)))
crossing_in b e p f t c =
    let a : Pass e p = pass_of e p c in
    let i : PointIn b a.z = edge_in b e a.z f t a.on in
    let pn : pos 0 <ℤ pos p.n = omega (arith, sums, p.is_over) in
    let zn : pos 0 <ℤ pos a.z.n = omega (arith, sums, a.z.is_over) in
    let r : (p.x *ℤ pos a.z.n) <ℤ (a.z.x *ℤ pos p.n) = a.right in
    let h : (a.z.x *ℤ pos p.n) ≤ℤ ((b.xmax *ℤ pos a.z.n) *ℤ pos p.n) = nonneg_diff-mul a.z.x (b.xmax *ℤ pos a.z.n) (pos p.n) (omega (arith, sums)) i.right in
    let q : (b.xmax *ℤ pos a.z.n) *ℤ pos p.n ≡ (b.xmax *ℤ pos p.n) *ℤ pos a.z.n = swap b.xmax (pos a.z.n) (pos p.n) in
    let y : (b.ymin *ℤ pos p.n) ≤ℤ p.y = low_of in
    (lt-cancel_right p.x (b.xmax *ℤ pos p.n) (pos a.z.n) zn (omega (arith, sums)), (y, high_of))
  where
    swap : (x y z : ℤ) → (x *ℤ y) *ℤ z ≡ (x *ℤ z) *ℤ y
    swap x y z = simp products

    nn : pos 0 ≤ℤ pos p.n
    nn = omega (arith, sums)

    above_of : (s : Spot) → is_above s p ≡ true → p.y <ℤ (s.y *ℤ pos p.n)
    above_of s k = lt-from_true p.y (s.y *ℤ pos p.n) k

    under_of : (s : Spot) → not (is_above s p) ≡ true → (s.y *ℤ pos p.n) ≤ℤ p.y
    under_of s k = le-from_false p.y (s.y *ℤ pos p.n) (is_not (is_above s p) k)
      where
        is_not : (b : Bool) → not b ≡ true → b ≡ false
        is_not true e = sym e
        is_not false e = refl

    parts : (u v : Spot) → (is_above v p && not (is_above u p) && passes_right u v p) ≡ true → (p.y <ℤ (v.y *ℤ pos p.n)) × ((u.y *ℤ pos p.n) ≤ℤ p.y)
    parts u v k =
        let m : (is_above v p && not (is_above u p)) ≡ true = left_true (is_above v p && not (is_above u p)) (passes_right u v p) k in
        (above_of v (left_true (is_above v p) (not (is_above u p)) m), under_of u (right_true (is_above v p) (not (is_above u p)) m))

    high_of : p.y <ℤ (b.ymax *ℤ pos p.n)
    high_of = elim (either_true (is_above e.to p && not (is_above e.from p) && passes_right e.from e.to p) (is_above e.from p && not (is_above e.to p) && passes_right e.to e.from p) c) [
      | inl l ↦ let x : p.y <ℤ (e.to.y *ℤ pos p.n) = (parts e.from e.to l).0 in let y : (e.to.y *ℤ pos p.n) ≤ℤ (b.ymax *ℤ pos p.n) = nonneg_diff-mul e.to.y b.ymax (pos p.n) nn t.above in omega (arith, sums)
      | inr l ↦ let x : p.y <ℤ (e.from.y *ℤ pos p.n) = (parts e.to e.from l).0 in let y : (e.from.y *ℤ pos p.n) ≤ℤ (b.ymax *ℤ pos p.n) = nonneg_diff-mul e.from.y b.ymax (pos p.n) nn f.above in omega (arith, sums)
    ]

    low_of : (b.ymin *ℤ pos p.n) ≤ℤ p.y
    low_of = elim (either_true (is_above e.to p && not (is_above e.from p) && passes_right e.from e.to p) (is_above e.from p && not (is_above e.to p) && passes_right e.to e.from p) c) [
      | inl l ↦ let x : (e.from.y *ℤ pos p.n) ≤ℤ p.y = (parts e.from e.to l).1 in let y : (b.ymin *ℤ pos p.n) ≤ℤ (e.from.y *ℤ pos p.n) = nonneg_diff-mul b.ymin e.from.y (pos p.n) nn f.below in omega (arith, sums)
      | inr l ↦ let x : (e.to.y *ℤ pos p.n) ≤ℤ p.y = (parts e.to e.from l).1 in let y : (b.ymin *ℤ pos p.n) ≤ℤ (e.to.y *ℤ pos p.n) = nonneg_diff-mul b.ymin e.to.y (pos p.n) nn t.below in omega (arith, sums)
    ]

-- an odd parity shows a crossing
crossed_in : (b : Bounds) (es : List Edge) (p : Point) → EdgesIn b es → parity es p ≡ true → (p.x <ℤ (b.xmax *ℤ pos p.n)) × (((b.ymin *ℤ pos p.n) ≤ℤ p.y) × (p.y <ℤ (b.ymax *ℤ pos p.n)))
crossed_in b [] p i h = absurd (cc)
crossed_in b (e ∷ es) p i h = by_test (crossed_in b es p i.1) (crosses_ray e p) refl h
  where
    by_test : (parity es p ≡ true → (p.x <ℤ (b.xmax *ℤ pos p.n)) × (((b.ymin *ℤ pos p.n) ≤ℤ p.y) × (p.y <ℤ (b.ymax *ℤ pos p.n)))) → (t : Bool) → crosses_ray e p ≡ t → xor t (parity es p) ≡ true →
        (p.x <ℤ (b.xmax *ℤ pos p.n)) × (((b.ymin *ℤ pos p.n) ≤ℤ p.y) × (p.y <ℤ (b.ymax *ℤ pos p.n)))
    by_test r true c h = crossing_in b e p i.0.0 i.0.1 c
    by_test r false c h = r h

-- from a point left of the box straight up nothing is met
left_of : (b : Bounds) (r : List (List Spot)) → Closed r → EdgesIn b (edges_of r) → (p : Point) → parity (edges_of r) p ≡ true → (b.xmin *ℤ pos p.n) ≤ℤ p.x
left_of b r c i p h = elim (cmp p.x (b.xmin *ℤ pos p.n)) [
  | same l ↦ omega (arith, sums)
  | more l ↦ omega (arith, sums)
  | less l ↦ absurd (go l (walk_rings p high r c))
]
  where
    high : Point
    high = record { x = p.x; y = b.ymax *ℤ pos p.n; n = p.n; is_over = p.is_over }

    outside : parity (edges_of r) high ≡ true → ⊥
    outside k = let m = crossed_in b (edges_of r) high i k in let y : (b.ymax *ℤ pos p.n) <ℤ (b.ymax *ℤ pos p.n) = m.1.1 in omega (arith, sums)

    go : p.x <ℤ (b.xmin *ℤ pos p.n) → Even p high (edges_of r) → ⊥
    go l (inr e) = outside (sym (same_parity (parity (edges_of r) p) (parity (edges_of r) high) e) ∙ h)
    go l (inl m) =
        let k : (b.xmin *ℤ pos m.z.n) ≤ℤ m.z.x = (any_point_in b (edges_of r) m.z i m.on).left in
        let zn : pos 0 <ℤ pos m.z.n = omega (arith, sums, m.z.is_over) in
        let e : m.along.k *ℤ m.z.x ≡ m.along.s *ℤ p.x +ℤ m.along.t *ℤ p.x = m.along.in_x in
        let f : m.along.k *ℤ pos m.z.n ≡ m.along.s *ℤ pos p.n +ℤ m.along.t *ℤ pos p.n = m.along.in_n in
        apart m.along.k m.along.s m.along.t m.z.x (pos m.z.n) p.x (pos p.n) b.xmin m.along.k_over m.along.s_over m.along.t_over zn e f l k
      where
        apart : (k s t x n px pn lo : ℤ) → pos 0 <ℤ k → pos 0 ≤ℤ s → pos 0 ≤ℤ t → pos 0 <ℤ n → k *ℤ x ≡ s *ℤ px +ℤ t *ℤ px → k *ℤ n ≡ s *ℤ pn +ℤ t *ℤ pn → px <ℤ (lo *ℤ pn) → (lo *ℤ n) ≤ℤ x → ⊥
        apart k s t x n px pn lo ko so tn nn e f l h =
            let a : ((lo *ℤ n) *ℤ k) ≤ℤ (x *ℤ k) = nonneg_diff-mul (lo *ℤ n) x k (omega (arith, sums)) h in
            let b : (lo *ℤ n) *ℤ k ≡ lo *ℤ (k *ℤ n) = simp products in
            let c : lo *ℤ (k *ℤ n) ≡ lo *ℤ (s *ℤ pn +ℤ t *ℤ pn) = ap (λ (v : ℤ). lo *ℤ v) f in
            let d : lo *ℤ (s *ℤ pn +ℤ t *ℤ pn) ≡ (lo *ℤ pn) *ℤ (s +ℤ t) = simp products (omega (arith, sums)) in
            let g : x *ℤ k ≡ k *ℤ x = *ℤ_comm x k in
            let i : s *ℤ px +ℤ t *ℤ px ≡ px *ℤ (s +ℤ t) = simp products in
            let w : pos 0 <ℤ (s +ℤ t) = weight k s t n pn ko so tn nn f in
            let j : (px *ℤ (s +ℤ t)) <ℤ ((lo *ℤ pn) *ℤ (s +ℤ t)) = lt-mul_right px (lo *ℤ pn) (s +ℤ t) w l in
            omega (arith, sums)
          where
            weight : (k s t n pn : ℤ) → pos 0 <ℤ k → pos 0 ≤ℤ s → pos 0 ≤ℤ t → pos 0 <ℤ n → k *ℤ n ≡ s *ℤ pn +ℤ t *ℤ pn → pos 0 <ℤ (s +ℤ t)
            weight k s t n pn ko so tn nn f = elim (cmp (pos 0) (s +ℤ t)) [
              | less l ↦ l
              | same l ↦ absurd (let a : s ≡ pos 0 = omega (arith, sums) in let b : t ≡ pos 0 = omega (arith, sums) in
                  let c : s *ℤ pn ≡ pos 0 = ap (λ (v : ℤ). v *ℤ pn) a ∙ zero-*ℤ pn in let d : t *ℤ pn ≡ pos 0 = ap (λ (v : ℤ). v *ℤ pn) b ∙ zero-*ℤ pn in
                  let e : pos 0 <ℤ (k *ℤ n) = p*p k n ko nn in omega (arith, sums))
              | more l ↦ absurd (omega (arith, sums))
            ]

-- ---- a figure's points lie in its box
ring_in : (b : Bounds) (r : List (List Spot)) (as' : List (List (List Spot))) → EdgesIn b (edges_of (rings_of as')) → Among r as' → EdgesIn b (edges_of r)
ring_in b r [] i m = elim m [ ]
ring_in b r (_ ∷ as') i here = edges_in_left b (edges_of r) (edges_of (rings_of as')) (subst (EdgesIn b) (edges-append r (rings_of as')) i)
ring_in b r (a ∷ as') i (there m) = ring_in b r as' (edges_in_right b (edges_of a) (edges_of (rings_of as')) (subst (EdgesIn b) (edges-append a (rings_of as')) i)) m

pub figure_in : (b : Bounds) (k : Parts) → Sound k → EdgesIn b (bones k) → (p : Point) → has k p ≡ true → PointIn b p
figure_in b k s i p h = elim (either_true (on_any (bones k) p) (inside_any k.areas p) h) [
  | inl l ↦ any_point_in b (bones k) p i l
  | inr l ↦ area_point (odd_of k.areas p l)
]
  where
    rings : EdgesIn b (edges_of (rings_of k.areas))
    rings =
        edges_in_right b (edges_of k.lines) (edges_of (rings_of k.areas))
        (subst (EdgesIn b) (edges-append k.lines (rings_of k.areas))
        (edges_in_right b (edges_of (dots k.points)) (edges_of (k.lines ++ rings_of k.areas)) (subst (EdgesIn b) (edges-append (dots k.points) (k.lines ++ rings_of k.areas)) i)))

    area_point : Odd k.areas p → PointIn b p
    area_point o =
        let r : EdgesIn b (edges_of o.r) = ring_in b o.r k.areas rings o.among in
        let m = crossed_in b (edges_of o.r) p r o.odd in
        let x : p.x <ℤ (b.xmax *ℤ pos p.n) = m.0 in
        let y : p.y <ℤ (b.ymax *ℤ pos p.n) = m.1.1 in
        record { left = left_of b o.r (closed_of o.r k.areas s.closed o.among) r p o.odd; right = omega (arith, sums); below = m.1.0; above = omega (arith, sums) }

-- ---- a point near the figure lies in the box moved out
reach : (d x y w : ℤ) → pos 0 ≤ℤ d → pos 0 ≤ℤ w → (x *ℤ x +ℤ y *ℤ y) ≤ℤ ((d *ℤ d) *ℤ (w *ℤ w)) → x ≤ℤ (d *ℤ w)
reach d x y w dn wn h = elim (cmp x (d *ℤ w)) [
  | less l ↦ omega (arith, sums)
  | same l ↦ omega (arith, sums)
  | more l ↦ absurd (
      let a : pos 0 ≤ℤ (d *ℤ w) = n*n d w dn wn in
      let b : pos 0 <ℤ ((x -ℤ d *ℤ w) *ℤ (x +ℤ d *ℤ w)) = p*p (x -ℤ d *ℤ w) (x +ℤ d *ℤ w) (omega (arith, sums)) (omega (arith, sums)) in
      let e : (x -ℤ d *ℤ w) *ℤ (x +ℤ d *ℤ w) ≡ x *ℤ x -ℤ (d *ℤ d) *ℤ (w *ℤ w) = simp products (omega (arith, sums)) in
      let c : pos 0 ≤ℤ (y *ℤ y) = square-over y in
      omega (arith, sums))
]

pub moved_out : (b : Bounds) (d : ℤ) → pos 0 ≤ℤ d → (p q : Point) → PointIn b q → SquareWithin false (d *ℤ d) p q →
    PointIn (record { xmin = b.xmin -ℤ d; ymin = b.ymin -ℤ d; xmax = b.xmax +ℤ d; ymax = b.ymax +ℤ d }) p
moved_out b d dn p q i n =
    let w : pos 0 ≤ℤ (pos p.n *ℤ pos q.n) = n*n (pos p.n) (pos q.n) (omega (arith, sums)) (omega (arith, sums)) in
    record {
      left = low b.xmin p.x q.x (pos p.n) (pos q.n) (over_n p) (over_n q) i.left
          (reach d (neg_ℤ (p.x *ℤ pos q.n -ℤ q.x *ℤ pos p.n)) (p.y *ℤ pos q.n -ℤ q.y *ℤ pos p.n) (pos p.n *ℤ pos q.n) dn w (turn (p.x *ℤ pos q.n -ℤ q.x *ℤ pos p.n) (p.y *ℤ pos q.n -ℤ q.y *ℤ pos p.n) n));
      right = high b.xmax p.x q.x (pos p.n) (pos q.n) (over_n p) (over_n q) i.right
          (reach d (p.x *ℤ pos q.n -ℤ q.x *ℤ pos p.n) (p.y *ℤ pos q.n -ℤ q.y *ℤ pos p.n) (pos p.n *ℤ pos q.n) dn w n);
      below = low b.ymin p.y q.y (pos p.n) (pos q.n) (over_n p) (over_n q) i.below
          (reach d (neg_ℤ (p.y *ℤ pos q.n -ℤ q.y *ℤ pos p.n)) (p.x *ℤ pos q.n -ℤ q.x *ℤ pos p.n) (pos p.n *ℤ pos q.n) dn w (turn (p.y *ℤ pos q.n -ℤ q.y *ℤ pos p.n) (p.x *ℤ pos q.n -ℤ q.x *ℤ pos p.n) (exchange (p.x *ℤ pos q.n -ℤ q.x *ℤ pos p.n) (p.y *ℤ pos q.n -ℤ q.y *ℤ pos p.n) n)));
      above = high b.ymax p.y q.y (pos p.n) (pos q.n) (over_n p) (over_n q) i.above
          (reach d (p.y *ℤ pos q.n -ℤ q.y *ℤ pos p.n) (p.x *ℤ pos q.n -ℤ q.x *ℤ pos p.n) (pos p.n *ℤ pos q.n) dn w (exchange (p.x *ℤ pos q.n -ℤ q.x *ℤ pos p.n) (p.y *ℤ pos q.n -ℤ q.y *ℤ pos p.n) n));
    }
  where
    over_n : (r : Point) → pos 0 <ℤ pos r.n
    over_n r = omega (arith, sums, r.is_over)

    turn : (x y : ℤ) {c : ℤ} → (x *ℤ x +ℤ y *ℤ y) ≤ℤ c → (neg_ℤ x *ℤ neg_ℤ x +ℤ y *ℤ y) ≤ℤ c
    turn x y {c} h = let e : neg_ℤ x *ℤ neg_ℤ x ≡ x *ℤ x = simp products (omega (arith, sums)) in omega (arith, sums)

    exchange : (x y : ℤ) {c : ℤ} → (x *ℤ x +ℤ y *ℤ y) ≤ℤ c → (y *ℤ y +ℤ x *ℤ x) ≤ℤ c
    exchange x y {c} h = omega (arith, sums)

    low : (lo px qx pn qn : ℤ) → pos 0 <ℤ pn → pos 0 <ℤ qn → (lo *ℤ qn) ≤ℤ qx → neg_ℤ (px *ℤ qn -ℤ qx *ℤ pn) ≤ℤ (d *ℤ (pn *ℤ qn)) → ((lo -ℤ d) *ℤ pn) ≤ℤ px
    low lo px qx pn qn po qo h k =
        let a : ((lo *ℤ qn) *ℤ pn) ≤ℤ (qx *ℤ pn) = nonneg_diff-mul (lo *ℤ qn) qx pn (omega (arith, sums)) h in
        let e : ((lo -ℤ d) *ℤ pn) *ℤ qn ≡ (lo *ℤ qn) *ℤ pn -ℤ d *ℤ (pn *ℤ qn) = simp products in
        le-cancel_right ((lo -ℤ d) *ℤ pn) px qn qo (omega (arith, sums))

    high : (hi px qx pn qn : ℤ) → pos 0 <ℤ pn → pos 0 <ℤ qn → qx ≤ℤ (hi *ℤ qn) → (px *ℤ qn -ℤ qx *ℤ pn) ≤ℤ (d *ℤ (pn *ℤ qn)) → px ≤ℤ ((hi +ℤ d) *ℤ pn)
    high hi px qx pn qn po qo h k =
        let a : (qx *ℤ pn) ≤ℤ ((hi *ℤ qn) *ℤ pn) = nonneg_diff-mul qx (hi *ℤ qn) pn (omega (arith, sums)) h in
        let e : ((hi +ℤ d) *ℤ pn) *ℤ qn ≡ (hi *ℤ qn) *ℤ pn +ℤ d *ℤ (pn *ℤ qn) = simp products in
        le-cancel_right px ((hi +ℤ d) *ℤ pn) qn qo (omega (arith, sums))

-- ---- boxes farther apart than the bound hold no near points
pub apart_x : (a b : Bounds) (d : ℤ) → pos 0 ≤ℤ d → (p q : Point) → PointIn a p → PointIn b q → SquareWithin false (d *ℤ d) p q → a.xmax <ℤ (b.xmin -ℤ d) → ⊥
apart_x a b d dn p q i j n h =
    let l : ((b.xmin -ℤ d) *ℤ pos p.n) ≤ℤ p.x = (moved_out b d dn p q j n).left in
    let r : p.x ≤ℤ (a.xmax *ℤ pos p.n) = i.right in
    let k : (a.xmax *ℤ pos p.n) <ℤ ((b.xmin -ℤ d) *ℤ pos p.n) = lt-mul_right a.xmax (b.xmin -ℤ d) (pos p.n) (omega (arith, sums, p.is_over)) h in
    omega (arith, sums)

pub apart_y : (a b : Bounds) (d : ℤ) → pos 0 ≤ℤ d → (p q : Point) → PointIn a p → PointIn b q → SquareWithin false (d *ℤ d) p q → a.ymax <ℤ (b.ymin -ℤ d) → ⊥
apart_y a b d dn p q i j n h =
    let l : ((b.ymin -ℤ d) *ℤ pos p.n) ≤ℤ p.y = (moved_out b d dn p q j n).below in
    let r : p.y ≤ℤ (a.ymax *ℤ pos p.n) = i.above in
    let k : (a.ymax *ℤ pos p.n) <ℤ ((b.ymin -ℤ d) *ℤ pos p.n) = lt-mul_right a.ymax (b.ymin -ℤ d) (pos p.n) (omega (arith, sums, p.is_over)) h in
    omega (arith, sums)
