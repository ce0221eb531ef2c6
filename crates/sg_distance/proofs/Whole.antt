-- Two figures have near points exactly where their lines have, or a first spot of the one lies in an area of the other.
use Rattle.std.proofs.Common.{◌≡◌, arith, refl, sym, ap, ◌∙◌, subst, Bool, true, false, List, [], ◌∷◌, ◌++◌, append_assoc}
use Rattle.std.specs.List.{list_any}
use mathlib.Core.Bool.{◌||◌}
use mathlib.Core.Logic.{inl, inr}
use lib.IntN.{ℤ, pos, ◌+ℤ◌, ◌-ℤ◌, ◌*ℤ◌, *ℤ_comm, zero-*ℤ}
use lib.Signed.{◌<ℤ◌, ◌≤ℤ◌}
use Rattle.sg_algebra.proofs.Ring.{sums, products, nonneg_diff-mul}
use Rattle.sg_algebra.specs.Orders.{cmp, less, same, more}
use Rattle.sg_distance.proofs.Signs.{n*n, p*p}
use Rattle.sg_algebra.proofs.Comparisons.{either_true, or_left, or_right}
use Rattle.sg_distance.proofs.Below.{below-le, below-mul, below-cancel, below-at, square-within}
use Rattle.sg_distance.proofs.Mix.{Along, on-from}
use Rattle.sg_distance.proofs.Walk.{walk_rings, any-left, any-right}
use Rattle.sg_distance.proofs.Reach.{holds, reach_lines, first_inside, same_parity}
use Rattle.sg_distance.proofs.Ray.{both_odd}
use Rattle.sg_distance.proofs.Pairs.{near-turned}
use Rattle.sg_distance.proofs.Found.{bound_over, near_self}
use Rattle.sg_shape.specs.Plane.{Point, Parts, on_edge, edges, edges_of, edges_from}
use Rattle.sg_segment.specs.Sides.{point_at}
use Rattle.sg_segment.specs.Statuses.{parity}
use Rattle.sg_distance.specs.Figure.{Closed, on_any, chains, bones, rings_of, dots, inside_any, has, Joined, AllClosed, Sound}
use Rattle.sg_distance.proofs.Nearness.{NearByEdges, Below, SquareWithin}
use Rattle.sg_shape.specs.declared.spots.Spot.{Spot}
use Rattle.sg_shape.specs.declared.spots.Edge.{Edge}

-- ---- a point on the way is no farther
pub near_along : (strict : Bool) (D : ℤ) (p q z : Point) → Along p q z → SquareWithin strict D p q → SquareWithin strict D z q
near_along strict D p q z a h =
    by_numbers p.x p.y (pos p.n) q.x q.y (pos q.n) z.x z.y (pos z.n) a.k a.s a.t a.in_x a.in_y a.in_n a.k_over a.s_over a.t_over
    (omega (arith, sums, p.is_over)) (omega (arith, sums, q.is_over)) (omega (arith, sums, z.is_over)) (bound_over strict D p q h) h
  where
    scaled : (k s t px pn qx qn zx zn : ℤ) → k *ℤ zx ≡ s *ℤ px +ℤ t *ℤ qx → k *ℤ zn ≡ s *ℤ pn +ℤ t *ℤ qn → k *ℤ (zx *ℤ qn -ℤ qx *ℤ zn) ≡ s *ℤ (px *ℤ qn -ℤ qx *ℤ pn)
    scaled k s t px pn qx qn zx zn e f =
        let g : (k *ℤ zx) *ℤ qn ≡ (s *ℤ px +ℤ t *ℤ qx) *ℤ qn = ap (λ (v : ℤ). v *ℤ qn) e in
        let h : (k *ℤ zn) *ℤ qx ≡ (s *ℤ pn +ℤ t *ℤ qn) *ℤ qx = ap (λ (v : ℤ). v *ℤ qx) f in
        let l : k *ℤ (zx *ℤ qn -ℤ qx *ℤ zn) ≡ (k *ℤ zx) *ℤ qn -ℤ (k *ℤ zn) *ℤ qx = simp products in
        let r : s *ℤ (px *ℤ qn -ℤ qx *ℤ pn) ≡ (s *ℤ px +ℤ t *ℤ qx) *ℤ qn -ℤ (s *ℤ pn +ℤ t *ℤ qn) *ℤ qx = simp products (omega (arith, sums)) in
        omega (arith, sums)

    dist : ℤ → ℤ → ℤ
    dist x y = x *ℤ x +ℤ y *ℤ y

    square_sum : (k x y : ℤ) → (x *ℤ x +ℤ y *ℤ y) *ℤ (k *ℤ k) ≡ (k *ℤ x) *ℤ (k *ℤ x) +ℤ (k *ℤ y) *ℤ (k *ℤ y)
    square_sum k x y = simp products

    square_bound : (D w k : ℤ) → (D *ℤ (w *ℤ w)) *ℤ (k *ℤ k) ≡ D *ℤ ((k *ℤ w) *ℤ (k *ℤ w))
    square_bound D w k = simp products

    two : {a b c d : ℤ} → a ≡ c → b ≡ d → a *ℤ a +ℤ b *ℤ b ≡ c *ℤ c +ℤ d *ℤ d
    two {a} {b} {c} {d} e f = rw (e, f) refl

    grow : (strict : Bool) (D x y w v s t : ℤ) → Below strict (pos 0) D → pos 0 <ℤ w → pos 0 <ℤ v → pos 0 ≤ℤ s → pos 0 ≤ℤ t → pos 0 <ℤ (s *ℤ w +ℤ t *ℤ v) →
        Below strict (x *ℤ x +ℤ y *ℤ y) (D *ℤ (w *ℤ w)) → Below strict ((s *ℤ x) *ℤ (s *ℤ x) +ℤ (s *ℤ y) *ℤ (s *ℤ y)) (D *ℤ ((s *ℤ w +ℤ t *ℤ v) *ℤ (s *ℤ w +ℤ t *ℤ v)))
    grow strict D x y w v s t o wo vo so tn u h = elim (cmp (pos 0) s) [
      | less l ↦
          let a : pos 0 ≤ℤ (s *ℤ w) = n*n s w so (omega (arith, sums)) in
          let b : pos 0 ≤ℤ (t *ℤ v) = n*n t v tn (omega (arith, sums)) in
          let c : ((s *ℤ w) *ℤ (s *ℤ w)) ≤ℤ ((s *ℤ w +ℤ t *ℤ v) *ℤ (s *ℤ w +ℤ t *ℤ v)) = square-within (s *ℤ w) (s *ℤ w +ℤ t *ℤ v) (omega (arith, sums)) (omega (arith, sums)) in
          let d : (((s *ℤ w) *ℤ (s *ℤ w)) *ℤ D) ≤ℤ (((s *ℤ w +ℤ t *ℤ v) *ℤ (s *ℤ w +ℤ t *ℤ v)) *ℤ D) = nonneg_diff-mul ((s *ℤ w) *ℤ (s *ℤ w)) ((s *ℤ w +ℤ t *ℤ v) *ℤ (s *ℤ w +ℤ t *ℤ v)) D (not_below strict D o) c in
          below-le strict _ _ _ (below-at strict _ _ _ _ (square_sum s x y) (square_bound D w s) (below-mul strict _ _ (s *ℤ s) (p*p s s l l) h))
          (swapped ((s *ℤ w) *ℤ (s *ℤ w)) ((s *ℤ w +ℤ t *ℤ v) *ℤ (s *ℤ w +ℤ t *ℤ v)) D d)
      | same l ↦ zero_case l
      | more l ↦ absurd (omega (arith, sums))
    ]
      where
        not_below : (strict : Bool) (D : ℤ) → Below strict (pos 0) D → pos 0 ≤ℤ D
        not_below true D h = omega (arith, sums)
        not_below false D h = h

        swapped : (a b c : ℤ) → (a *ℤ c) ≤ℤ (b *ℤ c) → (c *ℤ a) ≤ℤ (c *ℤ b)
        swapped a b c h = let e : a *ℤ c ≡ c *ℤ a = *ℤ_comm a c in let f : b *ℤ c ≡ c *ℤ b = *ℤ_comm b c in omega (arith, sums)

        zero_case : pos 0 ≡ s → Below strict ((s *ℤ x) *ℤ (s *ℤ x) +ℤ (s *ℤ y) *ℤ (s *ℤ y)) (D *ℤ ((s *ℤ w +ℤ t *ℤ v) *ℤ (s *ℤ w +ℤ t *ℤ v)))
        zero_case e =
            let g : s *ℤ x ≡ pos 0 = ap (λ (r : ℤ). r *ℤ x) (sym e) ∙ zero-*ℤ x in
            let i : s *ℤ y ≡ pos 0 = ap (λ (r : ℤ). r *ℤ y) (sym e) ∙ zero-*ℤ y in
            below-at strict _ _ _ _ (zero-*ℤ ((s *ℤ w +ℤ t *ℤ v) *ℤ (s *ℤ w +ℤ t *ℤ v)) ∙ sym (two g i)) refl
            (below-mul strict (pos 0) D ((s *ℤ w +ℤ t *ℤ v) *ℤ (s *ℤ w +ℤ t *ℤ v)) (p*p (s *ℤ w +ℤ t *ℤ v) (s *ℤ w +ℤ t *ℤ v) u u) o)

    by_numbers : (px py pn qx qy qn zx zy zn k s t : ℤ) → k *ℤ zx ≡ s *ℤ px +ℤ t *ℤ qx → k *ℤ zy ≡ s *ℤ py +ℤ t *ℤ qy → k *ℤ zn ≡ s *ℤ pn +ℤ t *ℤ qn →
        pos 0 <ℤ k → pos 0 ≤ℤ s → pos 0 ≤ℤ t → pos 0 <ℤ pn → pos 0 <ℤ qn → pos 0 <ℤ zn → Below strict (pos 0) D →
        Below strict ((px *ℤ qn -ℤ qx *ℤ pn) *ℤ (px *ℤ qn -ℤ qx *ℤ pn) +ℤ (py *ℤ qn -ℤ qy *ℤ pn) *ℤ (py *ℤ qn -ℤ qy *ℤ pn)) (D *ℤ ((pn *ℤ qn) *ℤ (pn *ℤ qn))) →
        Below strict ((zx *ℤ qn -ℤ qx *ℤ zn) *ℤ (zx *ℤ qn -ℤ qx *ℤ zn) +ℤ (zy *ℤ qn -ℤ qy *ℤ zn) *ℤ (zy *ℤ qn -ℤ qy *ℤ zn)) (D *ℤ ((zn *ℤ qn) *ℤ (zn *ℤ qn)))
    by_numbers px py pn qx qy qn zx zy zn k s t ex ey en ko so tn po qo zo o h =
        let w : k *ℤ (zn *ℤ qn) ≡ s *ℤ (pn *ℤ qn) +ℤ t *ℤ (qn *ℤ qn) = weight in
        let u : pos 0 <ℤ (k *ℤ (zn *ℤ qn)) = p*p k (zn *ℤ qn) ko (p*p zn qn zo qo) in
        below-cancel strict _ _ (k *ℤ k) (p*p k k ko ko)
        (below-at strict _ _ _ _
        (sym (square_sum k (zx *ℤ qn -ℤ qx *ℤ zn) (zy *ℤ qn -ℤ qy *ℤ zn) ∙ two (scaled k s t px pn qx qn zx zn ex en) (scaled k s t py pn qy qn zy zn ey en)))
        (ap (λ (v : ℤ). D *ℤ (v *ℤ v)) (sym w) ∙ sym (square_bound D (zn *ℤ qn) k))
        (grow strict D (px *ℤ qn -ℤ qx *ℤ pn) (py *ℤ qn -ℤ qy *ℤ pn) (pn *ℤ qn) (qn *ℤ qn) s t o (p*p pn qn po qo) (p*p qn qn qo qo) so tn (omega (arith, sums)) h))
      where
        weight : k *ℤ (zn *ℤ qn) ≡ s *ℤ (pn *ℤ qn) +ℤ t *ℤ (qn *ℤ qn)
        weight =
            let f : (k *ℤ zn) *ℤ qn ≡ (s *ℤ pn +ℤ t *ℤ qn) *ℤ qn = ap (λ (v : ℤ). v *ℤ qn) en in
            let g : k *ℤ (zn *ℤ qn) ≡ (k *ℤ zn) *ℤ qn = simp products in
            let i : (s *ℤ pn +ℤ t *ℤ qn) *ℤ qn ≡ s *ℤ (pn *ℤ qn) +ℤ t *ℤ (qn *ℤ qn) = simp products in
            g ∙ f ∙ i

-- ---- areas
pub data Among (r : List (List Spot)) : List (List (List Spot)) → Type 0 where
  here : {as' : List (List (List Spot))} → Among r (r ∷ as')
  there : {a : List (List Spot)} {as' : List (List (List Spot))} → Among r as' → Among r (a ∷ as')

pub closed_of : (r : List (List Spot)) (as' : List (List (List Spot))) → AllClosed as' → Among r as' → Closed r
closed_of r _ c here = c.0
closed_of r _ c (there m) = closed_of r _ c.1 m

pub edges-append : (ls ms : List (List Spot)) → edges_of (ls ++ ms) ≡ edges_of ls ++ edges_of ms
edges-append [] ms = refl
edges-append (l ∷ ls) ms = ap (λ (es : List Edge). edges l ++ es) (edges-append ls ms) ∙ sym (append_assoc (edges l) (edges_of ls) (edges_of ms))

pub on-left : (ls ms : List (List Spot)) (p : Point) → on_any (edges_of ls) p ≡ true → on_any (edges_of (ls ++ ms)) p ≡ true
on-left ls ms p h = subst (λ (es : List Edge). on_any es p ≡ true) (sym (edges-append ls ms)) (any-left (λ e. on_edge e p) (edges_of ls) (edges_of ms) h)

pub on-right : (ls ms : List (List Spot)) (p : Point) → on_any (edges_of ms) p ≡ true → on_any (edges_of (ls ++ ms)) p ≡ true
on-right ls ms p h = subst (λ (es : List Edge). on_any es p ≡ true) (sym (edges-append ls ms)) (any-right (λ e. on_edge e p) (edges_of ls) (edges_of ms) h)

on_rings : (r : List (List Spot)) (as' : List (List (List Spot))) (p : Point) → Among r as' → on_any (edges_of r) p ≡ true → on_any (edges_of (rings_of as')) p ≡ true
on_rings r [] p m h = elim m [ ]
on_rings r (_ ∷ as') p here h = on-left r (rings_of as') p h
on_rings r (a ∷ as') p (there m) h = on-right a (rings_of as') p (on_rings r as' p m h)

on_bones : (k : Parts) (r : List (List Spot)) (p : Point) → Among r k.areas → on_any (edges_of r) p ≡ true → on_any (bones k) p ≡ true
on_bones k r p m h = on-right (dots k.points) (k.lines ++ rings_of k.areas) p (on-right k.lines (rings_of k.areas) p (on_rings r k.areas p m h))

-- an area with an odd count
pub record Odd (as' : List (List (List Spot))) (p : Point) : Type 0 where
  pub r : List (List Spot)
  pub among : Among r as'
  pub odd : parity (edges_of r) p ≡ true

pub odd_of : (as' : List (List (List Spot))) (p : Point) → inside_any as' p ≡ true → Odd as' p
odd_of [] p h = absurd (cc)
odd_of (a ∷ as') p h = elim (either_true (parity (edges_of a) p) (inside_any as' p) h) [
  | inl l ↦ record { r = a; among = here; odd = l }
  | inr l ↦ let o : Odd as' p = odd_of as' p l in record { r = o.r; among = there o.among; odd = o.odd }
]

-- a first spot of the second figure's lines lies in an area of the first
abbrev pub encloses : List (List (List Spot)) → List (List Spot) → Bool
encloses [] ls = false
encloses (a ∷ as') ls = first_inside a ls || encloses as' ls

encloses_of : (r : List (List Spot)) (as' : List (List (List Spot))) (ls : List (List Spot)) → Among r as' → first_inside r ls ≡ true → encloses as' ls ≡ true
encloses_of r [] ls m h = elim m [ ]
encloses_of r (_ ∷ as') ls here h = or_left (first_inside r ls) (encloses as' ls) h
encloses_of r (a ∷ as') ls (there m) h = or_right (first_inside a ls) (encloses as' ls) (encloses_of r as' ls m h)

-- two points of the lines are near
pub record NearBones (strict : Bool) (D : ℤ) (a b : Parts) : Type 0 where
  pub z : Point
  pub w : Point
  pub of_a : on_any (bones a) z ≡ true
  pub of_b : on_any (bones b) w ≡ true
  pub near : SquareWithin strict D z w

pub data Shown (strict : Bool) (D : ℤ) (a b : Parts) : Type 0 where
  by_bones : NearBones strict D a b → Shown strict D a b
  by_first : encloses a.areas (chains b) ≡ true → Shown strict D a b
  by_second : encloses b.areas (chains a) ≡ true → Shown strict D a b

-- a point on the lines of b in an area of a, and the other way round
in_first : (strict : Bool) (D : ℤ) (a b : Parts) → Sound a → Below strict (pos 0) D → (r : List (List Spot)) → Among r a.areas → (q : Point) → on_any (bones b) q ≡ true → holds r q ≡ true → Shown strict D a b
in_first strict D a b sa o r m q h k = elim (reach_lines r (closed_of r a.areas sa.closed m) (chains b) q h k) [
  | inl t ↦ by_bones (record { z = t.z; w = t.z; of_a = on_bones a r t.z m t.second; of_b = t.first; near = near_self strict D t.z o })
  | inr f ↦ by_first (encloses_of r a.areas (chains b) m f)
]

in_second : (strict : Bool) (D : ℤ) (a b : Parts) → Sound b → Below strict (pos 0) D → (r : List (List Spot)) → Among r b.areas → (q : Point) → on_any (bones a) q ≡ true → holds r q ≡ true → Shown strict D a b
in_second strict D a b sb o r m q h k = elim (reach_lines r (closed_of r b.areas sb.closed m) (chains a) q h k) [
  | inl t ↦ by_bones (record { z = t.z; w = t.z; of_a = t.first; of_b = on_bones b r t.z m t.second; near = near_self strict D t.z o })
  | inr f ↦ by_second (encloses_of r b.areas (chains a) m f)
]

-- from a point on the lines of a, near a point of b
from_bones : (strict : Bool) (D : ℤ) (a b : Parts) → Sound b → (p q : Point) → on_any (bones a) p ≡ true → has b q ≡ true → SquareWithin strict D p q → Shown strict D a b
from_bones strict D a b sb p q op hq n = elim (either_true (on_any (bones b) q) (inside_any b.areas q) hq) [
  | inl l ↦ by_bones (record { z = p; w = q; of_a = op; of_b = l; near = n })
  | inr l ↦ go (odd_of b.areas q l)
]
  where
    go : Odd b.areas q → Shown strict D a b
    go o = elim (walk_rings q p o.r (closed_of o.r b.areas sb.closed o.among)) [
      | inl m ↦ by_bones (record { z = p; w = m.z; of_a = op; of_b = on_bones b o.r m.z o.among m.on; near = near-turned strict D m.z p (near_along strict D q p m.z m.along (near-turned strict D p q n)) })
      | inr e ↦ in_second strict D a b sb (bound_over strict D p q n) o.r o.among p op
          (or_right (on_any (edges_of o.r) p) (parity (edges_of o.r) p) (sym (same_parity (parity (edges_of o.r) q) (parity (edges_of o.r) p) e) ∙ o.odd))
    ]

-- complete
pub near_shown : (strict : Bool) (D : ℤ) (a b : Parts) → Sound a → Sound b → NearByEdges strict D a b → Shown strict D a b
near_shown strict D a b sa sb n = elim (either_true (on_any (bones a) n.p) (inside_any a.areas n.p) n.of_a) [
  | inl l ↦ from_bones strict D a b sb n.p n.q l n.of_b n.near
  | inr l ↦ from_area (odd_of a.areas n.p l)
]
  where
    bd : Below strict (pos 0) D
    bd = bound_over strict D n.p n.q n.near

    both_in : (r : List (List Spot)) → Among r a.areas → parity (edges_of r) n.q ≡ true → Odd b.areas n.q → Shown strict D a b
    both_in r m h o = elim (both_odd r o.r n.q h o.odd) [
      | inl t ↦ in_second strict D a b sb bd o.r o.among t.z (on_bones a r t.z m t.on) t.inside
      | inr t ↦ in_first strict D a b sa bd r m t.z (on_bones b o.r t.z o.among t.on) t.inside
    ]

    inside : (r : List (List Spot)) → Among r a.areas → parity (edges_of r) n.q ≡ true → Shown strict D a b
    inside r m h = elim (either_true (on_any (bones b) n.q) (inside_any b.areas n.q) n.of_b) [
      | inl l ↦ in_first strict D a b sa bd r m n.q l (or_right (on_any (edges_of r) n.q) (parity (edges_of r) n.q) h)
      | inr l ↦ both_in r m h (odd_of b.areas n.q l)
    ]

    from_area : Odd a.areas n.p → Shown strict D a b
    from_area o = elim (walk_rings n.p n.q o.r (closed_of o.r a.areas sa.closed o.among)) [
      | inl m ↦ from_bones strict D a b sb m.z n.q (on_bones a o.r m.z o.among m.on) n.of_b (near_along strict D n.p n.q m.z m.along n.near)
      | inr e ↦ inside o.r o.among (sym (same_parity (parity (edges_of o.r) n.p) (parity (edges_of o.r) n.q) e) ∙ o.odd)
    ]

-- ---- sound
inside_of : (r : List (List Spot)) (as' : List (List (List Spot))) (p : Point) → Among r as' → parity (edges_of r) p ≡ true → inside_any as' p ≡ true
inside_of r [] p m h = elim m [ ]
inside_of r (_ ∷ as') p here h = or_left (parity (edges_of r) p) (inside_any as' p) h
inside_of r (a ∷ as') p (there m) h = or_right (parity (edges_of a) p) (inside_any as' p) (inside_of r as' p m h)

pub has_of : (k : Parts) (r : List (List Spot)) (p : Point) → Among r k.areas → holds r p ≡ true → has k p ≡ true
has_of k r p m h = elim (either_true (on_any (edges_of r) p) (parity (edges_of r) p) h) [
  | inl l ↦ or_left (on_any (bones k) p) (inside_any k.areas p) (on_bones k r p m l)
  | inr l ↦ or_right (on_any (bones k) p) (inside_any k.areas p) (inside_of r k.areas p m l)
]

-- a first spot in the area
record FirstIn (r ls : List (List Spot)) : Type 0 where
  z : Point
  on : on_any (edges_of ls) z ≡ true
  inside : holds r z ≡ true

first_in : (r ls : List (List Spot)) → Joined ls → first_inside r ls ≡ true → FirstIn r ls
first_in r [] j h = absurd (cc)
first_in r ([] ∷ ls) j h = absurd j
first_in r ((s ∷ []) ∷ ls) j h = absurd j
first_in r ((s ∷ t ∷ ss) ∷ ls) j h = elim (either_true (holds r (point_at s)) (first_inside r ls) h) [
  | inl l ↦ record {
    z = point_at s;
    on = or_left (on_edge (record { from = s; to = t }) (point_at s)) (list_any (λ e. on_edge e (point_at s)) (edges_from t ss ++ edges_of ls)) (on-from s t);
    inside = l;
  }
  | inr l ↦
      let f : FirstIn r ls = first_in r ls j l in
      record { z = f.z; on = any-right (λ e. on_edge e f.z) (edges (s ∷ t ∷ ss)) (edges_of ls) f.on; inside = f.inside }
]

record EnclosedBy (as' : List (List (List Spot))) (ls : List (List Spot)) : Type 0 where
  r : List (List Spot)
  among : Among r as'
  first : FirstIn r ls

enclosed_by : (as' : List (List (List Spot))) (ls : List (List Spot)) → Joined ls → encloses as' ls ≡ true → EnclosedBy as' ls
enclosed_by [] ls j h = absurd (cc)
enclosed_by (a ∷ as') ls j h = elim (either_true (first_inside a ls) (encloses as' ls) h) [
  | inl l ↦ record { r = a; among = here; first = first_in a ls j l }
  | inr l ↦ let e : EnclosedBy as' ls = enclosed_by as' ls j l in record { r = e.r; among = there e.among; first = e.first }
]

pub shown_near : (strict : Bool) (D : ℤ) (a b : Parts) → Sound a → Sound b → Below strict (pos 0) D → Shown strict D a b → NearByEdges strict D a b
shown_near strict D a b sa sb o (by_bones n) = record {
  p = n.z;
  q = n.w;
  of_a = or_left (on_any (bones a) n.z) (inside_any a.areas n.z) n.of_a;
  of_b = or_left (on_any (bones b) n.w) (inside_any b.areas n.w) n.of_b;
  near = n.near;
}
shown_near strict D a b sa sb o (by_first h) =
    let e : EnclosedBy a.areas (chains b) = enclosed_by a.areas (chains b) sb.joined h in
    record { p = e.first.z; q = e.first.z; of_a = has_of a e.r e.first.z e.among e.first.inside; of_b = or_left (on_any (bones b) e.first.z) (inside_any b.areas e.first.z) e.first.on; near = near_self strict D e.first.z o }
shown_near strict D a b sa sb o (by_second h) =
    let e : EnclosedBy b.areas (chains a) = enclosed_by b.areas (chains a) sa.joined h in
    record { p = e.first.z; q = e.first.z; of_a = or_left (on_any (bones a) e.first.z) (inside_any a.areas e.first.z) e.first.on; of_b = has_of b e.r e.first.z e.among e.first.inside; near = near_self strict D e.first.z o }
