-- A shape of all points of its bounds, and what is near a shape lies in the grown one.
use Rattle.std.proofs.Common.{ℕ, ◌≡◌, ◌+◌, arith, refl, sym, ap, ◌∙◌, subst, Bool, true, false, cond, int_eq, int_lt, List, [], ◌∷◌}
use Rattle.std.specs.Int.{int_min, int_max}
use Rattle.std.proofs.lemmas.Bool.Decides.{Decides-int_eq}
use Rattle.std.specs.List.{list_any, list_all, count_by}
use mathlib.Core.Bool.{◌&&◌, ◌||◌}
use mathlib.Core.Logic.{◌⊎◌, inl, inr}
use lib.IntN.{ℤ, pos, ◌+ℤ◌, ◌-ℤ◌, ◌*ℤ◌, neg_ℤ, *ℤ_comm, zero-*ℤ, *ℤ-zero}
use lib.Signed.{◌<ℤ◌, ◌≤ℤ◌, lt_z, le_z}
use Rattle.sg_algebra.proofs.Ring.{sums, products, mul-nonneg, mul-pos, nonneg_diff-mul, lt-mul_right}
use Rattle.sg_algebra.proofs.Cancelling.{lt-cancel_right, le-cancel_right}
use Rattle.sg_algebra.specs.Orders.{Cmp, less, same, more, cmp}
use Rattle.sg_algebra.proofs.Comparisons.{le-from_true, true-from_le, true-from_lt, true-from_eq, left_true, right_true, both, either_true, or_left, or_right, lt-from_true, is_false, false-from_le}
use Rattle.sg_algebra.proofs.Edges.{between_up, on_edge-flat, on_edge-turned, crosses_ray-flat}
use Rattle.sg_plane.proofs.Totals.{ind}
use Rattle.sg_shape.specs.declared.spots.Spot.{Spot}
use Rattle.sg_shape.specs.declared.spots.Edge.{Edge}
use Rattle.sg_shape.specs.Plane.{Point, Parts, In, Bd, Out, same_spot, lines_status, is_in, is_bd, odd, eq_z, is_at, between, on_edge, crosses_ray, edges_of, ends_at}
use Rattle.sg_shape.specs.declared.bounds.Bounds.{Bounds}
use Rattle.sg_shape.specs.declared.shapes.Shape.TheVariants as shape
use Rattle.sg_shape.specs.Shapes.{parts_of}
use Rattle.sg_shape.specs.Grown.{moved_within, as_shape}
use Rattle.sg_shape.specs.Near.{square, apart, is_within}
use Rattle.sg_shape.specs.Boxes.{is_held, within as side_within, HasPoint, InBox}
use Rattle.sg_plane.specs.Reach.{is_closed, are_closed, spots_of, lies_in, all_in, box_of, LiesInBounds, IsFilled, ReachesNear}
use Rattle.sg_plane.proofs.Lists.{Each, each_more}
use Rattle.sg_plane.proofs.Bounds.{count-total, Inside, Within, within}

-- a spot by its coordinates
abbrev pub spot_at : ℤ → ℤ → Spot
spot_at x y = record { x = x; y = y }

-- ---- one edge or a ring of four
line_is : (o a : Bool) → a ≡ true →
    is_held (cond ((false || is_in (cond o Bd (cond (a || false) In Out))) || false) In (cond (is_bd (cond o Bd (cond (a || false) In Out)) || false) Bd Out)) ≡ true
line_is true true e = refl
line_is false true e = refl
line_is o false e = absurd (cc)

area_is : (a o : Bool) → (a ≡ true) ⊎ (o ≡ true) →
    is_held (cond (is_in (cond a Bd (cond o In Out)) || false) In (cond (is_bd (cond a Bd (cond o In Out)) || false) Bd Out)) ≡ true
area_is true o e = refl
area_is false true e = refl
area_is false false (inl e) = absurd (cc)
area_is false false (inr e) = absurd (cc)

line_has : (s t : Spot) (p : Point) → on_edge (record { from = s; to = t }) p ≡ true → HasPoint (parts_of (shape.Line (s ∷ t ∷ []))) p
line_has s t p h = line_is (odd (count_by (ends_at p) ((s ∷ t ∷ []) ∷ []))) (on_edge (record { from = s; to = t }) p) h

area_has : (r : List Spot) (p : Point) → (list_any (λ e. on_edge e p) (edges_of (r ∷ [])) ≡ true) ⊎ (odd (count_by (λ e. crosses_ray e p) (edges_of (r ∷ []))) ≡ true) →
    HasPoint (parts_of (shape.Polygon (r ∷ []))) p
area_has r p h = area_is (list_any (λ e. on_edge e p) (edges_of (r ∷ []))) (odd (count_by (λ e. crosses_ray e p) (edges_of (r ∷ [])))) h

-- ---- upright and level edges
upright_on : (x y0 y1 : ℤ) (p : Point) → p.x ≡ x *ℤ pos p.n → (y0 *ℤ pos p.n) ≤ℤ p.y → p.y ≤ℤ (y1 *ℤ pos p.n) → on_edge (record { from = spot_at x y0; to = spot_at x y1 }) p ≡ true
upright_on x y0 y1 p e h k =
    let a : p.x -ℤ x *ℤ pos p.n ≡ pos 0 = omega (arith, sums, e) in
    let b : x -ℤ x ≡ pos 0 = omega (arith, sums) in
    let z : (p.x -ℤ x *ℤ pos p.n) *ℤ (y1 -ℤ y0) ≡ (p.y -ℤ y0 *ℤ pos p.n) *ℤ (x -ℤ x) = rw (a, b, zero-*ℤ, *ℤ-zero) refl in
    both (eq_z ((p.x -ℤ x *ℤ pos p.n) *ℤ (y1 -ℤ y0)) ((p.y -ℤ y0 *ℤ pos p.n) *ℤ (x -ℤ x))) (between (x *ℤ pos p.n) (x *ℤ pos p.n) p.x && between (y0 *ℤ pos p.n) (y1 *ℤ pos p.n) p.y)
    (true-from_eq ((p.x -ℤ x *ℤ pos p.n) *ℤ (y1 -ℤ y0)) ((p.y -ℤ y0 *ℤ pos p.n) *ℤ (x -ℤ x)) z)
    (both (between (x *ℤ pos p.n) (x *ℤ pos p.n) p.x) (between (y0 *ℤ pos p.n) (y1 *ℤ pos p.n) p.y)
    (between_up (x *ℤ pos p.n) (x *ℤ pos p.n) p.x (omega (arith, sums, e)) (omega (arith, sums, e))) (between_up (y0 *ℤ pos p.n) (y1 *ℤ pos p.n) p.y h k))

level_on : (x0 x1 y : ℤ) (p : Point) → p.y ≡ y *ℤ pos p.n → (x0 *ℤ pos p.n) ≤ℤ p.x → p.x ≤ℤ (x1 *ℤ pos p.n) → on_edge (record { from = spot_at x0 y; to = spot_at x1 y }) p ≡ true
level_on x0 x1 y p e h k =
    on_edge-flat (spot_at x0 y) (spot_at x1 y) refl p
    ∙ both (eq_z p.y (y *ℤ pos p.n)) (between (x0 *ℤ pos p.n) (x1 *ℤ pos p.n) p.x) (true-from_eq p.y (y *ℤ pos p.n) e) (between_up (x0 *ℤ pos p.n) (x1 *ℤ pos p.n) p.x h k)

upright_right : (x y0 y1 : ℤ) (p : Point) → (y0 *ℤ pos p.n) <ℤ p.y → p.y <ℤ (y1 *ℤ pos p.n) → p.x <ℤ (x *ℤ pos p.n) → crosses_ray (record { from = spot_at x y0; to = spot_at x y1 }) p ≡ true
upright_right x y0 y1 p h k l =
    let pn : pos 0 <ℤ pos p.n = omega (arith, sums, p.is_over) in
    let o : y0 <ℤ y1 = lt-cancel_right y0 y1 (pos p.n) pn (omega (arith, sums, h, k)) in
    let b : x -ℤ x ≡ pos 0 = omega (arith, sums) in
    let c : (p.y -ℤ y0 *ℤ pos p.n) *ℤ (x -ℤ x) ≡ pos 0 = rw (b, *ℤ-zero) refl in
    let d : ((p.x -ℤ x *ℤ pos p.n) *ℤ (y1 -ℤ y0)) <ℤ (pos 0 *ℤ (y1 -ℤ y0)) = lt-mul_right (p.x -ℤ x *ℤ pos p.n) (pos 0) (y1 -ℤ y0) (omega (arith, sums, o)) (omega (arith, sums, l)) in
    let z : pos 0 *ℤ (y1 -ℤ y0) ≡ pos 0 = zero-*ℤ (y1 -ℤ y0) in
    rw (
      true-from_lt p.y (y1 *ℤ pos p.n) k,
      false-from_le p.y (y0 *ℤ pos p.n) (omega (arith, sums, h)),
      true-from_lt ((p.x -ℤ x *ℤ pos p.n) *ℤ (y1 -ℤ y0)) ((p.y -ℤ y0 *ℤ pos p.n) *ℤ (x -ℤ x)) (omega (arith, sums, c, d, z)),
    ) refl

upright_left : (x y0 y1 : ℤ) (p : Point) → (y0 *ℤ pos p.n) <ℤ p.y → p.y <ℤ (y1 *ℤ pos p.n) → (x *ℤ pos p.n) <ℤ p.x → crosses_ray (record { from = spot_at x y1; to = spot_at x y0 }) p ≡ false
upright_left x y0 y1 p h k l =
    let pn : pos 0 <ℤ pos p.n = omega (arith, sums, p.is_over) in
    let o : y0 <ℤ y1 = lt-cancel_right y0 y1 (pos p.n) pn (omega (arith, sums, h, k)) in
    let b : x -ℤ x ≡ pos 0 = omega (arith, sums) in
    let c : (p.y -ℤ y0 *ℤ pos p.n) *ℤ (x -ℤ x) ≡ pos 0 = rw (b, *ℤ-zero) refl in
    let d : pos 0 <ℤ ((p.x -ℤ x *ℤ pos p.n) *ℤ (y1 -ℤ y0)) = mul-pos (p.x -ℤ x *ℤ pos p.n) (y1 -ℤ y0) (omega (arith, sums, l)) (omega (arith, sums, o)) in
    rw (
      true-from_lt p.y (y1 *ℤ pos p.n) k,
      false-from_le p.y (y0 *ℤ pos p.n) (omega (arith, sums, h)),
      false-from_le ((p.x -ℤ x *ℤ pos p.n) *ℤ (y1 -ℤ y0)) ((p.y -ℤ y0 *ℤ pos p.n) *ℤ (x -ℤ x)) (omega (arith, sums, c, d)),
    ) refl

-- ---- the four kinds of bounds
abbrev corners : ℤ → ℤ → ℤ → ℤ → List Spot
corners x0 y0 x1 y1 = spot_at x0 y0 ∷ spot_at x1 y0 ∷ spot_at x1 y1 ∷ spot_at x0 y1 ∷ spot_at x0 y0 ∷ []

four_on : (a b c d : Bool) → (a ≡ true) ⊎ ((b ≡ true) ⊎ ((c ≡ true) ⊎ (d ≡ true))) → (a || (b || (c || (d || false)))) ≡ true
four_on a b c d (inl e) = or_left a (b || (c || (d || false))) e
four_on a b c d (inr (inl e)) = or_right a (b || (c || (d || false))) (or_left b (c || (d || false)) e)
four_on a b c d (inr (inr (inl e))) = or_right a (b || (c || (d || false))) (or_right b (c || (d || false)) (or_left c (d || false) e))
four_on a b c d (inr (inr (inr e))) = or_right a (b || (c || (d || false))) (or_right b (c || (d || false)) (or_right c (d || false) (or_left d false e)))

one_of_four : (a b c d : Bool) → a ≡ false → b ≡ true → c ≡ false → d ≡ false → odd (ind a + (ind b + (ind c + (ind d + 0)))) ≡ true
one_of_four a b c d e f g h = rw (e, f, g, h) refl

module _ (x0 y0 x1 y1 : ℤ) (p : Point) (w : Within x0 x1 y0 y1 p) where
  abbrev N : ℤ
  N = pos p.n

  over : pos 0 <ℤ pos p.n
  over = omega (arith, sums, p.is_over)

  ring_has : HasPoint (parts_of (shape.Polygon (corners x0 y0 x1 y1 ∷ []))) p
  ring_has = area_has (corners x0 y0 x1 y1) p (by_sides (cmp (y0 *ℤ pos p.n) p.y) (cmp p.y (y1 *ℤ pos p.n)) (cmp (x0 *ℤ pos p.n) p.x) (cmp p.x (x1 *ℤ pos p.n)))
    where
      low : Edge
      low = record { from = spot_at x0 y0; to = spot_at x1 y0 }

      on_some : (on_edge (record { from = spot_at x0 y0; to = spot_at x1 y0 }) p ≡ true) ⊎ ((on_edge (record { from = spot_at x1 y0; to = spot_at x1 y1 }) p ≡ true) ⊎ ((on_edge (record { from = spot_at x1 y1; to = spot_at x0 y1 }) p ≡ true) ⊎ (on_edge (record { from = spot_at x0 y1; to = spot_at x0 y0 }) p ≡ true))) →
          (list_any (λ e. on_edge e p) (edges_of (corners x0 y0 x1 y1 ∷ [])) ≡ true) ⊎ (odd (count_by (λ e. crosses_ray e p) (edges_of (corners x0 y0 x1 y1 ∷ []))) ≡ true)
      on_some h = inl (four_on (on_edge (record { from = spot_at x0 y0; to = spot_at x1 y0 }) p) (on_edge (record { from = spot_at x1 y0; to = spot_at x1 y1 }) p) (on_edge (record { from = spot_at x1 y1; to = spot_at x0 y1 }) p) (on_edge (record { from = spot_at x0 y1; to = spot_at x0 y0 }) p) h)

      by_sides : Cmp (y0 *ℤ pos p.n) p.y → Cmp p.y (y1 *ℤ pos p.n) → Cmp (x0 *ℤ pos p.n) p.x → Cmp p.x (x1 *ℤ pos p.n) →
          (list_any (λ e. on_edge e p) (edges_of (corners x0 y0 x1 y1 ∷ [])) ≡ true) ⊎ (odd (count_by (λ e. crosses_ray e p) (edges_of (corners x0 y0 x1 y1 ∷ []))) ≡ true)
      by_sides (same a) b c d = on_some (inl (level_on x0 x1 y0 p (sym a) w.left w.right))
      by_sides (more a) b c d = absurd (omega (arith, sums, a, w.low))
      by_sides (less a) (same b) c d = on_some (inr (inr (inl (on_edge-turned (spot_at x0 y1) (spot_at x1 y1) p ∙ level_on x0 x1 y1 p b w.left w.right))))
      by_sides (less a) (more b) c d = absurd (omega (arith, sums, b, w.high))
      by_sides (less a) (less b) (same c) d = on_some (inr (inr (inr (on_edge-turned (spot_at x0 y0) (spot_at x0 y1) p ∙ upright_on x0 y0 y1 p (sym c) w.low w.high))))
      by_sides (less a) (less b) (more c) d = absurd (omega (arith, sums, c, w.left))
      by_sides (less a) (less b) (less c) (same d) = on_some (inr (inl (upright_on x1 y0 y1 p d w.low w.high)))
      by_sides (less a) (less b) (less c) (more d) = absurd (omega (arith, sums, d, w.right))
      by_sides (less a) (less b) (less c) (less d) =
          inr (ap odd (count-total (λ e. crosses_ray e p) (edges_of (corners x0 y0 x1 y1 ∷ [])))
          ∙ one_of_four (crosses_ray (record { from = spot_at x0 y0; to = spot_at x1 y0 }) p) (crosses_ray (record { from = spot_at x1 y0; to = spot_at x1 y1 }) p) (crosses_ray (record { from = spot_at x1 y1; to = spot_at x0 y1 }) p) (crosses_ray (record { from = spot_at x0 y1; to = spot_at x0 y0 }) p)
          (crosses_ray-flat (spot_at x0 y0) (spot_at x1 y0) refl p) (upright_right x1 y0 y1 p a b d) (crosses_ray-flat (spot_at x1 y1) (spot_at x0 y1) refl p) (upright_left x0 y0 y1 p a b c))

  not_over_x : x1 <ℤ x0 → ⊥
  not_over_x h = let k : (x1 *ℤ pos p.n) <ℤ (x0 *ℤ pos p.n) = lt-mul_right x1 x0 (pos p.n) over h in omega (arith, sums, k, w.left, w.right)

  not_over_y : y1 <ℤ y0 → ⊥
  not_over_y h = let k : (y1 *ℤ pos p.n) <ℤ (y0 *ℤ pos p.n) = lt-mul_right y1 y0 (pos p.n) over h in omega (arith, sums, k, w.low, w.high)

  not_eq : (a b : ℤ) → a <ℤ b → int_eq a b ≡ false
  not_eq a b h = is_false (int_eq a b) (λ t. let e : a ≡ b = (Decides-int_eq a b).0 t in omega (arith, sums, h, e))

  is_eq : (a b : ℤ) → a ≡ b → int_eq a b ≡ true
  is_eq a b e = (Decides-int_eq a b).1 e

  in_x : x0 ≡ x1 → p.x ≡ x0 *ℤ pos p.n
  in_x e = let k : x0 *ℤ pos p.n ≡ x1 *ℤ pos p.n = ap (λ (z : ℤ). z *ℤ pos p.n) e in omega (arith, sums, k, w.left, w.right)

  in_y : y0 ≡ y1 → p.y ≡ y0 *ℤ pos p.n
  in_y e = let k : y0 *ℤ pos p.n ≡ y1 *ℤ pos p.n = ap (λ (z : ℤ). z *ℤ pos p.n) e in omega (arith, sums, k, w.low, w.high)

  point_is : (a : Bool) → a ≡ true → is_held (cond (((a || false) || is_in (lines_status [] p)) || false) In (cond (is_bd (lines_status [] p) || false) Bd Out)) ≡ true
  point_is true e = refl
  point_is false e = absurd (cc)

  point_has : x0 ≡ x1 → y0 ≡ y1 → HasPoint (parts_of (shape.Point (spot_at x0 y0))) p
  point_has e f = point_is (is_at (spot_at x0 y0) p) (both (eq_z p.x (x0 *ℤ pos p.n)) (eq_z p.y (y0 *ℤ pos p.n)) (true-from_eq p.x (x0 *ℤ pos p.n) (in_x e)) (true-from_eq p.y (y0 *ℤ pos p.n) (in_y f)))

  -- a line from corner to corner
  upright_held : x0 ≡ x1 → HasPoint (parts_of (shape.Line (spot_at x0 y0 ∷ spot_at x1 y1 ∷ []))) p
  upright_held e =
      line_has (spot_at x0 y0) (spot_at x1 y1) p
      (subst (λ (x : ℤ). on_edge (record { from = spot_at x0 y0; to = spot_at x y1 }) p ≡ true) e (upright_on x0 y0 y1 p (in_x e) w.low w.high))

  level_held : y0 ≡ y1 → HasPoint (parts_of (shape.Line (spot_at x0 y0 ∷ spot_at x1 y1 ∷ []))) p
  level_held f =
      line_has (spot_at x0 y0) (spot_at x1 y1) p
      (subst (λ (y : ℤ). on_edge (record { from = spot_at x0 y0; to = spot_at x1 y }) p ≡ true) f (level_on x0 x1 y0 p (in_y f) w.left w.right))

  pub filled_has : HasPoint (parts_of (as_shape (record { xmin = x0; ymin = y0; xmax = x1; ymax = y1 }))) p
  filled_has = by_sizes (cmp x0 x1) (cmp y0 y1)
    where
      by_sizes : Cmp x0 x1 → Cmp y0 y1 → HasPoint (parts_of (as_shape (record { xmin = x0; ymin = y0; xmax = x1; ymax = y1 }))) p
      by_sizes (more h) d = absurd (not_over_x h)
      by_sizes c (more h) = absurd (not_over_y h)
      by_sizes (same e) (same f) = rw (is_eq x0 x1 e, is_eq y0 y1 f) (point_has e f)
      by_sizes (same e) (less f) = rw (is_eq x0 x1 e, not_eq y0 y1 f) (upright_held e)
      by_sizes (less e) (same f) = rw (not_eq x0 x1 e, is_eq y0 y1 f) (level_held f)
      by_sizes (less e) (less f) = rw (not_eq x0 x1 e, not_eq y0 y1 f) ring_has

-- ---- squares
nonneg_square : (g : ℤ) → pos 0 ≤ℤ square g
nonneg_square g = by_cmp (cmp g (pos 0))
  where
    turn : (g : ℤ) → neg_ℤ g *ℤ neg_ℤ g ≡ g *ℤ g
    turn g = simp products (omega (arith, sums))

    by_cmp : Cmp g (pos 0) → pos 0 ≤ℤ square g
    by_cmp (less h) = let k : pos 0 ≤ℤ (neg_ℤ g *ℤ neg_ℤ g) = mul-nonneg (neg_ℤ g) (neg_ℤ g) (omega (arith, sums, h)) (omega (arith, sums, h)) in omega (arith, sums, k, turn g)
    by_cmp (same e) = mul-nonneg g g (omega (arith, sums, e)) (omega (arith, sums, e))
    by_cmp (more h) = mul-nonneg g g (omega (arith, sums, h)) (omega (arith, sums, h))

root_below : (a b : ℤ) → pos 0 ≤ℤ b → square a ≤ℤ square b → a ≤ℤ b
root_below a b h k = by_cmp (cmp a b)
  where
    by_cmp : Cmp a b → a ≤ℤ b
    by_cmp (less l) = omega (arith, sums, l)
    by_cmp (same l) = omega (arith, sums, l)
    by_cmp (more l) =
        let u : (b *ℤ b) ≤ℤ (a *ℤ b) = nonneg_diff-mul b a b h (omega (arith, sums, l)) in
        let v : (b *ℤ a) <ℤ (a *ℤ a) = lt-mul_right b a a (omega (arith, sums, h, l)) l in
        let c : b *ℤ a ≡ a *ℤ b = *ℤ_comm b a in
        absurd (omega (arith, sums, u, v, c, k))

neg-square : (a : ℤ) → square (neg_ℤ a) ≡ square a
neg-square a = simp products (omega (arith, sums))

abbrev gap_x : Point → Point → ℤ
gap_x p q = p.x *ℤ pos q.n -ℤ q.x *ℤ pos p.n

abbrev gap_y : Point → Point → ℤ
gap_y p q = p.y *ℤ pos q.n -ℤ q.y *ℤ pos p.n

abbrev far : ℕ → Point → Point → ℤ
far d p q = pos d *ℤ (pos p.n *ℤ pos q.n)

abbrev Gaps : ℕ → Point → Point → Type 0
Gaps d p q = apart p q ≤ℤ square (far d p q)

gaps_of : (d : ℕ) (strict : Bool) (p q : Point) → is_within p q d strict ≡ true → Gaps d p q
gaps_of d true p q h = let k : apart p q <ℤ square (far d p q) = lt-from_true (apart p q) (square (far d p q)) h in omega (arith, sums, k)
gaps_of d false p q h = le-from_true (apart p q) (square (far d p q)) h

-- each gap is at most the bound, either way
pub record Reach (g r : ℤ) : Type 0 where
  pub up : g ≤ℤ r
  pub down : neg_ℤ g ≤ℤ r

reach_of : (g h r : ℤ) → pos 0 ≤ℤ r → (square g +ℤ square h) ≤ℤ square r → Reach g r
reach_of g h r o k =
    let z : pos 0 ≤ℤ square h = nonneg_square h in
    let e : square (neg_ℤ g) ≡ square g = neg-square g in
    record {
      up = root_below g r o (omega (arith, sums, k, z));
      down = root_below (neg_ℤ g) r o (omega (arith, sums, k, z, e));
    }

-- a number within d of one that lies from lo on, and to hi
from_low : (lo : ℤ) (d : ℕ) (x y n m : ℤ) → pos 0 <ℤ n → pos 0 <ℤ m → (lo *ℤ m) ≤ℤ y → neg_ℤ (x *ℤ m -ℤ y *ℤ n) ≤ℤ (pos d *ℤ (n *ℤ m)) → ((lo -ℤ pos d) *ℤ n) ≤ℤ x
from_low lo d x y n m pn pm h k =
    let a : ((lo *ℤ m) *ℤ n) ≤ℤ (y *ℤ n) = nonneg_diff-mul (lo *ℤ m) y n (omega (arith, sums, pn)) h in
    let e : ((lo -ℤ pos d) *ℤ n) *ℤ m ≡ (lo *ℤ m) *ℤ n -ℤ pos d *ℤ (n *ℤ m) = simp products (omega (arith, sums)) in
    le-cancel_right ((lo -ℤ pos d) *ℤ n) x m pm (omega (arith, sums, a, e, k))

to_high : (hi : ℤ) (d : ℕ) (x y n m : ℤ) → pos 0 <ℤ n → pos 0 <ℤ m → y ≤ℤ (hi *ℤ m) → (x *ℤ m -ℤ y *ℤ n) ≤ℤ (pos d *ℤ (n *ℤ m)) → x ≤ℤ ((hi +ℤ pos d) *ℤ n)
to_high hi d x y n m pn pm h k =
    let a : (y *ℤ n) ≤ℤ ((hi *ℤ m) *ℤ n) = nonneg_diff-mul y (hi *ℤ m) n (omega (arith, sums, pn)) h in
    let e : ((hi +ℤ pos d) *ℤ n) *ℤ m ≡ (hi *ℤ m) *ℤ n +ℤ pos d *ℤ (n *ℤ m) = simp products (omega (arith, sums)) in
    le-cancel_right x ((hi +ℤ pos d) *ℤ n) m pm (omega (arith, sums, a, e, k))

greater_below : (a b n x : ℤ) → (a *ℤ n) ≤ℤ x → (b *ℤ n) ≤ℤ x → (int_max a b *ℤ n) ≤ℤ x
greater_below a b n x h k = by_test (int_lt b a)
  where
    by_test : (t : Bool) → (cond t a b *ℤ n) ≤ℤ x
    by_test true = h
    by_test false = k

lesser_above : (a b n x : ℤ) → x ≤ℤ (a *ℤ n) → x ≤ℤ (b *ℤ n) → x ≤ℤ (int_min a b *ℤ n)
lesser_above a b n x h k = by_test (int_lt b a)
  where
    by_test : (t : Bool) → x ≤ℤ (cond t b a *ℤ n)
    by_test true = k
    by_test false = h

-- ---- tests as facts
each_of-all : {A : Type 0} (t : A → Bool) (xs : List A) → list_all t xs ≡ true → Each (λ x. t x ≡ true) xs
each_of-all t [] h = tt
each_of-all t (x ∷ xs) h = (left_true (t x) (list_all t xs) h, each_of-all t xs (right_true (t x) (list_all t xs) h))

closed_of : (k : Parts) → are_closed k ≡ true → Each (λ a. Each (λ r. is_closed r ≡ true) a) k.areas
closed_of k h =
    each_more {P = λ a. list_all is_closed a ≡ true} (λ a e. each_of-all is_closed a e) k.areas (each_of-all (λ a. list_all is_closed a) k.areas h)

inside_of : (b : Bounds) (q : Point) (s : Spot) → lies_in b s ≡ true → Inside b.xmin b.xmax b.ymin b.ymax q s
inside_of b q s h =
    let a : (le_z s.x b.xmax && (le_z b.ymin s.y && le_z s.y b.ymax)) ≡ true = right_true (le_z b.xmin s.x) (le_z s.x b.xmax && (le_z b.ymin s.y && le_z s.y b.ymax)) h in
    let c : (le_z b.ymin s.y && le_z s.y b.ymax) ≡ true = right_true (le_z s.x b.xmax) (le_z b.ymin s.y && le_z s.y b.ymax) a in
    record {
      left = le-from_true b.xmin s.x (left_true (le_z b.xmin s.x) _ h);
      right = le-from_true s.x b.xmax (left_true (le_z s.x b.xmax) _ a);
      low = le-from_true b.ymin s.y (left_true (le_z b.ymin s.y) _ c);
      high = le-from_true s.y b.ymax (right_true (le_z b.ymin s.y) _ c);
    }

-- ---- a box with all four sides
in_sides : (low high v : ℤ) (n : ℕ) → (low *ℤ pos n) ≤ℤ v → v ≤ℤ (high *ℤ pos n) → side_within low high true v n ≡ true
in_sides low high v n h k =
    both (le_z (low *ℤ pos n) v) (lt_z v (high *ℤ pos n) || (true && le_z v (high *ℤ pos n)))
    (true-from_le (low *ℤ pos n) v h) (or_right (lt_z v (high *ℤ pos n)) (true && le_z v (high *ℤ pos n)) (true-from_le v (high *ℤ pos n) k))

sides_of : (low high v : ℤ) (n : ℕ) → side_within low high true v n ≡ true → ((low *ℤ pos n) ≤ℤ v) × (v ≤ℤ (high *ℤ pos n))
sides_of low high v n h = (
  le-from_true (low *ℤ pos n) v (left_true (le_z (low *ℤ pos n) v) (lt_z v (high *ℤ pos n) || (true && le_z v (high *ℤ pos n))) h),
  below (either_true (lt_z v (high *ℤ pos n)) (true && le_z v (high *ℤ pos n)) (right_true (le_z (low *ℤ pos n) v) (lt_z v (high *ℤ pos n) || (true && le_z v (high *ℤ pos n))) h)),
)
  where
    below : (lt_z v (high *ℤ pos n) ≡ true) ⊎ ((true && le_z v (high *ℤ pos n)) ≡ true) → v ≤ℤ (high *ℤ pos n)
    below (inl e) = let k : v <ℤ (high *ℤ pos n) = lt-from_true v (high *ℤ pos n) e in omega (arith, sums, k)
    below (inr e) = le-from_true v (high *ℤ pos n) e

box_from : (b : Bounds) (p : Point) → Within b.xmin b.xmax b.ymin b.ymax p → InBox (box_of b) p
box_from b p w =
    both (side_within b.xmin b.xmax true p.x p.n) (side_within b.ymin b.ymax true p.y p.n)
    (in_sides b.xmin b.xmax p.x p.n w.left w.right) (in_sides b.ymin b.ymax p.y p.n w.low w.high)

within_from : (b : Bounds) (p : Point) → InBox (box_of b) p → Within b.xmin b.xmax b.ymin b.ymax p
within_from b p h =
    let x = sides_of b.xmin b.xmax p.x p.n (left_true (side_within b.xmin b.xmax true p.x p.n) (side_within b.ymin b.ymax true p.y p.n) h) in
    let y = sides_of b.ymin b.ymax p.y p.n (right_true (side_within b.xmin b.xmax true p.x p.n) (side_within b.ymin b.ymax true p.y p.n) h) in
    record { left = x.0; right = x.1; low = y.0; high = y.1 }

-- ---- the laws
within_of : (k : Parts) (b : Bounds) (p : Point) → are_closed k ≡ true → all_in b k ≡ true → HasPoint k p → Within b.xmin b.xmax b.ymin b.ymax p
within_of k b p c i h =
    within b.xmin b.xmax b.ymin b.ymax p k (each_more {P = λ t. lies_in b t ≡ true} (λ t e. inside_of b p t e) (spots_of k) (each_of-all (lies_in b) (spots_of k) i)) (closed_of k c) h

pub lies_in_bounds : LiesInBounds
lies_in_bounds k b c i p h = box_from b p (within_of k b p c i h)

-- the corners of bounds lie in them
corner : (b : Bounds) (x y : ℤ) → b.xmin ≤ℤ x → x ≤ℤ b.xmax → b.ymin ≤ℤ y → y ≤ℤ b.ymax → lies_in b (spot_at x y) ≡ true
corner b x y h1 h2 h3 h4 = rw (true-from_le b.xmin x h1, true-from_le x b.xmax h2, true-from_le b.ymin y h3, true-from_le y b.ymax h4) refl

filled_in : (b : Bounds) → b.xmin ≤ℤ b.xmax → b.ymin ≤ℤ b.ymax → (all_in b (parts_of (as_shape b)) ≡ true) × (are_closed (parts_of (as_shape b)) ≡ true)
filled_in b h k = by_sides (int_eq b.xmin b.xmax) refl (int_eq b.ymin b.ymax) refl
  where
    self : (x y : ℤ) → same_spot (spot_at x y) (spot_at x y) ≡ true
    self x y = both (eq_z x x) (eq_z y y) (true-from_eq x x refl) (true-from_eq y y refl)

    ll : lies_in b (spot_at b.xmin b.ymin) ≡ true
    ll = corner b b.xmin b.ymin (omega (arith, sums)) h (omega (arith, sums)) k

    lr : lies_in b (spot_at b.xmax b.ymin) ≡ true
    lr = corner b b.xmax b.ymin h (omega (arith, sums)) (omega (arith, sums)) k

    ul : lies_in b (spot_at b.xmin b.ymax) ≡ true
    ul = corner b b.xmin b.ymax (omega (arith, sums)) h k (omega (arith, sums))

    ur : lies_in b (spot_at b.xmax b.ymax) ≡ true
    ur = corner b b.xmax b.ymax h (omega (arith, sums)) k (omega (arith, sums))

    by_sides : (s : Bool) → int_eq b.xmin b.xmax ≡ s → (t : Bool) → int_eq b.ymin b.ymax ≡ t → (all_in b (parts_of (as_shape b)) ≡ true) × (are_closed (parts_of (as_shape b)) ≡ true)
    by_sides true e true f = (rw (e, f, ll) refl, rw (e, f) refl)
    by_sides true e false f = (rw (e, f, ll, ur) refl, rw (e, f) refl)
    by_sides false e true f = (rw (e, f, ll, ur) refl, rw (e, f) refl)
    by_sides false e false f = (rw (e, f, ll, lr, ul, ur) refl, rw (e, f, self b.xmin b.ymin) refl)

pub is_filled : IsFilled
is_filled b h k p = (
  λ o. lies_in_bounds (parts_of (as_shape b)) b (filled_in b h k).1 (filled_in b h k).0 p o,
  λ i. filled_has b.xmin b.ymin b.xmax b.ymax p (within_from b p i),
)

pub reaches_near : ReachesNear
reaches_near k b outer d strict c i p q h l g =
    let w : Within b.xmin b.xmax b.ymin b.ymax q = within_of k b q c i h in
    let v : Within outer.xmin outer.xmax outer.ymin outer.ymax p = within_from outer p l in
    let pn : pos 0 <ℤ pos p.n = omega (arith, sums, p.is_over) in
    let qn : pos 0 <ℤ pos q.n = omega (arith, sums, q.is_over) in
    let nm : pos 0 ≤ℤ (pos p.n *ℤ pos q.n) = mul-nonneg (pos p.n) (pos q.n) (omega (arith, sums, pn)) (omega (arith, sums, qn)) in
    let r : pos 0 ≤ℤ far d p q = mul-nonneg (pos d) (pos p.n *ℤ pos q.n) (omega (arith, sums)) nm in
    let s : Gaps d p q = gaps_of d strict p q g in
    let x : Reach (gap_x p q) (far d p q) = reach_of (gap_x p q) (gap_y p q) (far d p q) r s in
    let y : Reach (gap_y p q) (far d p q) = reach_of (gap_y p q) (gap_x p q) (far d p q) r (omega (arith, sums, s)) in
    filled_has (moved_within outer b d).xmin (moved_within outer b d).ymin (moved_within outer b d).xmax (moved_within outer b d).ymax p
    (record {
      left = greater_below (b.xmin -ℤ pos d) outer.xmin (pos p.n) p.x (from_low b.xmin d p.x q.x (pos p.n) (pos q.n) pn qn w.left x.down) v.left;
      right = lesser_above (b.xmax +ℤ pos d) outer.xmax (pos p.n) p.x (to_high b.xmax d p.x q.x (pos p.n) (pos q.n) pn qn w.right x.up) v.right;
      low = greater_below (b.ymin -ℤ pos d) outer.ymin (pos p.n) p.y (from_low b.ymin d p.y q.y (pos p.n) (pos q.n) pn qn w.low y.down) v.low;
      high = lesser_above (b.ymax +ℤ pos d) outer.ymax (pos p.n) p.y (to_high b.ymax d p.y q.y (pos p.n) (pos q.n) pn qn w.high y.up) v.high;
    })
