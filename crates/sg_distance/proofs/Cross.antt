-- The test of two edges is complete and sound.
use Rattle.std.proofs.Common.{◌≡◌, arith, refl, sym, ap, ◌∙◌, Bool, true}
use mathlib.Core.Logic.{◌⊎◌, inl, inr}
use lib.IntN.{ℤ, pos, ◌+ℤ◌, ◌-ℤ◌, ◌*ℤ◌, neg_ℤ, *ℤ_comm, zero-*ℤ, *ℤ-zero}
use lib.Signed.{◌<ℤ◌, ◌≤ℤ◌}
use Rattle.sg_algebra.proofs.Ring.{sums, products, nonneg_diff-mul, mul-neg, neg-mul, times_one}
use Rattle.sg_algebra.proofs.Cancelling.{le-cancel_right}
use Rattle.sg_algebra.specs.Orders.{Cmp, cmp, less, same, more}
use Rattle.sg_distance.proofs.Signs.{n*n, p*p, p/p}
use Rattle.sg_distance.proofs.Below.{le-below, below-cancel, below-at, square-within, Size, size}
use Rattle.sg_distance.proofs.Mix.{Along, along-on, along-on_edge, on-line, on-from, on-to, line-mix}
use Rattle.sg_distance.proofs.Foot.{near_edge, NearEdge, near_from, near_to, near_foot, AtFoot, along_of, across_of, square, along-turned}
use Rattle.sg_distance.proofs.Pairs.{near-turned, on-along, along_span, mixed, across-mix, NearLine, slide}
use Rattle.sg_shape.specs.Plane.{Point, on_edge}
use Rattle.sg_segment.specs.Sides.{point_at}
use Rattle.sg_shape.specs.declared.spots.Spot.{Spot}
use Rattle.sg_shape.specs.declared.spots.Edge.{Edge}
use Rattle.sg_distance.proofs.Nearness.{Below, SquareWithin, across_at, square_of}

abbrev edge : Spot → Spot → Edge
edge u v = record { from = u; to = v }

-- c and d lie strictly on two sides of the line of a and b, and a and b not both strictly on one side of the line of c and d
pub record Crosses (a b c d : Spot) : Type 0 where
  pub apart : ((across_of a b (point_at c) <ℤ pos 0) × (pos 0 <ℤ across_of a b (point_at d))) ⊎ ((across_of a b (point_at d) <ℤ pos 0) × (pos 0 <ℤ across_of a b (point_at c)))
  pub not_left : pos 0 <ℤ across_of c d (point_at a) → pos 0 <ℤ across_of c d (point_at b) → ⊥
  pub not_right : across_of c d (point_at a) <ℤ pos 0 → across_of c d (point_at b) <ℤ pos 0 → ⊥

pub data EdgesNear (strict : Bool) (D : ℤ) (a b c d : Spot) : Type 0 where
  by_c : NearEdge strict D (point_at c) a b → EdgesNear strict D a b c d
  by_d : NearEdge strict D (point_at d) a b → EdgesNear strict D a b c d
  by_a : NearEdge strict D (point_at a) c d → EdgesNear strict D a b c d
  by_b : NearEdge strict D (point_at b) c d → EdgesNear strict D a b c d
  crossed : Crosses a b c d → EdgesNear strict D a b c d

across-turned : (a b : Spot) (p : Point) → across_of b a p ≡ neg_ℤ (across_of a b p)
across-turned a b p = by_numbers a.x a.y b.x b.y p.x p.y (pos p.n)
  where
    by_numbers : (ax ay bx by x y n : ℤ) → across_at bx by ax ay x y n ≡ neg_ℤ (across_at ax ay bx by x y n)
    by_numbers ax ay bx by x y n = simp products (omega (arith, sums))

square-turned : (a b : Spot) → square b a ≡ square a b
square-turned a b = by_numbers a.x a.y b.x b.y
  where
    by_numbers : (ax ay bx by : ℤ) → square_of bx by ax ay ≡ square_of ax ay bx by
    by_numbers ax ay bx by = simp products (omega (arith, sums))

line-turned : (strict : Bool) (D : ℤ) (a b : Spot) (w r : Point) (M : ℤ) → NearLine strict D a b w r M → NearLine strict D b a w r M
line-turned strict D a b w r M n =
    let h : (neg_ℤ M *ℤ pos r.n) ≤ℤ (across_of a b r *ℤ pos w.n) = n.low in
    let k : (across_of a b r *ℤ pos w.n) ≤ℤ (M *ℤ pos r.n) = n.high in
    let hw : neg_ℤ M ≤ℤ across_of a b w = n.low_w in
    let kw : across_of a b w ≤ℤ M = n.high_w in
    let er : across_of b a r ≡ neg_ℤ (across_of a b r) = across-turned a b r in
    let ew : across_of b a w ≡ neg_ℤ (across_of a b w) = across-turned a b w in
    let f : across_of b a r *ℤ pos w.n ≡ neg_ℤ (across_of a b r *ℤ pos w.n) = ap (λ (v : ℤ). v *ℤ pos w.n) er ∙ neg-mul (across_of a b r) (pos w.n) in
    let g : neg_ℤ M *ℤ pos r.n ≡ neg_ℤ (M *ℤ pos r.n) = neg-mul M (pos r.n) in
    record {
      low = omega (arith, sums);
      high = omega (arith, sums);
      low_w = omega (arith, sums);
      high_w = omega (arith, sums);
      bound = below-at strict _ _ _ _ refl (ap (λ (v : ℤ). (D *ℤ (pos w.n *ℤ pos w.n)) *ℤ v) (sym (square-turned a b))) n.bound;
    }

-- a number between two that aren't below 0 isn't nearer to 0 than the lower one
nearer : (k s t n l x y : ℤ) → pos 0 <ℤ k → pos 0 ≤ℤ s → pos 0 ≤ℤ t → pos 0 ≤ℤ n → k *ℤ n ≡ s +ℤ t → k *ℤ l ≡ s *ℤ x +ℤ t *ℤ y → pos 0 ≤ℤ x → x ≤ℤ y →
    (pos 0 ≤ℤ (x *ℤ n)) × ((x *ℤ n) ≤ℤ l)
nearer k s t n l x y ko so tn nn e f xo xy =
    let a : (x *ℤ t) ≤ℤ (y *ℤ t) = nonneg_diff-mul x y t tn xy in
    let b : (x *ℤ n) *ℤ k ≡ x *ℤ (k *ℤ n) = simp products in
    let c : x *ℤ (k *ℤ n) ≡ x *ℤ (s +ℤ t) = ap (λ (v : ℤ). x *ℤ v) e in
    let d : x *ℤ (s +ℤ t) ≡ s *ℤ x +ℤ x *ℤ t = simp products in
    let g : t *ℤ y ≡ y *ℤ t = *ℤ_comm t y in
    let h : l *ℤ k ≡ k *ℤ l = *ℤ_comm l k in
    (n*n x n xo nn, le-cancel_right (x *ℤ n) l k ko (omega (arith, sums)))

-- what is known of w, on the edge from c to d, with its foot on the edge from a to b
pub within : (strict : Bool) (D : ℤ) (a b c d : Spot) (w : Point) → on_edge (edge c d) w ≡ true → AtFoot strict D w a b → EdgesNear strict D a b c d
within strict D a b c d w ow f = by_signs (cmp (across_of a b (point_at c)) (pos 0)) (cmp (across_of a b (point_at d)) (pos 0))
  where
    S : Size (across_of a b w)
    S = size (across_of a b w)

    wn : pos 0 <ℤ pos w.n
    wn = omega (arith, sums, w.is_over)

    long : pos 0 <ℤ square a b
    long = let h : pos 0 <ℤ along_of a b w = f.after in let k : along_of a b w <ℤ (square a b *ℤ pos w.n) = f.before in
        p/p (square a b) (pos w.n) (omega (arith, sums)) (omega (arith, sums, wn))

    bound : Below strict (S.m *ℤ S.m) ((D *ℤ (pos w.n *ℤ pos w.n)) *ℤ square a b)
    bound = below-at strict (across_of a b w *ℤ across_of a b w) ((D *ℤ (pos w.n *ℤ pos w.n)) *ℤ square a b) (S.m *ℤ S.m) ((D *ℤ (pos w.n *ℤ pos w.n)) *ℤ square a b) (sym S.square) refl f.line

    line_to : (r : Point) → (neg_ℤ S.m *ℤ pos r.n) ≤ℤ (across_of a b r *ℤ pos w.n) → (across_of a b r *ℤ pos w.n) ≤ℤ (S.m *ℤ pos r.n) → NearLine strict D a b w r S.m
    line_to r h k = record { low = h; high = k; low_w = S.under; high_w = S.above; bound = bound }

    slid_a : (r : Point) → on_edge (edge c d) r ≡ true → NearLine strict D a b w r S.m → along_of a b r ≤ℤ pos 0 → EdgesNear strict D a b c d
    slid_a r o n h =
        let m : (z : Point) × (Along w r z × SquareWithin strict D z (point_at a)) = slide strict D a b w r S.m long n f.after h in
        by_a (near_edge strict D (point_at a) m.0 c d (on-along c d m.0 (along-on (edge c d) w r m.0 m.1.0 ow o)) (near-turned strict D m.0 (point_at a) m.1.1))

    slid_b : (r : Point) → on_edge (edge c d) r ≡ true → NearLine strict D a b w r S.m → (square a b *ℤ pos r.n) ≤ℤ along_of a b r → EdgesNear strict D a b c d
    slid_b r o n h =
        let e : square b a ≡ square a b = square-turned a b in
        let l : pos 0 <ℤ square a b = long in
        let er : along_of b a r ≡ square a b *ℤ pos r.n -ℤ along_of a b r = along-turned a b r in
        let ew : along_of b a w ≡ square a b *ℤ pos w.n -ℤ along_of a b w = along-turned a b w in
        let before : along_of a b w <ℤ (square a b *ℤ pos w.n) = f.before in
        let m : (z : Point) × (Along w r z × SquareWithin strict D z (point_at b)) = slide strict D b a w r S.m (omega (arith, sums)) (line-turned strict D a b w r S.m n) (omega (arith, sums)) (omega (arith, sums)) in
        by_b (near_edge strict D (point_at b) m.0 c d (on-along c d m.0 (along-on (edge c d) w r m.0 m.1.0 ow o)) (near-turned strict D m.0 (point_at b) m.1.1))

    -- a place r of the edge from c to d that is no farther from the line than w
    placed : (r : Point) → on_edge (edge c d) r ≡ true → NearLine strict D a b w r S.m → (pos 0 <ℤ along_of a b r → along_of a b r <ℤ (square a b *ℤ pos r.n) → EdgesNear strict D a b c d) → EdgesNear strict D a b c d
    placed r o n g = elim (cmp (pos 0) (along_of a b r)) [
      | less l ↦ elim (cmp (along_of a b r) (square a b *ℤ pos r.n)) [
        | less k ↦ g l k
        | same k ↦ slid_b r o n (omega (arith, sums))
        | more k ↦ slid_b r o n (omega (arith, sums))
      ]
      | same l ↦ slid_a r o n (omega (arith, sums))
      | more l ↦ slid_a r o n (omega (arith, sums))
    ]

    foot_of : (r : Spot) → NearLine strict D a b w (point_at r) S.m → pos 0 <ℤ along_of a b (point_at r) → along_of a b (point_at r) <ℤ (square a b *ℤ pos 1) → AtFoot strict D (point_at r) a b
    foot_of r n h k = record {
      after = h;
      before = k;
      line =
          let low : (neg_ℤ S.m *ℤ pos 1) ≤ℤ (across_of a b (point_at r) *ℤ pos w.n) = n.low in
          let high : (across_of a b (point_at r) *ℤ pos w.n) ≤ℤ (S.m *ℤ pos 1) = n.high in
          let e : neg_ℤ S.m *ℤ pos 1 ≡ neg_ℤ S.m = times_one (neg_ℤ S.m) in
          let g : S.m *ℤ pos 1 ≡ S.m = times_one S.m in
          let sq : ((across_of a b (point_at r) *ℤ pos w.n) *ℤ (across_of a b (point_at r) *ℤ pos w.n)) ≤ℤ (S.m *ℤ S.m) = square-within (across_of a b (point_at r) *ℤ pos w.n) S.m (omega (arith, sums)) (omega (arith, sums)) in
          below-cancel strict (across_of a b (point_at r) *ℤ across_of a b (point_at r)) ((D *ℤ (pos 1 *ℤ pos 1)) *ℤ square a b) (pos w.n *ℤ pos w.n) (p*p (pos w.n) (pos w.n) wn wn)
          (le-below strict _ _ _
          (let x : (across_of a b (point_at r) *ℤ pos w.n) *ℤ (across_of a b (point_at r) *ℤ pos w.n) ≡ (across_of a b (point_at r) *ℤ across_of a b (point_at r)) *ℤ (pos w.n *ℤ pos w.n) = regroup (across_of a b (point_at r)) (pos w.n) in omega (arith, sums))
          (below-at strict _ _ _ _ refl (arrange D (pos w.n) (square a b)) bound));
    }
      where
        regroup : (m z : ℤ) → (m *ℤ z) *ℤ (m *ℤ z) ≡ (m *ℤ m) *ℤ (z *ℤ z)
        regroup m z = simp products

        arrange : (D w q : ℤ) → (D *ℤ (w *ℤ w)) *ℤ q ≡ ((D *ℤ (pos 1 *ℤ pos 1)) *ℤ q) *ℤ (w *ℤ w)
        arrange D w q = let e : D *ℤ (pos 1 *ℤ pos 1) ≡ D = times_one D in rw e (simp products)

    at_c : NearLine strict D a b w (point_at c) S.m → EdgesNear strict D a b c d
    at_c n = placed (point_at c) (on-from c d) n (λ h k. by_c (near_foot (foot_of c n h k)))

    at_d : NearLine strict D a b w (point_at d) S.m → EdgesNear strict D a b c d
    at_d n = placed (point_at d) (on-to c d) n (λ h k. by_d (near_foot (foot_of d n h k)))

    A : Along (point_at c) (point_at d) w
    A = on-along c d w ow

    count : A.k *ℤ pos w.n ≡ A.s +ℤ A.t
    count = let e : A.k *ℤ pos w.n ≡ A.s *ℤ pos 1 +ℤ A.t *ℤ pos 1 = A.in_n in let g : A.s *ℤ pos 1 ≡ A.s = times_one A.s in let h : A.t *ℤ pos 1 ≡ A.t = times_one A.t in omega (arith, sums)

    sum : A.k *ℤ across_of a b w ≡ A.s *ℤ across_of a b (point_at c) +ℤ A.t *ℤ across_of a b (point_at d)
    sum = line-mix a.x a.y b.x b.y A.k A.s A.t w.x w.y (pos w.n) c.x c.y (pos 1) d.x d.y (pos 1) A.in_x A.in_y A.in_n

    unit : (r : Spot) → (pos 0 ≤ℤ (across_of a b (point_at r) *ℤ pos w.n)) × ((across_of a b (point_at r) *ℤ pos w.n) ≤ℤ across_of a b w) → NearLine strict D a b w (point_at r) S.m
    unit r h =
        let h0 : pos 0 ≤ℤ (across_of a b (point_at r) *ℤ pos w.n) = h.0 in
        let h1 : (across_of a b (point_at r) *ℤ pos w.n) ≤ℤ across_of a b w = h.1 in
        let e : neg_ℤ S.m *ℤ pos 1 ≡ neg_ℤ S.m = times_one (neg_ℤ S.m) in
        let g : S.m *ℤ pos 1 ≡ S.m = times_one S.m in
        let i : pos 0 ≤ℤ S.m = S.over in
        let j : across_of a b w ≤ℤ S.m = S.above in
        line_to (point_at r) (omega (arith, sums)) (omega (arith, sums))

    tinu : (r : Spot) → (pos 0 ≤ℤ (neg_ℤ (across_of a b (point_at r)) *ℤ pos w.n)) × ((neg_ℤ (across_of a b (point_at r)) *ℤ pos w.n) ≤ℤ neg_ℤ (across_of a b w)) → NearLine strict D a b w (point_at r) S.m
    tinu r h =
        let x : neg_ℤ (across_of a b (point_at r)) *ℤ pos w.n ≡ neg_ℤ (across_of a b (point_at r) *ℤ pos w.n) = neg-mul (across_of a b (point_at r)) (pos w.n) in
        let h0 : pos 0 ≤ℤ (neg_ℤ (across_of a b (point_at r)) *ℤ pos w.n) = h.0 in
        let h1 : (neg_ℤ (across_of a b (point_at r)) *ℤ pos w.n) ≤ℤ neg_ℤ (across_of a b w) = h.1 in
        let e : neg_ℤ S.m *ℤ pos 1 ≡ neg_ℤ S.m = times_one (neg_ℤ S.m) in
        let g : S.m *ℤ pos 1 ≡ S.m = times_one S.m in
        let i : pos 0 ≤ℤ S.m = S.over in
        let j : neg_ℤ S.m ≤ℤ across_of a b w = S.under in
        line_to (point_at r) (omega (arith, sums)) (omega (arith, sums))

    neg_sum : A.k *ℤ neg_ℤ (across_of a b w) ≡ A.s *ℤ neg_ℤ (across_of a b (point_at c)) +ℤ A.t *ℤ neg_ℤ (across_of a b (point_at d))
    neg_sum = turn_sum A.k A.s A.t (across_of a b w) (across_of a b (point_at c)) (across_of a b (point_at d)) sum
      where
        turn_sum : (k s t l x y : ℤ) → k *ℤ l ≡ s *ℤ x +ℤ t *ℤ y → k *ℤ neg_ℤ l ≡ s *ℤ neg_ℤ x +ℤ t *ℤ neg_ℤ y
        turn_sum k s t l x y e = let f : s *ℤ neg_ℤ x ≡ neg_ℤ (s *ℤ x) = mul-neg s x in let g : t *ℤ neg_ℤ y ≡ neg_ℤ (t *ℤ y) = mul-neg t y in let h : k *ℤ neg_ℤ l ≡ neg_ℤ (k *ℤ l) = mul-neg k l in omega (arith, sums)

    both_over : pos 0 ≤ℤ across_of a b (point_at c) → pos 0 ≤ℤ across_of a b (point_at d) → EdgesNear strict D a b c d
    both_over h k = elim (cmp (across_of a b (point_at c)) (across_of a b (point_at d))) [
      | less l ↦ at_c (unit c (nearer A.k A.s A.t (pos w.n) (across_of a b w) (across_of a b (point_at c)) (across_of a b (point_at d)) A.k_over A.s_over A.t_over (omega (arith, sums)) count sum h (omega (arith, sums))))
      | same l ↦ at_c (unit c (nearer A.k A.s A.t (pos w.n) (across_of a b w) (across_of a b (point_at c)) (across_of a b (point_at d)) A.k_over A.s_over A.t_over (omega (arith, sums)) count sum h (omega (arith, sums))))
      | more l ↦ at_d (unit d (nearer A.k A.t A.s (pos w.n) (across_of a b w) (across_of a b (point_at d)) (across_of a b (point_at c)) A.k_over A.t_over A.s_over (omega (arith, sums))
          (let e : A.k *ℤ pos w.n ≡ A.s +ℤ A.t = count in omega (arith, sums))
          (let e : A.k *ℤ across_of a b w ≡ A.s *ℤ across_of a b (point_at c) +ℤ A.t *ℤ across_of a b (point_at d) = sum in omega (arith, sums)) k (omega (arith, sums))))
    ]

    both_under : across_of a b (point_at c) ≤ℤ pos 0 → across_of a b (point_at d) ≤ℤ pos 0 → EdgesNear strict D a b c d
    both_under h k = elim (cmp (across_of a b (point_at c)) (across_of a b (point_at d))) [
      | more l ↦ at_c (tinu c (nearer A.k A.s A.t (pos w.n) (neg_ℤ (across_of a b w)) (neg_ℤ (across_of a b (point_at c))) (neg_ℤ (across_of a b (point_at d))) A.k_over A.s_over A.t_over (omega (arith, sums)) count neg_sum (omega (arith, sums)) (omega (arith, sums))))
      | same l ↦ at_c (tinu c (nearer A.k A.s A.t (pos w.n) (neg_ℤ (across_of a b w)) (neg_ℤ (across_of a b (point_at c))) (neg_ℤ (across_of a b (point_at d))) A.k_over A.s_over A.t_over (omega (arith, sums)) count neg_sum (omega (arith, sums)) (omega (arith, sums))))
      | less l ↦ at_d (tinu d (nearer A.k A.t A.s (pos w.n) (neg_ℤ (across_of a b w)) (neg_ℤ (across_of a b (point_at d))) (neg_ℤ (across_of a b (point_at c))) A.k_over A.t_over A.s_over (omega (arith, sums))
          (let e : A.k *ℤ pos w.n ≡ A.s +ℤ A.t = count in omega (arith, sums))
          (let e : A.k *ℤ neg_ℤ (across_of a b w) ≡ A.s *ℤ neg_ℤ (across_of a b (point_at c)) +ℤ A.t *ℤ neg_ℤ (across_of a b (point_at d)) = neg_sum in omega (arith, sums)) (omega (arith, sums)) (omega (arith, sums))))
    ]

    -- the line is met at z
    on_the_line : (z : Point) → on_edge (edge c d) z ≡ true → across_of a b z ≡ pos 0 →
        ((across_of a b (point_at c) <ℤ pos 0) × (pos 0 <ℤ across_of a b (point_at d))) ⊎ ((across_of a b (point_at d) <ℤ pos 0) × (pos 0 <ℤ across_of a b (point_at c))) → EdgesNear strict D a b c d
    on_the_line z o e sides =
        let x : across_of a b z *ℤ pos w.n ≡ pos 0 = ap (λ (v : ℤ). v *ℤ pos w.n) e ∙ zero-*ℤ (pos w.n) in
        let y : pos 0 ≤ℤ (S.m *ℤ pos z.n) = n*n S.m (pos z.n) S.over (omega (arith, sums)) in
        let q : neg_ℤ S.m *ℤ pos z.n ≡ neg_ℤ (S.m *ℤ pos z.n) = neg-mul S.m (pos z.n) in
        placed z o (line_to z (omega (arith, sums)) (omega (arith, sums))) (λ h k. crossed (record {
          apart = sides;
          not_left = λ l m. one_side (across_of c d (point_at a)) (across_of c d (point_at b)) (on-line (edge c d) z o) (along_span a b z long e (omega (arith, sums)) (omega (arith, sums))) l m;
          not_right = λ l m. other_side (across_of c d (point_at a)) (across_of c d (point_at b)) (on-line (edge c d) z o) (along_span a b z long e (omega (arith, sums)) (omega (arith, sums))) l m;
        }))
      where
        mixed_line : (B : Along (point_at a) (point_at b) z) → across_of c d z ≡ pos 0 → B.s *ℤ across_of c d (point_at a) +ℤ B.t *ℤ across_of c d (point_at b) ≡ pos 0
        mixed_line B zero =
            sym (line-mix c.x c.y d.x d.y B.k B.s B.t z.x z.y (pos z.n) a.x a.y (pos 1) b.x b.y (pos 1) B.in_x B.in_y B.in_n) ∙ ap (λ (v : ℤ). B.k *ℤ v) zero ∙ *ℤ-zero B.k

        total : (B : Along (point_at a) (point_at b) z) → pos 0 <ℤ (B.s +ℤ B.t)
        total B =
            let e : B.k *ℤ pos z.n ≡ B.s *ℤ pos 1 +ℤ B.t *ℤ pos 1 = B.in_n in let g : B.s *ℤ pos 1 ≡ B.s = times_one B.s in let h : B.t *ℤ pos 1 ≡ B.t = times_one B.t in
            let i : pos 0 <ℤ (B.k *ℤ pos z.n) = p*p B.k (pos z.n) B.k_over (omega (arith, sums, z.is_over)) in omega (arith, sums)

        weigh : (s t x y : ℤ) → pos 0 ≤ℤ s → pos 0 ≤ℤ t → pos 0 <ℤ (s +ℤ t) → pos 0 <ℤ x → pos 0 <ℤ y → s *ℤ x +ℤ t *ℤ y ≡ pos 0 → ⊥
        weigh s t x y so tn st xo yo e = elim (cmp (pos 0) s) [
          | less l ↦ let a : pos 0 <ℤ (s *ℤ x) = p*p s x l xo in let b : pos 0 ≤ℤ (t *ℤ y) = n*n t y tn (omega (arith, sums)) in omega (arith, sums)
          | same l ↦ let a : pos 0 ≤ℤ (s *ℤ x) = n*n s x so (omega (arith, sums)) in let b : pos 0 <ℤ (t *ℤ y) = p*p t y (omega (arith, sums)) yo in omega (arith, sums)
          | more l ↦ omega (arith, sums)
        ]

        one_side : (x y : ℤ) → across_of c d z ≡ pos 0 → (B : Along (point_at a) (point_at b) z) → pos 0 <ℤ across_of c d (point_at a) → pos 0 <ℤ across_of c d (point_at b) → ⊥
        one_side x y zero B l m = weigh B.s B.t (across_of c d (point_at a)) (across_of c d (point_at b)) B.s_over B.t_over (total B) l m (mixed_line B zero)

        other_side : (x y : ℤ) → across_of c d z ≡ pos 0 → (B : Along (point_at a) (point_at b) z) → across_of c d (point_at a) <ℤ pos 0 → across_of c d (point_at b) <ℤ pos 0 → ⊥
        other_side x y zero B l m =
            weigh B.s B.t (neg_ℤ (across_of c d (point_at a))) (neg_ℤ (across_of c d (point_at b))) B.s_over B.t_over (total B) (omega (arith, sums)) (omega (arith, sums))
            (let e : B.s *ℤ across_of c d (point_at a) +ℤ B.t *ℤ across_of c d (point_at b) ≡ pos 0 = mixed_line B zero in
            let g : B.s *ℤ neg_ℤ (across_of c d (point_at a)) ≡ neg_ℤ (B.s *ℤ across_of c d (point_at a)) = mul-neg B.s (across_of c d (point_at a)) in
            let h : B.t *ℤ neg_ℤ (across_of c d (point_at b)) ≡ neg_ℤ (B.t *ℤ across_of c d (point_at b)) = mul-neg B.t (across_of c d (point_at b)) in omega (arith, sums))

    line_point : (s t : ℤ) → pos 0 ≤ℤ s → pos 0 ≤ℤ t → pos 0 <ℤ (s +ℤ t) → s *ℤ across_of a b (point_at c) +ℤ t *ℤ across_of a b (point_at d) ≡ pos 0 →
        ((across_of a b (point_at c) <ℤ pos 0) × (pos 0 <ℤ across_of a b (point_at d))) ⊎ ((across_of a b (point_at d) <ℤ pos 0) × (pos 0 <ℤ across_of a b (point_at c))) → EdgesNear strict D a b c d
    line_point s t so tn st e sides =
        let m : (z : Point) × Along (point_at c) (point_at d) z × (z.x ≡ s *ℤ c.x +ℤ t *ℤ d.x) × (z.y ≡ s *ℤ c.y +ℤ t *ℤ d.y) × (pos z.n ≡ s *ℤ pos 1 +ℤ t *ℤ pos 1) = mixed (point_at c) (point_at d) s t so tn st in
        on_the_line m.0 (along-on_edge c d m.0 m.1) (across-mix a b (point_at c) (point_at d) m.0 s t m.2 m.3 m.4 ∙ e) sides

    by_signs : Cmp (across_of a b (point_at c)) (pos 0) → Cmp (across_of a b (point_at d)) (pos 0) → EdgesNear strict D a b c d
    by_signs (less h) (less k) = both_under (omega (arith, sums)) (omega (arith, sums))
    by_signs (less h) (same k) = both_under (omega (arith, sums)) (omega (arith, sums))
    by_signs (same h) (less k) = both_under (omega (arith, sums)) (omega (arith, sums))
    by_signs (same h) (same k) = both_over (omega (arith, sums)) (omega (arith, sums))
    by_signs (same h) (more k) = both_over (omega (arith, sums)) (omega (arith, sums))
    by_signs (more h) (same k) = both_over (omega (arith, sums)) (omega (arith, sums))
    by_signs (more h) (more k) = both_over (omega (arith, sums)) (omega (arith, sums))
    by_signs (less h) (more k) =
        line_point (across_of a b (point_at d)) (neg_ℤ (across_of a b (point_at c))) (omega (arith, sums)) (omega (arith, sums)) (omega (arith, sums)) (none (across_of a b (point_at c)) (across_of a b (point_at d))) (inl (h, k))
      where
        none : (x y : ℤ) → y *ℤ x +ℤ neg_ℤ x *ℤ y ≡ pos 0
        none x y = let e : neg_ℤ x *ℤ y ≡ neg_ℤ (x *ℤ y) = neg-mul x y in let f : y *ℤ x ≡ x *ℤ y = *ℤ_comm y x in omega (arith, sums)
    by_signs (more h) (less k) =
        line_point (neg_ℤ (across_of a b (point_at d))) (across_of a b (point_at c)) (omega (arith, sums)) (omega (arith, sums)) (omega (arith, sums)) (none (across_of a b (point_at c)) (across_of a b (point_at d))) (inr (k, h))
      where
        none : (x y : ℤ) → neg_ℤ y *ℤ x +ℤ x *ℤ y ≡ pos 0
        none x y = let e : neg_ℤ y *ℤ x ≡ neg_ℤ (y *ℤ x) = neg-mul y x in let f : y *ℤ x ≡ x *ℤ y = *ℤ_comm y x in omega (arith, sums)

-- complete: two near points, one on each edge
pub edges_near : (strict : Bool) (D : ℤ) (a b c d : Spot) (z w : Point) → on_edge (edge a b) z ≡ true → on_edge (edge c d) w ≡ true → SquareWithin strict D z w → EdgesNear strict D a b c d
edges_near strict D a b c d z w oz ow h = by_foot (near_edge strict D w z a b (on-along a b z oz) (near-turned strict D z w h))
  where
    by_foot : NearEdge strict D w a b → EdgesNear strict D a b c d
    by_foot (near_from n) = by_a (near_edge strict D (point_at a) w c d (on-along c d w ow) (near-turned strict D w (point_at a) n))
    by_foot (near_to n) = by_b (near_edge strict D (point_at b) w c d (on-along c d w ow) (near-turned strict D w (point_at b) n))
    by_foot (near_foot f) = within strict D a b c d w ow f
