-- From one point straight to another: an edge that isn't met changes the two rays' crossings as its ends change sides of the strip between the rays.
use Rattle.std.proofs.Common.{◌≡◌, arith, refl, sym, ap, ◌∙◌, Bool, true, false, not, List, [], ◌∷◌, ◌++◌}
use Rattle.std.specs.List.{list_any}
use mathlib.Core.Bool.{◌&&◌, ◌||◌}
use mathlib.Core.Logic.{◌⊎◌, inl, inr}
use lib.IntN.{ℤ, pos, ◌+ℤ◌, ◌-ℤ◌, ◌*ℤ◌, neg_ℤ, *ℤ_comm}
use lib.Signed.{◌<ℤ◌, ◌≤ℤ◌, lt_z}
use Rattle.sg_algebra.proofs.Ring.{sums, nonneg_diff-mul, lt-mul_right, mul_assoc}
use Rattle.sg_algebra.proofs.Cancelling.{lt-cancel_right}
use Rattle.sg_algebra.specs.Orders.{cmp, less, same, more}
use Rattle.sg_algebra.proofs.Comparisons.{lt-from_true, le-from_false, either_true, or_left, or_right}
use Rattle.sg_distance.proofs.Mix.{line_at, Along, along-on_edge}
use Rattle.sg_algebra.proofs.Edges.{on_edge-turned, crosses_ray-turned}
use Rattle.sg_distance.proofs.Signs.{Ties, Alike, low_mid_1, low_mid_2, low_high_1, low_high_2, mid_mid_1, mid_mid_2, mid_high_1, mid_high_2}
use Rattle.sg_distance.proofs.Quad.{side_at, Weights, weights, ties-of, Crossing, crossing_of}
use Rattle.sg_shape.specs.Plane.{Point, on_edge, is_above, passes_right, crosses_ray, edges_from, edges_of, last_of}
use Rattle.sg_segment.proofs.Parity.{parity-append}
use Rattle.sg_segment.specs.Sides.{point_at}
use Rattle.sg_segment.specs.Statuses.{xor, parity}
use Rattle.sg_distance.specs.Figure.{Closed}
use Rattle.sg_shape.specs.declared.spots.Spot.{Spot}
use Rattle.sg_shape.specs.declared.spots.Edge.{Edge}

pub xor_swap : (a b : Bool) → xor a b ≡ xor b a
xor_swap true true = refl
xor_swap true false = refl
xor_swap false true = refl
xor_swap false false = refl

pub xor_same : (a : Bool) → xor a a ≡ false
xor_same true = refl
xor_same false = refl

-- the spot lies strictly above p's height, not above q's, and strictly right of the line from p to q
abbrev pub gap : Point → Point → Spot → Bool
gap p q s = is_above s p && (not (is_above s q) && lt_z (side_at p.x p.y (pos p.n) q.x q.y (pos q.n) s.x s.y) (pos 0))

-- some point of the edge lies between p and q
pub record Met (p q : Point) (e : Edge) : Type 0 where
  pub z : Point
  pub along : Along p q z
  pub on : on_edge e z ≡ true

abbrev edge : Spot → Spot → Edge
edge u v = record { from = u; to = v }

abbrev cross_of : Bool → Bool → Bool → Bool → Bool
cross_of up vp r r' = (vp && not up && r) || (up && not vp && r')

abbrev gap_of : Bool → Bool → Bool → Bool
gap_of sp sq r = sp && (not sq && r)

-- ---- what the tests say, in whole numbers
above : (s : Spot) (p : Point) → is_above s p ≡ true → pos 0 <ℤ (s.y *ℤ pos p.n -ℤ p.y)
above s p e = let h : p.y <ℤ (s.y *ℤ pos p.n) = lt-from_true p.y (s.y *ℤ pos p.n) e in omega (arith, sums)

not_above : (s : Spot) (p : Point) → is_above s p ≡ false → (s.y *ℤ pos p.n -ℤ p.y) ≤ℤ pos 0
not_above s p e = let h : (s.y *ℤ pos p.n) ≤ℤ p.y = le-from_false p.y (s.y *ℤ pos p.n) e in omega (arith, sums)

abbrev line_of : Spot → Spot → Point → ℤ
line_of u v p = line_at u.x u.y v.x v.y p.x p.y (pos p.n)

abbrev side_of : Point → Point → Spot → ℤ
side_of p q u = side_at p.x p.y (pos p.n) q.x q.y (pos q.n) u.x u.y

passes : (u v : Spot) (p : Point) → passes_right u v p ≡ true → pos 0 <ℤ line_of u v p
passes u v p e = let h : ((p.x -ℤ u.x *ℤ pos p.n) *ℤ (v.y -ℤ u.y)) <ℤ ((p.y -ℤ u.y *ℤ pos p.n) *ℤ (v.x -ℤ u.x)) = lt-from_true ((p.x -ℤ u.x *ℤ pos p.n) *ℤ (v.y -ℤ u.y)) ((p.y -ℤ u.y *ℤ pos p.n) *ℤ (v.x -ℤ u.x)) e in omega (arith, sums)

passes_not : (u v : Spot) (p : Point) → passes_right u v p ≡ false → line_of u v p ≤ℤ pos 0
passes_not u v p e = let h : ((p.y -ℤ u.y *ℤ pos p.n) *ℤ (v.x -ℤ u.x)) ≤ℤ ((p.x -ℤ u.x *ℤ pos p.n) *ℤ (v.y -ℤ u.y)) = le-from_false ((p.x -ℤ u.x *ℤ pos p.n) *ℤ (v.y -ℤ u.y)) ((p.y -ℤ u.y *ℤ pos p.n) *ℤ (v.x -ℤ u.x)) e in omega (arith, sums)

-- a spot between the two heights: q lies above p
apart : (s : Spot) (p q : Point) → is_above s p ≡ true → is_above s q ≡ false → pos 0 <ℤ (q.y *ℤ pos p.n -ℤ p.y *ℤ pos q.n)
apart s p q e f =
    let a : pos 0 <ℤ (s.y *ℤ pos p.n -ℤ p.y) = above s p e in
    let b : (s.y *ℤ pos q.n -ℤ q.y) ≤ℤ pos 0 = not_above s q f in
    let pn : pos 0 <ℤ pos p.n = omega (arith, sums, p.is_over) in
    let qn : pos 0 <ℤ pos q.n = omega (arith, sums, q.is_over) in
    let x : (p.y *ℤ pos q.n) <ℤ ((s.y *ℤ pos p.n) *ℤ pos q.n) = lt-mul_right p.y (s.y *ℤ pos p.n) (pos q.n) qn (omega (arith, sums)) in
    let y : ((s.y *ℤ pos q.n) *ℤ pos p.n) ≤ℤ (q.y *ℤ pos p.n) = nonneg_diff-mul (s.y *ℤ pos q.n) q.y (pos p.n) (omega (arith, sums)) (omega (arith, sums)) in
    let z : (s.y *ℤ pos p.n) *ℤ pos q.n ≡ (s.y *ℤ pos q.n) *ℤ pos p.n = mul_assoc s.y (pos p.n) (pos q.n) ∙ ap (λ (v : ℤ). s.y *ℤ v) (*ℤ_comm (pos p.n) (pos q.n)) ∙ sym (mul_assoc s.y (pos q.n) (pos p.n)) in
    omega (arith, sums)

-- a spot above the height of p, and one that isn't
rises : (u v : Spot) (p : Point) → is_above u p ≡ false → is_above v p ≡ true → pos 0 <ℤ (v.y -ℤ u.y)
rises u v p e f =
    let a : (u.y *ℤ pos p.n -ℤ p.y) ≤ℤ pos 0 = not_above u p e in
    let b : pos 0 <ℤ (v.y *ℤ pos p.n -ℤ p.y) = above v p f in
    let pn : pos 0 <ℤ pos p.n = omega (arith, sums, p.is_over) in
    let x : u.y <ℤ v.y = lt-cancel_right u.y v.y (pos p.n) pn (omega (arith, sums)) in
    omega (arith, sums)

-- what has to be shown of the edge from u to v
abbrev Kept : Point → Point → Spot → Spot → Type 0
Kept p q u v = Met p q (edge u v) ⊎ (xor (crosses_ray (edge u v) p) (crosses_ray (edge u v) q) ≡ xor (gap p q u) (gap p q v))

met : (p q : Point) (u v : Spot) → Alike (line_of u v q) (neg_ℤ (line_of u v p)) (neg_ℤ (side_of p q v)) (side_of p q u) → Met p q (edge u v)
met p q u v a =
    let c : Crossing p q (point_at u) (point_at v) = crossing_of p q u v (line_of u v q) (neg_ℤ (line_of u v p)) (neg_ℤ (side_of p q v)) (side_of p q u) a
    (weights p.x p.y (pos p.n) q.x q.y (pos q.n) u.x u.y v.x v.y) in
    record { z = c.z; along = c.first; on = along-on_edge u v c.z c.second }

abbrev Shown : Point → Point → Spot → Spot → Bool → Bool → Bool → Bool → Type 0
Shown p q u v up uq vp vq =
    Met p q (edge u v)
    ⊎ (xor (cross_of up vp (passes_right u v p) (passes_right v u p)) (cross_of uq vq (passes_right u v q) (passes_right v u q))
    ≡ xor (gap_of up uq (lt_z (side_of p q u) (pos 0))) (gap_of vp vq (lt_z (side_of p q v) (pos 0))))

-- u isn't above v
walk_up : (p q : Point) (u v : Spot) → u.y ≤ℤ v.y → (p.y *ℤ pos q.n) ≤ℤ (q.y *ℤ pos p.n) → Kept p q u v
walk_up p q u v rise height =
    by_classes (is_above u p) (is_above u q) (is_above v p) (is_above v q) refl refl refl refl
  where
    t : Ties (line_of u v q) (neg_ℤ (line_of u v p)) (neg_ℤ (side_of p q v)) (side_of p q u)
        (q.y *ℤ pos p.n -ℤ p.y *ℤ pos q.n) (u.y *ℤ pos p.n -ℤ p.y) (v.y *ℤ pos p.n -ℤ p.y) (u.y *ℤ pos q.n -ℤ q.y) (v.y *ℤ pos q.n -ℤ q.y) (v.y -ℤ u.y)
    t =
        let w : Weights p.x p.y (pos p.n) q.x q.y (pos q.n) u.x u.y v.x v.y (line_of u v q) (neg_ℤ (line_of u v p)) (neg_ℤ (side_of p q v)) (side_of p q u) = weights p.x p.y (pos p.n) q.x q.y (pos q.n) u.x u.y v.x v.y in
        ties-of (line_of u v q) (neg_ℤ (line_of u v p)) (neg_ℤ (side_of p q v)) (side_of p q u) p.y (pos p.n) q.y (pos q.n) u.y v.y w.in_y w.in_n

    sunk : (r : Point) → is_above u r ≡ true → is_above v r ≡ false → ⊥
    sunk r e f =
        let a : pos 0 <ℤ (u.y *ℤ pos r.n -ℤ r.y) = above u r e in
        let b : (v.y *ℤ pos r.n -ℤ r.y) ≤ℤ pos 0 = not_above v r f in
        let c : (u.y *ℤ pos r.n) ≤ℤ (v.y *ℤ pos r.n) = nonneg_diff-mul u.y v.y (pos r.n) (omega (arith, sums)) rise in
        omega (arith, sums)

    never : (s : Spot) → is_above s p ≡ false → is_above s q ≡ true → ⊥
    never s e f =
        let a : (s.y *ℤ pos p.n -ℤ p.y) ≤ℤ pos 0 = not_above s p e in
        let b : pos 0 <ℤ (s.y *ℤ pos q.n -ℤ q.y) = above s q f in
        let pn : pos 0 <ℤ pos p.n = omega (arith, sums, p.is_over) in
        let x : ((s.y *ℤ pos p.n) *ℤ pos q.n) ≤ℤ (p.y *ℤ pos q.n) = nonneg_diff-mul (s.y *ℤ pos p.n) p.y (pos q.n) (omega (arith, sums)) (omega (arith, sums)) in
        let y : (q.y *ℤ pos p.n) <ℤ ((s.y *ℤ pos q.n) *ℤ pos p.n) = lt-mul_right q.y (s.y *ℤ pos q.n) (pos p.n) pn (omega (arith, sums)) in
        let z : (s.y *ℤ pos p.n) *ℤ pos q.n ≡ (s.y *ℤ pos q.n) *ℤ pos p.n = mul_assoc s.y (pos p.n) (pos q.n) ∙ ap (λ (v : ℤ). s.y *ℤ v) (*ℤ_comm (pos p.n) (pos q.n)) ∙ sym (mul_assoc s.y (pos q.n) (pos p.n)) in
        omega (arith, sums)

    low_mid : is_above u p ≡ false → is_above u q ≡ false → is_above v p ≡ true → is_above v q ≡ false →
        (r s : Bool) → passes_right u v p ≡ r → lt_z (side_of p q v) (pos 0) ≡ s → Met p q (edge u v) ⊎ (xor (r || false) false ≡ s)
    low_mid a b c d true true e f = inr refl
    low_mid a b c d false false e f = inr refl
    low_mid a b c d true false e f =
        let l : pos 0 <ℤ line_of u v p = passes u v p e in
        let m : pos 0 ≤ℤ side_of p q v = le-from_false (side_of p q v) (pos 0) f in
        inl (met p q u v (low_mid_1 _ _ _ _ _ _ _ _ _ _ t (apart v p q c d) (rises u v p a c) (not_above u p a) (above v p c) (not_above v q d) (omega (arith, sums)) (omega (arith, sums))))
    low_mid a b c d false true e f =
        let l : line_of u v p ≤ℤ pos 0 = passes_not u v p e in
        let m : side_of p q v <ℤ pos 0 = lt-from_true (side_of p q v) (pos 0) f in
        inl (met p q u v (low_mid_2 _ _ _ _ _ _ _ _ _ _ t (apart v p q c d) (rises u v p a c) (not_above u p a) (above v p c) (not_above v q d) (omega (arith, sums)) (omega (arith, sums))))

    low_high : is_above u p ≡ false → is_above u q ≡ false → is_above v p ≡ true → is_above v q ≡ true →
        (r s : Bool) → passes_right u v p ≡ r → passes_right u v q ≡ s → Met p q (edge u v) ⊎ (xor (r || false) (s || false) ≡ false)
    low_high a b c d true true e f = inr refl
    low_high a b c d false false e f = inr refl
    low_high a b c d true false e f =
        let l : pos 0 <ℤ line_of u v p = passes u v p e in
        let m : line_of u v q ≤ℤ pos 0 = passes_not u v q f in
        inl (met p q u v (low_high_1 _ _ _ _ _ _ _ _ _ _ t (rises u v p a c) (not_above u p a) (not_above u q b) (above v p c) (above v q d) (omega (arith, sums)) (omega (arith, sums))))
    low_high a b c d false true e f =
        let l : line_of u v p ≤ℤ pos 0 = passes_not u v p e in
        let m : pos 0 <ℤ line_of u v q = passes u v q f in
        inl (met p q u v (low_high_2 _ _ _ _ _ _ _ _ _ _ t (rises u v p a c) (not_above u p a) (not_above u q b) (above v p c) (above v q d) (omega (arith, sums)) (omega (arith, sums))))

    mid_mid : is_above u p ≡ true → is_above u q ≡ false → is_above v p ≡ true → is_above v q ≡ false →
        (r s : Bool) → lt_z (side_of p q u) (pos 0) ≡ r → lt_z (side_of p q v) (pos 0) ≡ s → Met p q (edge u v) ⊎ (false ≡ xor r s)
    mid_mid a b c d true true e f = inr refl
    mid_mid a b c d false false e f = inr refl
    mid_mid a b c d true false e f =
        let l : side_of p q u <ℤ pos 0 = lt-from_true (side_of p q u) (pos 0) e in
        let m : pos 0 ≤ℤ side_of p q v = le-from_false (side_of p q v) (pos 0) f in
        inl (met p q u v (mid_mid_1 _ _ _ _ _ _ _ _ _ _ t (apart v p q c d) (above u p a) (above v p c) (not_above u q b) (not_above v q d) l (omega (arith, sums))))
    mid_mid a b c d false true e f =
        let l : pos 0 ≤ℤ side_of p q u = le-from_false (side_of p q u) (pos 0) e in
        let m : side_of p q v <ℤ pos 0 = lt-from_true (side_of p q v) (pos 0) f in
        inl (met p q u v (mid_mid_2 _ _ _ _ _ _ _ _ _ _ t (apart v p q c d) (above u p a) (above v p c) (not_above u q b) (not_above v q d) l (omega (arith, sums))))

    mid_high : is_above u p ≡ true → is_above u q ≡ false → is_above v p ≡ true → is_above v q ≡ true →
        (r s : Bool) → passes_right u v q ≡ r → lt_z (side_of p q u) (pos 0) ≡ s → Met p q (edge u v) ⊎ ((r || false) ≡ xor s false)
    mid_high a b c d true true e f = inr refl
    mid_high a b c d false false e f = inr refl
    mid_high a b c d true false e f =
        let l : pos 0 <ℤ line_of u v q = passes u v q e in
        let m : pos 0 ≤ℤ side_of p q u = le-from_false (side_of p q u) (pos 0) f in
        inl (met p q u v (mid_high_1 _ _ _ _ _ _ _ _ _ _ t (apart u p q a b) (rises u v q b d) (above u p a) (not_above u q b) (above v q d) l m))
    mid_high a b c d false true e f =
        let l : line_of u v q ≤ℤ pos 0 = passes_not u v q e in
        let m : side_of p q u <ℤ pos 0 = lt-from_true (side_of p q u) (pos 0) f in
        inl (met p q u v (mid_high_2 _ _ _ _ _ _ _ _ _ _ t (apart u p q a b) (rises u v q b d) (above u p a) (not_above u q b) (above v q d) l m))

    by_classes : (up uq vp vq : Bool) → is_above u p ≡ up → is_above u q ≡ uq → is_above v p ≡ vp → is_above v q ≡ vq → Shown p q u v up uq vp vq
    by_classes false true vp vq a b c d = absurd (never u a b)
    by_classes false false false true a b c d = absurd (never v c d)
    by_classes true false false true a b c d = absurd (never v c d)
    by_classes true true false true a b c d = absurd (never v c d)
    by_classes true uq false false a b c d = absurd (sunk p a c)
    by_classes true true true false a b c d = absurd (sunk q b d)
    by_classes false false false false a b c d = inr refl
    by_classes true true true true a b c d = inr refl
    by_classes false false true false a b c d = low_mid a b c d (passes_right u v p) (lt_z (side_of p q v) (pos 0)) refl refl
    by_classes false false true true a b c d = low_high a b c d (passes_right u v p) (passes_right u v q) refl refl
    by_classes true false true false a b c d = mid_mid a b c d (lt_z (side_of p q u) (pos 0)) (lt_z (side_of p q v) (pos 0)) refl refl
    by_classes true false true true a b c d = mid_high a b c d (passes_right u v q) (lt_z (side_of p q u) (pos 0)) refl refl

-- q isn't below p
walk_edge_up : (p q : Point) (u v : Spot) → (p.y *ℤ pos q.n) ≤ℤ (q.y *ℤ pos p.n) → Kept p q u v
walk_edge_up p q u v h = elim (cmp u.y v.y) [
  | less l ↦ walk_up p q u v (omega (arith, sums)) h
  | same l ↦ walk_up p q u v (omega (arith, sums)) h
  | more l ↦ turn (walk_up p q v u (omega (arith, sums)) h)
]
  where
    turn : Kept p q v u → Kept p q u v
    turn (inl m) = inl (record { z = m.z; along = m.along; on = on_edge-turned v u m.z ∙ m.on })
    turn (inr e) = inr (rw (crosses_ray-turned v u p, crosses_ray-turned v u q) (e ∙ xor_swap (gap p q v) (gap p q u)))

-- ---- a chain of edges, and rings
-- some edge is met between p and q
pub record MetIn (p q : Point) (es : List Edge) : Type 0 where
  pub z : Point
  pub along : Along p q z
  pub on : list_any (λ e. on_edge e z) es ≡ true

met_first : (p q : Point) (e : Edge) (es : List Edge) → Met p q e → MetIn p q (e ∷ es)
met_first p q e es m = record { z = m.z; along = m.along; on = or_left (on_edge e m.z) (list_any (λ f. on_edge f m.z) es) m.on }

met_rest : (p q : Point) (e : Edge) (es : List Edge) → MetIn p q es → MetIn p q (e ∷ es)
met_rest p q e es m = record { z = m.z; along = m.along; on = or_right (on_edge e m.z) (list_any (λ f. on_edge f m.z) es) m.on }

mix4 : (a b c d g h i : Bool) → xor a b ≡ xor g h → xor c d ≡ xor h i → xor (xor a c) (xor b d) ≡ xor g i
mix4 a b c d g h i e f = arrange a b c d ∙ rw (e, f) (cancel g h i)
  where
    arrange : (a b c d : Bool) → xor (xor a c) (xor b d) ≡ xor (xor a b) (xor c d)
    arrange true true true true = refl
    arrange true true true false = refl
    arrange true true false true = refl
    arrange true true false false = refl
    arrange true false true true = refl
    arrange true false true false = refl
    arrange true false false true = refl
    arrange true false false false = refl
    arrange false true true true = refl
    arrange false true true false = refl
    arrange false true false true = refl
    arrange false true false false = refl
    arrange false false true true = refl
    arrange false false true false = refl
    arrange false false false true = refl
    arrange false false false false = refl

    cancel : (g h i : Bool) → xor (xor g h) (xor h i) ≡ xor g i
    cancel true true true = refl
    cancel true true false = refl
    cancel true false true = refl
    cancel true false false = refl
    cancel false true true = refl
    cancel false true false = refl
    cancel false false true = refl
    cancel false false false = refl

walk_chain : (p q : Point) → (p.y *ℤ pos q.n) ≤ℤ (q.y *ℤ pos p.n) → (s : Spot) (ss : List Spot) →
    MetIn p q (edges_from s ss) ⊎ (xor (parity (edges_from s ss) p) (parity (edges_from s ss) q) ≡ xor (gap p q s) (gap p q (last_of s ss)))
walk_chain p q h s [] = inr (sym (xor_same (gap p q s)))
walk_chain p q h s (t ∷ ts) = join (walk_edge_up p q s t h) (walk_chain p q h t ts)
  where
    join : Kept p q s t → MetIn p q (edges_from t ts) ⊎ (xor (parity (edges_from t ts) p) (parity (edges_from t ts) q) ≡ xor (gap p q t) (gap p q (last_of t ts))) →
        MetIn p q (edges_from s (t ∷ ts)) ⊎ (xor (parity (edges_from s (t ∷ ts)) p) (parity (edges_from s (t ∷ ts)) q) ≡ xor (gap p q s) (gap p q (last_of s (t ∷ ts))))
    join (inl m) r = inl (met_first p q (edge s t) (edges_from t ts) m)
    join (inr e) (inl m) = inl (met_rest p q (edge s t) (edges_from t ts) m)
    join (inr e) (inr f) =
        inr (mix4 (crosses_ray (edge s t) p) (crosses_ray (edge s t) q) (parity (edges_from t ts) p) (parity (edges_from t ts) q)
        (gap p q s) (gap p q t) (gap p q (last_of t ts)) e f)

abbrev pub Even : Point → Point → List Edge → Type 0
Even p q es = MetIn p q es ⊎ (xor (parity es p) (parity es q) ≡ false)

pub any-left : (f : Edge → Bool) (es fs : List Edge) → list_any f es ≡ true → list_any f (es ++ fs) ≡ true
any-left f [] fs h = absurd (cc)
any-left f (e ∷ es) fs h = elim (either_true (f e) (list_any f es) h) [
  | inl l ↦ or_left (f e) (list_any f (es ++ fs)) l
  | inr r ↦ or_right (f e) (list_any f (es ++ fs)) (any-left f es fs r)
]

pub any-right : (f : Edge → Bool) (es fs : List Edge) → list_any f fs ≡ true → list_any f (es ++ fs) ≡ true
any-right f [] fs h = h
any-right f (e ∷ es) fs h = or_right (f e) (list_any f (es ++ fs)) (any-right f es fs h)

even-append : (p q : Point) (es fs : List Edge) → Even p q es → Even p q fs → Even p q (es ++ fs)
even-append p q es fs (inl m) g = inl (record { z = m.z; along = m.along; on = any-left (λ e. on_edge e m.z) es fs m.on })
even-append p q es fs (inr e) (inl m) = inl (record { z = m.z; along = m.along; on = any-right (λ e. on_edge e m.z) es fs m.on })
even-append p q es fs (inr e) (inr f) =
    inr (rw (parity-append es fs p, parity-append es fs q) (mix4 (parity es p) (parity es q) (parity fs p) (parity fs q) false false false e f))

walk_rings_up : (p q : Point) → (p.y *ℤ pos q.n) ≤ℤ (q.y *ℤ pos p.n) → (rs : List (List Spot)) → Closed rs → Even p q (edges_of rs)
walk_rings_up p q h [] c = inr refl
walk_rings_up p q h ([] ∷ rs) c = walk_rings_up p q h rs c
walk_rings_up p q h ((s ∷ ss) ∷ rs) c =
    even-append p q (edges_from s ss) (edges_of rs) (close (walk_chain p q h s ss)) (walk_rings_up p q h rs c.1)
  where
    close : MetIn p q (edges_from s ss) ⊎ (xor (parity (edges_from s ss) p) (parity (edges_from s ss) q) ≡ xor (gap p q s) (gap p q (last_of s ss))) → Even p q (edges_from s ss)
    close (inl m) = inl m
    close (inr e) = inr (e ∙ ap (λ (t : Spot). xor (gap p q s) (gap p q t)) c.0 ∙ xor_same (gap p q s))

along-turned : (p q z : Point) → Along q p z → Along p q z
along-turned p q z a = record {
  k = a.k;
  s = a.t;
  t = a.s;
  k_over = a.k_over;
  s_over = a.t_over;
  t_over = a.s_over;
  in_x = let e : a.k *ℤ z.x ≡ a.s *ℤ q.x +ℤ a.t *ℤ p.x = a.in_x in omega (arith, sums);
  in_y = let e : a.k *ℤ z.y ≡ a.s *ℤ q.y +ℤ a.t *ℤ p.y = a.in_y in omega (arith, sums);
  in_n = let e : a.k *ℤ pos z.n ≡ a.s *ℤ pos q.n +ℤ a.t *ℤ pos p.n = a.in_n in omega (arith, sums);
}

-- from p straight to q, closed rings are met or the parity stays
pub walk_rings : (p q : Point) (rs : List (List Spot)) → Closed rs → Even p q (edges_of rs)
walk_rings p q rs c = elim (cmp (p.y *ℤ pos q.n) (q.y *ℤ pos p.n)) [
  | less l ↦ walk_rings_up p q (omega (arith, sums)) rs c
  | same l ↦ walk_rings_up p q (omega (arith, sums)) rs c
  | more l ↦ turn (walk_rings_up q p (omega (arith, sums)) rs c)
]
  where
    turn : Even q p (edges_of rs) → Even p q (edges_of rs)
    turn (inl m) = inl (record { z = m.z; along = along-turned p q m.z m.along; on = m.on })
    turn (inr e) = inr (xor_swap (parity (edges_of rs) p) (parity (edges_of rs) q) ∙ e)
