-- A point with an edge that passes its height on its right and one that doesn't lies between them; a closed ring has both where it holds the point.
use Rattle.std.proofs.Common.{ℕ, ◌≡◌, ◌+◌, ◌-◌, ◌*◌, ◌≤◌, arith, refl, ap, Bool, true, false, not, List, [], ◌∷◌}
use mathlib.Core.Bool.{◌&&◌, ◌||◌}
use mathlib.Core.Logic.{◌⊎◌, inl, inr}
use lib.IntN.{ℤ, pos, ◌-ℤ◌, ◌*ℤ◌, neg_ℤ, *ℤ_comm}
use lib.Signed.{◌<ℤ◌, ◌≤ℤ◌, lt_z}
use Rattle.sg_algebra.proofs.Ring.{sums, products, nonneg_diff-mul, lt-mul_right}
use Rattle.sg_algebra.proofs.Cancelling.{lt-cancel_right}
use Rattle.sg_algebra.specs.Orders.{Cmp, less, same, more, cmp}
use Rattle.sg_algebra.proofs.Comparisons.{eq-from_true, right_true}
use Rattle.sg_plane.proofs.Totals.{total-append}
use Rattle.sg_plane.proofs.Totals.{total, ind}
use Rattle.sg_shape.specs.declared.spots.Spot.{Spot}
use Rattle.sg_shape.specs.declared.spots.Edge.{Edge}
use Rattle.sg_shape.specs.Plane.{Point, is_above, edges_from, edges, edges_of, last_of, eq_z}
use Rattle.sg_plane.specs.Reach.{is_closed}
use Rattle.sg_plane.proofs.Lists.{Has, Each}

-- ---- one edge from (ax, ay) up to (bx, by), at a height within it
-- a product with one factor's bound
mul_below : (u w t : ℤ) → pos 0 ≤ℤ t → u ≤ℤ w → (u *ℤ t) ≤ℤ (w *ℤ t)
mul_below u w t h k = nonneg_diff-mul u w t h k

pub cross_right : (ax ay bx by x y m z : ℤ) → pos 0 <ℤ m → (ay *ℤ m) ≤ℤ y → y <ℤ (by *ℤ m) → ax ≤ℤ z → bx ≤ℤ z →
    ((x -ℤ ax *ℤ m) *ℤ (by -ℤ ay)) <ℤ ((y -ℤ ay *ℤ m) *ℤ (bx -ℤ ax)) → x ≤ℤ (z *ℤ m)
cross_right ax ay bx by x y m z pm l h a b t = by_cmp (cmp x (z *ℤ m))
  where
    turn3 : (u v w : ℤ) → (u *ℤ v) *ℤ w ≡ (w *ℤ v) *ℤ u
    turn3 u v w = simp products

    by_cmp : Cmp x (z *ℤ m) → x ≤ℤ (z *ℤ m)
    by_cmp (less k) = omega (arith, sums, k)
    by_cmp (same k) = omega (arith, sums, k)
    by_cmp (more k) =
        let o : ay <ℤ by = lt-cancel_right ay by m pm (omega (arith, sums)) in
        let e1 : (z -ℤ ax) *ℤ m ≡ z *ℤ m -ℤ ax *ℤ m = simp products in
        let e2 : (by -ℤ ay) *ℤ m ≡ by *ℤ m -ℤ ay *ℤ m = simp products in
        let s1 : (((z -ℤ ax) *ℤ m) *ℤ (by -ℤ ay)) ≤ℤ ((x -ℤ ax *ℤ m) *ℤ (by -ℤ ay)) = mul_below ((z -ℤ ax) *ℤ m) (x -ℤ ax *ℤ m) (by -ℤ ay) (omega (arith, sums)) (omega (arith, sums)) in
        let s2 : ((bx -ℤ ax) *ℤ (y -ℤ ay *ℤ m)) ≤ℤ ((z -ℤ ax) *ℤ (y -ℤ ay *ℤ m)) = mul_below (bx -ℤ ax) (z -ℤ ax) (y -ℤ ay *ℤ m) (omega (arith, sums)) (omega (arith, sums)) in
        let s3 : ((y -ℤ ay *ℤ m) *ℤ (z -ℤ ax)) ≤ℤ (((by -ℤ ay) *ℤ m) *ℤ (z -ℤ ax)) = mul_below (y -ℤ ay *ℤ m) ((by -ℤ ay) *ℤ m) (z -ℤ ax) (omega (arith, sums)) (omega (arith, sums)) in
        let c1 : (bx -ℤ ax) *ℤ (y -ℤ ay *ℤ m) ≡ (y -ℤ ay *ℤ m) *ℤ (bx -ℤ ax) = *ℤ_comm (bx -ℤ ax) (y -ℤ ay *ℤ m) in
        let c2 : (z -ℤ ax) *ℤ (y -ℤ ay *ℤ m) ≡ (y -ℤ ay *ℤ m) *ℤ (z -ℤ ax) = *ℤ_comm (z -ℤ ax) (y -ℤ ay *ℤ m) in
        let c3 : ((by -ℤ ay) *ℤ m) *ℤ (z -ℤ ax) ≡ ((z -ℤ ax) *ℤ m) *ℤ (by -ℤ ay) = turn3 (by -ℤ ay) m (z -ℤ ax) in
        absurd (omega (arith, sums, t, s1, s2, s3, c1, c2, c3))

pub cross_left : (ax ay bx by x y m z : ℤ) → pos 0 <ℤ m → (ay *ℤ m) ≤ℤ y → y <ℤ (by *ℤ m) → z ≤ℤ ax → z ≤ℤ bx →
    ((y -ℤ ay *ℤ m) *ℤ (bx -ℤ ax)) ≤ℤ ((x -ℤ ax *ℤ m) *ℤ (by -ℤ ay)) → (z *ℤ m) ≤ℤ x
cross_left ax ay bx by x y m z pm l h a b t = by_cmp (cmp x (z *ℤ m))
  where
    turn3 : (u v w : ℤ) → (u *ℤ v) *ℤ w ≡ (w *ℤ v) *ℤ u
    turn3 u v w = simp products

    by_cmp : Cmp x (z *ℤ m) → (z *ℤ m) ≤ℤ x
    by_cmp (more k) = omega (arith, sums, k)
    by_cmp (same k) = omega (arith, sums, k)
    by_cmp (less k) =
        let o : ay <ℤ by = lt-cancel_right ay by m pm (omega (arith, sums)) in
        let e1 : (ax -ℤ z) *ℤ m ≡ ax *ℤ m -ℤ z *ℤ m = simp products in
        let e2 : (by -ℤ ay) *ℤ m ≡ by *ℤ m -ℤ ay *ℤ m = simp products in
        let n1 : (ax *ℤ m -ℤ x) *ℤ (by -ℤ ay) ≡ neg_ℤ ((x -ℤ ax *ℤ m) *ℤ (by -ℤ ay)) = simp products (omega (arith, sums)) in
        let n2 : (y -ℤ ay *ℤ m) *ℤ (ax -ℤ bx) ≡ neg_ℤ ((y -ℤ ay *ℤ m) *ℤ (bx -ℤ ax)) = simp products (omega (arith, sums)) in
        let s1 : (((ax -ℤ z) *ℤ m) *ℤ (by -ℤ ay)) <ℤ ((ax *ℤ m -ℤ x) *ℤ (by -ℤ ay)) = lt-mul_right ((ax -ℤ z) *ℤ m) (ax *ℤ m -ℤ x) (by -ℤ ay) (omega (arith, sums)) (omega (arith, sums)) in
        let s2 : ((ax -ℤ bx) *ℤ (y -ℤ ay *ℤ m)) ≤ℤ ((ax -ℤ z) *ℤ (y -ℤ ay *ℤ m)) = mul_below (ax -ℤ bx) (ax -ℤ z) (y -ℤ ay *ℤ m) (omega (arith, sums)) (omega (arith, sums)) in
        let s3 : ((y -ℤ ay *ℤ m) *ℤ (ax -ℤ z)) ≤ℤ (((by -ℤ ay) *ℤ m) *ℤ (ax -ℤ z)) = mul_below (y -ℤ ay *ℤ m) ((by -ℤ ay) *ℤ m) (ax -ℤ z) (omega (arith, sums)) (omega (arith, sums)) in
        let c1 : (ax -ℤ bx) *ℤ (y -ℤ ay *ℤ m) ≡ (y -ℤ ay *ℤ m) *ℤ (ax -ℤ bx) = *ℤ_comm (ax -ℤ bx) (y -ℤ ay *ℤ m) in
        let c2 : (ax -ℤ z) *ℤ (y -ℤ ay *ℤ m) ≡ (y -ℤ ay *ℤ m) *ℤ (ax -ℤ z) = *ℤ_comm (ax -ℤ z) (y -ℤ ay *ℤ m) in
        let c3 : ((by -ℤ ay) *ℤ m) *ℤ (ax -ℤ z) ≡ ((ax -ℤ z) *ℤ m) *ℤ (by -ℤ ay) = turn3 (by -ℤ ay) m (ax -ℤ z) in
        absurd (omega (arith, sums, t, s1, s2, s3, c1, c2, c3, n1, n2))

-- ---- a closed ring passes a height an even number of times
abbrev pub straddles : Point → Edge → Bool
straddles p e = (is_above e.to p && not (is_above e.from p)) || (is_above e.from p && not (is_above e.to p))

abbrev Even : ℕ → Type 0
Even n = (k : ℕ) × (n ≡ 2 * k)

one_edge : (a b : Bool) → Even (ind ((b && not a) || (a && not b)) + (ind a + ind b))
one_edge true true = (1, omega arith)
one_edge true false = (1, omega arith)
one_edge false true = (1, omega arith)
one_edge false false = (0, omega arith)

no_edge : (a : Bool) → Even (0 + (ind a + ind a))
no_edge true = (1, omega arith)
no_edge false = (0, omega arith)

joined : (t r a b c j k : ℕ) → b ≤ 1 → t + (a + b) ≡ 2 * j → r + (b + c) ≡ 2 * k → Even ((t + r) + (a + c))
joined t r a b c j k h e f = (j + k - b, omega (arith, e, f))

ind_small : (b : Bool) → ind b ≤ 1
ind_small true = omega arith
ind_small false = omega arith

path_even : (p : Point) (s : Spot) (ss : List Spot) → Even (total (λ e. ind (straddles p e)) (edges_from s ss) + (ind (is_above s p) + ind (is_above (last_of s ss) p)))
path_even p s [] = no_edge (is_above s p)
path_even p s (t ∷ ts) =
    let r : Even (total (λ e. ind (straddles p e)) (edges_from t ts) + (ind (is_above t p) + ind (is_above (last_of t ts) p))) = path_even p t ts in
    let o : Even (ind (straddles p (record { from = s; to = t })) + (ind (is_above s p) + ind (is_above t p))) = one_edge (is_above s p) (is_above t p) in
    joined (ind (straddles p (record { from = s; to = t }))) (total (λ e. ind (straddles p e)) (edges_from t ts)) (ind (is_above s p)) (ind (is_above t p)) (ind (is_above (last_of t ts) p)) o.0 r.0 (ind_small (is_above t p)) o.1 r.1

ring_even : (p : Point) (r : List Spot) → is_closed r ≡ true → Even (total (λ e. ind (straddles p e)) (edges r))
ring_even p [] h = (0, omega arith)
ring_even p (s ∷ ss) h =
    let y : s.y ≡ (last_of s ss).y = eq-from_true s.y (last_of s ss).y (right_true (eq_z s.x (last_of s ss).x) (eq_z s.y (last_of s ss).y) h) in
    let e : is_above s p ≡ is_above (last_of s ss) p = ap (λ (z : ℤ). lt_z p.y (z *ℤ pos p.n)) y in
    let r : Even (total (λ e. ind (straddles p e)) (edges_from s ss) + (ind (is_above s p) + ind (is_above (last_of s ss) p))) = path_even p s ss in
    (r.0 - ind (is_above s p), omega (arith, r.1, ap ind e))

pub rings_even : (p : Point) (rs : List (List Spot)) → Each (λ r. is_closed r ≡ true) rs → Even (total (λ e. ind (straddles p e)) (edges_of rs))
rings_even p [] h = (0, omega arith)
rings_even p (r ∷ rs) h =
    let a : Even (total (λ e. ind (straddles p e)) (edges r)) = ring_even p r h.0 in
    let b : Even (total (λ e. ind (straddles p e)) (edges_of rs)) = rings_even p rs h.1 in
    (a.0 + b.0, omega (arith, a.1, b.1, total-append (λ e. ind (straddles p e)) (edges r) (edges_of rs)))

-- ---- one on the right, and one that isn't
by_bool : (b : Bool) → (b ≡ true) ⊎ (b ≡ false)
by_bool true = inl refl
by_bool false = inr refl

pub some_right : {A : Type 0} (t : A → Bool) (xs : List A) → ((a : A) × Has xs a × (t a ≡ true)) ⊎ (total (λ x. ind (t x)) xs ≡ 0)
some_right t [] = inr refl
some_right t (x ∷ xs) = by_first (by_bool (t x)) (some_right t xs)
  where
    by_first : (t x ≡ true) ⊎ (t x ≡ false) → ((a : _) × Has xs a × (t a ≡ true)) ⊎ (total (λ y. ind (t y)) xs ≡ 0) → ((a : _) × Has (x ∷ xs) a × (t a ≡ true)) ⊎ (total (λ y. ind (t y)) (x ∷ xs) ≡ 0)
    by_first (inl e) r = inl (x, inl refl, e)
    by_first (inr e) (inl r) = inl (r.0, inr r.1, r.2)
    by_first (inr e) (inr z) = inr (omega (arith, ap ind e, z))

pub some_other : {A : Type 0} (t u : A → Bool) → ((x : A) → t x ≡ true → u x ≡ true) → (xs : List A) →
    ((a : A) × Has xs a × (u a ≡ true) × (t a ≡ false)) ⊎ (total (λ x. ind (t x)) xs ≡ total (λ x. ind (u x)) xs)
some_other t u f [] = inr refl
some_other t u f (x ∷ xs) = by_first (by_bool (t x)) (by_bool (u x)) (some_other t u f xs)
  where
    by_first : (t x ≡ true) ⊎ (t x ≡ false) → (u x ≡ true) ⊎ (u x ≡ false) → ((a : _) × Has xs a × (u a ≡ true) × (t a ≡ false)) ⊎ (total (λ y. ind (t y)) xs ≡ total (λ y. ind (u y)) xs) →
        ((a : _) × Has (x ∷ xs) a × (u a ≡ true) × (t a ≡ false)) ⊎ (total (λ y. ind (t y)) (x ∷ xs) ≡ total (λ y. ind (u y)) (x ∷ xs))
    by_first (inl e) g (inl r) = inl (r.0, inr r.1, r.2, r.3)
    by_first (inr e) (inr g) (inl r) = inl (r.0, inr r.1, r.2, r.3)
    by_first (inr e) (inl g) r = inl (x, inl refl, g, e)
    by_first (inl e) g (inr z) = inr (omega (arith, ap ind e, ap ind (f x e), z))
    by_first (inr e) (inr g) (inr z) = inr (omega (arith, ap ind e, ap ind g, z))
