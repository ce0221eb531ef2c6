-- Edges written from either end, numbers between two others, and flat edges.
use Rattle.std.proofs.Common.{◌≡◌, arith, refl, sym, ap, Bool, true, false, not}
use mathlib.Core.Bool.{◌&&◌, ◌||◌}
use mathlib.Core.Logic.{inl, inr}
use lib.IntN.{ℤ, pos, ◌-ℤ◌, ◌*ℤ◌, zero-*ℤ, *ℤ-zero}
use lib.Signed.{◌≤ℤ◌, lt_z, le_z}
use Rattle.sg_shape.specs.declared.spots.Spot.{Spot}
use Rattle.sg_shape.specs.Plane.{Point, eq_z, between, on_edge, is_above, passes_right, crosses_ray}
use Rattle.sg_algebra.proofs.Ring.{sums, products}
use Rattle.sg_algebra.proofs.Comparisons.{le-from_true, true-from_le, same_test, left_true, right_true, both, either_true, or_left, or_right, true-from_eq, eq-from_true, or_swap}

-- on numbers: the point (x, y, n) is on the line through (ax, ay) and (bx, by)
abbrev pub on_line : ℤ → ℤ → ℤ → ℤ → ℤ → ℤ → ℤ → Bool
on_line ax ay bx by x y n = eq_z ((x -ℤ ax *ℤ n) *ℤ (by -ℤ ay)) ((y -ℤ ay *ℤ n) *ℤ (bx -ℤ ax))

-- ---- numbers between two others
pub between_up : (a b v : ℤ) → a ≤ℤ v → v ≤ℤ b → between a b v ≡ true
between_up a b v h k = or_left _ _ (both _ _ (true-from_le a v h) (true-from_le v b k))

pub between_down : (a b v : ℤ) → b ≤ℤ v → v ≤ℤ a → between a b v ≡ true
between_down a b v h k = or_right (le_z a v && le_z v b) _ (both _ _ (true-from_le b v h) (true-from_le v a k))

pub between-not_after : (a b v : ℤ) → a ≤ℤ b → between a b v ≡ (le_z a v && le_z v b)
between-not_after a b v h =
    same_test
    (λ t. elim (either_true (le_z a v && le_z v b) (le_z b v && le_z v a) t) [
      | inl s ↦ s
      | inr s ↦
          let p : b ≤ℤ v = le-from_true b v (left_true (le_z b v) (le_z v a) s) in
          let q : v ≤ℤ a = le-from_true v a (right_true (le_z b v) (le_z v a) s) in
          both (le_z a v) (le_z v b) (true-from_le a v (omega (arith, sums))) (true-from_le v b (omega (arith, sums)))
    ])
    (λ t. or_left (le_z a v && le_z v b) (le_z b v && le_z v a) t)

pub between-swap : (a b v : ℤ) → between a b v ≡ between b a v
between-swap a b v = or_swap (le_z a v && le_z v b) (le_z b v && le_z v a)

-- ---- an edge written from its upper end
pub same_eq_neg : (a b c d : ℤ) → a -ℤ b ≡ d -ℤ c → eq_z a b ≡ eq_z c d
same_eq_neg a b c d e =
    same_test
    (λ t. true-from_eq c d (let l : a ≡ b = eq-from_true a b t in omega (arith, sums)))
    (λ t. true-from_eq a b (let l : c ≡ d = eq-from_true c d t in omega (arith, sums)))

turned : (ax ay bx by x y n : ℤ) →
    (x -ℤ bx *ℤ n) *ℤ (ay -ℤ by) -ℤ (y -ℤ by *ℤ n) *ℤ (ax -ℤ bx) ≡ (y -ℤ ay *ℤ n) *ℤ (bx -ℤ ax) -ℤ (x -ℤ ax *ℤ n) *ℤ (by -ℤ ay)
turned ax ay bx by x y n = simp products (omega (arith, sums))

pub on_edge-turned : (a b : Spot) (p : Point) → on_edge (record { from = b; to = a }) p ≡ on_edge (record { from = a; to = b }) p
on_edge-turned a b p =
    rw (
      same_eq_neg ((p.x -ℤ b.x *ℤ pos p.n) *ℤ (a.y -ℤ b.y)) ((p.y -ℤ b.y *ℤ pos p.n) *ℤ (a.x -ℤ b.x))
          ((p.x -ℤ a.x *ℤ pos p.n) *ℤ (b.y -ℤ a.y)) ((p.y -ℤ a.y *ℤ pos p.n) *ℤ (b.x -ℤ a.x))
          (turned a.x a.y b.x b.y p.x p.y (pos p.n)),
      between-swap (b.x *ℤ pos p.n) (a.x *ℤ pos p.n) p.x,
      between-swap (b.y *ℤ pos p.n) (a.y *ℤ pos p.n) p.y,
    )

pub crosses_ray-turned : (a b : Spot) (p : Point) → crosses_ray (record { from = b; to = a }) p ≡ crosses_ray (record { from = a; to = b }) p
crosses_ray-turned a b p = or_swap (is_above a p && not (is_above b p) && passes_right b a p) (is_above b p && not (is_above a p) && passes_right a b p)

-- ---- a flat edge
same_or : (s t : Bool) → ((s && t) || (s && t)) ≡ (t && s)
same_or true true = refl
same_or true false = refl
same_or false true = refl
same_or false false = refl

pub between_same : (a v : ℤ) → between a a v ≡ eq_z v a
between_same a v = same_or (le_z a v) (le_z v a)

implied : (l u v : Bool) → (v ≡ true → l ≡ true) → (l && (u && v)) ≡ (v && u)
implied true true true f = refl
implied true true false f = refl
implied true false true f = refl
implied true false false f = refl
implied false u true f = absurd (let e : false ≡ true = f refl in cc)
implied false u false f = refl

flat : (ax ay bx x y n : ℤ) →
    (on_line ax ay bx ay x y n && (between (ax *ℤ n) (bx *ℤ n) x && between (ay *ℤ n) (ay *ℤ n) y))
    ≡ (eq_z y (ay *ℤ n) && between (ax *ℤ n) (bx *ℤ n) x)
flat ax ay bx x y n =
    rw (between_same (ay *ℤ n) y)
    (implied (on_line ax ay bx ay x y n) (between (ax *ℤ n) (bx *ℤ n) x) (eq_z y (ay *ℤ n))
    (λ t. true-from_eq ((x -ℤ ax *ℤ n) *ℤ (ay -ℤ ay)) ((y -ℤ ay *ℤ n) *ℤ (bx -ℤ ax))
    (let e : y ≡ ay *ℤ n = eq-from_true y (ay *ℤ n) t in
    let z1 : ay -ℤ ay ≡ pos 0 = omega (arith, sums) in
    let z2 : y -ℤ ay *ℤ n ≡ pos 0 = omega (arith, sums) in
    rw (z1, z2, *ℤ-zero, zero-*ℤ) refl)))

pub on_edge-flat : (a b : Spot) → a.y ≡ b.y → (p : Point) →
    on_edge (record { from = a; to = b }) p ≡ (eq_z p.y (a.y *ℤ pos p.n) && between (a.x *ℤ pos p.n) (b.x *ℤ pos p.n) p.x)
on_edge-flat a b h p = rw (← h) (flat a.x a.y b.x p.x p.y (pos p.n))

no_crossing : (s u v : Bool) → ((s && not s && u) || (s && not s && v)) ≡ false
no_crossing true u v = refl
no_crossing false u v = refl

pub crosses_ray-flat : (a b : Spot) → a.y ≡ b.y → (p : Point) → crosses_ray (record { from = a; to = b }) p ≡ false
crosses_ray-flat a b h p =
    let e : is_above b p ≡ is_above a p = ap (λ (s : ℤ). lt_z p.y (s *ℤ pos p.n)) (sym h) in
    rw e (no_crossing (is_above a p) (passes_right a b p) (passes_right b a p))
