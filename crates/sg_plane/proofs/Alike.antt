-- Two numbers on one side of 0, and the signs at a chosen line.
use Rattle.std.proofs.Common.{◌≡◌, arith}
use lib.IntN.{ℤ, pos, ◌+ℤ◌, ◌-ℤ◌, ◌*ℤ◌, neg_ℤ, zero-*ℤ}
use lib.Signed.{◌<ℤ◌, ◌≤ℤ◌}
use Rattle.sg_algebra.proofs.Ring.{sums, products, mul-nonneg, mul-pos, nonneg_diff-mul, lt-mul_right}
use Rattle.sg_algebra.proofs.Cancelling.{le-cancel_right}
use Rattle.sg_algebra.specs.Orders.{Cmp, less, same, more, cmp}

pub data Alike (a b : ℤ) : Type 0 where
  over : pos 0 <ℤ a → pos 0 <ℤ b → Alike a b
  zeros : a ≡ pos 0 → b ≡ pos 0 → Alike a b
  under : a <ℤ pos 0 → b <ℤ pos 0 → Alike a b

pub alike-trans : (a b c : ℤ) → Alike a b → Alike b c → Alike a c
alike-trans a b c (over h k) (over l m) = over h m
alike-trans a b c (over h k) (zeros l m) = absurd (omega (arith, sums, k, l))
alike-trans a b c (over h k) (under l m) = absurd (omega (arith, sums, k, l))
alike-trans a b c (zeros h k) (over l m) = absurd (omega (arith, sums, k, l))
alike-trans a b c (zeros h k) (zeros l m) = zeros h m
alike-trans a b c (zeros h k) (under l m) = absurd (omega (arith, sums, k, l))
alike-trans a b c (under h k) (over l m) = absurd (omega (arith, sums, k, l))
alike-trans a b c (under h k) (zeros l m) = absurd (omega (arith, sums, k, l))
alike-trans a b c (under h k) (under l m) = under h m

pub alike-sym : (a b : ℤ) → Alike a b → Alike b a
alike-sym a b (over h k) = over k h
alike-sym a b (zeros h k) = zeros k h
alike-sym a b (under h k) = under k h

pub alike-neg : (a b c d : ℤ) → c ≡ neg_ℤ a → d ≡ neg_ℤ b → Alike c d → Alike a b
alike-neg a b c d e g (over h k) = under (omega (arith, sums, h, e)) (omega (arith, sums, k, g))
alike-neg a b c d e g (zeros h k) = zeros (omega (arith, sums, h, e)) (omega (arith, sums, k, g))
alike-neg a b c d e g (under h k) = over (omega (arith, sums, h, e)) (omega (arith, sums, k, g))

-- a number and its product with one above 0
pub alike-scaled : (a w : ℤ) → pos 0 <ℤ w → Alike a (a *ℤ w)
alike-scaled a w h = by_cmp (cmp a (pos 0))
  where
    by_cmp : Cmp a (pos 0) → Alike a (a *ℤ w)
    by_cmp (less k) =
        let l : (a *ℤ w) <ℤ (pos 0 *ℤ w) = lt-mul_right a (pos 0) w h k in
        let z : pos 0 *ℤ w ≡ pos 0 = zero-*ℤ w in
        under k (omega (arith, sums))
    by_cmp (same e) = zeros e (rw e (zero-*ℤ w))
    by_cmp (more k) = over k (mul-pos a w k h)

-- ---- the form v against the lowest form that isn't below 0 and the highest that isn't above
pub mean_sign : (v p q a b c : ℤ) → pos 0 <ℤ a → pos 0 <ℤ b → pos 0 <ℤ c → pos 0 ≤ℤ p → q ≤ℤ pos 0 →
    (pos 0 ≤ℤ v → (p *ℤ a) ≤ℤ (v *ℤ b)) → (v ≤ℤ pos 0 → (v *ℤ c) ≤ℤ (q *ℤ a)) →
    Alike v ((v *ℤ b -ℤ p *ℤ a) *ℤ c +ℤ (v *ℤ c -ℤ q *ℤ a) *ℤ b)
mean_sign v p q a b c pa pb pc hp hq f g = by_cmp (cmp v (pos 0))
  where
    by_cmp : Cmp v (pos 0) → Alike v ((v *ℤ b -ℤ p *ℤ a) *ℤ c +ℤ (v *ℤ c -ℤ q *ℤ a) *ℤ b)
    by_cmp (more h) =
        let k : (p *ℤ a) ≤ℤ (v *ℤ b) = f (omega (arith, sums)) in
        let x : pos 0 ≤ℤ ((v *ℤ b -ℤ p *ℤ a) *ℤ c) = mul-nonneg (v *ℤ b -ℤ p *ℤ a) c (omega (arith, sums)) (omega (arith, sums)) in
        let s : pos 0 <ℤ (v *ℤ c) = mul-pos v c h pc in
        let t : (q *ℤ a) ≤ℤ (pos 0 *ℤ a) = nonneg_diff-mul q (pos 0) a (omega (arith, sums)) hq in
        let z : pos 0 *ℤ a ≡ pos 0 = zero-*ℤ a in
        let y : pos 0 <ℤ ((v *ℤ c -ℤ q *ℤ a) *ℤ b) = mul-pos (v *ℤ c -ℤ q *ℤ a) b (omega (arith, sums)) pb in
        over h (omega (arith, sums, x, y))
    by_cmp (less h) =
        let k : (v *ℤ c) ≤ℤ (q *ℤ a) = g (omega (arith, sums)) in
        let x : ((v *ℤ c -ℤ q *ℤ a) *ℤ b) ≤ℤ (pos 0 *ℤ b) = nonneg_diff-mul (v *ℤ c -ℤ q *ℤ a) (pos 0) b (omega (arith, sums)) (omega (arith, sums)) in
        let z1 : pos 0 *ℤ b ≡ pos 0 = zero-*ℤ b in
        let s : (v *ℤ b) <ℤ (pos 0 *ℤ b) = lt-mul_right v (pos 0) b pb h in
        let t : pos 0 ≤ℤ (p *ℤ a) = mul-nonneg p a hp (omega (arith, sums)) in
        let y : ((v *ℤ b -ℤ p *ℤ a) *ℤ c) <ℤ (pos 0 *ℤ c) = lt-mul_right (v *ℤ b -ℤ p *ℤ a) (pos 0) c pc (omega (arith, sums)) in
        let z2 : pos 0 *ℤ c ≡ pos 0 = zero-*ℤ c in
        under h (omega (arith, sums, x, y, z1, z2))
    by_cmp (same e) =
        let k : (p *ℤ a) ≤ℤ (v *ℤ b) = f (omega (arith, sums)) in
        let l : (v *ℤ c) ≤ℤ (q *ℤ a) = g (omega (arith, sums)) in
        let t : pos 0 ≤ℤ (p *ℤ a) = mul-nonneg p a hp (omega (arith, sums)) in
        let u : (q *ℤ a) ≤ℤ (pos 0 *ℤ a) = nonneg_diff-mul q (pos 0) a (omega (arith, sums)) hq in
        let z : pos 0 *ℤ a ≡ pos 0 = zero-*ℤ a in
        let m : v *ℤ b ≡ pos 0 = rw e (zero-*ℤ b) in
        let n : v *ℤ c ≡ pos 0 = rw e (zero-*ℤ c) in
        let x : v *ℤ b -ℤ p *ℤ a ≡ pos 0 = omega (arith, sums) in
        let y : v *ℤ c -ℤ q *ℤ a ≡ pos 0 = omega (arith, sums) in
        zeros e (rw (x, y) (let z1 : pos 0 *ℤ c ≡ pos 0 = zero-*ℤ c in let z2 : pos 0 *ℤ b ≡ pos 0 = zero-*ℤ b in omega (arith, sums, z1, z2)))

-- quotients in order
pub chain : (p q r u v w : ℤ) → pos 0 <ℤ u → pos 0 <ℤ v → pos 0 <ℤ w → (p *ℤ v) ≤ℤ (q *ℤ u) → (q *ℤ w) ≤ℤ (r *ℤ v) → (p *ℤ w) ≤ℤ (r *ℤ u)
chain p q r u v w pu pv pw a b =
    let a' : ((p *ℤ v) *ℤ w) ≤ℤ ((q *ℤ u) *ℤ w) = nonneg_diff-mul (p *ℤ v) (q *ℤ u) w (omega (arith, sums)) a in
    let b' : ((q *ℤ w) *ℤ u) ≤ℤ ((r *ℤ v) *ℤ u) = nonneg_diff-mul (q *ℤ w) (r *ℤ v) u (omega (arith, sums)) b in
    let e1 : (p *ℤ w) *ℤ v ≡ (p *ℤ v) *ℤ w = simp products in
    let e2 : (q *ℤ u) *ℤ w ≡ (q *ℤ w) *ℤ u = simp products in
    let e3 : (r *ℤ u) *ℤ v ≡ (r *ℤ v) *ℤ u = simp products in
    le-cancel_right (p *ℤ w) (r *ℤ u) v pv (omega (arith, sums))
