-- Below and at most, in one.
use Rattle.std.proofs.Common.{◌≡◌, arith, refl, subst, Bool, true, false}
use lib.IntN.{ℤ, pos, ◌+ℤ◌, ◌-ℤ◌, ◌*ℤ◌, neg_ℤ}
use lib.Signed.{◌<ℤ◌, ◌≤ℤ◌}
use Rattle.sg_algebra.proofs.Ring.{sums, products, nonneg_diff-mul, lt-mul_right, mul-neg, neg-mul}
use Rattle.sg_algebra.proofs.Cancelling.{le-cancel_right, lt-cancel_right}
use Rattle.sg_algebra.specs.Orders.{cmp, less, same, more}
use Rattle.sg_distance.proofs.Signs.{n*n, w*w, p*p}
use Rattle.sg_distance.proofs.Nearness.{Below}

pub below-le : (s : Bool) (a b c : ℤ) → Below s a b → b ≤ℤ c → Below s a c
below-le true a b c h k = omega (arith, sums)
below-le false a b c h k = omega (arith, sums)

pub le-below : (s : Bool) (a b c : ℤ) → a ≤ℤ b → Below s b c → Below s a c
le-below true a b c h k = omega (arith, sums)
le-below false a b c h k = omega (arith, sums)

pub below-mul : (s : Bool) (a b k : ℤ) → pos 0 <ℤ k → Below s a b → Below s (a *ℤ k) (b *ℤ k)
below-mul true a b k ko h = lt-mul_right a b k ko h
below-mul false a b k ko h = nonneg_diff-mul a b k (omega (arith, sums)) h

pub below-cancel : (s : Bool) (a b k : ℤ) → pos 0 <ℤ k → Below s (a *ℤ k) (b *ℤ k) → Below s a b
below-cancel true a b k ko h = lt-cancel_right a b k ko h
below-cancel false a b k ko h = le-cancel_right a b k ko h

pub below-at : (s : Bool) (a b c d : ℤ) → a ≡ c → b ≡ d → Below s a b → Below s c d
below-at s a b c d e f h = subst (λ (x : ℤ). Below s c x) f (subst (λ (x : ℤ). Below s x b) e h)

-- squares
pub square-over : (a : ℤ) → pos 0 ≤ℤ (a *ℤ a)
square-over a = elim (cmp a (pos 0)) [
  | less l ↦ w*w a a (omega (arith, sums)) (omega (arith, sums))
  | same l ↦ n*n a a (omega (arith, sums)) (omega (arith, sums))
  | more l ↦ n*n a a (omega (arith, sums)) (omega (arith, sums))
]

-- a within m on both sides
pub square-within : (a m : ℤ) → neg_ℤ m ≤ℤ a → a ≤ℤ m → (a *ℤ a) ≤ℤ (m *ℤ m)
square-within a m l h =
    let u : pos 0 ≤ℤ ((m -ℤ a) *ℤ (m +ℤ a)) = n*n (m -ℤ a) (m +ℤ a) (omega (arith, sums)) (omega (arith, sums)) in
    let e : (m -ℤ a) *ℤ (m +ℤ a) ≡ m *ℤ m -ℤ a *ℤ a = simp products (omega (arith, sums)) in
    omega (arith, sums)

pub square-zero : (a b : ℤ) → (a *ℤ a +ℤ b *ℤ b) ≤ℤ pos 0 → (a ≡ pos 0) × (b ≡ pos 0)
square-zero a b h =
    let p : pos 0 ≤ℤ (a *ℤ a) = square-over a in
    let q : pos 0 ≤ℤ (b *ℤ b) = square-over b in
    (root a (omega (arith, sums)), root b (omega (arith, sums)))
  where
    root : (c : ℤ) → (c *ℤ c) ≤ℤ pos 0 → c ≡ pos 0
    root c k = elim (cmp c (pos 0)) [
      | less l ↦ absurd (let r : pos 0 <ℤ (neg_ℤ c *ℤ neg_ℤ c) = p*p (neg_ℤ c) (neg_ℤ c) (omega (arith, sums)) (omega (arith, sums)) in let e : neg_ℤ c *ℤ neg_ℤ c ≡ c *ℤ c = twice c in omega (arith, sums))
      | same l ↦ l
      | more l ↦ absurd (let r : pos 0 <ℤ (c *ℤ c) = p*p c c l l in omega (arith, sums))
    ]
      where
        twice : (c : ℤ) → neg_ℤ c *ℤ neg_ℤ c ≡ c *ℤ c
        twice c =
            let a : neg_ℤ c *ℤ neg_ℤ c ≡ neg_ℤ (c *ℤ neg_ℤ c) = neg-mul c (neg_ℤ c) in
            let b : c *ℤ neg_ℤ c ≡ neg_ℤ (c *ℤ c) = mul-neg c c in
            omega (arith, sums)

-- a number's size
pub record Size (a : ℤ) : Type 0 where
  pub m : ℤ
  pub over : pos 0 ≤ℤ m
  pub above : a ≤ℤ m
  pub under : neg_ℤ m ≤ℤ a
  pub square : m *ℤ m ≡ a *ℤ a

pub size : (a : ℤ) → Size a
size a = elim (cmp a (pos 0)) [
  | less l ↦ record { m = neg_ℤ a; over = omega (arith, sums); above = omega (arith, sums); under = omega (arith, sums); square = twice a }
  | same l ↦ record { m = a; over = omega (arith, sums); above = omega (arith, sums); under = omega (arith, sums); square = refl }
  | more l ↦ record { m = a; over = omega (arith, sums); above = omega (arith, sums); under = omega (arith, sums); square = refl }
]
  where
    twice : (c : ℤ) → neg_ℤ c *ℤ neg_ℤ c ≡ c *ℤ c
    twice c =
        let a : neg_ℤ c *ℤ neg_ℤ c ≡ neg_ℤ (c *ℤ neg_ℤ c) = neg-mul c (neg_ℤ c) in
        let b : c *ℤ neg_ℤ c ≡ neg_ℤ (c *ℤ c) = mul-neg c c in
        omega (arith, sums)
