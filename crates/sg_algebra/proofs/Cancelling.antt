-- A factor above 0 is cancelled on the right.
use Rattle.std.proofs.Common.{◌≡◌, arith, ap}
use lib.IntN.{ℤ, pos, ◌*ℤ◌}
use lib.Signed.{◌<ℤ◌, ◌≤ℤ◌}
use Rattle.sg_algebra.proofs.Ring.{sums, lt-mul_right}
use Rattle.sg_algebra.specs.Orders.{less, same, more, cmp}

pub lt-cancel_right : (a b w : ℤ) → pos 0 <ℤ w → (a *ℤ w) <ℤ (b *ℤ w) → a <ℤ b
lt-cancel_right a b w k h =
    elim (cmp a b) [
      | less l ↦ l
      | same e ↦ absurd (let q : a *ℤ w ≡ b *ℤ w = ap (λ (s : ℤ). s *ℤ w) e in omega (arith, sums))
      | more l ↦ absurd (let q : (b *ℤ w) <ℤ (a *ℤ w) = lt-mul_right b a w k l in omega (arith, sums))
    ]

pub le-cancel_right : (a b w : ℤ) → pos 0 <ℤ w → (a *ℤ w) ≤ℤ (b *ℤ w) → a ≤ℤ b
le-cancel_right a b w k h =
    elim (cmp a b) [
      | less l ↦ omega (arith, sums)
      | same e ↦ omega (arith, sums)
      | more l ↦ absurd (let q : (b *ℤ w) <ℤ (a *ℤ w) = lt-mul_right b a w k l in omega (arith, sums))
    ]

pub eq-cancel_right : (a b w : ℤ) → pos 0 <ℤ w → a *ℤ w ≡ b *ℤ w → a ≡ b
eq-cancel_right a b w k h =
    elim (cmp a b) [
      | less l ↦ absurd (let q : (a *ℤ w) <ℤ (b *ℤ w) = lt-mul_right a b w k l in omega (arith, sums))
      | same e ↦ e
      | more l ↦ absurd (let q : (b *ℤ w) <ℤ (a *ℤ w) = lt-mul_right b a w k l in omega (arith, sums))
    ]
