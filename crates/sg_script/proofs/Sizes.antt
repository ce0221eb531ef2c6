-- Numbers of few digits are small.
use Rattle.std.proofs.Common.{ℕ, ◌+◌, ◌*◌, ◌≤◌, ◌<◌, ◌^◌, arith, lit<, add-one}
use Rattle.std.proofs.Math.Nat.{pow-le-pow_right, pow-suc}

pub below_next : (i n d : ℕ) → n < 10 ^ i → d ≤ 9 → 10 * n + d < 10 ^ (i + 1)
below_next i n d h k = rw (add-one, pow-suc) (omega arith)

pub fits_digits : (i n : ℕ) → n < 10 ^ i → i ≤ 18 → n < 10 ^ 18
fits_digits i n h k = omega (arith, pow-le-pow_right {n = 10} (lit< tt) k)

pub fits_next : (i n d : ℕ) → n < 10 ^ i → i < 18 → d ≤ 9 → 10 * n + d < 10 ^ 18
fits_next i n d h k s = fits_digits (i + 1) (10 * n + d) (below_next i n d h s) (omega arith)
