-- The three orders of two whole numbers.
use Rattle.std.proofs.Common.{◌≡◌, arith, refl, Bool, true, false}
use borrow.Author.Differences.{same_in, below_in, lt-true, lt-false}
use lib.IntN.{ℤ}
use lib.Signed.{◌<ℤ◌, lt_z}

-- one is less, both are the same, or it is more
pub data Cmp (a b : ℤ) : Type 0 where
  less : a <ℤ b → Cmp a b
  same : a ≡ b → Cmp a b
  more : b <ℤ a → Cmp a b

cmp_by : (a b : ℤ) (s t : Bool) → lt_z a b ≡ s → lt_z b a ≡ t → Cmp a b
cmp_by a b true t e f = less (omega (arith, below_in, lt-true a b e))
cmp_by a b false true e f = more (omega (arith, below_in, lt-true b a f))
cmp_by a b false false e f = same (omega (arith, same_in, lt-false a b e, lt-false b a f))

pub cmp : (a b : ℤ) → Cmp a b
cmp a b = cmp_by a b (lt_z a b) (lt_z b a) refl refl
