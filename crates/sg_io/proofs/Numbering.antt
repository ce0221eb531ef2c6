-- The number of a call among numbers of 32 bits.
use Rattle.std.proofs.Common.{◌≡◌, ◌<◌, ◌+◌, ◌^◌, ◌↔◌, ℕ, List, All, Contains, arith, subst, sym}
use Rattle.std.proofs.lemmas.List.Elements.{All-contains}
use Rattle.sg_io.specs.Causes.{raised}

-- a count that stays at its last value is listed exactly where the exact one is
pub Contains-raised : (numbers : List ℕ) (made : ℕ) → All (λ n. n < 2 ^ 32) numbers → Contains numbers (raised made) ↔ Contains numbers (made + 1)
Contains-raised numbers made small = (
  λ h.
      let below : raised made < 2 ^ 32 = All-contains (λ n. n < 2 ^ 32) numbers (raised made) small h in
      let same : raised made ≡ made + 1 = omega arith in
      subst (Contains numbers) same h,
  λ h.
      let below : made + 1 < 2 ^ 32 = All-contains (λ n. n < 2 ^ 32) numbers (made + 1) small h in
      let same : raised made ≡ made + 1 = omega arith in
      subst (Contains numbers) (sym same) h,
)
