-- Sides and their numbers of places.
use Rattle.std.proofs.Common.{ℕ, zero, suc, ◌≡◌, ◌*◌, arith, refl, subst, sym, inl, inr}
use Rattle.sg_hilbert.specs.Curve.{IsSide, doublings, four_to, two_to}

pub doubles : (side : ℕ) → IsSide side → two_to (doublings side) ≡ side
doubles side (inl e) = subst (λ n. two_to (doublings n) ≡ n) (sym e) refl
doubles side (inr (inl e)) = subst (λ n. two_to (doublings n) ≡ n) (sym e) refl
doubles side (inr (inr e)) = subst (λ n. two_to (doublings n) ≡ n) (sym e) refl

pub squares : (k : ℕ) → four_to k ≡ two_to k * two_to k
squares zero = refl
squares (suc k) = let h = squares k in grind arith
