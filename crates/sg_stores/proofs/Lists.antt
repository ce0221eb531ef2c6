-- The first part of a list, and the item behind it.
use Rattle.std.specs.Prelude.{slice_get, take}
use Rattle.std.proofs.Common.{◌≡◌, ℕ, suc, zero, ◌<◌, List, [], ◌∷◌, ◌++◌, length, Some, None, refl, ap, arith}

module _ {X : Type 0} where
  pub taken_at : (xs : List X) (i : ℕ) (x : X) → slice_get xs i ≡ Some x → take (suc i) xs ≡ take i xs ++ x ∷ []
  taken_at [] i x e = absurd (cc)
  taken_at (y ∷ ys) zero x e = let same : y ≡ x = cc in ap (λ t. t ∷ []) same
  taken_at (y ∷ ys) (suc i) x e = ap (λ t. y ∷ t) (taken_at ys i x e)

  pub record Around (xs : List X) (i : ℕ) (x : X) : Type 0 where
    pub after : List X
    pub whole : xs ≡ take i xs ++ x ∷ after
    pub within : i < length xs

  pub around : (xs : List X) (i : ℕ) (x : X) → slice_get xs i ≡ Some x → Around xs i x
  around [] i x e = absurd (cc)
  around (y ∷ ys) zero x e = let same : y ≡ x = cc in record { after = ys; whole = ap (λ t. t ∷ ys) same; within = omega arith }
  around (y ∷ ys) (suc i) x e = let r = around ys i x e in let h = r.within in record { after = r.after; whole = ap (λ t. y ∷ t) r.whole; within = omega arith }

  pub taken_all : (xs : List X) (i : ℕ) → slice_get xs i ≡ None → take i xs ≡ xs
  taken_all [] zero e = refl
  taken_all [] (suc i) e = refl
  taken_all (y ∷ ys) zero e = absurd (cc)
  taken_all (y ∷ ys) (suc i) e = ap (λ t. y ∷ t) (taken_all ys i e)
