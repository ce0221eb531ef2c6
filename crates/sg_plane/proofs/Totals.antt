-- Sums over a list.
use Rattle.std.proofs.Common.{ℕ, ◌≡◌, ◌+◌, arith, Bool, cond, List, [], ◌∷◌, ◌++◌}

abbrev pub ind : Bool → ℕ
ind b = cond b 1 0

abbrev pub total : {X : Type 0} → (X → ℕ) → List X → ℕ
total f [] = 0
total f (x ∷ xs) = f x + total f xs

pub total-append : {X : Type 0} (f : X → ℕ) (xs ys : List X) → total f (xs ++ ys) ≡ total f xs + total f ys
total-append f [] ys = omega arith
total-append f (x ∷ xs) ys = let e : total f (xs ++ ys) ≡ total f xs + total f ys = total-append f xs ys in omega arith
