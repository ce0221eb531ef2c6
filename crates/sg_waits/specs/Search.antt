-- The search for a cycle, backwards from its session in layers.
use Rattle.std.specs.Prelude.{◌≡◌, ℕ, zero, suc, ◌<◌, Bool, true, false, ◌||◌, List, eqb}
use Rattle.std.specs.List.{list_any}
use Rattle.sg_modes.specs.Sessions.{has_session}

-- x leads to s by at most n waits
abbrev pub within : (ℕ → List ℕ) → ℕ → ℕ → ℕ → Bool
within f s zero x = eqb x s
within f s (suc n) x = within f s n x || list_any (within f s n) (f x)

-- a set is the layer of those that lead to s by at most n waits
pub record Layer (f : ℕ → List ℕ) (s n : ℕ) (set : List ℕ) : Type 0 where
  pub is : (x : ℕ) → has_session set x ≡ within f s n x

-- the nearest of those that x waits for is n waits from s
pub record Ahead (f : ℕ → List ℕ) (s x n : ℕ) : Type 0 where
  pub leads : list_any (within f s n) (f x) ≡ true
  pub fewest : (m : ℕ) → m < n → list_any (within f s m) (f x) ≡ false

-- x is near, or waits for one that is
abbrev pub near_or_waiting : (ℕ → List ℕ) → List ℕ → ℕ → Bool
near_or_waiting f near x = has_session near x || list_any (has_session near) (f x)
