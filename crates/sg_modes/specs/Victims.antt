-- The victim of a cycle.
use Rattle.std.specs.Prelude.{◌≡◌, ℕ, ℤ, ◌≤◌, ◌≤ℤ◌, true, List}
use Rattle.sg_modes.specs.Sessions.{has_session}

-- the member of the lowest priority; of these one of the least cost; of these the one of the greatest number
pub record IsVictim (priority : ℕ → ℤ) (cost : ℕ → ℕ) (cycle : List ℕ) (v : ℕ) : Type 0 where
  pub member : has_session cycle v ≡ true
  pub lowest : (u : ℕ) → has_session cycle u ≡ true → priority v ≤ℤ priority u
  pub cheapest : (u : ℕ) → has_session cycle u ≡ true → priority u ≡ priority v → cost v ≤ cost u
  pub greatest : (u : ℕ) → has_session cycle u ≡ true → priority u ≡ priority v → cost u ≡ cost v → u ≤ v
