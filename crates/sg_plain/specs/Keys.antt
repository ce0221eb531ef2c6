-- Lists of keys that rise.
use Rattle.std.specs.Prelude.{ℕ, ◌+◌, ◌≤◌, List, [], ◌∷◌}

-- each is at least low and above the one before
abbrev pub RisesFrom : ℕ → List ℕ → Type 0
RisesFrom low [] = Unit {0}
RisesFrom low (k ∷ ks) = (low ≤ k) × RisesFrom (k + 1) ks

-- each is above the one before
abbrev pub IsRising : List ℕ → Type 0
IsRising ks = RisesFrom 0 ks
