-- Priorities of sessions.
use Rattle.std.specs.Prelude.{ℕ, zero, suc, ℤ, pos, negsuc, ◌≤ℤ◌, List, slice_index_or}

-- a priority is from -10 to 10
abbrev pub IsPriority : ℤ → Type 0
IsPriority p = (negsuc 9 ≤ℤ p) × (p ≤ℤ pos 10)

-- the priority of a session, in a list of priorities from session 1 on
abbrev pub priority_of : List ℤ → ℕ → ℤ
priority_of ps zero = pos 0
priority_of ps (suc i) = slice_index_or ps i (pos 0)

abbrev pub ArePriorities : List ℤ → Type 0
ArePriorities ps = (s : ℕ) → IsPriority (priority_of ps s)
