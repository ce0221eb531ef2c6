-- Sessions as numbers, and sets of sessions as rising lists of numbers.
use Rattle.std.specs.Prelude.{ℕ, ◌<◌, ◌≤◌, Bool, cond, List, [], ◌∷◌, eqb, ltb}
use Rattle.std.specs.List.{list_any}

-- sessions have the numbers 1 to 64
abbrev pub IsSession : ℕ → Type 0
IsSession n = (1 ≤ n) × (n ≤ 64)

-- the numbers rise, each above the low one and at most 64
abbrev pub RisingAbove : ℕ → List ℕ → Type 0
RisingAbove low [] = Unit {0}
RisingAbove low (n ∷ ns) = (low < n) × (n ≤ 64) × RisingAbove n ns

-- a set of sessions
abbrev pub AreSessions : List ℕ → Type 0
AreSessions ns = RisingAbove 0 ns

-- the set has the session
abbrev pub has_session : List ℕ → ℕ → Bool
has_session ns s = list_any (eqb s) ns

-- the set with the session too
abbrev pub with_session : List ℕ → ℕ → List ℕ
with_session [] s = s ∷ []
with_session (n ∷ ns) s = cond (ltb s n) (s ∷ n ∷ ns) (cond (eqb s n) (n ∷ ns) (n ∷ with_session ns s))

-- the set without the session
abbrev pub without_session : List ℕ → ℕ → List ℕ
without_session [] s = []
without_session (n ∷ ns) s = cond (eqb s n) ns (n ∷ without_session ns s)
