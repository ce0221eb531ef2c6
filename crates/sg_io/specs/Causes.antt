-- What a count of faults says of the failures of one call.
use Rattle.std.specs.Prelude.{ℕ, ◌+◌, ◌-◌, ◌^◌, ◌≤◌, min, Result, OnErr}

-- a count of 64 bits after one more, which stays at its last value
abbrev pub raised : ℕ → ℕ
raised count = min (count + 1) (2 ^ 64 - 1)

-- The count rose, or it stands at the last value of its counter.
abbrev pub Rose : ℕ → ℕ → Type 0
Rose before now = raised before ≤ now

-- The count doesn't fall, and the call fails only where it rose.
pub record HasCause {T E : Type 0} (before now : ℕ) (result : Result T E) : Type 0 where
  pub later : before ≤ now
  pub failed : OnErr result (Rose before now)
