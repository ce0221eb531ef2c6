-- What there is to know of a reader or a writer of std with a count of its faults.
use Rattle.std.specs.Prelude.{ℕ}

-- The reader or writer itself, and how often it failed.
pub record Counted (T : Type 0) : Type 0 where
  pub inner : T
  pub faults : ℕ
