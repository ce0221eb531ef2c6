-- What there is to know of a source and of a sink in memory.
use Rattle.std.specs.Prelude.{ℕ, List}

-- A source in memory: the bytes that are left, the most that one read moves, the numbers of the reads that
-- fail, the number of its last read (the first is 1), and how many reads failed.
pub record SourceState : Type 0 where
  pub left : List ℕ
  pub piece : ℕ
  pub fails : List ℕ
  pub calls : ℕ
  pub faults : ℕ

-- A sink in memory: the bytes that it has taken, the most that one write takes, the most that it takes in all,
-- the numbers of the writes that fail, the number of its last write (the first is 1), and how many writes failed.
pub record SinkState : Type 0 where
  pub taken : List ℕ
  pub piece : ℕ
  pub room : ℕ
  pub fails : List ℕ
  pub calls : ℕ
  pub faults : ℕ
