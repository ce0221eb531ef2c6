use Rattle.std.proofs.Common.{suc, arith, pos, slice_index_or}
use Rattle.std.proofs.lemmas.Int.{ints}
use Rattle.sg_modes.specs.Priorities.{IsPriority}
use Rattle.sg_modes.proofs.priorities.Priorities.of.Goals as goal

pub returns-clause-range : goal.returns-clause-range
returns-clause-range c = let h : IsPriority (slice_index_or c.self.inside.by_session c.index.result (pos 0)) = c.self.invariant (suc c.index.result) in (omega (arith, ints), omega (arith, ints))
