use Rattle.std.proofs.Common.{length}
use Rattle.sg_waits.specs.Ranks.{rank_of}
use Rattle.sg_waits.proofs.Choice.{Chosen}
use Rattle.sg_waits.proofs.ranks.victim.Given as goal

abbrev pub invariant-loop-s : goal.invariant-loop-s
invariant-loop-s l = Chosen (λ u. (rank_of l.ranks u).priority) (λ u. (rank_of l.ranks u).cost) l.fn.cycle l.rest l.chosen

abbrev pub decreases-loop-s : goal.decreases-loop-s
decreases-loop-s l = length l.rest
