use Rattle.std.proofs.Common.{sym}
use Rattle.sg_waits.specs.Ranks.{rank_of}
use Rattle.sg_waits.proofs.Finds.{first_none}
use Rattle.sg_waits.proofs.Choice.{chosen_last}
use Rattle.sg_waits.proofs.ranks.victim.Goals as goal

pub returns : goal.returns
returns c = chosen_last (λ u. (rank_of c.args.ranks.now u).priority) (λ u. (rank_of c.args.ranks.now u).cost) c.args.cycle c.loop-s.rest c.loop-s.chosen (first_none c.loop-s.rest (sym c.in_default-pop_first.ensures.first)) c.loop-s.invariant
