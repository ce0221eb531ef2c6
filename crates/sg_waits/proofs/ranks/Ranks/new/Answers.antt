use Rattle.sg_waits.proofs.Choice.{rank_of-none}
use Rattle.sg_waits.proofs.ranks.Ranks.new.Goals as goal

pub returns : goal.returns
returns c = rank_of-none 64
