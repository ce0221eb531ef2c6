use Rattle.sg_waits.proofs.Named.{standing-none}
use Rattle.sg_waits.proofs.standing.Waits.new.Goals as goal

pub returns : goal.returns
returns c = rw c.none.ensures standing-none
