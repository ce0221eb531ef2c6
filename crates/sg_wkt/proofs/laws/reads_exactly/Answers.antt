use Rattle.sg_wkt.proofs.LawProofs.{shape_in-exactly}
use Rattle.sg_wkt.proofs.laws.reads_exactly.Goals as goal

pub returns : goal.returns
returns c = shape_in-exactly
