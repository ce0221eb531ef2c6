use Rattle.sg_wkt.proofs.LawProofs.{shape_in-canonical}
use Rattle.sg_wkt.proofs.laws.reads_back.Goals as goal

pub returns : goal.returns
returns c = shape_in-canonical
