use Rattle.sg_wkt.proofs.FaultLaws.{shape_in-faults}
use Rattle.sg_wkt.proofs.laws.tells_faults.Goals as goal

pub returns : goal.returns
returns c = shape_in-faults
