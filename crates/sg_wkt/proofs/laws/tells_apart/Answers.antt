use Rattle.sg_wkt.proofs.LawProofs.{canonical-injective}
use Rattle.sg_wkt.proofs.laws.tells_apart.Goals as goal

pub returns : goal.returns
returns c = canonical-injective
