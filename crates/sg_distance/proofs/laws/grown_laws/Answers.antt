use Rattle.sg_distance.proofs.Grown.{has_its_box, has_all_near}
use Rattle.sg_distance.proofs.laws.grown_laws.Goals as goal

pub returns-clause-points : goal.returns-clause-points
returns-clause-points c = has_its_box

pub returns-clause-near : goal.returns-clause-near
returns-clause-near c = has_all_near
