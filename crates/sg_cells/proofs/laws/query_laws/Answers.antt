use Rattle.sg_cells.proofs.Grown.{grown_right}
use Rattle.sg_cells.proofs.laws.query_laws.Goals as goal

pub returns : goal.returns
returns c = record { grown = grown_right }
