use Rattle.sg_cells.proofs.Related.{ranges_related}
use Rattle.sg_cells.proofs.Rising.{ranges_rise}
use Rattle.sg_cells.proofs.Lawful.{candidates, sure_ones}
use Rattle.sg_cells.proofs.laws.range_laws.Goals as goal

pub returns : goal.returns
returns c = record { related = ranges_related; rise = ranges_rise; candidates = candidates; sure = sure_ones }
