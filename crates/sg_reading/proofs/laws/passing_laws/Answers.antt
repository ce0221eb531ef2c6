use Rattle.sg_reading.proofs.Passing.{ranges_are, rows_are, reads_stay}
use Rattle.sg_reading.proofs.Staying.{ranges_stay, parts_stay, rows_stay}
use Rattle.sg_reading.proofs.laws.passing_laws.Goals as goal

pub returns : goal.returns
returns c = record { ranges = ranges_are; rows = rows_are; reads = reads_stay; whole = ranges_stay; parts = parts_stay; table = rows_stay }
