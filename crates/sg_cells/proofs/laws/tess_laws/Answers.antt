use Rattle.sg_cells.proofs.Lawful.{looks_right, cells_stand, looks_agree}
use Rattle.sg_cells.proofs.Staying.{counts_within, stay_for_room}
use Rattle.sg_cells.proofs.laws.tess_laws.Goals as goal

pub returns : goal.returns
returns c = record { looks = looks_right; stands = cells_stand; agree = looks_agree; counts = counts_within; room = stay_for_room }
