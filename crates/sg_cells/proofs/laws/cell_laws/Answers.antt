use Rattle.sg_cells.proofs.Ids.{contains_interval, order_of_ids}
use Rattle.sg_cells.proofs.Lawful.{levels_split, children_split_cell, empty_holds}
use Rattle.sg_cells.proofs.laws.cell_laws.Goals as goal

pub returns : goal.returns
returns c = record { levels = levels_split; children = children_split_cell; empty = empty_holds; descendants = contains_interval; order = order_of_ids }
