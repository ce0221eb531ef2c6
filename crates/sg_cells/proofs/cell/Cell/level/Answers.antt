use Rattle.std.proofs.Common.{length, ◌∙◌, sym, ap, arith}
use Rattle.sg_cells.specs.Cells.{path_of, stored_id}
use Rattle.sg_cells.proofs.Paths.{level_of_id, short_code}
use Rattle.sg_cells.proofs.cell.Cell.level.Goals as goal

pub returns-clause-level : goal.returns-clause-level
returns-clause-level c =
    let id = stored_id c.self.inside.upper c.self.inside.lower c.self.inside.level in
    sym c.self.invariant.low ∙ (level_of_id 8 (path_of 8 id) (omega arith) c.self.invariant.code ∙ ap length c.self.view_is)

pub returns-clause-most : goal.returns-clause-most
returns-clause-most c =
    let id = stored_id c.self.inside.upper c.self.inside.lower c.self.inside.level in
    let e = sym c.self.invariant.low ∙ level_of_id 8 (path_of 8 id) (omega arith) c.self.invariant.code in
    let s = short_code 8 (path_of 8 id) c.self.invariant.code in
    omega arith
