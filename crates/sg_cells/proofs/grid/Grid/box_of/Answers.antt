use Rattle.std.proofs.Common.{◌∙◌, sym, subst, arith, true, false}
use Rattle.sg_shape.specs.Boxes.{IsCellBox}
use Rattle.sg_cells.specs.Cells.{Block}
use Rattle.sg_cells.proofs.Split.{Sits}
use Rattle.sg_cells.proofs.Covered.{area, found_ok, found_none, lies, lies_box, none_of}
use Rattle.sg_cells.proofs.grid.Grid.box_of.Goals as goal

pub returns-then-has_area : goal.returns-then-has_area
returns-then-has_area c =
    let g = c.args.self.now in
    let b : Block = record { across = c.block_at.result.across; column = c.block_at.result.column; row = c.block_at.result.row } in
    let l = lies g c.args.cell c.level-level.result c.block_at.result.across c.block_at.result.column c.block_at.result.row c.level-level.ensures.level c.block_at.ensures.across c.block_at.ensures.column c.block_at.ensures.row in
    let s : Sits b = record { column = c.block_at.ensures.in_columns; row = c.block_at.ensures.in_rows } in
    let k = found_ok g b c.box_at-found.ensures.grid s (area c.box_at-found.result _ c.has_area.result true c.box_at-found.ensures.found c.has_area.ensures c.if-has_area.true) in (
      (let n = c.if-level-eq0.false in let e = c.level-level.ensures.level in omega arith),
      c.box_at-found.ensures.found ∙ lies_box g c.args.cell c.block_at.result.across c.block_at.result.column c.block_at.result.row l,
      subst IsCellBox (sym c.box_at-found.ensures.found) k,
    )

pub returns-else-has_area : goal.returns-else-has_area
returns-else-has_area c =
    let g = c.args.self.now in
    let b : Block = record { across = c.block_at.result.across; column = c.block_at.result.column; row = c.block_at.result.row } in
    let l = lies g c.args.cell c.level-level.result c.block_at.result.across c.block_at.result.column c.block_at.result.row c.level-level.ensures.level c.block_at.ensures.across c.block_at.ensures.column c.block_at.ensures.row in
    let s : Sits b = record { column = c.block_at.ensures.in_columns; row = c.block_at.ensures.in_rows } in
    let n = found_none g b s (area c.box_at-found.result _ c.has_area.result false c.box_at-found.ensures.found c.has_area.ensures c.if-has_area.false) in
    none_of g c.args.cell _ (lies_box g c.args.cell c.block_at.result.across c.block_at.result.column c.block_at.result.row l) n
