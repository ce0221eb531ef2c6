use Rattle.std.proofs.Common.{ℕ, ◌≡◌, ◌<◌, ◌+◌, ◌-◌, ◌*◌, ◌∙◌, ◌++◌, [], ◌∷◌, sym, subst, arith, true, false, length}
use Rattle.std.specs.Prelude.{slice_index}
use Rattle.sg_hilbert.specs.Curve.{doublings, two_to, spot_at}
use Rattle.sg_shape.specs.Boxes.{IsCellBox}
use Rattle.sg_cells.specs.declared.blocks.Block.{Block}
use Rattle.sg_cells.specs.Cells.{Grid, Cell}
use Rattle.sg_cells.specs.Cells as cells
use Rattle.sg_cells.specs.Grids.{IsBlock}
use Rattle.sg_cells.proofs.Covered.{Lies, area, found_ok, found_none, lies_box, none_of}
use Rattle.sg_cells.proofs.Below.{split_here, side_here, place_here, lies_child, lies_sits, in_columns, in_rows, few_below}
use Rattle.sg_cells.proofs.grid.Grid.child_box.Goals as goal

-- the child's block is where it lies
lies_here : (g : Grid) (p : Cell) (place : ℕ) (b : Block) (level side : ℕ) (spot : ℕ × ℕ) (r : Block) →
    IsBlock g p b → length p < length g.sides → level ≡ length p → doublings side ≡ slice_index g.sides (level + 1 - 1) → side ≡ two_to (slice_index g.sides (level + 1 - 1)) →
    spot ≡ spot_at (doublings side) place → r.across ≡ b.across * side → r.column ≡ b.column * side + spot.0 → r.row ≡ b.row * side + spot.1 → Lies g (p ++ place ∷ []) r.across r.column r.row
lies_here g p place b level side spot r h l e k s t x y z =
    lies_child g p place b.across b.column b.row side h.across h.column h.row (side_here g.sides p level side l e s) (doublings side) r.across r.column r.row spot (split_here g.sides p level (doublings side) l e k) t x y z

pub spot_of-x-requires-clause-place : goal.spot_of-x-requires-clause-place
spot_of-x-requires-clause-place c =
    place_here c.args.self.now.sides c.args.parent c.args.place c.side-side.result
    (side_here c.args.self.now.sides c.args.parent c.level.result c.side-side.result c.requires.level c.level.ensures.level c.side-side.ensures.columns) c.requires.place

pub split-requires-clause-across : goal.split-requires-clause-across
split-requires-clause-across c =
    few_below c.args.self.now c.args.parent c.args.place c.args.block.across c.args.block.column c.args.block.row c.side-side.result
    c.requires.block.across c.requires.block.column c.requires.block.row (side_here c.args.self.now.sides c.args.parent c.level.result c.side-side.result c.requires.level c.level.ensures.level c.side-side.ensures.columns)
    c.in_limits.ensures c.requires.path c.requires.level c.requires.place

pub split-requires-clause-in_columns : goal.split-requires-clause-in_columns
split-requires-clause-in_columns c = in_columns c.args.self.now c.args.parent c.args.block c.requires.block

pub split-requires-clause-in_rows : goal.split-requires-clause-in_rows
split-requires-clause-in_rows c = in_rows c.args.self.now c.args.parent c.args.block c.requires.block

pub box_at-found-requires-clause-most : goal.box_at-found-requires-clause-most
box_at-found-requires-clause-most c =
    let h =
    few_below c.args.self.now c.args.parent c.args.place c.args.block.across c.args.block.column c.args.block.row c.side-side.result
    c.requires.block.across c.requires.block.column c.requires.block.row (side_here c.args.self.now.sides c.args.parent c.level.result c.side-side.result c.requires.level c.level.ensures.level c.side-side.ensures.columns)
    c.in_limits.ensures c.requires.path c.requires.level c.requires.place in
    let e = c.split.ensures.across in
    omega arith

pub box_at-found-requires-clause-column : goal.box_at-found-requires-clause-column
box_at-found-requires-clause-column c =
    (lies_sits c.args.self.now (c.args.parent ++ c.args.place ∷ []) c.split.result.across c.split.result.column c.split.result.row
    (lies_here c.args.self.now c.args.parent c.args.place c.args.block c.level.result c.side-side.result c.spot_of-x.result c.split.result
    c.requires.block c.requires.level c.level.ensures.level c.side-side.ensures.doublings c.side-side.ensures.columns c.spot_of-x.ensures.spot c.split.ensures.across c.split.ensures.column c.split.ensures.row)).column

pub box_at-found-requires-clause-row : goal.box_at-found-requires-clause-row
box_at-found-requires-clause-row c =
    (lies_sits c.args.self.now (c.args.parent ++ c.args.place ∷ []) c.split.result.across c.split.result.column c.split.result.row
    (lies_here c.args.self.now c.args.parent c.args.place c.args.block c.level.result c.side-side.result c.spot_of-x.result c.split.result
    c.requires.block c.requires.level c.level.ensures.level c.side-side.ensures.doublings c.side-side.ensures.columns c.spot_of-x.ensures.spot c.split.ensures.across c.split.ensures.column c.split.ensures.row)).row

pub returns-then-has_area : goal.returns-then-has_area
returns-then-has_area c =
    let g = c.args.self.now in
    let d = c.args.parent ++ c.args.place ∷ [] in
    let b : cells.Block = record { across = c.split.result.across; column = c.split.result.column; row = c.split.result.row } in
    let l = lies_here c.args.self.now c.args.parent c.args.place c.args.block c.level.result c.side-side.result c.spot_of-x.result c.split.result
    c.requires.block c.requires.level c.level.ensures.level c.side-side.ensures.doublings c.side-side.ensures.columns c.spot_of-x.ensures.spot c.split.ensures.across c.split.ensures.column c.split.ensures.row in
    let s = lies_sits g d c.split.result.across c.split.result.column c.split.result.row l in
    let k = found_ok g b c.in_limits.ensures s (area c.box_at-found.result _ c.has_area.result true c.box_at-found.ensures.found c.has_area.ensures c.if-has_area.true) in (
      c.box_at-found.ensures.found ∙ lies_box g d c.split.result.across c.split.result.column c.split.result.row l,
      subst IsCellBox (sym c.box_at-found.ensures.found) k,
    )

pub returns-else-has_area : goal.returns-else-has_area
returns-else-has_area c =
    let g = c.args.self.now in
    let d = c.args.parent ++ c.args.place ∷ [] in
    let b : cells.Block = record { across = c.split.result.across; column = c.split.result.column; row = c.split.result.row } in
    let l = lies_here c.args.self.now c.args.parent c.args.place c.args.block c.level.result c.side-side.result c.spot_of-x.result c.split.result
    c.requires.block c.requires.level c.level.ensures.level c.side-side.ensures.doublings c.side-side.ensures.columns c.spot_of-x.ensures.spot c.split.ensures.across c.split.ensures.column c.split.ensures.row in
    let s = lies_sits g d c.split.result.across c.split.result.column c.split.result.row l in
    let n = found_none g b s (area c.box_at-found.result _ c.has_area.result false c.box_at-found.ensures.found c.has_area.ensures c.if-has_area.false) in
    none_of g d _ (lies_box g d c.split.result.across c.split.result.column c.split.result.row l) n
