use Rattle.sg_cellrows.proofs.NextCells.{none_behind, none_of_row, next_cell_is}
use Rattle.sg_cellrows.proofs.next_cell.Goals.{else-not-key-via-then-not-key+else-key-row, else-not-key-via-else-not-key}
use Rattle.sg_cellrows.proofs.next_cell.Goals as goal

pub returns-in-None-clause-none : goal.returns-in-None-clause-none
returns-in-None-clause-none c = none_behind c.args.rows.now.rows c.args.row c.args.above c.in-None.ensures.first

pub returns-then-key-row-clause-next : goal.returns-then-key-row-clause-next
returns-then-key-row-clause-next c = next_cell_is c.args.rows.now.rows c.args.row c.args.above c.in-Some.ensures.rising (c.in-Some.key.now, c.in-Some.version.now) c.in-Some.ensures.first c.if-not-key.true c.if-key-row.true

pub returns-else-not-key-clause-none : goal.returns-else-not-key-clause-none
returns-else-not-key-clause-none c =
    none_of_row c.args.rows.now.rows c.args.row c.args.above c.in-Some.ensures.rising (c.in-Some.key.now, c.in-Some.version.now) c.in-Some.ensures.first
    (elim c.else-not-key.branch [
      | else-not-key-via-then-not-key+else-key-row w ↦ λ marked own. w.if-key-row.false own
      | else-not-key-via-else-not-key w ↦ λ marked own. absurd (cc)
    ])
