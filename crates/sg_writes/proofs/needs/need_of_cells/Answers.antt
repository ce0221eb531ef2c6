use Rattle.std.proofs.Common.{sym, ◌∙◌}
use Rattle.sg_writes.specs.Changes.{IsCellAct, IsCellMet, IsFirstCell}
use Rattle.sg_writes.proofs.Held.{held_all, held_found, held_next, some_weaker, none_given}
use Rattle.sg_writes.proofs.needs.need_of_cells.Goals as goal

pub returns-then-is_some-clause-act : goal.returns-then-is_some-clause-act
returns-then-is_some-clause-act c =
    some_weaker (IsCellAct c.args.locks.now.grants c.args.s c.args.cells.now.rows c.args.row c.in-Some.next.cell) (IsFirstCell c.args.locks.now.grants c.args.s c.args.cells.now.rows c.args.row c.args.list.now) c.need_of_cell-act.result
    (held_found c.args.locks.now.grants c.args.s c.args.cells.now.rows c.args.row c.args.list.now c.loop-next.above c.loop-next.invariant c.in-Some.next.cell c.need_of_cell-act.ensures.code c.in-Some.ensures.next.next) c.need_of_cell-act.ensures.act

pub loop-next-preserved : goal.loop-next-preserved
loop-next-preserved c =
    held_next c.args.locks.now.grants c.args.s c.args.cells.now.rows c.args.row c.args.list.now c.loop-next.above c.loop-next.invariant c.in-Some.next.cell c.need_of_cell-act.ensures.code c.in-Some.ensures.next.next c.requires.held
    (none_given (IsCellMet c.args.locks.now.grants c.args.s c.args.cells.now.rows c.args.row c.in-Some.next.cell) c.need_of_cell-act.result (sym c.is_some.ensures ∙ c.if-is_some.false) c.need_of_cell-act.ensures.none)

pub returns-clause-none : goal.returns-clause-none
returns-clause-none c = held_all c.args.locks.now.grants c.args.s c.args.cells.now.rows c.args.row c.args.list.now c.loop-next.above c.loop-next.invariant c.in_default.ensures.none
