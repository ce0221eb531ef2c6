use Rattle.std.specs.Prelude.{take, slice_get}
use Rattle.std.specs.Option.{option_copied}
use Rattle.std.specs.List.{AllByRecursion}
use Rattle.std.proofs.Common.{◌<◌, ◌+◌, ◌∙◌, sym, ap, subst, add-one, length, arith, None}
use Rattle.sg_stores.proofs.Lists.{around}
use Rattle.sg_writes.specs.Changes.{IsRowHeld, IsRowBehind}
use Rattle.sg_writes.proofs.Held.{none_given, fresh_row, some_each}
use Rattle.sg_writes.proofs.Firsts.{removals_found, removals_last, rows_next}
use Rattle.sg_writes.proofs.needs.need_of_removals.Goals as goal

pub returns-then-is_some-clause-act : goal.returns-then-is_some-clause-act
returns-then-is_some-clause-act c = λ w stores empty.
    removals_found c.args.locks.now.grants c.args.s c.args.rows.now.rows c.args.cells.now.rows w stores c.args.list.now c.in_order.ensures.rising empty c.args.selected.now c.loop-row.place.row c.loop-row.invariant.rows_held _ (sym c.in-Some.ensures)
    c.need_of_removal-act.result (sym c.is_some.ensures ∙ c.if-is_some.true) (c.need_of_removal-act.ensures.act w stores empty)

pub overflow_add-place : goal.overflow_add-place
overflow_add-place c =
    let within : c.loop-row.place.row < length c.args.selected.now = (around c.args.selected.now c.loop-row.place.row _ (sym c.in-Some.ensures)).within in
    let count = c.len-count.ensures in
    omega arith

pub loop-row-smaller : goal.loop-row-smaller
loop-row-smaller c =
    let within : c.loop-row.place.row < length c.args.selected.now = (around c.args.selected.now c.loop-row.place.row _ (sym c.in-Some.ensures)).within in
    omega arith

pub loop-row-preserved : goal.loop-row-preserved
loop-row-preserved c = record {
  rows_held = subst (λ i. AllByRecursion (IsRowHeld c.args.locks.now.grants c.args.s c.args.cells.now.rows c.args.list.now) (take i c.args.selected.now)) (sym (add-one c.loop-row.place.row))
      (rows_next (IsRowHeld c.args.locks.now.grants c.args.s c.args.cells.now.rows c.args.list.now) c.args.selected.now c.loop-row.place.row _ (sym c.in-Some.ensures) c.loop-row.invariant.rows_held
      (none_given _ c.need_of_removal-act.result (sym c.is_some.ensures ∙ c.if-is_some.false) c.need_of_removal-act.ensures.none));
  row_behind = some_each (λ k. IsRowBehind c.args.locks.now.grants c.args.s c.args.cells.now.rows k c.args.list.now None) _ (λ k. fresh_row c.args.locks.now.grants c.args.s c.args.cells.now.rows k c.args.list.now);
}

pub returns-clause-act : goal.returns-clause-act
returns-clause-act c = λ w stores empty.
    removals_last c.args.locks.now.grants c.args.s c.args.rows.now.rows c.args.cells.now.rows w stores c.args.list.now c.in_order.ensures.rising empty c.args.selected.now c.loop-row.place.row c.loop-row.invariant.rows_held
    (sym c.at.ensures ∙ ap option_copied c.in_default.is)
