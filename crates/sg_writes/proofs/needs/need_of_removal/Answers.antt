use Rattle.std.proofs.Common.{◌∙◌, sym}
use Rattle.sg_cells.specs.declared.keys.Key.TheVariants as key
use Rattle.sg_writes.proofs.Firsts.{read_held, removal_cells}
use Rattle.sg_writes.proofs.needs.need_of_removal.Goals as goal

pub need_of_cells-requires-clause-held : goal.need_of_cells-requires-clause-held
need_of_cells-requires-clause-held c = read_held c.args.locks.now.grants c.args.s (key.Row c.args.row) (sym c.is_met.ensures ∙ c.if-not-is_met.false)

pub returns-clause-act : goal.returns-clause-act
returns-clause-act c = λ w stores empty.
    removal_cells c.args.locks.now.grants c.args.s c.args.rows.now.rows c.args.cells.now.rows w stores c.args.row c.args.list.now (sym c.is_met.ensures ∙ c.if-not-is_met.false) c.in_order.ensures.rising empty c.need_of_cells.result c.need_of_cells.ensures.act c.need_of_cells.ensures.none
