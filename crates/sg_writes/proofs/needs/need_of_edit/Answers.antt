use Rattle.std.proofs.Common.{◌∙◌, sym, ap, cond, not, None, Some, true, false}
use Rattle.sg_cells.specs.declared.keys.Key.TheVariants as key
use Rattle.sg_modes.specs.declared.modes.Mode.TheVariants.{RangeSS}
use Rattle.sg_trace.specs.Keys.{meets}
use Rattle.sg_stores.specs.Held.{holds_where}
use Rattle.sg_writes.specs.declared.needs.Act.TheVariants as act
use Rattle.sg_stores.proofs.Helds.{is_none_of}
use Rattle.sg_writes.proofs.Held.{seen_as}
use Rattle.sg_writes.proofs.Firsts.{read_held, edit_absent, edit_unmet, edit_unseen, edit_seen}
use Rattle.sg_writes.proofs.needs.need_of_edit.Goals as goal

pub returns-then-not-present-clause-act : goal.returns-then-not-present-clause-act
returns-then-not-present-clause-act c = λ w new stores list_is.
    edit_absent c.args.locks.now.grants c.args.s c.args.rows.now.rows c.args.cells.now.rows w stores c.args.row c.args.list.now new (sym c.present.ensures.present ∙ c.if-not-present.true) c.lock_unless_met.result
    (c.lock_unless_met.ensures ∙ ap (λ k. cond (holds_where (meets RangeSS) c.args.locks.now.grants c.args.s k) None (Some (act.Lock k RangeSS))) c.next_key-next.ensures.next)

pub returns-then-not-is_met-clause-act : goal.returns-then-not-is_met-clause-act
returns-then-not-is_met-clause-act c = λ w new stores list_is.
    edit_unmet c.args.locks.now.grants c.args.s c.args.rows.now.rows c.args.cells.now.rows w stores c.args.row c.args.list.now new (sym c.present.ensures.present ∙ c.if-not-present.false) (sym c.is_met.ensures ∙ c.if-not-is_met.true)

pub returns-then-is_none-clause-act : goal.returns-then-is_none-clause-act
returns-then-is_none-clause-act c = λ w new stores list_is.
    edit_unseen c.args.locks.now.grants c.args.s c.args.rows.now.rows c.args.cells.now.rows w stores c.args.row c.args.list.now new (sym c.present.ensures.present ∙ c.if-not-present.false) (sym c.is_met.ensures ∙ c.if-not-is_met.false) c.present.ensures.rising
    (is_none_of _ (seen_as _ c.visible.result c.visible.ensures.shape false (c.is_none.ensures ∙ ap not c.if-is_none.true)))

pub need_of_cells-requires-clause-held : goal.need_of_cells-requires-clause-held
need_of_cells-requires-clause-held c = read_held c.args.locks.now.grants c.args.s (key.Row c.args.row) (sym c.is_met.ensures ∙ c.if-not-is_met.false)

pub returns-clause-act : goal.returns-clause-act
returns-clause-act c = λ w new stores list_is.
    edit_seen c.args.locks.now.grants c.args.s c.args.rows.now.rows c.args.cells.now.rows w stores c.args.row c.args.list.now new (sym c.present.ensures.present ∙ c.if-not-present.false) (sym c.is_met.ensures ∙ c.if-not-is_met.false) c.present.ensures.rising
    (seen_as _ c.visible.result c.visible.ensures.shape true (c.is_none.ensures ∙ ap not c.if-is_none.false)) list_is c.need_of_cells.result c.need_of_cells.ensures.act c.need_of_cells.ensures.none
