use Rattle.std.proofs.Common.{◌∙◌, sym, ap, subst, Some, true, false}
use Rattle.sg_cells.specs.declared.keys.Key.TheVariants as key
use Rattle.sg_trace.specs.Needs.{insert_needs}
use Rattle.sg_stores.specs.Agreement.{seen_rows}
use Rattle.sg_stores.specs.Keys.{store_keys}
use Rattle.sg_writes.specs.Changes.{IsFirst, put_below}
use Rattle.sg_stores.proofs.Helds.{is_none_of}
use Rattle.sg_writes.proofs.Held.{seen_as}
use Rattle.sg_writes.proofs.Firsts.{insert_absent, insert_unmet, insert_seen, insert_cells}
use Rattle.sg_writes.proofs.needs.need_of_insert.Goals as goal

pub returns-then-not-present-clause-act : goal.returns-then-not-present-clause-act
returns-then-not-present-clause-act c = λ w shape stores list_is.
    subst (λ a. IsFirst c.args.locks.now.grants c.args.s (store_keys c.args.rows.now.rows c.args.cells.now.rows) (insert_needs w (store_keys c.args.rows.now.rows c.args.cells.now.rows) (seen_rows c.args.s c.args.rows.now.rows) c.args.row shape) (Some a))
    (sym (c.put_below.ensures ∙ ap (put_below c.args.locks.now.grants c.args.s (key.Row c.args.row)) c.next_key-next.ensures.next))
    (insert_absent c.args.locks.now.grants c.args.s c.args.rows.now.rows c.args.cells.now.rows w stores c.args.row c.args.list.now shape (sym c.present.ensures.present ∙ c.if-not-present.true))

pub returns-then-not-is_met-clause-act : goal.returns-then-not-is_met-clause-act
returns-then-not-is_met-clause-act c = λ w shape stores list_is.
    insert_unmet c.args.locks.now.grants c.args.s c.args.rows.now.rows c.args.cells.now.rows w stores c.args.row c.args.list.now shape (sym c.present.ensures.present ∙ c.if-not-present.false) (sym c.is_met.ensures ∙ c.if-not-is_met.true)

pub returns-then-is_some-clause-act : goal.returns-then-is_some-clause-act
returns-then-is_some-clause-act c = λ w shape stores list_is.
    insert_seen c.args.locks.now.grants c.args.s c.args.rows.now.rows c.args.cells.now.rows w stores c.args.row c.args.list.now shape (sym c.present.ensures.present ∙ c.if-not-present.false) (sym c.is_met.ensures ∙ c.if-not-is_met.false) c.present.ensures.rising
    (seen_as _ c.visible.result c.visible.ensures.shape true (sym c.is_some.ensures ∙ c.if-is_some.true))

pub returns-clause-act : goal.returns-clause-act
returns-clause-act c = λ w shape stores list_is.
    insert_cells c.args.locks.now.grants c.args.s c.args.rows.now.rows c.args.cells.now.rows w stores c.args.row c.args.list.now shape (sym c.present.ensures.present ∙ c.if-not-present.false) (sym c.is_met.ensures ∙ c.if-not-is_met.false) c.present.ensures.rising
    (is_none_of _ (seen_as _ c.visible.result c.visible.ensures.shape false (sym c.is_some.ensures ∙ c.if-is_some.false))) list_is c.need_of_cells.result c.need_of_cells.ensures.act c.need_of_cells.ensures.none
