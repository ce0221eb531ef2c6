use Rattle.std.proofs.Common.{sym, ◌∙◌}
use Rattle.sg_stores.proofs.Helds.{not_none, is_none_of}
use Rattle.sg_scan.proofs.Steps.{table_found, table_met, table_last}
use Rattle.sg_scan.proofs.There.{row_there}
use Rattle.sg_scan.proofs.needs.need_of_table.Goals as goal

pub returns-then-is_some-clause-need : goal.returns-then-is_some-clause-need
returns-then-is_some-clause-need c =
    table_found c.args.locks.now.grants c.args.s c.args.range c.args.rows.now.rows c.next_row.ensures.rising c.loop-key.above c.loop-key.invariant.0 c.in-Some.key c.in-Some.ensures.next c.unmet-need.result c.unmet-need.ensures
    (not_none _ (sym c.is_some.ensures ∙ c.if-is_some.true))

pub loop-key-preserved : goal.loop-key-preserved
loop-key-preserved c = (
  table_met c.args.locks.now.grants c.args.s c.args.range c.args.rows.now.rows c.next_row.ensures.rising c.loop-key.above c.loop-key.invariant.0 c.in-Some.key c.in-Some.ensures.next c.unmet-need.result c.unmet-need.ensures
      (is_none_of _ (sym c.is_some.ensures ∙ c.if-is_some.false)),
  row_there c.args.rows.now.rows c.loop-key.above c.in-Some.key c.in-Some.ensures.next,
)

pub returns-clause-need : goal.returns-clause-need
returns-clause-need c =
    table_last c.args.locks.now.grants c.args.s c.args.range c.args.rows.now.rows c.next_row.ensures.rising c.loop-key.above c.loop-key.invariant.0 c.unmet.result c.in_default.ensures.none c.unmet.ensures
