use Rattle.std.proofs.Common.{sym, ap, ◌∙◌, [], ◌∷◌}
use Rattle.sg_trace.specs.Needs.{Lock}
use Rattle.sg_stores.specs.Held.{first_unheld}
use Rattle.sg_scan.specs.Cursors.{locking_of}
use Rattle.sg_stores.proofs.Helds.{not_none, is_none_of}
use Rattle.sg_scan.proofs.Passing.{next_inside, past_is}
use Rattle.sg_scan.proofs.Steps.{range_found, range_met, range_last}
use Rattle.sg_scan.proofs.There.{pair_there}
use Rattle.sg_scan.proofs.needs.need_in.Goals as goal

pub returns-then-is_some-clause-need : goal.returns-then-is_some-clause-need
returns-then-is_some-clause-need c =
    range_found c.args.locks.now.grants c.args.s (locking_of c.args.modes.now) c.args.cells.now.rows c.next_in.ensures.rising c.args.first c.args.last c.loop-cell.above c.loop-cell.invariant.0 c.loop-cell.invariant.1 _ c.in-Some.ensures.next
    c.need_at-need.result c.need_at-need.ensures (not_none _ (sym c.is_some.ensures ∙ c.if-is_some.true))

pub loop-cell-preserved : goal.loop-cell-preserved
loop-cell-preserved c = (
  next_inside c.args.cells.now.rows c.next_in.ensures.rising c.args.first c.args.last c.loop-cell.above _ c.loop-cell.invariant.0 c.in-Some.ensures.next,
  range_met c.args.locks.now.grants c.args.s (locking_of c.args.modes.now) c.args.cells.now.rows c.next_in.ensures.rising c.args.first c.args.last c.loop-cell.above c.loop-cell.invariant.0 c.loop-cell.invariant.1 _ c.in-Some.ensures.next
      c.need_at-need.result c.need_at-need.ensures (is_none_of _ (sym c.is_some.ensures ∙ c.if-is_some.false)),
  pair_there c.args.cells.now.rows c.args.first c.args.last c.loop-cell.above _ c.in-Some.ensures.next,
)

pub returns-clause-need : goal.returns-clause-need
returns-clause-need c =
    let end = c.key_behind.ensures.first ∙ past_is c.args.cells.now.rows c.next_in.ensures.rising c.args.first c.args.last c.loop-cell.above c.loop-cell.invariant.0 c.requires.ordered c.in_default.ensures.none in
    range_last c.args.locks.now.grants c.args.s (locking_of c.args.modes.now) c.args.cells.now.rows c.next_in.ensures.rising c.args.first c.args.last c.loop-cell.above c.loop-cell.invariant.0 c.loop-cell.invariant.1 c.unmet.result
    c.in_default.ensures.none (c.unmet.ensures ∙ ap (λ k. first_unheld c.args.locks.now.grants c.args.s (Lock k c.args.modes.now.range ∷ [])) end)
