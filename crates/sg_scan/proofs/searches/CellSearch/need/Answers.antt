use Rattle.std.proofs.Common.{◌<◌, sym, ap, ◌∙◌, length, arith}
use Rattle.std.specs.Option.{option_map}
use Rattle.sg_stores.specs.Held.{lock_need}
use Rattle.sg_scan.specs.Cursors.{locking_of}
use Rattle.sg_stores.proofs.Helds.{not_none, is_none_of}
use Rattle.sg_stores.proofs.Lists.{around}
use Rattle.sg_scan.proofs.Steps.{part_met, place_met, ranges_found, next_met, ranges_last, place_start, none_there}
use Rattle.sg_scan.proofs.searches.CellSearch.need.Goals as goal

pub need_in-need-requires-clause-met : goal.need_in-need-requires-clause-met
need_in-need-requires-clause-met c =
    part_met c.args.locks.now.grants c.args.s (locking_of c.args.modes.now) c.args.cells.now.rows c.args.self.now.ranges c.loop-first.place.range c.loop-first.place.cell c.loop-first.invariant.1 _ (sym c.in-Some.ensures)

pub returns-then-is_some-clause-need : goal.returns-then-is_some-clause-need
returns-then-is_some-clause-need c =
    ranges_found c.args.locks.now.grants c.args.s (locking_of c.args.modes.now) c.args.cells.now.rows c.args.self.now.ranges c.loop-first.place.range c.loop-first.place.cell c.loop-first.invariant.1 _ (sym c.in-Some.ensures) c.need_in-need.result
    c.need_in-need.ensures.need (not_none _ (sym c.is_some.ensures ∙ c.if-is_some.true))

pub returns-then-is_some-clause-met : goal.returns-then-is_some-clause-met
returns-then-is_some-clause-met c =
    place_met c.args.locks.now.grants c.args.s (locking_of c.args.modes.now) c.args.cells.now.rows c.args.self.now.ranges c.loop-first.place.range c.loop-first.place.cell c.loop-first.invariant.1 _ (sym c.in-Some.ensures) c.need_in-need.new.above
    c.need_in-need.ensures.met

pub overflow_add-place : goal.overflow_add-place
overflow_add-place c =
    let within : c.loop-first.place.range < length c.args.self.now.ranges = (around c.args.self.now.ranges c.loop-first.place.range _ (sym c.in-Some.ensures)).within in
    let count = c.len-count.ensures in
    omega arith

pub loop-first-smaller : goal.loop-first-smaller
loop-first-smaller c =
    let within : c.loop-first.place.range < length c.args.self.now.ranges = (around c.args.self.now.ranges c.loop-first.place.range _ (sym c.in-Some.ensures)).within in
    omega arith

pub loop-first-preserved : goal.loop-first-preserved
loop-first-preserved c = (
  place_start c.args.self.now.ranges _ c.loop-first.invariant.0.0,
  next_met c.args.locks.now.grants c.args.s (locking_of c.args.modes.now) c.args.cells.now.rows c.args.self.now.ranges c.loop-first.place.range c.loop-first.place.cell c.loop-first.invariant.1 _ (sym c.in-Some.ensures)
      (sym c.need_in-need.ensures.need ∙ ap (option_map lock_need) (is_none_of _ (sym c.is_some.ensures ∙ c.if-is_some.false))),
  none_there c.args.self.now.ranges c.args.cells.now.rows _,
)

pub returns-clause-need : goal.returns-clause-need
returns-clause-need c =
    sym (ranges_last c.args.locks.now.grants c.args.s (locking_of c.args.modes.now) c.args.cells.now.rows c.args.self.now.ranges c.loop-first.place.range c.loop-first.place.cell c.loop-first.invariant.1 (sym c.at.ensures ∙ c.in_default.is))
