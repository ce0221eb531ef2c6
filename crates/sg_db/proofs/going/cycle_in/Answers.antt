use Rattle.std.proofs.Common.{subst}
use Rattle.sg_cells.specs.Laws.{Has}
use Rattle.sg_db.proofs.Cycling.{next_none, at_place}
use Rattle.sg_db.proofs.going.cycle_in.Goals as goal

pub loop-label-preserved : goal.loop-label-preserved
loop-label-preserved c = next_none c.args.s c.args.labels.now c.loop-label.label-index c.label-item.result c.loop-label-test.true c.label-item.is c.loop-label.invariant c.in_default.ensures.none

pub returns-in-Some : goal.returns-in-Some
returns-in-Some c = subst (Has c.args.labels.now) c.in-Some.ensures.some (at_place c.args.labels.now c.loop-label.label-index c.label-item.result c.loop-label-test.true c.label-item.is)
