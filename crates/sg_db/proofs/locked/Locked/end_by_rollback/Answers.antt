use Rattle.std.proofs.Common.{[]}
use Rattle.sg_trace.specs.declared.labels.Cause.TheVariants.{Asked}
use Rattle.sg_trace.specs.Traces.{Rollback}
use Rattle.sg_db.proofs.Knowing.{knows_all, is_between}
use Rattle.sg_db.proofs.Closing.{live_still, closed_now}
use Rattle.sg_db.proofs.locked.Locked.end_by_rollback.Goals as goal

pub rollback-requires-clause-may : goal.rollback-requires-clause-may
rollback-requires-clause-may g c κs within =
    let v = c.args.token.now.known in
    let w = c.look.new.token.known in
    is_between c.args.s c.look.new.self w (knows_all c.args.s [] c.args.self.now c.look.new.self v w c.requires.caller c.look.ensures.done)
    (live_still c.args.s c.args.self.now c.look.new.self v w c.requires.caller c.requires.live c.look.ensures.done)

pub returns-clause-closed : goal.returns-clause-closed
returns-clause-closed g c = closed_now c.args.s (Rollback c.args.s Asked) c.args.self.now c.look.new.self c.rollback.new.self c.args.token.now.known c.look.new.token.known c.rollback.new.token.known c.requires.caller c.requires.live c.look.ensures.done c.rollback.ensures.done
