use Rattle.std.proofs.Common.{suc, [], length}
use Rattle.sg_trace.specs.Traces.{Commit}
use Rattle.sg_db.proofs.Knowing.{knows_all, is_between}
use Rattle.sg_db.proofs.Closing.{live_still, closed_now}
use Rattle.sg_db.proofs.locked.Locked.end_by_commit.Goals as goal

pub commit-requires-clause-between : goal.commit-requires-clause-between
commit-requires-clause-between g c κs within =
    let v = c.args.token.now.known in
    let w = c.look.new.token.known in
    is_between c.args.s c.look.new.self w (knows_all c.args.s [] c.args.self.now c.look.new.self v w c.requires.caller c.look.ensures.done)
    (live_still c.args.s c.args.self.now c.look.new.self v w c.requires.caller c.requires.live c.look.ensures.done)

pub returns-clause-closed : goal.returns-clause-closed
returns-clause-closed g c =
    let place = suc (length c.look.new.self.engine.journal) in
    (place, closed_now c.args.s (Commit c.args.s place) c.args.self.now c.look.new.self c.commit.new.self c.args.token.now.known c.look.new.token.known c.commit.new.token.known c.requires.caller c.requires.live c.look.ensures.done c.commit.ensures.done)
