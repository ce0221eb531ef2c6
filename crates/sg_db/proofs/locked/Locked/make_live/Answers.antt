use Rattle.std.proofs.Common.{◌≡◌, true, false, sym, ◌∙◌}
use Rattle.sg_engine.specs.Shown.{seat_in}
use Rattle.sg_history.specs.Staying.{local}
use Rattle.sg_db.proofs.Knowing.{live_is}
use Rattle.sg_db.proofs.Under.{begun_now, begun_is, on_ok, live_already}
use Rattle.sg_db.proofs.locked.Locked.make_live.Goals as goal

pub returns-clause-ok : goal.returns-clause-ok
returns-clause-ok g c =
    let lock = c.args.self.now in
    let v = c.args.token.now.known in
    let dead : (local v.stage v.seen c.args.s).live ≡ false = sym (live_is c.args.s lock v c.requires.knows) ∙ (sym c.is_live.ensures ∙ c.if-is_live.false) in
    on_ok c.begin.result (begun_now c.args.s (seat_in lock.engine.seats c.args.s).begun lock c.begin.new.self v c.begin.new.token.known c.requires.knows dead (begun_is c.args.s lock v c.requires.knows)) c.begin.ensures.ok

pub returns-then-is_live-clause-ok : goal.returns-then-is_live-clause-ok
returns-then-is_live-clause-ok g c =
    let lock = c.args.self.now in
    let v = c.args.token.now.known in
    let live : (local v.stage v.seen c.args.s).live ≡ true = sym (live_is c.args.s lock v c.requires.knows) ∙ (sym c.is_live.ensures ∙ c.if-is_live.true) in
    live_already c.args.s lock v c.requires.knows live c.requires.closed
