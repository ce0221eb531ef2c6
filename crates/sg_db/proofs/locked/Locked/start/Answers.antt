use Rattle.std.proofs.Common.{ap, ◌∙◌}
use Rattle.sg_trace.specs.Traces.{Local}
use Rattle.sg_history.specs.Openings.{Held}
use Rattle.sg_engine.specs.Shown.{next_statement}
use Rattle.sg_db.proofs.Under.{looked_on, same_local, asked_now, not_begun, not_asked, err_any}
use Rattle.sg_db.proofs.locked.Locked.start.Goals as goal

pub make_live-requires-clause-closed : goal.make_live-requires-clause-closed
make_live-requires-clause-closed g c κs within =
    let t = c.args.token.now.known in
    let u = c.look.new.token.known in
    let a = looked_on c.args.s c.args.self.now c.look.new.self t u c.requires.caller c.requires.closed c.look.ensures.done in
    ap (λ (x : Local). x.open_one) (same_local c.args.s a.0 t u a.1 ∙ a.3) ∙ c.requires.closed

pub returns-in_err-make_live-clause-err : goal.returns-in_err-make_live-clause-err
returns-in_err-make_live-clause-err g c =
    err_any c.from_residual.result
    (not_begun c.args.s c.args.self.now c.look.new.self c.args.token.now.known c.look.new.token.known c.make_live.new.token.known c.requires.caller c.requires.closed c.look.ensures.done c.in_err-make_live.ensures.err)

pub returns-in-Ok-clause-ok : goal.returns-in-Ok-clause-ok
returns-in-Ok-clause-ok g c =
    asked_now c.args.s (next_statement c.make_live.new.self.engine c.args.s) c.args.statement c.args.self.now c.look.new.self c.make_live.new.self c.ask.new.self c.args.token.now.known c.look.new.token.known c.make_live.new.token.known c.ask.new.token.known
    c.requires.caller c.requires.closed c.look.ensures.done c.in_ok-make_live.ensures.ok c.in-Ok.ensures.ok

pub returns-in-Err-clause-err : goal.returns-in-Err-clause-err
returns-in-Err-clause-err g c =
    not_asked c.args.s c.args.self.now c.look.new.self c.make_live.new.self c.args.token.now.known c.look.new.token.known c.make_live.new.token.known c.ask.new.token.known c.give_up.new.token.known
    c.requires.caller c.requires.closed c.look.ensures.done c.in_ok-make_live.ensures.ok (ap (λ (h : Held). h.known) c.in-Err.ensures.err.1) c.give_up.ensures.goes
