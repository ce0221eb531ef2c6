use Rattle.std.proofs.Common.{◌≡◌, ◌≤◌, length, drop, sym, ap, ◌∙◌, subst}
use Rattle.sg_history.specs.Writes.{events_of, history_of, HasWritten, HasMore}
use Rattle.sg_db.specs.Locks.{LockedShown, MayTell}
use Rattle.sg_db.specs.Events.{HasMadeStep}
use Rattle.sg_db.proofs.Stepping.{longer_step, may_tell_step, locked_step, made_step}
use Rattle.sg_db.proofs.locked.Locked.step.Goals as goal

pub tell-requires-clause-place : goal.tell-requires-clause-place
tell-requires-clause-place g c κs within =
    let from : c.len-from.result ≡ length c.self.inside.engine.labels = c.len-from.ensures ∙ ap length c.trace.ensures in
    subst (λ n. n ≤ length c.step.new.self.labels) (sym from)
    (longer_step c.args.s g.N.Naming.table c.self.inside.engine c.step.new.self c.in_ok-step.step c.self.inside.pen c.self.invariant c.in_ok-step.ensures.ok)

pub tell-requires-clause-may : goal.tell-requires-clause-may
tell-requires-clause-may g c κs within =
    let from : c.len-from.result ≡ length c.self.inside.engine.labels = c.len-from.ensures ∙ ap length c.trace.ensures in
    subst (λ n. MayTell c.args.asked.now.value n c.step.new.self c.self.inside.pen.known c.args.token.now.known) (sym from)
    (may_tell_step c.args.asked.now.value c.args.s g.N.Naming.table c.self.inside.engine c.step.new.self c.in_ok-step.step c.self.inside.pen c.args.token.now.known c.self.invariant c.in_ok-step.ensures.ok c.requires.seat)

pub invariant_of-self-2 : goal.invariant_of-self-2
invariant_of-self-2 g c =
    let from : c.len-from.result ≡ length c.self.inside.engine.labels = c.len-from.ensures ∙ ap length c.trace.ensures in
    locked_step c.args.asked.now.value c.args.s g.N.Naming.table c.self.inside.engine c.step.new.self c.in_ok-step.step c.self.inside.pen c.tell.new.pen c.self.invariant c.in_ok-step.ensures.ok c.tell.ensures.pen_table
    (subst (λ n. HasMore (events_of c.args.asked.now.value (drop n c.step.new.self.labels)) c.self.inside.pen.known c.tell.new.pen.known) from c.tell.ensures.pen)

pub returns-clause-ok : goal.returns-clause-ok
returns-clause-ok g c =
    let from : c.len-from.result ≡ length c.self.inside.engine.labels = c.len-from.ensures ∙ ap length c.trace.ensures in
    let new : LockedShown = record { engine = c.step.new.self; history = history_of c.tell.new.pen.known } in
    subst (λ (old : LockedShown). HasMadeStep c.args.s old new c.args.token.now.known c.tell.new.token.known c.in_ok-step.step) c.self.view_is
    (made_step c.args.asked.now.value c.args.s g.N.Naming.table c.self.inside.engine c.step.new.self c.in_ok-step.step c.self.inside.pen c.tell.new.pen c.args.token.now.known c.tell.new.token.known c.self.invariant c.in_ok-step.ensures.ok
    (subst (λ n. HasMore (events_of c.args.asked.now.value (drop n c.step.new.self.labels)) c.self.inside.pen.known c.tell.new.pen.known) from c.tell.ensures.pen)
    c.tell.ensures.stage
    (subst (λ n. HasWritten (events_of c.args.asked.now.value (drop n c.step.new.self.labels)) (history_of c.self.inside.pen.known) c.args.token.now.known c.tell.new.token.known) from c.tell.ensures.token))
