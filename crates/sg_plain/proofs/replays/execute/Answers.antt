use Rattle.std.proofs.Common.{◌≡◌, List, length, get_or, subst, ◌<◌, ◌≤◌}
use Rattle.sg_plain.specs.declared.statements.Statement.{Statement}
use Rattle.sg_plain.specs.Replies.{Means, PlainReply}
use Rattle.sg_plain.specs.Serial.{Executes, ExecutesBy}
use Rattle.sg_plain.proofs.Runs.{HasExecuted-all, HasExecuted-more, ExecutesBy-wider}
use Rattle.sg_plain.proofs.Replied.{executes_sound}
use Rattle.sg_plain.proofs.Unique.{Means-from_PlainReply}
use Rattle.sg_plain.proofs.replays.execute.Goals as goal

replied : (g : _) (c : goal.After-loop-statement g) → ExecutesBy PlainReply c.args.rows.now c.args.transaction.now.statements c.loop-statement.answers c.loop-statement.rows
replied g c =
    HasExecuted-all PlainReply c.args.rows.now c.loop-statement.rows c.args.transaction.now.statements c.loop-statement.statement-index c.loop-statement.answers
    (subst (λ (all : List Statement). length all ≤ c.loop-statement.statement-index) c.as_slice-statement-items.ensures.all c.loop-statement-test.false) c.loop-statement.invariant

executed : (g : _) (c : goal.After-loop-statement g) → Executes c.args.rows.now c.args.transaction.now.statements c.loop-statement.answers c.loop-statement.rows
executed g c =
    ExecutesBy-wider PlainReply Means Means-from_PlainReply c.args.rows.now c.args.transaction.now.statements c.loop-statement.answers c.loop-statement.rows (replied g c)

pub returns : goal.returns
returns g c = record {
  replies = replied g c;
  sound = executes_sound c.args.rows.now c.args.transaction.now.statements c.loop-statement.answers c.loop-statement.rows
      c.in_order.ensures c.as_slice-statement-items.ensures.sound (executed g c);
  executes = executed g c;
  err = tt;
}

pub loop-statement-preserved : goal.loop-statement-preserved
loop-statement-preserved g c =
    HasExecuted-more PlainReply c.args.rows.now c.loop-statement.rows c.eval.new.rows c.args.transaction.now.statements c.loop-statement.statement-index c.statement-item.result c.in_ok-answer.answer c.loop-statement.answers c.push.new.self
    (subst (λ (all : List Statement). c.loop-statement.statement-index < length all) c.as_slice-statement-items.ensures.all c.loop-statement-test.true) (subst (λ (all : List Statement). c.statement-item.result ≡ get_or all c.loop-statement.statement-index c.statement-item.result) c.as_slice-statement-items.ensures.all c.statement-item.is)
    c.in_ok-answer.ensures.reply c.in_ok-answer.ensures.effect c.in_ok-push.ensures.ok c.loop-statement.invariant
