use Rattle.sg_plain.specs.Replies.{PlainReply}
use Rattle.sg_plain.proofs.Runs.{HasExecuted}
use Rattle.sg_plain.proofs.replays.execute.Given as goal

abbrev pub invariant-loop-statement : goal.invariant-loop-statement
invariant-loop-statement g l = HasExecuted PlainReply l.fn.rows l.rows l.transaction.statements l.statement-index l.answers
