use Rattle.std.proofs.Common.{◌+◌, ◌∙◌, arith}
use Rattle.sg_workload.proofs.Draws.{next_above, script_made, script_more}
use Rattle.sg_workload.proofs.scripts.make_script.Goals.{else-loop-number-test, then-loop-number-test+in_ok-add_session+else-number-sessions}
use Rattle.sg_workload.proofs.scripts.make_script.Goals as goal

pub add_session-requires-clause-last : goal.add_session-requires-clause-last
add_session-requires-clause-last c = next_above c.args.rows c.loop-number.script.sessions c.loop-number.number _ _ c.loop-number.invariant.sessions_are

pub loop-number-preserved : goal.loop-number-preserved
loop-number-preserved c =
    script_more c.args.seed c.args.rows c.loop-number.number c.loop-number.generator.state _ c.loop-number.script _ c.loop-number.invariant c.in_ok-add_session.ensures.script c.in_ok-add_session.ensures.state

pub returns : goal.returns
returns c = elim c.loop-number-test.branch [
  | else-loop-number-test w ↦ w.script-is ∙ script_made c.args.seed c.args.rows c.args.sessions c.loop-number.number c.loop-number.generator.state c.loop-number.script c.loop-number.invariant (omega arith)
  | then-loop-number-test+in_ok-add_session+else-number-sessions w ↦
      let last =
      script_more c.args.seed c.args.rows c.loop-number.number c.loop-number.generator.state w.add_session.new.generator.state c.loop-number.script w.add_session.new.script
      c.loop-number.invariant w.in_ok-add_session.ensures.script w.in_ok-add_session.ensures.state in
      w.script-is ∙ script_made c.args.seed c.args.rows c.args.sessions (c.loop-number.number + 1) w.add_session.new.generator.state w.add_session.new.script last (omega arith)
]
