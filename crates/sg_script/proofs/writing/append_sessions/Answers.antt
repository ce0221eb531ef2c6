use Rattle.std.proofs.Common.{arith}
use Rattle.sg_script.specs.Canonical.{session_lines}
use Rattle.sg_script.specs.Told.{IsToldSession}
use Rattle.sg_script.proofs.LineTexts.{grown, joined_more, told_more}
use Rattle.sg_script.proofs.writing.append_sessions.Goals as goal

pub loop-session-preserved : goal.loop-session-preserved
loop-session-preserved c = record {
  text =
      grown c.args.out.now.items c.loop-session.out.items c.append_session.new.out.items _ _ _ c.loop-session.invariant.text c.in_ok-append_session.ensures.text
      (joined_more session_lines c.args.sessions.now c.loop-session.session-index c.session-item.result (omega arith) c.session-item.is);
  told = told_more IsToldSession c.args.sessions.now c.loop-session.session-index c.session-item.result (omega arith) c.session-item.is c.loop-session.invariant.told c.in_ok-append_session.ensures.told;
}
