use Rattle.std.proofs.Common.{◌≡◌, ◌++◌, All, flat_map, take}
use Rattle.sg_script.specs.Canonical.{lines_text, session_lines}
use Rattle.sg_script.specs.Told.{IsToldSession}
use Rattle.sg_script.proofs.writing.append_sessions.Given as goal

abbrev pub invariant-loop-session : goal.invariant-loop-session
invariant-loop-session l = record {
  text : l.out.items ≡ l.fn.out.items ++ lines_text (flat_map session_lines (take l.session-index l.sessions));
  told : All IsToldSession (take l.session-index l.sessions);
}
