use Rattle.std.proofs.Common.{◌≡◌, take, flat_map}
use Rattle.sg_report.specs.Reports.{others_of}
use Rattle.sg_report.proofs.reports.others_of.Given as goal

-- those of the first sessions
abbrev pub invariant-loop-session : goal.invariant-loop-session
invariant-loop-session g l = l.others.items ≡ flat_map (others_of l.run) (take l.session-index l.sessions)
