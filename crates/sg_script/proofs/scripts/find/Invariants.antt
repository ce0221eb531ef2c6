use Rattle.std.proofs.Common.{◌≡◌, drop}
use Rattle.sg_script.specs.Plans.{session_at}
use Rattle.sg_script.proofs.scripts.find.Given as goal

abbrev pub invariant-loop-found : goal.invariant-loop-found
invariant-loop-found l = session_at l.sessions l.session ≡ session_at (drop l.found-index l.sessions) l.session
