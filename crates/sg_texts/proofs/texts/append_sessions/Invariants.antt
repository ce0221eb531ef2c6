use Rattle.std.proofs.Common.{length}
use Rattle.sg_texts.specs.Texts.{spaced}
use Rattle.sg_texts.proofs.Rests.{Appended}
use Rattle.sg_texts.proofs.texts.append_sessions.Given as goal

abbrev pub invariant-loop-session : goal.invariant-loop-session
invariant-loop-session l = Appended spaced l.fn.out.items l.out.items l.fn.sessions l.rest

abbrev pub decreases-loop-session : goal.decreases-loop-session
decreases-loop-session l = length l.rest
