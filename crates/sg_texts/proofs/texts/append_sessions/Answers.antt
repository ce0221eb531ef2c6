use Rattle.std.proofs.Common.{sym}
use Rattle.sg_texts.specs.Texts.{spaced}
use Rattle.sg_texts.proofs.Rests.{appended_all}
use Rattle.sg_texts.proofs.texts.append_sessions.Goals as goal

pub returns-clause-text : goal.returns-clause-text
returns-clause-text c =
    appended_all spaced c.args.out.now.items c.loop-session.out.items c.args.sessions c.loop-session.rest c.loop-session.invariant (sym c.in_default.ensures.first)
