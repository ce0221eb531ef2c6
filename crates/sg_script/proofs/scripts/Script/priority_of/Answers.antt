use Rattle.std.proofs.Common.{arith}
use Rattle.std.proofs.lemmas.Int.{ints}
use Rattle.sg_modes.specs.Priorities.{IsPriority}
use Rattle.sg_script.proofs.SoundSessions.{sound_found}
use Rattle.sg_script.proofs.scripts.Script.priority_of.Goals as goal

pub returns-in-Some-clause-range : goal.returns-in-Some-clause-range
returns-in-Some-clause-range c =
    let p : IsPriority c.in-Some.found.now.priority =
    (sound_found c.find.result c.in-Some.found c.sessions.result.now c.args.self.now.sessions c.args.session c.in-Some.is c.find.ensures c.sessions.ensures.all
    c.sessions.ensures.sound).priority in
    (omega (arith, ints), omega (arith, ints))
