use Rattle.sg_script.proofs.SoundSessions.{sound_found, sound_lent}
use Rattle.sg_script.proofs.scripts.Script.transaction_of.Goals as goal

pub returns-in-Some-clause-sound : goal.returns-in-Some-clause-sound
returns-in-Some-clause-sound c =
    sound_lent c.at.result c.in-Some.found.now c.args.place c.at.ensures
    (sound_found c.find.result c.in-Some.found c.sessions.result.now c.args.self.now.sessions c.args.session c.in-Some.is c.find.ensures c.sessions.ensures.all c.sessions.ensures.sound)
