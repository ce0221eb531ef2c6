use Rattle.sg_program.proofs.CallLemmas.{told_call}
use Rattle.sg_program.proofs.replay.replay_main.Goals as goal

pub returns : goal.returns
returns g c = told_call _ _ _ _ c.replay_asked-end.result _ _ c.replay_asked-end.ensures c.message.ensures c.say.ensures c.status.ensures
