use Rattle.sg_program.proofs.CallLemmas.{told_call}
use Rattle.sg_program.proofs.program.spatial_main.Goals as goal

pub returns : goal.returns
returns g c = told_call _ _ _ _ c.answer-end.result _ _ c.answer-end.ensures c.message.ensures c.say.ensures c.status.ensures
