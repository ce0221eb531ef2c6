use Rattle.sg_plain.proofs.Replied.{sound_result}
use Rattle.sg_plain.proofs.evals.eval.Goals as goal

pub returns-clause-sound : goal.returns-clause-sound
returns-clause-sound g c = sound_result c.args.rows.now c.args.statement.now c.answer.result c.in_order.ensures c.answer.ensures.means
