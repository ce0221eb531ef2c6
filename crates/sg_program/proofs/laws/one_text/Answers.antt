use Rattle.sg_program.proofs.Alike.{one_text}
use Rattle.sg_program.proofs.laws.one_text.Goals as goal

pub returns : goal.returns
returns c = one_text
