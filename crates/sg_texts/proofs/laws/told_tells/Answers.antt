use Rattle.sg_texts.proofs.Tellings.{told_tells}
use Rattle.sg_texts.proofs.laws.told_tells.Goals as goal

pub returns : goal.returns
returns c = told_tells c.tells_apart.ensures c.is_one_line.ensures.printable
