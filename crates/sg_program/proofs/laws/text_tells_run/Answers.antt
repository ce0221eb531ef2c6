use Rattle.std.proofs.Common.{sym, ◌∙◌}
use Rattle.sg_program.proofs.laws.text_tells_run.Goals as goal

pub returns : goal.returns
returns c = λ labels wanted bytes other text run same. c.told_tells.ensures run.text_is.told same.text_is.told run.text_is.fits same.text_is.fits (sym run.text_is.is ∙ same.text_is.is)
