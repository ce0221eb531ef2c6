use Rattle.std.proofs.Common.{◌∙◌, sym}
use Rattle.sg_command.proofs.Spoken.{no_text, unsaid}
use Rattle.sg_command.proofs.words.text_of.Goals as goal

pub returns-then-not-may_stand : goal.returns-then-not-may_stand
returns-then-not-may_stand c = unsaid c.args.word.now (sym c.may_stand.ensures ∙ c.if-not-may_stand.true)

pub returns-in-Err : goal.returns-in-Err
returns-in-Err c = no_text c.args.word.now c.in-Err.ensures.cases.0
