use Rattle.std.proofs.Common.{Some, sym, ap, ◌∙◌}
use Rattle.sg_program.proofs.EndLemmas.{made_asked}
use Rattle.sg_program.proofs.making.make_asked.Goals as goal

pub returns-in-Ok-Some-Make : goal.returns-in-Ok-Some-Make
returns-in-Ok-Some-Make g c =
    made_asked _ c.in-Ok-Some-Make.seed c.in-Ok-Some-Make.rows c.in-Ok-Some-Make.sessions _ _
    (sym (c.in-Ok-Some-Make.field-0-is ∙ ap Some c.in-Ok-Some-Make.field-0-0-is) ∙ c.in-Ok-Some-Make.ensures.form)
    c.make.ensures
