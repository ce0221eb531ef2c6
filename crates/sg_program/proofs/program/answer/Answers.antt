use Rattle.std.proofs.Common.{Some, refl, sym, ap, ◌∙◌}
use Rattle.sg_program.proofs.EndLemmas.{made_end}
use Rattle.sg_program.proofs.program.answer.Goals as goal

pub returns-in-Ok-Some-Make : goal.returns-in-Ok-Some-Make
returns-in-Ok-Some-Make g c =
    made_end _ c.in-Ok-Some-Make.seed c.in-Ok-Some-Make.rows c.in-Ok-Some-Make.sessions _ _ _ refl
    (sym (c.in-Ok-Some-Make.field-0-is ∙ ap Some c.in-Ok-Some-Make.field-0-0-is) ∙ c.in-Ok-Some-Make.ensures.form)
    c.make.ensures
