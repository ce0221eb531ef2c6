use Rattle.std.proofs.Common.{◌≡◌, ◌∙◌, ap, false}
use Rattle.std.specs.List.{list_all}
use Rattle.sg_command.specs.Words.{form_of, texts}
use Rattle.sg_command.specs.Usage.{is_spoken}
use Rattle.sg_command.proofs.Spoken.{no_form}
use Rattle.sg_command.proofs.words.Words.form.Goals as goal

pub returns-in-None-clause-form : goal.returns-in-None-clause-form
returns-in-None-clause-form c =
    let e : list_all is_spoken (texts c.as_slice.result.now) ≡ false = rw c.in-None.is at c.in_ok-texts.ensures.none in
    let same : texts c.as_slice.result.now ≡ c.args.self.now = cc in
    no_form (texts c.as_slice.result.now) e ∙ ap form_of same
