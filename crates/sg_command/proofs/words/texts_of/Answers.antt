use Rattle.std.proofs.Common.{◌≡◌, ◌∙◌, ap, sym, false}
use Rattle.sg_command.specs.Usage.{is_spoken}
use Rattle.sg_command.proofs.Spoken.{other_at}
use Rattle.sg_command.proofs.words.texts_of.Goals as goal

pub returns-in_default-clause-none : goal.returns-in_default-clause-none
returns-in_default-clause-none c =
    let e : is_spoken c.deref.result.now ≡ false = rw c.in_default.is at c.text_of.ensures in
    other_at c.args.words.now c.loop-word.word-index c.word-item.result c.loop-word-test.true c.word-item.is (ap is_spoken (sym c.deref.ensures.value) ∙ e)
