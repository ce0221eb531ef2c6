use Rattle.std.proofs.Common.{sym, ◌∙◌}
use Rattle.sg_script.proofs.WordLemmas.{words-none, words-some, after_field-less}
use Rattle.sg_script.proofs.fields.next_field.Goals as goal

pub returns-then-is_empty-clause-words : goal.returns-then-is_empty-clause-words
returns-then-is_empty-clause-words c =
    words-none c.args.text.now c.first_field.result.0.now c.first_field.ensures.field (sym c.is_empty.ensures ∙ c.if-is_empty.true)

pub returns-else-is_empty-clause-words : goal.returns-else-is_empty-clause-words
returns-else-is_empty-clause-words c =
    words-some c.args.text.now c.first_field.result.0.now c.first_field.result.1.now c.first_field.ensures.field c.first_field.ensures.rest
    (sym c.is_empty.ensures ∙ c.if-is_empty.false)

pub returns-else-is_empty-clause-less : goal.returns-else-is_empty-clause-less
returns-else-is_empty-clause-less c =
    after_field-less c.args.text.now c.first_field.result.0.now c.first_field.result.1.now c.first_field.ensures.field c.first_field.ensures.rest
    (sym c.is_empty.ensures ∙ c.if-is_empty.false)
