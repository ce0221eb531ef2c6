use Rattle.std.proofs.Common.{refl, sym, ◌∙◌}
use Rattle.sg_script.proofs.LineLemmas.{last_line, some_line}
use Rattle.sg_script.proofs.lines.first_line.Goals as goal

pub returns-in-empty-clause-lines : goal.returns-in-empty-clause-lines
returns-in-empty-clause-lines c =
    last_line c.args.text.now c.split_at.result.0.now c.split_at.result.1.now c.line_length.result
    (sym c.is_empty.ensures ∙ c.if-is_empty.false) c.line_length.ensures.value c.split_at.ensures.front c.split_at.ensures.back c.in-empty.len_below

pub returns-in-len1-up-clause-lines : goal.returns-in-len1-up-clause-lines
returns-in-len1-up-clause-lines c =
    some_line c.args.text.now c.split_at.result.0.now c.split_at.result.1.now _ c.line_length.result
    (sym c.is_empty.ensures ∙ c.if-is_empty.false) c.line_length.ensures.value c.split_at.ensures.front c.split_at.ensures.back refl
