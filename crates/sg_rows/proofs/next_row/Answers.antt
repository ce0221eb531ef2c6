use Rattle.std.proofs.Common.{◌∙◌}
use Rattle.sg_rows.proofs.PastRows.{from_zero, past_is_first}
use Rattle.sg_rows.proofs.next_row.Goals as goal

pub returns-in-None-clause-first : goal.returns-in-None-clause-first
returns-in-None-clause-first c = rw c.in-None.is (c.at_or_after.ensures.first ∙ from_zero c.args.versions.now.rows)

pub returns-in-Some-clause-first : goal.returns-in-Some-clause-first
returns-in-Some-clause-first c = rw c.in-Some.is (c.after.ensures.first ∙ past_is_first c.in-Some.key c.args.versions.now.rows)
