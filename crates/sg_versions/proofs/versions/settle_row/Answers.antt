use Rattle.std.proofs.Common.{sym, ap, ◌∙◌}
use Rattle.std.specs.Map.{remove_entry}
use Rattle.std.specs.BTreeMap.{is_at}
use Rattle.sg_versions.proofs.Indexes.{settled_then}
use Rattle.sg_versions.proofs.versions.settle_row.Goals as goal

pub returns-then-end_row-clause-rows : goal.returns-then-end_row-clause-rows
returns-then-end_row-clause-rows g c =
    c.remove.ensures.pairs ∙ ap (remove_entry (is_at (g.K.Ord.cmp c.args.key.now))) c.end_row.ensures.rows ∙ settled_then (is_at (g.K.Ord.cmp c.args.key.now)) c.args.end c.args.rows.now.pairs (sym c.end_row.ensures.nothing ∙ c.if-end_row.true)
