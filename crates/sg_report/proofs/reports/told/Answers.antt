use Rattle.sg_rows.specs.Table.{committed_rows}
use Rattle.sg_report.proofs.Sounds.{rows_told, commits_told, labels_told}
use Rattle.sg_report.proofs.reports.told.Goals as goal

pub returns-clause-commits : goal.returns-clause-commits
returns-clause-commits g c =
    commits_told c.args.run.now c.engine.ensures.legal c.in_ok-commits.commits.items c.in_ok-rows.rows c.in_ok-commits.ensures
    (rows_told c.engine.result.now c.args.run.now.engine (committed_rows c.rows.result.now.rows) c.in_ok-rows.rows c.engine.ensures.engine c.rows.ensures c.in_ok-rows.ensures)

pub returns-clause-labels : goal.returns-clause-labels
returns-clause-labels g c = labels_told c.args.run.now c.engine.ensures.legal c.args.labels _ c.labels_asked-labels.ensures
