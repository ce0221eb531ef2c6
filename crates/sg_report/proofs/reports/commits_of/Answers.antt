use Rattle.sg_report.proofs.Fronts.{commits_more}
use Rattle.sg_report.proofs.reports.commits_of.Goals as goal

pub loop-place-preserved : goal.loop-place-preserved
loop-place-preserved g c =
    commits_more c.args.run.now c.len-count.result c.loop-place.place c.commit_at-commit.result c.loop-place.commits.items c.push.new.self.items c.loop-place.invariant
    c.commit_at-commit.ensures c.in_ok-push.ensures.items
