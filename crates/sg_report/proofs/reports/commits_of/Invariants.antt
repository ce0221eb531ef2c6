use Rattle.sg_report.proofs.Fronts.{AreCommits}
use Rattle.sg_report.proofs.reports.commits_of.Given as goal

abbrev pub invariant-loop-place : goal.invariant-loop-place
invariant-loop-place g l = AreCommits l.run l.count l.place l.commits.items
