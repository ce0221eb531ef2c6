use Rattle.sg_report.proofs.Fronts.{AreOthers}
use Rattle.sg_report.proofs.reports.put_others.Given as goal

abbrev pub invariant-loop-place : goal.invariant-loop-place
invariant-loop-place g l = AreOthers l.run l.session l.initial.others.items l.count l.place l.others.items
