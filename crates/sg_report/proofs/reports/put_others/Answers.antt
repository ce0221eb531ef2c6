use Rattle.sg_report.proofs.Fronts.{others_more}
use Rattle.sg_report.proofs.reports.put_others.Goals as goal

pub loop-place-preserved : goal.loop-place-preserved
loop-place-preserved g c =
    others_more c.args.run.now c.args.session.now c.args.others.now.items c.len-count.result c.loop-place.place c.loop-place.others.items c.put_other.new.others.items c.loop-place.invariant
    c.loop-place-test.true c.in_ok-put_other.ensures
