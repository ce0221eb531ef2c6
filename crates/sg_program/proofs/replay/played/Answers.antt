use Rattle.sg_program.proofs.Finished.{played}
use Rattle.sg_program.proofs.replay.played.Goals as goal

pub returns : goal.returns
returns g c =
    played c.args.script c.args.labels c.in_ok-run.run' c.drive.new.run c.report.result c.in_ok-run.ensures.script c.in_ok-run.ensures.run c.in_ok-run.ensures.past
    c.in_ok-run.ensures.legal c.drive.ensures c.report.ensures
