use Rattle.sg_program.proofs.Finished.{threaded}
use Rattle.sg_program.proofs.sessions.threaded.Goals as goal

pub returns : goal.returns
returns g c =
    threaded c.args.script c.args.labels c.args.trace c.in_ok-run.run' c.report.result c.in_ok-run.ensures.run c.in_ok-run.ensures.ended c.report.ensures
