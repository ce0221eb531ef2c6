use Rattle.sg_threads.proofs.Finished.{finished_in}
use Rattle.sg_threads.proofs.threads.run_named.Goals as goal

pub returns-clause-run : goal.returns-clause-run
returns-clause-run g c = finished_in g.N.Named.plan c.into_run-run.result c.finish.new.run c.into_run-run.ensures c.finish.ensures
