use Rattle.sg_driver.proofs.Equal.{equal_runs, trace_of, replays}
use Rattle.sg_driver.proofs.laws.driven_laws.Goals as goal

pub returns : goal.returns
returns c = record {
  equal = equal_runs;
  traces = trace_of;
  replay = replays;
}
