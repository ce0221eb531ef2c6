-- What an engine shows to the outside.
use Rattle.std.specs.Prelude.{false, map}
use Rattle.sg_trace.specs.Traces.{all_sessions}
use Rattle.sg_engine.specs.Shown.{Shown, Refining, job_in}

-- whether the statement has come to its writes isn't told
abbrev pub untold : Refining → Refining
untold x = record { job = x.job; delivered = x.delivered; writes = false }

-- the same run, and of each session the job that it waits for and whether a result was delivered
abbrev pub outside : Shown → Shown
outside v = record { stage = v.stage; labels = v.labels; journal = v.journal; seats = v.seats; jobs = map (λ s. untold (job_in v.jobs s)) all_sessions }
