use Rattle.sg_db.proofs.Calling.{job_then, job_ended, on_none, on_some}
use Rattle.sg_db.proofs.calls.Db.go_on.Goals as goal

pub returns-in-Job-clause-none : goal.returns-in-Job-clause-none
returns-in-Job-clause-none g c =
    on_none c.refine_outside.result (job_then c.args.s c.args.token.now.known c.advance-going.new.token.known c.refine_outside.new.token.known c.in-Job.job c.requires.asking c.in-Job.ensures.advanced) c.refine_outside.ensures.none

pub returns-in-Job-clause-some : goal.returns-in-Job-clause-some
returns-in-Job-clause-some g c =
    on_some c.refine_outside.result (λ it. job_ended c.args.s c.args.token.now.known c.advance-going.new.token.known c.refine_outside.new.token.known c.in-Job.job it c.requires.asking c.in-Job.ensures.advanced) c.refine_outside.ensures.some

pub refine_outside-requires-clause-settled : goal.refine_outside-requires-clause-settled
refine_outside-requires-clause-settled g c κs within = c.in-Job.ensures.advanced.goes.settled
