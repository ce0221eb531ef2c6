use Rattle.replica_rows.proofs.Courses.{stepped, then}
use Rattle.replica_rows.proofs.tables.go_on.Goals as goal

pub returns-in-Ok-Job : goal.returns-in-Ok-Job
returns-in-Ok-Job g c =
    then c.args.table.now c.step.new.self c.hand_in.new.table (stepped c.args.s c.args.table.now c.step.new.self c.in-Ok-Job.field-0 c.in-Ok-Job.ensures.ok) c.hand_in.ensures

pub returns-in-Ok : goal.returns-in-Ok
returns-in-Ok g c = stepped c.args.s c.args.table.now c.step.new.self c.in-Ok.field-0 c.in-Ok.ensures.ok
