use Rattle.replica_rows.proofs.Courses.{tried}
use Rattle.replica_rows.proofs.tables.ask.Goals as goal

pub returns : goal.returns
returns c = tried c.ask.result _ c.args.table.now c.ask.new.self c.ask.ensures.ok c.ask.ensures.err
