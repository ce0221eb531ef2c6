use Rattle.replica_rows.proofs.Courses.{tied_first}
use Rattle.replica_rows.proofs.desks.Desk.open.Goals as goal

pub invariant_of-desk : goal.invariant_of-desk
invariant_of-desk g c =
    let started = c.in_ok-publisher.ensures.publisher in
    tied_first c.in_ok-table.table c.in_ok-publisher.field-0.publisher c.in_ok-table.ensures.course started.0 started.1 started.2
