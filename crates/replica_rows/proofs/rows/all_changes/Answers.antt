use Rattle.replica_rows.proofs.rows.all_changes.Goals as goal

pub watch_changes-seen-requires-after_bounds : goal.watch_changes-seen-requires-after_bounds
watch_changes-seen-requires-after_bounds g c κs within = c.in-Ok.ensures.this c.in_ok-desk.desk.book _ c.in_ok-desk.ensures
