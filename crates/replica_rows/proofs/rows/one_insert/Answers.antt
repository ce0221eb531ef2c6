use Rattle.replica_rows.proofs.rows.one_insert.Goals as goal

pub watch_insert-seen-requires-after_bounds : goal.watch_insert-seen-requires-after_bounds
watch_insert-seen-requires-after_bounds g c κs within = c.in-Ok.ensures.this c.in_ok-desk.desk.book _ c.in_ok-desk.ensures
