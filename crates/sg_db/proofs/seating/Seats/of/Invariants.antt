use Rattle.std.proofs.Common.{◌≡◌, ◌≤◌, []}
use Rattle.sg_history.specs.Views.{resting}
use Rattle.sg_db.specs.Seatings.{fresh_seats}
use Rattle.sg_db.proofs.seating.Seats.of.Given as goal

abbrev pub invariant-loop-place : goal.invariant-loop-place
invariant-loop-place l = record {
  table : l.pen.table ≡ l.fn.pen.table;
  pen : l.pen.known ≡ resting l.fn.pen.known.stage [] l.place;
  seats : l.seats.items ≡ fresh_seats l.fn.pen.table l.fn.pen.known.stage 0 l.place;
  most : l.place ≤ l.callers;
}
