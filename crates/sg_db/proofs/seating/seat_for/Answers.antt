use Rattle.std.proofs.Common.{◌-◌, ap}
use Rattle.sg_history.specs.Views.{Known}
use Rattle.sg_db.proofs.seating.seat_for.Goals as goal

pub new_seat-requires-clause-pen : goal.new_seat-requires-clause-pen
new_seat-requires-clause-pen c = (c.args.session - 1, ap (λ (v : Known). v.pen) c.requires.pen)
