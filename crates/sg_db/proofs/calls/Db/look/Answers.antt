use Rattle.std.proofs.Common.{sym, ap, ◌∙◌, subst, refl}
use Rattle.sg_db.specs.Callers.{SeatShown, FrontShown, seat_shown, is_live}
use Rattle.sg_db.specs.Theorem.{HasLooked}
use Rattle.sg_db.proofs.Seeing.{seat_still, live_same, has_looked}
use Rattle.sg_db.proofs.calls.Db.look.Goals as goal

pub invariant_of-seat : goal.invariant_of-seat
invariant_of-seat g c =
    let v = c.seat.inside.token.known in
    seat_still c.seat.inside.session c.seat.inside.live v v.kept c.look.new.token.known c.look.result c.seat.invariant c.look.ensures.looks

pub returns-clause-looked : goal.returns-clause-looked
returns-clause-looked g c =
    let v = c.seat.inside.token.known in
    let s = c.seat.inside.session in
    let new = seat_shown s c.look.new.token in
    subst (λ (old : SeatShown). HasLooked old new c.of.result) c.seat.view_is
    (subst (λ (front : FrontShown). HasLooked (seat_shown s c.seat.inside.token) new front) (sym c.of.ensures)
    (has_looked s c.seat.inside.live v v.kept c.look.new.token.known c.look.result c.seat.invariant c.look.ensures.looks c.seat.inside.token c.look.new.token refl refl c.look.ensures.table))

pub returns-clause-live : goal.returns-clause-live
returns-clause-live g c =
    let v = c.seat.inside.token.known in
    live_same c.seat.inside.session c.seat.inside.live v v.kept c.look.new.token.known c.look.result c.seat.invariant c.look.ensures.looks ∙ ap is_live c.seat.view_is
