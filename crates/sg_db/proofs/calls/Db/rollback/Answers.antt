use Rattle.std.proofs.Common.{◌≡◌, sym, ap, ◌∙◌, subst}
use Rattle.sg_db.specs.Callers.{SeatShown, seat_shown, is_live}
use Rattle.sg_db.specs.Theorem.{HasRolledBack}
use Rattle.sg_db.proofs.Closing.{seat_between, has_rolled_back}
use Rattle.sg_db.proofs.calls.Db.rollback.Goals as goal

pub end_by_rollback-requires-clause-live : goal.end_by_rollback-requires-clause-live
end_by_rollback-requires-clause-live g c κs within =
    seat_between c.seat.inside.session c.seat.inside.live c.seat.inside.token.known c.seat.invariant (ap is_live c.seat.view_is ∙ c.requires.live)

pub returns-clause-rolled_back : goal.returns-clause-rolled_back
returns-clause-rolled_back g c =
    let s = c.seat.inside.session in
    let old = c.seat.inside.token in
    let new = c.end_by_rollback.new.token in
    let table : old.table ≡ g.N.Naming.table = ap (λ (x : SeatShown). x.table) c.seat.view_is ∙ (c.requires.table ∙ (sym c.self.view_is ∙ c.self.invariant.0)) in
    subst (λ (o : SeatShown). HasRolledBack o (seat_shown s new) c.of.result) c.seat.view_is
    (has_rolled_back s c.seat.inside.live old new c.of.result c.seat.invariant (c.end_by_rollback.ensures.table ∙ sym table) c.of.ensures c.end_by_rollback.ensures.closed)
