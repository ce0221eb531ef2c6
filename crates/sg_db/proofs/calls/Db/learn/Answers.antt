use Rattle.std.proofs.Common.{sym, ap, ◌∙◌, subst, refl}
use Rattle.sg_history.specs.Histories.{Begins}
use Rattle.sg_history.specs.Openings.{Held}
use Rattle.sg_history.specs.Views.{Known}
use Rattle.sg_history.specs.Steps.{Looks}
use Rattle.sg_db.specs.Callers.{SeatShown, NoteShown, FrontShown, seat_shown, is_live}
use Rattle.sg_db.specs.Theorem.{HasLooked}
use Rattle.sg_db.proofs.Seeing.{seat_still, live_same, has_looked}
use Rattle.sg_db.proofs.calls.Db.learn.Goals as goal

pub invariant_of-seat : goal.invariant_of-seat
invariant_of-seat g c =
    let v = c.seat.inside.token.known in
    let looks = subst (λ (u : Known). Looks u c.look.result c.look.new.token.known) (ap (λ (h : Held). h.known) c.keep.ensures) c.look.ensures.looks in
    seat_still c.seat.inside.session c.seat.inside.live v c.note.inside.token.known.seen c.look.new.token.known c.look.result c.seat.invariant looks

pub returns-clause-learnt : goal.returns-clause-learnt
returns-clause-learnt g c =
    let v = c.seat.inside.token.known in
    let s = c.seat.inside.session in
    let kept = c.note.inside.token.known.seen in
    let new = seat_shown s c.look.new.token in
    let looks = subst (λ (u : Known). Looks u c.look.result c.look.new.token.known) (ap (λ (h : Held). h.known) c.keep.ensures) c.look.ensures.looks in
    record {
      looked = subst (λ (old : SeatShown). HasLooked old new c.of.result) c.seat.view_is
          (subst (λ (front : FrontShown). HasLooked (seat_shown s c.seat.inside.token) new front) (sym c.of.ensures)
          (has_looked s c.seat.inside.live v kept c.look.new.token.known c.look.result c.seat.invariant looks c.seat.inside.token c.look.new.token refl refl (c.look.ensures.table ∙ ap (λ (h : Held). h.table) c.keep.ensures)));
      note = subst (λ l. Begins l c.look.new.token.known.seen) (ap (λ (n : NoteShown). n.seen) c.note.view_is) looks.kept;
    }

pub returns-clause-live : goal.returns-clause-live
returns-clause-live g c =
    let v = c.seat.inside.token.known in
    let looks = subst (λ (u : Known). Looks u c.look.result c.look.new.token.known) (ap (λ (h : Held). h.known) c.keep.ensures) c.look.ensures.looks in
    live_same c.seat.inside.session c.seat.inside.live v c.note.inside.token.known.seen c.look.new.token.known c.look.result c.seat.invariant looks ∙ ap is_live c.seat.view_is
