use Rattle.std.proofs.Common.{sym, ap, ◌∙◌, arith}
use Rattle.sg_history.specs.Openings.{Held}
use Rattle.sg_history.proofs.Giving.{some_of, splits_pen}
use Rattle.sg_history.proofs.labels.Counter.give_pen.Goals as goal

pub split_seat-requires : goal.split_seat-requires
split_seat-requires c =
    let p = some_of c.token.inside.seat.me.0.pen (λ e. c.requires.pen (sym (ap (λ (h : Held). h.known.pen) c.token.view_is) ∙ e)) in (
      ap (λ (h : Held). h.table) c.token.view_is ∙ (c.requires.table ∙ sym c.self.view_is),
      omega (arith, c.self.invariant),
      λ s k at. splits_pen s.words s.views c.token.inside.seat.id c.token.inside.seat.me.0 k (at, c.token.invariant.1) p.0 p.1,
    )
