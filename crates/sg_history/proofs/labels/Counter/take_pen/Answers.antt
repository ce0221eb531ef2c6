use Rattle.std.proofs.Common.{sym, ap, ◌∙◌, arith}
use Rattle.sg_history.specs.Openings.{Held}
use Rattle.sg_history.proofs.Giving.{some_of, joins_pen}
use Rattle.sg_history.proofs.labels.Counter.take_pen.Goals as goal

pub join_seat-requires : goal.join_seat-requires
join_seat-requires c =
    let p = some_of c.pen.inside.seat.me.0.pen (λ e. c.requires.pen.1 (sym (ap (λ (h : Held). h.known.pen) c.pen.view_is) ∙ e)) in (
      ap (λ (h : Held). h.table) c.token.view_is ∙ (c.requires.table ∙ sym c.self.view_is),
      ap (λ (h : Held). h.table) c.pen.view_is ∙ (c.requires.pen_table ∙ sym c.self.view_is),
      c.pen.invariant.0,
      omega (arith, c.self.invariant),
      λ s k at apart there.
          joins_pen s.words s.views c.token.inside.seat.id c.token.inside.seat.me.0 c.pen.inside.seat.id c.pen.inside.seat.me.0 k (at, c.token.invariant.1) apart c.pen.invariant.1
          (ap (λ (h : Held). h.known.session) c.pen.view_is ∙ c.requires.pen.0) p.0 p.1 there,
    )
