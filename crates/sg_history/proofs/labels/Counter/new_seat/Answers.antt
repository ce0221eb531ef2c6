use Rattle.std.proofs.Common.{sym, ap, ◌∙◌, subst, arith}
use Rattle.std.proofs.Common.{[]}
use Rattle.sg_history.specs.Views.{Known}
use Rattle.sg_history.specs.Openings.{Held}
use Rattle.sg_history.specs.Steps.{HasPen}
use Rattle.sg_history.proofs.Giving.{splits_seat}
use Rattle.sg_history.proofs.labels.Counter.new_seat.Goals as goal

pub split_seat-requires : goal.split_seat-requires
split_seat-requires c = (
  ap (λ (h : Held). h.table) c.pen.view_is ∙ (c.requires.table ∙ sym c.self.view_is),
  omega (arith, c.self.invariant),
  λ s k at.
      splits_seat s.words s.views c.pen.inside.seat.id c.pen.inside.seat.me.0 k (at, c.pen.invariant.1)
      (ap (λ (h : Held). h.known.session) c.pen.view_is ∙ c.requires.nobody) (subst (λ (u : Known). HasPen u u.stage []) (sym (ap (λ (h : Held). h.known) c.pen.view_is)) c.requires.pen),
)
