use Rattle.std.proofs.Common.{sym, ap, ◌∙◌, arith}
use Rattle.sg_history.specs.Openings.{Held}
use Rattle.sg_history.proofs.Giving.{splits_note}
use Rattle.sg_history.proofs.labels.Counter.note.Goals as goal

pub split_seat-requires : goal.split_seat-requires
split_seat-requires c = (
  ap (λ (h : Held). h.table) c.token.view_is ∙ (c.requires ∙ sym c.self.view_is),
  omega (arith, c.self.invariant),
  λ s k at. splits_note s.words s.views c.token.inside.seat.id c.token.inside.seat.me.0 k (at, c.token.invariant.1),
)
