use Rattle.std.proofs.Common.{sym, ap, ◌∙◌, arith}
use Rattle.sg_history.specs.Openings.{Held}
use Rattle.sg_history.proofs.Giving.{joins_note}
use Rattle.sg_history.proofs.labels.Counter.keep.Goals as goal

pub join_seat-requires : goal.join_seat-requires
join_seat-requires c = (
  ap (λ (h : Held). h.table) c.token.view_is ∙ (c.requires.table ∙ sym c.self.view_is),
  ap (λ (h : Held). h.table) c.note.view_is ∙ (c.requires.note_table ∙ sym c.self.view_is),
  c.note.invariant.0,
  omega (arith, c.self.invariant),
  λ s k at apart there.
      joins_note s.words s.views c.token.inside.seat.id c.token.inside.seat.me.0 c.note.inside.seat.id c.note.inside.seat.me.0 k (at, c.token.invariant.1) apart c.note.invariant.1
      (ap (λ (h : Held). h.known.session) c.note.view_is ∙ c.requires.note.0) (ap (λ (h : Held). h.known.pen) c.note.view_is ∙ c.requires.note.1) there,
)
