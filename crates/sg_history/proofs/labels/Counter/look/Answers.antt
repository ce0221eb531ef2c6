use Rattle.std.proofs.Common.{sym, ap, ◌∙◌, refl, arith}
use Rattle.atomic_table.specs.Table.{keeps}
use Rattle.sg_history.specs.Openings.{Held}
use Rattle.sg_history.proofs.Looking.{looked, looks}
use Rattle.sg_history.proofs.labels.Counter.look.Goals as goal

pub load-token-inside-requires : goal.load-token-inside-requires
load-token-inside-requires c =
    let v = c.token.inside.seat.me.0 in (
      ap (λ (h : Held). h.table) c.token.view_is ∙ (c.requires ∙ sym c.self.view_is),
      omega (arith, c.self.invariant),
      λ s k len at small. let r = looks s.words s.views c.token.inside.seat.id v k (at, c.token.invariant.1) in (looked v k.history, keeps, tt, r.0, (r.1, refl)),
    )
