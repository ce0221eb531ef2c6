use Rattle.std.proofs.Common.{true, refl, sym, ap, ◌∙◌}
use Rattle.sg_versions.specs.Versions.{fresh}
use Rattle.sg_cellrows.specs.Nexts.{in_part}
use Rattle.sg_cellrows.proofs.Mirrors.{mirrored_put}
use Rattle.sg_cellrows.proofs.CellRows.put_reserved.Goals as goal

pub put_reserved-requires-2-clause-absent : goal.put_reserved-requires-2-clause-absent
put_reserved-requires-2-clause-absent c =
    let requires = rw (← c.self.view_is) at c.requires in
    sym (c.self.invariant true c.args.key.0 c.args.key.1) ∙ ap (in_part true) requires.absent

pub invariant_of-self : goal.invariant_of-self
invariant_of-self c =
    let requires = rw (← c.self.view_is) at c.requires in
    mirrored_put c.self.inside.by_cell.rows c.self.inside.by_row.rows c.put_reserved.new.self.rows c.put_reserved-2.new.self.rows c.self.invariant c.args.key.0 c.args.key.1 true (fresh c.args.s) refl requires.absent c.put_reserved.ensures.each
    (λ b k. c.put_reserved-2.ensures.each (b, k))
