use Rattle.sg_versions.specs.declared.version.WritesEnd.TheVariants.{Undo}
use Rattle.sg_cellrows.proofs.Mirrors.{mirrored_settled}
use Rattle.sg_cellrows.proofs.CellRows.undo.Goals as goal

pub invariant_of-self : goal.invariant_of-self
invariant_of-self c = mirrored_settled c.self.inside.by_cell.rows c.self.inside.by_row.rows c.undo.new.self.rows c.undo-2.new.self.rows c.self.invariant Undo c.args.s c.undo.ensures.each (λ b k. c.undo-2.ensures.each (b, k))
