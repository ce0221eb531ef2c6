use Rattle.sg_versions.specs.declared.version.WritesEnd.TheVariants.{Keep}
use Rattle.sg_cellrows.proofs.Mirrors.{mirrored_settled}
use Rattle.sg_cellrows.proofs.CellRows.keep.Goals as goal

pub invariant_of-self : goal.invariant_of-self
invariant_of-self c = mirrored_settled c.self.inside.by_cell.rows c.self.inside.by_row.rows c.keep.new.self.rows c.keep-2.new.self.rows c.self.invariant Keep c.args.s c.keep.ensures.each (λ b k. c.keep-2.ensures.each (b, k))
