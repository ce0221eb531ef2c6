use Rattle.std.proofs.Common.{List, false, refl, sym, ap, ◌∙◌}
use Rattle.std.specs.Map.{lookup}
use Rattle.std.specs.BTreeMap.{is_at}
use Rattle.sg_versions.specs.Versions.{kept_value}
use Rattle.sg_versions.proofs.Orders.{lookup_inserted}
use Rattle.sg_cellrows.specs.CellTable.{CellRow, cell_key_cmp}
use Rattle.sg_cellrows.specs.Nexts.{RowCell, part_key_cmp, in_part}
use Rattle.sg_cellrows.proofs.Mirrors.{mirrored_put}
use Rattle.sg_cellrows.proofs.NextCells.{cell_key_total, part_key_total}
use Rattle.sg_cellrows.proofs.CellRows.put_kept.Goals as goal

pub put_kept-requires-2-clause-absent : goal.put_kept-requires-2-clause-absent
put_kept-requires-2-clause-absent c =
    let requires = rw (← c.self.view_is) at c.requires in
    sym (c.self.invariant false c.args.key.0 c.args.key.1) ∙ ap (in_part false) requires.absent

pub invariant_of-self : goal.invariant_of-self
invariant_of-self c =
    let requires = rw (← c.self.view_is) at c.requires in
    mirrored_put c.self.inside.by_cell.rows c.self.inside.by_row.rows c.put_kept.new.self.rows c.put_kept-2.new.self.rows c.self.invariant c.args.key.0 c.args.key.1 false (kept_value c.args.mark) refl requires.absent
    (λ k. ap (λ (rows : List CellRow). lookup (is_at (cell_key_cmp k)) rows) c.put_kept.ensures.rows ∙ lookup_inserted cell_key_cmp cell_key_total c.args.key k (kept_value c.args.mark) c.self.inside.by_cell.rows)
    (λ b k. ap (λ (rows : List RowCell). lookup (is_at (part_key_cmp (b, k))) rows) c.put_kept-2.ensures.rows ∙ lookup_inserted part_key_cmp part_key_total (false, (c.args.key.1, c.args.key.0)) (b, k) (kept_value c.args.mark) c.self.inside.by_row.rows)
