-- The keys of cell rows under their order.
use Rattle.std.proofs.Common.{◌≡◌, ℕ, ◌&&◌, eqb, refl, ap, ◌∙◌}
use Rattle.std.specs.declared.cmp.Ordering.{Ordering}
use Rattle.std.specs.declared.cmp.Ordering.TheVariants.{Less, Equal, Greater}
use Rattle.std.specs.Ordering.{nat_cmp, is_eq, ordering_then}
use Rattle.sg_cells.specs.Cells.{Cell}
use Rattle.sg_cellrows.specs.CellTable.{CellKey, cell_cmp, cell_key_cmp}
use Rattle.sg_locks.proofs.GrantLaws.{is_eq-nat_cmp}

both : (o p : Ordering) → is_eq (ordering_then o p) ≡ (is_eq o && is_eq p)
both Less p = refl
both Equal p = refl
both Greater p = refl

-- one key is another where the cells are alike and the rows' keys are the same
pub same_key : (c d : Cell) (j k : ℕ) → is_eq (cell_key_cmp (c, j) (d, k)) ≡ (is_eq (cell_cmp c d) && eqb j k)
same_key c d j k = both (cell_cmp c d) (nat_cmp j k) ∙ ap (λ b. is_eq (cell_cmp c d) && b) (is_eq-nat_cmp j k)
