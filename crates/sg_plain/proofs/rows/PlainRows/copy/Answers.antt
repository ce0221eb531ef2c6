use Rattle.std.proofs.Common.{◌++◌, ◌∷◌, [], sym, subst}
use Rattle.sg_plain.specs.Keys.{IsRising}
use Rattle.sg_plain.specs.Rows.{Rows, AreRows, keys_of}
use Rattle.sg_plain.proofs.PlaceLemmas.{row_is, rising_row}
use Rattle.sg_plain.proofs.rows.PlainRows.copy.Goals as goal

pub push-requires-clause-above : goal.push-requires-clause-above
push-requires-clause-above c =
    let all = c.as_slice-row-items.result.now in
    let at = c.loop-row.row-index in
    let row = c.row-item.result in
    subst (λ (rows : Rows). IsRising (keys_of rows ++ row.0 ∷ [])) (sym c.loop-row.invariant)
    (rising_row all at row (subst AreRows (sym c.as_slice-row-items.ensures.all) c.as_slice-row-items.ensures.rows).rising c.loop-row-test.true (row_is all at row _ c.loop-row-test.true c.row-item.is))
