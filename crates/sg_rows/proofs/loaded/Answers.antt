use Rattle.std.specs.Prelude.{map}
use Rattle.std.proofs.Common.{◌≡◌, ◌∙◌, sym, ap, subst, None, arith, List, ℕ, suc, ◌+◌, take}
use Rattle.std.specs.Ordering.{nat_cmp}
use Rattle.std.specs.Map.{lookup}
use Rattle.std.specs.BTreeMap.{is_at, insert_entry}
use Rattle.std.proofs.lemmas.List.{get_or_default}
use Rattle.sg_shape.specs.declared.shapes.Shape.{Shape}
use Rattle.sg_plain.specs.Rows.{AreRows}
use Rattle.sg_versions.specs.Versions.{kept_value}
use Rattle.sg_rows.specs.Table.{TableRow, loaded_row}
use Rattle.sg_rows.proofs.Loading.{absent_next, inserted_next}
use Rattle.sg_rows.proofs.loaded.Goals as goal

pub put_kept-requires-clause-absent : goal.put_kept-requires-clause-absent
put_kept-requires-clause-absent c =
    let all = c.as_slice-all.result.now in
    let row = c.row-item.result in
    let rising = (subst AreRows (sym c.as_slice-all.ensures.all) c.as_slice-all.ensures.rows).rising in
    subst (λ (rows : List TableRow). lookup (is_at (nat_cmp row.0)) rows ≡ None) (sym c.loop-row.invariant.rows)
    (absent_next all c.loop-row.row-index row rising c.loop-row-test.true (c.row-item.is ∙ get_or_default all c.loop-row.row-index _ row c.loop-row-test.true))

pub loop-row-preserved : goal.loop-row-preserved
loop-row-preserved c =
    let all = c.as_slice-all.result.now in
    let row = c.row-item.result in
    let rising = (subst AreRows (sym c.as_slice-all.ensures.all) c.as_slice-all.ensures.rows).rising in
    let more : suc c.loop-row.row-index ≡ c.loop-row.row-index + 1 = omega arith in
    record {
      rows = c.put_kept.ensures.rows
          ∙ ap (λ (shape : Shape). insert_entry nat_cmp c.loop-row.versions.rows row.0 (kept_value shape)) c.in_ok-copy.ensures
          ∙ ap (λ (rows : List TableRow). insert_entry nat_cmp rows row.0 (kept_value row.1)) c.loop-row.invariant.rows
          ∙ inserted_next all c.loop-row.row-index row rising c.loop-row-test.true (c.row-item.is ∙ get_or_default all c.loop-row.row-index _ row c.loop-row-test.true)
          ∙ ap (λ (n : ℕ). map loaded_row (take n all)) more;
      spare = omega (arith, c.put_kept.ensures.spare, c.loop-row.invariant.spare);
    }
