use Rattle.std.proofs.Common.{◌++◌, ◌∷◌, [], sym, ap, ◌∙◌, subst}
use Rattle.std.proofs.lemmas.List.Elements.{All-get_or}
use Rattle.sg_shape.specs.Sound.{IsSound}
use Rattle.sg_plain.specs.Keys.{IsRising}
use Rattle.sg_plain.specs.Rows.{Rows, AreRows, keys_of}
use Rattle.sg_plain.proofs.PlaceLemmas.{row_is, rising_row}
use Rattle.sg_refine.specs.Jobs.{Job, IsNextItem}
use Rattle.sg_refine.proofs.jobs.RefineJob.copy.Goals as goal

pub push-requires : goal.push-requires
push-requires c =
    let all = c.as_slice-item-items.result.now in
    let at = c.loop-item.item-index in
    let item = c.item-item.result in
    let are : AreRows all = subst AreRows (sym c.as_slice-item-items.ensures.all) c.as_slice-item-items.ensures.rows in
    record {
      above = subst (λ (rows : Rows). IsRising (keys_of rows ++ item.0 ∷ [])) (sym (ap (λ (j : Job). j.items) c.loop-item.invariant))
          (rising_row all at item are.rising c.loop-item-test.true (row_is all at item _ c.loop-item-test.true c.item-item.is));
      sound = subst IsSound (ap (λ row. row.1) (sym c.item-item.is) ∙ sym c.in_ok-shape.ensures) (All-get_or (λ row. IsSound row.1) all at _ c.loop-item-test.true are.sound);
    }
