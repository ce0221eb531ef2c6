use Rattle.std.proofs.Common.{◌≡◌, ℕ, suc, ◌-◌, ◌+◌, length, ap, sym, ◌∙◌, arith}
use Rattle.sg_shape.specs.declared.shapes.Shape.{Shape}
use Rattle.sg_plain.specs.Rows.{keys_of}
use Rattle.sg_script.specs.Plans.{above_all}
use Rattle.sg_script.proofs.Lasts.{above_all-last}
use Rattle.sg_script.proofs.phrases.least_key.Goals as goal

pub returns-in-len1-up : goal.returns-in-len1-up
returns-in-len1-up c =
    let one : suc (length c.as_slice.result.now - 1) ≡ length c.as_slice.result.now = omega arith in
    ap (λ n. n + 1) c.from.ensures ∙ ap (λ (row : ℕ × Shape). row.0 + 1) c.last-item.is
    ∙ sym (above_all-last (λ row. row.0) c.as_slice.result.now _ _ one)
    ∙ ap (λ rows. above_all (keys_of rows)) (c.as_slice.ensures.all ∙ c.rows.ensures)
