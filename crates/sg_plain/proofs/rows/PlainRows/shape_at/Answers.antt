use Rattle.std.proofs.Common.{◌≡◌, get_or, sym, subst, ap, ◌∙◌, Some}
use Rattle.sg_plain.specs.Rows.{Rows, AreRows}
use Rattle.sg_plain.proofs.PlaceLemmas.{found_at, absent_in_gap}
use Rattle.sg_plain.proofs.rows.PlainRows.shape_at.Goals as goal

-- the key is at its place, and the row there is the one that was read
pub returns-in-Ok : goal.returns-in-Ok
returns-in-Ok c =
    let found = found_at c.args.self.now c.args.key c.in-Ok.place c.index.result.now (subst AreRows c.self.view_is c.self.invariant).rising c.in-Ok.ensures.found in
    let read : c.index.result.now ≡ get_or c.args.self.now c.in-Ok.place c.index.result.now =
    c.index.ensures ∙ ap (λ (rows : Rows). get_or rows c.in-Ok.place c.index.result.now) c.self.view_is in
    ap (λ row. Some row.1) read ∙ sym found

-- the key is not there
pub returns-in-Err : goal.returns-in-Err
returns-in-Err c = sym (absent_in_gap c.args.self.now c.args.key c.in-Err.field-0 (subst AreRows c.self.view_is c.self.invariant).rising c.in-Err.ensures.gap)
