use Rattle.std.proofs.Common.{◌≡◌, ◌+◌, ◌==◌, ◌||◌, ◌++◌, ◌∷◌, [], eqb, ℕ, List, None, take, get_or, subst}
use Rattle.std.specs.List.{list_any}
use Rattle.std.proofs.lemmas.List.{take_more}
use Rattle.sg_writes.proofs.Writing.{alike_written, written_more, any_more}
use Rattle.sg_writes.proofs.writes.remove.Goals as goal

pub loop-row-preserved : goal.loop-row-preserved
loop-row-preserved c =
    let s = c.args.s in
    let list = c.args.list.now in
    let keys = c.args.selected.now in
    let items = c.as_slice-row-items.result.now in
    let i = c.loop-row.row-index in
    let key = get_or items i 0 in
    let table = c.args.rows.now.rows in
    let index = c.args.cells.now.rows in
    let behind = λ (k : ℕ). list_any (λ j. j == k) (take i keys) in
    let more : take (i + 1) keys ≡ take i keys ++ key ∷ [] = subst (λ (ks : List ℕ). take (i + 1) ks ≡ take i ks ++ key ∷ []) c.as_slice-row-items.ensures.all (take_more items i 0 c.loop-row-test.true) in
    alike_written s None list table index (λ k. behind k || eqb key k) c.write.new.rows.rows c.write.new.cells.rows
    (written_more s None list table index behind c.loop-row.rows.rows c.loop-row.cells.rows c.loop-row.invariant key c.write.new.rows.rows c.write.new.cells.rows c.write.ensures)
    (λ k. list_any (λ j. j == k) (take (i + 1) keys)) (any_more (take i keys) (take (i + 1) keys) key more)
