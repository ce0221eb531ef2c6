use Rattle.std.proofs.Common.{◌≡◌, ◌+◌, ◌<◌, length, List, ◌∷◌, sym, ap, subst, drop, get_or, drop-cons, add-one}
use Rattle.sg_cells.specs.Tess.{Entry}
use Rattle.sg_ranges.proofs.Pairs.{Still, still_next, still_ancestors, still_cell}
use Rattle.sg_ranges.proofs.queries.ranges_of.Goals as goal

item_drop : (xs : List Entry) (i : Rattle.std.proofs.Common.ℕ) (x : Entry) → i < length xs → x ≡ get_or xs i x → drop i xs ≡ x ∷ drop (i + 1) xs
item_drop xs i x h e = rw (add-one, drop-cons xs i x h) (ap (λ z. z ∷ drop (Rattle.std.proofs.Common.suc i) xs) (sym e))

pub add_ancestors-requires : goal.add_ancestors-requires
add_ancestors-requires c =
    let e = c.loop-cell-item.result in
    let rest = drop (c.loop-cell.cell-index + 1) c.args.cells.now in
    let s = subst (λ z. Still c.loop-cell.before c.loop-cell.pairs z c.args.cells.now) (item_drop c.args.cells.now c.loop-cell.cell-index e c.loop-cell-test.true c.loop-cell-item.is) c.loop-cell.invariant.still in
    still_ancestors c.loop-cell.before c.loop-cell.pairs e rest c.args.cells.now s c.requires

pub add-requires : goal.add-requires
add-requires c =
    let p = c.loop-cell.before in
    let e = c.loop-cell-item.result in
    let rest = drop (c.loop-cell.cell-index + 1) c.args.cells.now in
    let s = subst (λ z. Still p c.loop-cell.pairs z c.args.cells.now) (item_drop c.args.cells.now c.loop-cell.cell-index e c.loop-cell-test.true c.loop-cell-item.is) c.loop-cell.invariant.still in
    still_cell p c.last_below.result c.loop-cell.pairs c.add_ancestors.new.pairs e rest c.args.cells.now s c.in_ok-add_ancestors.ensures c.last_below.ensures.path c.requires

pub loop-cell-preserved : goal.loop-cell-preserved
loop-cell-preserved c =
    let p = c.loop-cell.before in
    let e = c.loop-cell-item.result in
    let rest = drop (c.loop-cell.cell-index + 1) c.args.cells.now in
    let s = subst (λ z. Still p c.loop-cell.pairs z c.args.cells.now) (item_drop c.args.cells.now c.loop-cell.cell-index e c.loop-cell-test.true c.loop-cell-item.is) c.loop-cell.invariant.still in
    record {
      still = subst (λ z. Still e.0 z rest c.args.cells.now) (sym c.in_ok-add.ensures)
          (still_next p c.last_below.result c.loop-cell.pairs c.add_ancestors.new.pairs e rest c.args.cells.now s c.in_ok-add_ancestors.ensures c.last_below.ensures.path);
    }
