use Rattle.std.proofs.Common.{◌≡◌, ◌++◌, ◌+◌, ◌<◌, ℕ, suc, length, List, ◌∷◌, sym, ap, subst, drop, get_or, drop-cons, add-one}
use Rattle.sg_cells.specs.Tess.{Entry}
use Rattle.sg_tess.proofs.Listing.{Growing, growing_follows}
use Rattle.sg_tess.proofs.lists.add_all.Goals as goal

item_drop : (xs : List Entry) (i : ℕ) (x : Entry) → i < length xs → x ≡ get_or xs i x → drop i xs ≡ x ∷ drop (i + 1) xs
item_drop xs i x h e = rw (add-one, drop-cons xs i x h) (ap (λ z. z ∷ drop (suc i) xs) (sym e))

pub push-requires : goal.push-requires
push-requires c =
    let e = c.loop-cell-item.result in
    let rest = drop (c.loop-cell.cell-index + 1) c.args.entries.now in
    growing_follows c.loop-cell.list rest (c.args.list.now ++ c.args.entries.now) e
    (subst (λ z. Growing c.loop-cell.list z (c.args.list.now ++ c.args.entries.now)) (item_drop c.args.entries.now c.loop-cell.cell-index e c.loop-cell-test.true c.loop-cell-item.is) c.loop-cell.invariant.growing)
