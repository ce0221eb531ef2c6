use Rattle.std.proofs.Common.{◌≡◌, ◌++◌, ◌+◌, ◌-◌, ◌<◌, ℕ, suc, length, List, [], ◌∷◌, sym, ap, ◌∙◌, subst, drop, get_or, drop-cons, add-one, arith}
use Rattle.std.proofs.lemmas.Grind.{common_steps}
use Rattle.sg_cells.specs.Cells.{Grid}
use Rattle.sg_cells.specs.Tess.{Look, Entry, look_at, kids}
use Rattle.sg_tess.proofs.Steps.{Round, round_keep, round_split}
use Rattle.sg_tess.proofs.sights.Sight.round.Goals as goal
use Rattle.sg_tess.proofs.sights.Sight.round.Goals.{in-Some+in_ok-append, in_default+in_ok-push}

item_drop : (xs : List Entry) (i : ℕ) (x : Entry) → i < length xs → x ≡ get_or xs i x → drop i xs ≡ x ∷ drop (i + 1) xs
item_drop xs i x h e = rw (add-one, drop-cons xs i x h) (ap (λ z. z ∷ drop (suc i) xs) (sym e))

Wanted : Grid → Look → ℕ → ℕ → ℕ → List Entry → List Entry → List Entry → Type 0
Wanted g j limit level count next rest list = record { so_far : Round g j limit level count next rest list }

pub loop-cell-preserved : goal.loop-cell-preserved
unfolding Wanted
loop-cell-preserved g c =
    let gr = c.args.self.now.grid.now in
    let lk = look_at c.args.self.now.shape.now in
    let list = c.args.list.now in
    let e = c.loop-cell-item.result in
    let next = c.loop-cell.next.items in
    let count = c.loop-cell.count in
    let rest = drop (c.loop-cell.cell-index + 1) list in
    let r : Round gr lk c.args.limit c.args.level count next (e ∷ rest) list =
    subst (λ z. Round gr lk c.args.limit c.args.level count next z list) (item_drop list c.loop-cell.cell-index e c.loop-cell-test.true c.loop-cell-item.is) c.loop-cell.invariant.so_far in
    elim c.match-branch-2.branch [
      | in-Some+in_ok-append w ↦
          let m = rw w.in-Some.is at c.in_ok-kids.ensures in
          let i : c.match-branch-2.next.items ≡ next ++ kids gr lk e.0 = ap (λ v. v.items) w.next-is ∙ (w.in_ok-append.ensures.items ∙ ap (λ z. next ++ z) m.0) in
          let q : w.len.result ≡ length w.in-Some.kids.items = grind (arith, common_steps) in
          let n : c.match-branch-2.count ≡ count - 1 + length (kids gr lk e.0) = w.count-is ∙ ap (λ k. count - 1 + k) (q ∙ ap length m.0) in
          subst (λ v. Wanted gr lk c.args.limit c.args.level c.match-branch-2.count v rest list) (sym i)
          (subst (λ k. Wanted gr lk c.args.limit c.args.level k (next ++ kids gr lk e.0) rest list) (sym n)
          (record { so_far = round_split gr lk c.args.limit c.args.level count next rest list e r m.1 }))
      | in_default+in_ok-push w ↦
          let m = rw w.in_default.is at c.in_ok-kids.ensures in
          let i : c.match-branch-2.next.items ≡ next ++ e ∷ [] = ap (λ v. v.items) w.next-is ∙ w.in_ok-push.ensures.items in
          subst (λ v. Wanted gr lk c.args.limit c.args.level c.match-branch-2.count v rest list) (sym i)
          (subst (λ k. Wanted gr lk c.args.limit c.args.level k (next ++ e ∷ []) rest list) (sym w.count-is)
          (record { so_far = round_keep gr lk c.args.limit c.args.level count next rest list e r m }))
    ]
