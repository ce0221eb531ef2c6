use Rattle.std.proofs.Common.{◌≡◌, ◌++◌, [], ◌∷◌, ◌<◌, ◌≤◌, length, ℕ, ◌+◌, List, sym, ap, ◌∙◌, arith, subst}
use Rattle.std.proofs.lemmas.Grind.{common_steps}
use Rattle.std.proofs.lemmas.List.{length-append}
use Rattle.sg_hilbert.specs.Curve.{four_to}
use Rattle.sg_cells.specs.Cells.{Grid, Cell, split_of}
use Rattle.sg_cells.specs.Tess.{Look, Entry, look_at, kids}
use Rattle.sg_tess.proofs.Steps.{SoFar, so_far_over, so_far_some, so_far_none}
use Rattle.sg_tess.proofs.sights.Sight.kids_among.Goals as goal
use Rattle.sg_tess.proofs.sights.Sight.kids_among.Goals.{in-Some+else-len-room+in_ok-push, in_default}

Wanted : Grid → Look → Cell → ℕ → ℕ → List Entry → Type 0
Wanted gr lk parent d room es = record { so_far : SoFar gr lk parent d (four_to (split_of gr.sides parent)) es (kids gr lk parent); fits : length es ≤ room }

push_fits : (es : List Entry) (e : Entry) (room : ℕ) → length es ≤ room → (length es ≡ room → ⊥) → length (es ++ e ∷ []) ≤ room
push_fits es e room h n = let a = length-append es (e ∷ []) in omega arith

pub returns-then-len-room : goal.returns-then-len-room
returns-then-len-room g c =
    let gr = c.args.self.now.grid.now in
    let lk = look_at c.args.self.now.shape.now in
    let n = four_to (split_of gr.sides c.args.parent) in
    let e = sym c.in-Some.is ∙ c.in_ok-mark.ensures in
    let l : length c.loop-place.entries.items ≡ c.args.room = grind (arith, common_steps) in
    so_far_over gr lk c.args.parent c.loop-place.place n c.args.room c.loop-place.entries.items (kids gr lk c.args.parent) c.in-Some.mark c.loop-place.invariant.so_far
    (subst (λ k. c.loop-place.place < k) c.places_in-place-end.ensures.places c.loop-place-test.true) e l

pub loop-place-preserved : goal.loop-place-preserved
unfolding Wanted
loop-place-preserved g c =
    let gr = c.args.self.now.grid.now in
    let lk = look_at c.args.self.now.shape.now in
    let n = four_to (split_of gr.sides c.args.parent) in
    let below : c.loop-place.place < n = subst (λ k. c.loop-place.place < k) c.places_in-place-end.ensures.places c.loop-place-test.true in
    elim c.match-branch-2.branch [
      | in-Some+else-len-room+in_ok-push w ↦
          let e = sym w.in-Some.is ∙ c.in_ok-mark.ensures in
          let all = kids gr lk c.args.parent in
          let m = w.in-Some.mark in
          let es = c.loop-place.entries.items in
          let i : c.match-branch-2.entries.items ≡ es ++ (c.args.parent ++ c.loop-place.place ∷ [], m) ∷ [] = ap (λ v. v.items) w.entries-is ∙ (w.in_ok-push.ensures.items ∙ ap (λ x. es ++ (x, m) ∷ []) c.child_of-cell.ensures.places) in
          let full : length es ≡ c.args.room → ⊥ = λ q. w.if-len-room.false (grind (arith, common_steps)) in
          subst (λ v. Wanted gr lk c.args.parent (c.loop-place.place + 1) c.args.room v) (sym i)
          (record { so_far = so_far_some gr lk c.args.parent c.loop-place.place n es all m c.loop-place.invariant.so_far below e; fits = push_fits es (c.args.parent ++ c.loop-place.place ∷ [], m) c.args.room c.loop-place.invariant.fits full })
      | in_default w ↦
          let e = sym w.in_default.is ∙ c.in_ok-mark.ensures in
          subst (λ v. Wanted gr lk c.args.parent (c.loop-place.place + 1) c.args.room v.items) (sym w.entries-is) (record { so_far = so_far_none gr lk c.args.parent c.loop-place.place n c.loop-place.entries.items (kids gr lk c.args.parent) c.loop-place.invariant.so_far below e; fits = c.loop-place.invariant.fits })
    ]
