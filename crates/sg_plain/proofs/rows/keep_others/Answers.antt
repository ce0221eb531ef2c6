use Rattle.std.proofs.Common.{◌<◌, get_or, length, refl, arith}
use Rattle.std.proofs.lemmas.Bool.{iff_false}
use Rattle.sg_plain.proofs.PlaceLemmas.{row_is}
use Rattle.sg_plain.proofs.Removal.{Removing-start, Removing-gone, Removing-kept}
use Rattle.sg_plain.proofs.rows.keep_others.Goals as goal
use Rattle.sg_plain.proofs.rows.keep_others.Goals.{then-is_at, else-is_at}

pub loop-place-init : goal.loop-place-init
loop-place-init c = Removing-start c.args.keys.now c.args.rows.now c.requires.rising c.requires.held

pub overflow_add-next : goal.overflow_add-next
overflow_add-next c = omega (arith, c.loop-place.invariant.few)

pub loop-place-preserved : goal.loop-place-preserved
loop-place-preserved c =
    let rows = c.loop-place.rows in
    let place = c.loop-place.place in
    let row = get_or rows place c.index-rows-place.result in
    let within : place < length rows = omega arith in
    elim c.if-is_at.branch [
      | then-is_at w ↦
          rw (w.rows-is, w.next-is, w.kept-is)
          (Removing-gone c.args.keys.now c.args.rows.now rows c.loop-place.next c.loop-place.kept place row c.requires.rows.rising within (row_is rows place row c.index-rows-place.result within refl)
          c.loop-place.invariant (c.is_at.ensures.0 w.if-is_at.true))
      | else-is_at w ↦
          rw (w.rows-is, w.next-is, w.kept-is)
          (Removing-kept c.args.keys.now c.args.rows.now rows c.loop-place.next c.loop-place.kept place row c.requires.rows.rising within (row_is rows place row c.index-rows-place.result within refl)
          c.loop-place.invariant w.swap.new.self (iff_false c.is_at.ensures w.if-is_at.false) w.swap.ensures.by_index)
    ]
