use Rattle.std.proofs.Common.{rules, arith, SFits, w32}
use Rattle.std.proofs.lemmas.Int.{to_z-of_z}
use Rattle.sg_algebra.proofs.Ring.{sums}
use Rattle.sg_relate.proofs.boxes.is_part_up.Goals as goal

pub returns-then-is_at_most : goal.returns-then-is_at_most
returns-then-is_at_most c =
    let a_low : SFits w32 c.args.a.ymin = search rules in
    let a_high : SFits w32 c.args.a.ymax = search rules in
    let b_low : SFits w32 c.args.b.ymin = search rules in
    let b_high : SFits w32 c.args.b.ymax = search rules in
    let d = to_z-of_z w32 c.args.a.ymin a_low in
    let e = to_z-of_z w32 c.args.a.ymax a_high in
    let f = to_z-of_z w32 c.args.b.ymin b_low in
    let g = to_z-of_z w32 c.args.b.ymax b_high in (
      λ h.
          let k = c.is_at_most.ensures.0 c.if-is_at_most.true in
          let l = c.is_at_most-then-is_at_most.ensures.0 h in
          (omega (arith, sums, k, d, f), omega (arith, sums, l, e, g)),
      λ p. let q = p.1 in c.is_at_most-then-is_at_most.ensures.1 (omega (arith, sums, q, e, g)),
    )
