use Rattle.std.proofs.Common.{◌≡◌, suc, ◌-◌, arith, ◌∙◌}
use Rattle.sg_hilbert.proofs.Undo.{place_of_quarter}
use Rattle.sg_hilbert.proofs.curve.+place_from.Goals as goal

pub returns-clause-place : goal.returns-clause-place
returns-clause-place t c =
    let j = c.args.k - 1 in
    let o = c.own_quarter-own.result in
    let in_own = c.own_quarter-own.ensures in
    let e : c.args.k ≡ suc j = let z = c.if-k-eq0.false in grind arith in
    c.after_quarters.ensures.place
    ∙ place_of_quarter j c.args.k c.args.x c.args.y o.quarter c.side_after.result c.places_after.result c.place_from-place.result (o.x, o.y)
    c.side_after.ensures.side c.places_after.ensures.places c.place_from-place.ensures.place e in_own.quarter (in_own.column, in_own.row) in_own.same_column in_own.same_row
