use Rattle.std.proofs.Common.{arith}
use Rattle.sg_hilbert.proofs.Sides.{doubles, squares}
use Rattle.sg_hilbert.proofs.Undo.{two_pos}
use Rattle.sg_hilbert.proofs.Neighbours.{neighbours, first_spot, last_spot}
use Rattle.sg_hilbert.proofs.laws.curve_laws.Goals as goal

pub returns-clause-places : goal.returns-clause-places
returns-clause-places c = squares

pub returns-clause-sides : goal.returns-clause-sides
returns-clause-sides c = doubles

pub returns-clause-neighbours : goal.returns-clause-neighbours
returns-clause-neighbours c = neighbours

pub returns-clause-begins : goal.returns-clause-begins
returns-clause-begins c = λ k. let a = first_spot k in (a.column, a.row)

pub returns-clause-ends : goal.returns-clause-ends
returns-clause-ends c = λ k d h.
    let a = last_spot k d h in
    let e = a.column in
    let t = two_pos k in
    (omega arith, a.row)
