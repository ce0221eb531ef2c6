use Rattle.std.proofs.Common.{ap, length, arith, ◌≤◌}
use Rattle.sg_versions.specs.Writers.{unwritten}
use Rattle.sg_versions.proofs.Indexes.{implied_ok}
use Rattle.sg_versions.proofs.Rooms.{written_and_not}
use Rattle.sg_versions.proofs.versions.Versions.reserve.Goals as goal

pub overflow_sub-unwritten : goal.overflow_sub-unwritten
overflow_sub-unwritten g c =
    omega (arith, c.len.ensures, ap length c.reserve.ensures.pairs, c.self.invariant.1, written_and_not c.self.inside.rows.pairs)

pub overflow_sub-spare : goal.overflow_sub-spare
overflow_sub-spare g c =
    omega (arith, c.len.ensures, ap length c.reserve.ensures.pairs, c.self.invariant.1, written_and_not c.self.inside.rows.pairs, c.spare.ensures, c.self.invariant.0.room_is)

pub returns-then-more-spare-clause-spare : goal.returns-then-more-spare-clause-spare
returns-then-more-spare-clause-spare g c =
    let same = ap unwritten c.reserve.ensures.pairs in
    omega (arith, same, c.len.ensures, ap length c.reserve.ensures.pairs, c.self.invariant.1, written_and_not c.self.inside.rows.pairs, c.spare.ensures, c.in_ok-reserve.ensures.spare, c.if-more-spare.true)

pub returns-in-None-clause-there : goal.returns-in-None-clause-there
returns-in-None-clause-there g c = λ wanted.
    let wanted = rw (← c.self.view_is) at wanted in
    absurd (omega (arith, wanted, c.len.ensures, ap length c.reserve.ensures.pairs, c.self.invariant.1, written_and_not c.self.inside.rows.pairs, c.spare.ensures, c.if-more-spare.false))

pub returns-in-Some-clause-there : goal.returns-in-Some-clause-there
returns-in-Some-clause-there g c = λ wanted.
    let wanted = rw (← c.self.view_is) at wanted in
    absurd (omega (arith, wanted, c.len.ensures, ap length c.reserve.ensures.pairs, c.self.invariant.1, written_and_not c.self.inside.rows.pairs, c.spare.ensures, c.if-more-spare.false))

pub returns-in-Some-clause-spare : goal.returns-in-Some-clause-spare
returns-in-Some-clause-spare g c =
    let same = ap unwritten c.reserve.ensures.pairs in
    implied_ok c.reserve-in-Some.result (λ (enough : c.in-Some.room ≤ c.reserve-in-Some.new.self.spare). omega (arith, same, enough, c.in_ok-reserve.ensures.spare, c.in-Some.ensures, c.len.ensures, ap length c.reserve.ensures.pairs, c.self.invariant.1, written_and_not c.self.inside.rows.pairs)) c.reserve-in-Some.ensures.spare
