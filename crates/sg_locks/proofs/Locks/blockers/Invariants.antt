use Rattle.std.proofs.Common.{length}
use Rattle.sg_groups.specs.Groups.{items_of, items_above}
use Rattle.sg_locks.proofs.TableLaws.{holder_cmp, IsFoundSoFar}
use Rattle.sg_locks.proofs.Locks.blockers.Given as goal

abbrev pub invariant-loop-found : goal.invariant-loop-found
invariant-loop-found g l =
    let all = items_of g.K.Ord.cmp l.key l.self-inside.by_key.pairs in
    IsFoundSoFar all (items_above holder_cmp l.last all) l.blockers l.s l.mode

abbrev pub decreases-loop-found : goal.decreases-loop-found
decreases-loop-found g l = length (items_above holder_cmp l.last (items_of g.K.Ord.cmp l.key l.self-inside.by_key.pairs))
