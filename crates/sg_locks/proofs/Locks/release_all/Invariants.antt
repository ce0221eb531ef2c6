use Rattle.std.specs.Prelude.{min}
use Rattle.std.proofs.Common.{◌≤◌, length}
use Rattle.sg_locks.specs.Mirrors.{grants_on, IsLockTable}
use Rattle.sg_locks.proofs.TableLaws.{KeepsOthers}
use Rattle.sg_locks.proofs.Locks.release_all.Given as goal

abbrev pub invariant-loop-found : goal.invariant-loop-found
invariant-loop-found g l = record {
  table : IsLockTable g.K.Ord.cmp l.self-inside.by_key.pairs l.self-inside.by_session.pairs;
  others : KeepsOthers g.K.Ord.cmp l.fn.self.grants (grants_on l.self-inside.by_key.pairs) l.s;
  spare : l.fn.self.spare ≤ min l.self-inside.by_key.spare l.self-inside.by_session.spare;
}

abbrev pub decreases-loop-found : goal.decreases-loop-found
decreases-loop-found g l = length l.self-inside.by_session.pairs
