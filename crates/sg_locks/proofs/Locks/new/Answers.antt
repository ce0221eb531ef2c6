use Rattle.sg_locks.proofs.TableLaws.{empty_table}
use Rattle.sg_locks.proofs.Locks.new.Goals as goal

pub invariant_of-result : goal.invariant_of-result
invariant_of-result g c = empty_table g.K.Ord.cmp c.new.result.pairs c.new-2.result.pairs c.new.ensures.pairs c.new-2.ensures.pairs
