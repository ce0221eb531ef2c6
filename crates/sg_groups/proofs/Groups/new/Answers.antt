use Rattle.sg_groups.proofs.GroupLaws.{rising_empty}
use Rattle.sg_groups.proofs.Groups.new.Goals as goal

pub invariant_of-result : goal.invariant_of-result
invariant_of-result g c = rising_empty g.A.Ord.cmp g.B.Ord.cmp c.new.result.pairs c.new.ensures.pairs
