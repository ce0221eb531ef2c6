use Rattle.sg_groups.proofs.GroupLaws.{rising_pairs}
use Rattle.sg_groups.proofs.Groups.reserve.Goals as goal

pub returns-clause-rising : goal.returns-clause-rising
returns-clause-rising g c = rising_pairs g.A.Ord.cmp g.B.Ord.cmp c.reserve.new.self.pairs c.reserve.ensures.rising
