use Rattle.std.proofs.Common.{◌∙◌}
use Rattle.sg_groups.specs.Groups.{items_of}
use Rattle.sg_groups.proofs.FirstItems.{first_there, first_none, first_of_all}
use Rattle.sg_groups.proofs.Groups.first.Goals as goal

pub returns-clause-there : goal.returns-clause-there
returns-clause-there g c = first_there g.A.Ord.cmp g.B.Ord.cmp c.args.group.now g.met.B.Ord.total c.args.self.now.pairs c.next.result c.next.ensures.first

pub returns-clause-none : goal.returns-clause-none
returns-clause-none g c = first_none g.A.Ord.cmp g.B.Ord.cmp c.args.group.now c.args.self.now.pairs c.next.result c.next.ensures.first

pub returns-clause-first : goal.returns-clause-first
returns-clause-first g c = c.next.ensures.first ∙ first_of_all g.B.Ord.cmp (items_of g.A.Ord.cmp c.args.group.now c.args.self.now.pairs)
