use Rattle.std.proofs.Common.{arith, ◌∙◌, length, ◌≡◌}
use Rattle.sg_waits.proofs.Named.{length-set, NamesOthers-set, standing-set}
use Rattle.sg_waits.proofs.standing.Waits.add.Goals as goal

pub invariant_of-self : goal.invariant_of-self
invariant_of-self c =
    let l : length c.self.inside.named ≡ 64 = c.self.invariant.0 in
    (length-set c.self.inside.named c.index.result c.args.blockers ∙ l, NamesOthers-set c.self.inside.named c.index.result c.args.s c.args.blockers (omega arith) c.index.ensures.place c.self.invariant.1 c.requires.others)

pub returns : goal.returns
returns c = rw (← c.self.view_is) (standing-set c.self.inside.named c.index.result c.args.s c.args.blockers c.self.invariant.0 c.self.invariant.1 c.index.ensures.below c.index.ensures.place c.requires.some c.requires.others (rw (← c.self.view_is) at c.requires.none_stands))
