use Rattle.std.proofs.Common.{arith, ◌∙◌, sym, length, ◌≡◌, []}
use Rattle.sg_waits.proofs.Named.{index_within, blockers_of-standing, standing-AreWaits}
use Rattle.sg_waits.proofs.standing.Waits.blockers.Goals as goal

pub returns-clause-blockers : goal.returns-clause-blockers
returns-clause-blockers c =
    let l : length c.self.inside.named ≡ 64 = c.self.invariant.0 in
    rw (← c.self.view_is) (index_within c.self.inside.named c.index.result _ [] (omega arith) ∙ sym (blockers_of-standing c.self.inside.named c.args.s c.index.result c.self.invariant.0 c.self.invariant.1 c.index.ensures.place))

pub returns-clause-standing : goal.returns-clause-standing
returns-clause-standing c = rw (← c.self.view_is) (standing-AreWaits c.self.inside.named c.self.invariant.0 c.self.invariant.1)
