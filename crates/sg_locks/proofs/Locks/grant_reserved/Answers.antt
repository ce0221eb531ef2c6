use Rattle.sg_locks.proofs.TableLaws.{added-on, added-table, rising-on}
use Rattle.sg_locks.proofs.Locks.grant_reserved.Goals as goal

pub invariant_of-self : goal.invariant_of-self
invariant_of-self g c =
    added-table g.K.Ord.cmp c.self.inside.by_key.pairs c.insert_reserved.new.self.pairs c.self.inside.by_session.pairs c.insert_reserved-2.new.self.pairs c.args.s c.args.key c.args.mode c.self.invariant.mirrors
    c.insert_reserved.ensures.pairs c.insert_reserved-2.ensures.pairs c.insert_reserved.ensures.rising

pub returns-clause-grants : goal.returns-clause-grants
returns-clause-grants g c = rw (← c.self.view_is) (added-on g.K.Ord.cmp c.self.inside.by_key.pairs c.insert_reserved.new.self.pairs c.args.s c.args.key c.args.mode c.insert_reserved.ensures.pairs)

pub returns-clause-rising : goal.returns-clause-rising
returns-clause-rising g c = rising-on g.K.Ord.cmp c.insert_reserved.new.self.pairs c.insert_reserved.ensures.rising
