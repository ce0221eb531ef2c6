use Rattle.std.proofs.Common.{◌∙◌}
use Rattle.sg_locks.proofs.TableLaws.{has_grant-on}
use Rattle.sg_locks.proofs.Locks.holds.Goals as goal

pub returns-clause-holds : goal.returns-clause-holds
returns-clause-holds g c = rw (← c.self.view_is) (c.contains.ensures.found ∙ has_grant-on g.K.Ord.cmp c.args.s c.args.key.now c.args.mode c.self.inside.by_key.pairs)
