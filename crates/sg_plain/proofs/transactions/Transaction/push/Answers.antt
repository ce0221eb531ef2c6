use Rattle.sg_plain.proofs.SoundPush.{sound_either_way}
use Rattle.sg_plain.proofs.transactions.Transaction.push.Goals as goal

pub invariant_of-self : goal.invariant_of-self
invariant_of-self c = sound_either_way c.self.inside.statements c.push.new.self c.args.statement c.push.result c.self.invariant c.requires c.push.ensures.ok c.push.ensures.err
