use Rattle.std.proofs.Common.{arith}
use Rattle.std.proofs.lemmas.Nat.{or_lt}
use Rattle.sg_modes.proofs.WordLaws.{members-with, word_of-members}
use Rattle.sg_modes.proofs.sets.Sessions.with.Goals as goal

pub invariant_of-result : goal.invariant_of-result
invariant_of-result c = let h = or_lt 64 _ _ c.self.invariant.0 (omega arith) in (h, word_of-members _ h)

pub returns : goal.returns
returns c = rw (← c.self.view_is, c.number.ensures.number) (members-with c.self.inside.bits c.args.s c.number.ensures.range)
