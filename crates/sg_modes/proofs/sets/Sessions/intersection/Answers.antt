use Rattle.std.proofs.lemmas.Nat.{and_le_l}
use Rattle.sg_modes.proofs.WordLaws.{word_of-below}
use Rattle.sg_modes.proofs.WordLaws.{members-both}
use Rattle.sg_modes.proofs.sets.Sessions.intersection.Goals as goal

pub invariant_of-result : goal.invariant_of-result
invariant_of-result c = word_of-below _ (c.self.inside.bits) (and_le_l _ _) c.self.invariant.0

pub returns : goal.returns
returns c = rw (← c.self.view_is, ← c.other.view_is) (members-both c.self.inside.bits c.other.inside.bits)
