use Rattle.sg_turns.proofs.Clean.{rolled_back, victim_gone}
use Rattle.sg_turns.proofs.Victims.{victim_live}
use Rattle.sg_turns.proofs.laws.rollback_laws.Goals as goal

pub returns : goal.returns
returns c = record { rollbacks = rolled_back; victims = λ w s d es l. victim_gone w s d es l (victim_live w es l.0 s d l.1) }
