use Rattle.sg_worked.proofs.Phantom.{phantom-is_legal}
use Rattle.sg_worked.proofs.Deadlock.{deadlock-is_legal}
use Rattle.sg_worked.proofs.OwnGap.{own_gap-is_legal}
use Rattle.sg_worked.proofs.laws.worked_traces.Goals as goal

pub returns : goal.returns
returns c = record { phantom = phantom-is_legal; deadlock = deadlock-is_legal; own_gap = own_gap-is_legal }
