use Rattle.sg_script.proofs.FaultLines.{script_in-faults}
use Rattle.sg_script.proofs.laws.tells_faults.Goals as goal

pub returns : goal.returns
returns c = script_in-faults
