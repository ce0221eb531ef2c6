-- A run of the script, and what rounds leave of it.
use Rattle.std.specs.Prelude.{◌≡◌, []}
use Rattle.std.proofs.Common.{◌∙◌}
use Rattle.sg_script.specs.Plans.{Plan}
use Rattle.sg_run.specs.Runs.{RunShown, IsRun}
use Rattle.sg_driver.specs.Drives.{after_rounds, IsFinished}
use Rattle.sg_driver.proofs.Loops.{leads_script}
use Rattle.sg_driver.proofs.Rounds.{leads_legal}
use Rattle.sg_threads.specs.Runs.{IsRunIn}

pub run_in : (plan : Plan) (v : RunShown) → v.script ≡ plan → IsRun v → IsRunIn plan v
run_in plan v script legal = record { script = script; legal = legal }

pub finished_in : (plan : Plan) (old new : RunShown) → IsRunIn plan old → IsFinished old new → IsRunIn plan new
finished_in plan old new r f =
    let turns = after_rounds old.script f.rounds [] in
    record { script = leads_script turns old new f.leads ∙ r.script; legal = leads_legal turns old new r.legal f.leads }
