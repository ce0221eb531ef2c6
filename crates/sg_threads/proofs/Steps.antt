-- A locked step keeps the script.
use Rattle.std.specs.Prelude.{◌≡◌, ℕ, Bool, true, false, [], refl, Result, Ok, Err, OnOk, OnErr}
use Rattle.std.proofs.Common.{ap, ◌∙◌}
use Rattle.sg_trace.specs.declared.labels.Cause.TheVariants.{NoMemory}
use Rattle.sg_trace.specs.Traces.{Rollback}
use Rattle.sg_script.specs.Plans.{Plan}
use Rattle.sg_engine.specs.Shown.{is_open_in}
use Rattle.sg_run.specs.declared.turns.Turn.{Turn}
use Rattle.sg_run.specs.declared.turns.Turn.TheVariants as turn
use Rattle.sg_run.specs.Runs.{RunShown, IsRun}
use Rattle.sg_run.specs.Turns.{GoesBy, HasTurned, StaysIn}
use Rattle.sg_threads.specs.Runs.{IsRunIn}

turned_script : (s : ℕ) (old new : RunShown) (t : Turn) → HasTurned s old new t → new.script ≡ old.script
turned_script s old new turn.Ended h = ap (λ (v : RunShown). v.script) h.1
turned_script s old new turn.Waits h = ap (λ (v : RunShown). v.script) h.2
turned_script s old new turn.Labelled h = h.1.goes.script
turned_script s old new (turn.Job job) h = h.1.stays.script
turned_script s old new turn.Unbegun h = h.1.script

pub turned_in : (plan : Plan) (s : ℕ) (old new : RunShown) (t : Turn) → IsRunIn plan old → HasTurned s old new t → IsRun new → IsRunIn plan new
turned_in plan s old new t r h legal = record { script = turned_script s old new t h ∙ r.script; legal = legal }

pub handed_in : {A E : Type 0} (plan : Plan) (old new : RunShown) (result : Result A E) → IsRunIn plan old → OnOk result (StaysIn old new) → OnErr result (new ≡ old) → IsRun new → IsRunIn plan new
handed_in plan old new (Ok x) r stays same legal = record { script = stays.script ∙ r.script; legal = legal }
handed_in plan old new (Err e) r stays same legal = record { script = ap (λ (v : RunShown). v.script) same ∙ r.script; legal = legal }

pub failed_in : (plan : Plan) (s : ℕ) (old new : RunShown) → IsRunIn plan old → (is_open_in old.engine s ≡ true → GoesBy s (Rollback s NoMemory) [] old new) → (is_open_in old.engine s ≡ false → new ≡ old) → IsRun new → IsRunIn plan new
failed_in plan s old new r opened none legal = record { script = go (is_open_in old.engine s) refl ∙ r.script; legal = legal }
  where
    go : (b : Bool) → is_open_in old.engine s ≡ b → new.script ≡ old.script
    go true e = (opened e).script
    go false e = ap (λ (v : RunShown). v.script) (none e)
