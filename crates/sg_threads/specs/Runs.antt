-- Runs of a script, and runs whose sessions have all ended.
use Rattle.std.specs.Prelude.{◌≡◌, ℕ, true}
use Rattle.sg_modes.specs.Sessions.{IsSession}
use Rattle.sg_script.specs.Plans.{Plan}
use Rattle.sg_run.specs.Runs.{RunShown, has_ended, IsRun}

-- A run of this script, opened as it says: the trace is legal for it without the transactions that were left unbegun, and
-- its waits have no cycle.
pub record IsRunIn (plan : Plan) (v : RunShown) : Type 0 where
  pub script : v.script ≡ plan
  pub legal : IsRun v

-- no session has a transaction left
abbrev pub AllHaveEnded : RunShown → Type 0
AllHaveEnded v = (s : ℕ) → IsSession s → has_ended v s ≡ true
