-- Runs of a script to its end, and what a report tells of them.
use Rattle.std.specs.Prelude.{◌≡◌, ◌↔◌, ℕ, Bool, false, length, Some}
use Rattle.sg_modes.specs.Sessions.{IsSession}
use Rattle.sg_plain.specs.Rows.{Rows}
use Rattle.sg_plain.specs.Serial.{Serial, ScriptOrder}
use Rattle.sg_script.specs.Plans.{Plan, sessions_of}
use Rattle.sg_trace.specs.Replies.{SerialIn}
use Rattle.sg_trace.specs.Scripts.{transactions_of}
use Rattle.sg_run.specs.declared.outcomes.Outcome.TheVariants.{Committed}
use Rattle.sg_run.specs.Runs as runs
use Rattle.sg_run.specs.Runs.{RunShown, outcomes_in, outcome_in, commit_in}
use Rattle.sg_driver.specs.Drives.{IsDriven}
use Rattle.sg_driver.specs.Laws.{IsStart}
use Rattle.sg_texts.specs.Told.{Told}
use Rattle.sg_report.specs.Reports.{Tells, journal_in}

-- Each transaction of the script has one outcome, and those that committed are those of the journal, at their places.
pub record AllEnded (plan : Plan) (v : RunShown) : Type 0 where
  pub each : (s : ℕ) → IsSession s → length (outcomes_in v s) ≡ length (transactions_of (sessions_of plan) s)
  pub commits : (s n p : ℕ) → IsSession s → (outcome_in v s n ≡ Some (Committed p)) ↔ (commit_in v p ≡ Some (s, n))

-- A run of the script that has come to its end: its trace is legal. The transactions of its journal are the script's,
-- each session's in order; executed one after another on the script's rows they give the kept answers and leave these
-- rows. The answers are allowed on plain rows, and are exactly those of a table with the script's settings.
pub record IsWholeRun (plan : Plan) (v : RunShown) (rows : Rows) : Type 0 where
  pub script : v.script ≡ plan
  pub legal : runs.IsRun v
  pub ended : AllEnded plan v
  pub order : ScriptOrder (sessions_of plan) (journal_in v)
  pub serial : Serial plan.rows (journal_in v) rows
  pub serial_in : SerialIn plan.settings plan.rows (journal_in v) rows

-- What is told of a run of a script that was driven from a start to its end; its labels too where these are asked for.
pub record IsRun (plan : Plan) (labels : Bool) (told : Told) : Type 0 where
  pub first : RunShown
  pub last : RunShown
  pub start : IsStart plan first
  pub driven : IsDriven first last
  pub tells : Tells labels false last told
  pub finished : IsWholeRun plan last told.rows
