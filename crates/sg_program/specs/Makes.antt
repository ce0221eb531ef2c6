-- What is printed of a script that is made from a number.
use Rattle.std.specs.Prelude.{◌≡◌, ℕ, ◌<◌, List, ◌++◌, length, take, Option}
use Rattle.std.specs.Io.KnownBytes.{Appends}
use Rattle.sg_plain.specs.Rows.{Rows}
use Rattle.sg_script.specs.Canonical.{canonical}
use Rattle.sg_workload.specs.Workload.{script_of}
use Rattle.sg_run.specs.Runs.{RunShown}
use Rattle.sg_driver.specs.Drives.{IsDriven}
use Rattle.sg_driver.specs.Laws.{IsStart}
use Rattle.sg_report.specs.Summaries.{summary_line}
use Rattle.sg_program.specs.Plays.{IsWholeRun}

-- the canonical text of the script, and the line that sums up a run of it, driven from a start to its end
pub record IsMadeText (seed rows sessions : ℕ) (text : List ℕ) : Type 0 where
  pub first : RunShown
  pub last : RunShown
  pub left : Rows
  pub start : IsStart (script_of seed rows sessions) first
  pub driven : IsDriven first last
  pub finished : IsWholeRun (script_of seed rows sessions) last left
  pub is : text ≡ canonical (script_of seed rows sessions) ++ summary_line last (length left)

-- the sink took the whole text of such a script
pub record IsMade (seed rows sessions : ℕ) (old new : Option (List ℕ)) : Type 0 where
  pub text : List ℕ
  pub made : IsMadeText seed rows sessions text
  pub printed : Appends old new text

-- the same where the sink took the front of it
pub record IsMadeCut (seed rows sessions : ℕ) (old new : Option (List ℕ)) : Type 0 where
  pub text : List ℕ
  pub sent : ℕ
  pub made : IsMadeText seed rows sessions text
  pub short : sent < length text
  pub printed : Appends old new (take sent text)
