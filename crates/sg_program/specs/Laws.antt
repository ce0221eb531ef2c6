-- What the printed text of a run tells, that a script has one text where memory lasts, and that printed turns give the
-- text again.
use Rattle.std.specs.Prelude.{◌≡◌, ◌≢◌, ℕ, Bool, true, List, ◌++◌, Some}
use Rattle.sg_cells.specs.Laws.{Has}
use Rattle.sg_script.specs.Plans.{Plan}
use Rattle.sg_texts.specs.declared.others.Ending.TheVariants.{NoMemory}
use Rattle.sg_texts.specs.declared.others.Other.{Other}
use Rattle.sg_texts.specs.Told.{Told, schedule_text}
use Rattle.sg_program.specs.Runs.{IsTextOf}
use Rattle.sg_program.specs.Threaded.{IsThreadText}

-- runs with one text tell the same, whatever their scripts are
abbrev pub TextTellsRun : Type 0
TextTellsRun = (labels wanted : Bool) (bytes other text : List ℕ) (run : IsTextOf labels bytes text) (same : IsTextOf wanted other text) → run.text_is.told ≡ same.text_is.told

-- no transaction ended for want of memory
abbrev pub MemoryLasted : Told → Type 0
MemoryLasted told = (o : Other) → Has told.others o → o.ending ≢ NoMemory

-- where memory lasts, all runs of a script have one text, however many workers refined its candidates
abbrev pub ScriptsHaveOneText : Type 0
ScriptsHaveOneText = (labels : Bool) (bytes text other : List ℕ) (run : IsTextOf labels bytes text) (again : IsTextOf labels bytes other) → MemoryLasted run.text_is.told → MemoryLasted again.text_is.told → other ≡ text

-- a script with the same table and the same sessions, whose order is the turns that were told
pub record IsScheduledBy (told : Told) (plan again : Plan) : Type 0 where
  pub settings : again.settings ≡ plan.settings
  pub rows : again.rows ≡ plan.rows
  pub sessions : again.sessions ≡ plan.sessions
  pub order : told.schedule ≡ Some again.order

-- Where memory lasts, the text of a run by threads that tells its turns is the text of a driven run of such a script, and
-- behind it the line of these turns.
abbrev pub PrintedTurnsReplay : Type 0
PrintedTurnsReplay = (plan : Plan) (labels : Bool) (bytes text other : List ℕ) (run : IsThreadText plan labels true text) (again : IsTextOf labels bytes other)
    → IsScheduledBy run.told plan again.plan → MemoryLasted run.told → MemoryLasted again.text_is.told → text ≡ other ++ schedule_text again.plan.order
