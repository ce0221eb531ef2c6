-- What a script determines of its driven runs, where memory lasts.
use Rattle.std.specs.Prelude.{◌≡◌, ◌≢◌, ℕ, List, [], Some, true}
use Rattle.sg_modes.specs.Sessions.{IsSession}
use Rattle.sg_plain.specs.Rows.{Rows}
use Rattle.sg_script.specs.Plans.{Plan, sessions_of}
use Rattle.sg_trace.specs.Replies.{SerialIn}
use Rattle.sg_trace.specs.Traces.{Event}
use Rattle.sg_trace.specs.Scripts.{schedule}
use Rattle.sg_trace.specs.Driven as trace
use Rattle.sg_turns.specs.Claims.{IsLasting}
use Rattle.sg_engine.specs.Shown.{IsRunOf}
use Rattle.sg_run.specs.declared.outcomes.Outcome.TheVariants.{NoMemory}
use Rattle.sg_run.specs.Runs.{RunShown, past_in, has_ended, outcome_in, IsRun}
use Rattle.sg_driver.specs.Drives.{turns_of, IsDriven}

-- a run of the script in which nothing has happened
pub record IsStart (plan : Plan) (v : RunShown) : Type 0 where
  pub script : v.script ≡ plan
  pub none : IsRunOf [] v.engine
  pub past : (s : ℕ) → past_in v.past s ≡ []
  pub legal : IsRun v

-- no transaction ended for want of memory, nor was one left unbegun for it
abbrev pub MemoryLasted : RunShown → Type 0
MemoryLasted v = (s n : ℕ) → IsSession s → outcome_in v s n ≢ Some NoMemory

-- the script was driven to its end, and memory lasted
pub record IsLastingRun (plan : Plan) (v : RunShown) : Type 0 where
  pub first : RunShown
  pub start : IsStart plan first
  pub driven : IsDriven first v
  pub lasted : MemoryLasted v

-- the journal leaves these rows
abbrev pub Leaves : RunShown → Rows → Type 0
Leaves v rows = SerialIn v.engine.stage.settings v.engine.stage.opening v.engine.journal rows

-- Their traces are equal, and so are their journals, the rows that these leave and, of each session, what is over; so
-- each transaction ended alike.
pub record AreEqualRuns (v u : RunShown) : Type 0 where
  pub labels : u.engine.labels ≡ v.engine.labels
  pub journal : u.engine.journal ≡ v.engine.journal
  pub rows : (a b : Rows) → Leaves v a → Leaves u b → b ≡ a
  pub past : u.past ≡ v.past

-- A script has one such run, however many workers refined its candidates, and however many rounds it took.
abbrev pub DrivenRunsAreEqual : Type 0
DrivenRunsAreEqual = (plan : Plan) (v u : RunShown) → IsLastingRun plan v → IsLastingRun plan u → AreEqualRuns v u

-- its trace is what the turns of the order and so many rounds leave of the script
pub record IsTraceOf (plan : Plan) (rounds : ℕ) (v : RunShown) : Type 0 where
  pub events : List Event
  pub run : IsRunOf events v.engine
  pub lasting : IsLasting (sessions_of plan) v.engine.stage events
  pub driven : trace.IsDriven (sessions_of plan) v.engine.stage (turns_of plan rounds) events

abbrev pub TracesAreDriven : Type 0
TracesAreDriven = (plan : Plan) (v : RunShown) (run : IsLastingRun plan v) → IsTraceOf plan run.driven.rounds v

-- A run of this table and these sessions to their end, in which memory lasted; the script's order is that of its turns.
pub record IsRecorded (plan : Plan) (v : RunShown) : Type 0 where
  pub legal : IsRun v
  pub ended : (s : ℕ) → IsSession s → has_ended v s ≡ true
  pub lasted : MemoryLasted v
  pub settings : v.script.settings ≡ plan.settings
  pub rows : v.script.rows ≡ plan.rows
  pub sessions : v.script.sessions ≡ plan.sessions
  pub order : plan.order ≡ schedule v.engine.labels

-- whatever gave it its turns, the driven run is equal to it
abbrev pub RecordedRunsReplay : Type 0
RecordedRunsReplay = (plan : Plan) (v u : RunShown) → IsRecorded plan v → IsLastingRun plan u → AreEqualRuns v u
