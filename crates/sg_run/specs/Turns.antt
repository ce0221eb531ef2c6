-- What one turn of a session does to a run, by what it answers.
use Rattle.std.specs.Prelude.{◌≡◌, ◌≢◌, ◌⊎◌, ℕ, true, false, [], ◌∷◌, ◌++◌}
use Rattle.sg_modes.specs.Sessions.{IsSession}
use Rattle.sg_refine.specs.Jobs.{Job}
use Rattle.sg_trace.specs.declared.labels.Cause.TheVariants.{NoMemory}
use Rattle.sg_trace.specs.Traces.{Event, Rollback, session_of, labels_of}
use Rattle.sg_trace.specs.Scripts.{is_plain}
use Rattle.sg_engine.specs.Shown.{Appends, is_live_in, is_open_in}
use Rattle.sg_engine.specs.Nexts.{WaitsForNone}
use Rattle.sg_engine.specs.Waiting.{Victims, victims_of}
use Rattle.sg_engine.specs.Stepping.{IsStanding, GivesOut}
use Rattle.sg_run.specs.declared.turns.Turn.{Turn}
use Rattle.sg_run.specs.declared.turns.Turn.TheVariants as turn
use Rattle.sg_run.specs.Ends.{ends, all_begun}
use Rattle.sg_run.specs.Runs.{RunShown, past_in, has_ended, Due}

-- the script and what is over stay
pub record StaysIn (old new : RunShown) : Type 0 where
  pub script : new.script ≡ old.script
  pub past : new.past ≡ old.past

-- The run went on by this event of the session, which was due, and by the victims that it brought; each session has
-- come past the transactions that these end.
pub record GoesBy (s : ℕ) (e : Event) (victims : Victims) (old new : RunShown) : Type 0 where
  pub own : session_of e ≡ s
  pub kind : (is_plain e ≡ true) ⊎ (e ≡ Rollback s NoMemory)
  pub due : Due old e
  pub run : Appends (victims_of victims ++ e ∷ []) old.engine new.engine
  pub script : new.script ≡ old.script
  pub past : (u : ℕ) → IsSession u → past_in new.past u ≡ past_in old.past u ++ all_begun (ends u (labels_of (victims_of victims ++ e ∷ [])))

-- by one event of the session
pub record HasGoneOn (s : ℕ) (old new : RunShown) : Type 0 where
  pub event : Event
  pub victims : Victims
  pub goes : GoesBy s event victims old new

-- the session's next transaction was left unbegun
pub record HasLeft (s : ℕ) (old new : RunShown) : Type 0 where
  pub idle : is_live_in old.engine s ≡ false
  pub engine : new.engine ≡ old.engine
  pub script : new.script ≡ old.script
  pub own : past_in new.past s ≡ past_in old.past s ++ false ∷ []
  pub others : (u : ℕ) → IsSession u → u ≢ s → past_in new.past u ≡ past_in old.past u

-- the session has a transaction left, and waits for nobody
pub record IsFree (v : RunShown) (s : ℕ) : Type 0 where
  pub more : has_ended v s ≡ false
  pub free : WaitsForNone v.engine s

-- a job was given out, and no label came
pub record HasGiven (s : ℕ) (job : Job) (old new : RunShown) : Type 0 where
  pub is_open : is_open_in old.engine s ≡ true
  pub engine : GivesOut s job old.engine new.engine
  pub stays : StaysIn old new

-- what the answer says has happened
abbrev pub HasTurned : ℕ → RunShown → RunShown → Turn → Type 0
HasTurned s old new turn.Ended = (has_ended old s ≡ true) × (new ≡ old)
HasTurned s old new turn.Waits = IsStanding old.engine s × (has_ended old s ≡ false) × (new ≡ old)
HasTurned s old new turn.Labelled = IsFree old s × HasGoneOn s old new
HasTurned s old new (turn.Job job) = IsFree old s × HasGiven s job old new
HasTurned s old new turn.Unbegun = IsFree old s × HasLeft s old new

-- a job was given out, or there was no memory for it and the transaction was rolled back
abbrev pub GivesJobOrRollsBack : ℕ → RunShown → RunShown → Turn → Type 0
GivesJobOrRollsBack s old new (turn.Job job) = Unit {0}
GivesJobOrRollsBack s old new turn.Labelled = GoesBy s (Rollback s NoMemory) [] old new
GivesJobOrRollsBack s old new turn.Ended = ⊥
GivesJobOrRollsBack s old new turn.Waits = ⊥
GivesJobOrRollsBack s old new turn.Unbegun = ⊥
