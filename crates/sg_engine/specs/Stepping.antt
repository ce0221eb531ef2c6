-- What one step of a session does to an engine, by what it answers.
use Rattle.std.specs.Prelude.{◌≡◌, ◌≢◌, ◌⊎◌, ℕ, true, false, List, [], ◌∷◌, Option, Some, None}
use Rattle.sg_cells.specs.declared.keys.Key.{Key}
use Rattle.sg_modes.specs.declared.modes.Mode.{Mode}
use Rattle.sg_refine.specs.Jobs.{Job}
use Rattle.sg_trace.specs.Traces.{Event, Take, Put}
use Rattle.sg_trace.specs.Legal.{waits}
use Rattle.sg_engine.specs.declared.steps.Step.{Step}
use Rattle.sg_engine.specs.declared.steps.Step.TheVariants as step
use Rattle.sg_engine.specs.Shown.{Shown, IsRunOf, Appends, is_open_in, job_in}
use Rattle.sg_engine.specs.Nexts.{WaitsForNone, HasReadAll}
use Rattle.sg_engine.specs.Waiting.{HasWaited}
use Rattle.sg_engine.specs.Steps.{IsSameRun, SetsJob, HasAnswered, Stands}
use Rattle.sg_engine.specs.Preparing.{HasNoneLeft, IsJobFor}

-- one event more, and the jobs are as they were
pub record HasAdded (e : Event) (old new : Shown) : Type 0 where
  pub run : Appends (e ∷ []) old new
  pub jobs : new.jobs ≡ old.jobs

-- its last wait still stands, and nothing has changed
pub record StillWaits (s : ℕ) (k : Key) (m : Mode) (b : List ℕ) (old new : Shown) : Type 0 where
  pub same : new ≡ old
  pub stands : Stands old s k m b

-- it waited for nobody, and does now; own is the cycle of which it was the victim at once
pub record StartsToWait (s : ℕ) (k : Key) (m : Mode) (b : List ℕ) (own : Option (List ℕ)) (old new : Shown) : Type 0 where
  pub free : WaitsForNone old s
  pub waited : HasWaited s k m b old new own

-- it was the victim of this cycle as soon as it waited
pub record GaveWay (s : ℕ) (cycle : List ℕ) (old new : Shown) : Type 0 where
  pub key : Key
  pub mode : Mode
  pub blockers : List ℕ
  pub wait : StartsToWait s key mode blockers (Some cycle) old new

-- it waits for nobody and has read what it needs; the job of its open statement is given out, and no result of it was
-- delivered
pub record GivesOut (s : ℕ) (job : Job) (old new : Shown) : Type 0 where
  pub free : WaitsForNone old s
  pub read : HasReadAll old s
  pub run : IsSameRun old new
  pub set : SetsJob s (record { job = Some job; delivered = false; writes = false }) old new
  pub job_for : IsJobFor old s job
  pub undelivered : (job_in old.jobs s).delivered ≡ false

-- what the answer says has happened
abbrev pub HasStepped : ℕ → Shown → Shown → Step → Type 0
HasStepped s old new (step.Took k m) = HasAdded (Take s k m) old new
HasStepped s old new (step.Put k m) = HasAdded (Put s k m) old new
HasStepped s old new (step.Waiting k m b) = StillWaits s k m b old new ⊎ StartsToWait s k m b None old new
HasStepped s old new (step.Job job) = GivesOut s job old new
HasStepped s old new step.Answered = HasAnswered s old new
HasStepped s old new (step.Victim cycle) = GaveWay s cycle old new
HasStepped s old new step.Idle = new ≡ old

-- a wait of the session stands
abbrev pub IsStanding : Shown → ℕ → Type 0
IsStanding v s = (es : List Event) → IsRunOf es v → waits es s ≢ []

-- the answer is that wait again
abbrev pub Repeats : ℕ → Shown → Shown → Step → Type 0
Repeats s old new (step.Waiting k m b) = StillWaits s k m b old new
Repeats s old new (step.Took k m) = ⊥
Repeats s old new (step.Put k m) = ⊥
Repeats s old new (step.Job job) = ⊥
Repeats s old new step.Answered = ⊥
Repeats s old new (step.Victim cycle) = ⊥
Repeats s old new step.Idle = ⊥

-- its open statement has read what it needs, it waits for nobody, and something is left to refine
pub record IsLeftToRefine (v : Shown) (s : ℕ) : Type 0 where
  pub is_open : is_open_in v s ≡ true
  pub free : WaitsForNone v s
  pub read : HasReadAll v s
  pub left : HasNoneLeft v s → ⊥

-- the answer is a job
abbrev pub GivesJob : Step → Type 0
GivesJob (step.Job job) = Unit {0}
GivesJob (step.Took k m) = ⊥
GivesJob (step.Put k m) = ⊥
GivesJob (step.Waiting k m b) = ⊥
GivesJob step.Answered = ⊥
GivesJob (step.Victim cycle) = ⊥
GivesJob step.Idle = ⊥
