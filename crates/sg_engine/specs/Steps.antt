-- What a step of a session does, by what is shown of an engine.
use Rattle.std.specs.Prelude.{◌≡◌, ◌≢◌, ℕ, List, [], ◌∷◌, Some, None}
use Rattle.sg_cells.specs.declared.keys.Key.{Key}
use Rattle.sg_modes.specs.declared.modes.Mode.{Mode}
use Rattle.sg_modes.specs.Sessions.{IsSession}
use Rattle.sg_plain.specs.declared.statements.Statement.{Statement}
use Rattle.sg_plain.specs.declared.statements.Answer.{Answer}
use Rattle.sg_trace.specs.Needs.{Selects, first_unmet}
use Rattle.sg_trace.specs.Traces.{Stage, Event, Answered, state, view}
use Rattle.sg_trace.specs.Legal.{IsOpen, needs_of, waits}
use Rattle.sg_writes.specs.Changes.{Writes}
use Rattle.sg_engine.specs.Shown.{Shown, Refining, IsRunOf, Appends, job_in}
use Rattle.sg_engine.specs.Ends.{EndsJob}
use Rattle.sg_engine.specs.Phases.{last_wish}

-- all is the same but for the jobs
pub record IsSameRun (old new : Shown) : Type 0 where
  pub stage : new.stage ≡ old.stage
  pub labels : new.labels ≡ old.labels
  pub journal : new.journal ≡ old.journal
  pub seats : new.seats ≡ old.seats

-- this is how far the session has come with its job, and those of the others stay
pub record SetsJob (s : ℕ) (refining : Refining) (old new : Shown) : Type 0 where
  pub own : job_in new.jobs s ≡ refining
  pub others : (u : ℕ) → IsSession u → u ≢ s → job_in new.jobs u ≡ job_in old.jobs u

-- the open statement of the session writes nothing
abbrev pub OpenReads : Shown → ℕ → Type 0
OpenReads v s = (es : List Event) → IsRunOf es v → (st : Statement) → ((state v.stage es).of s).open_one ≡ Some st → Writes st → ⊥

-- its open statement is answered, and its job is gone
pub record HasAnswered (s : ℕ) (old new : Shown) : Type 0 where
  pub answer : Answer
  pub run : Appends (Answered s answer ∷ []) old new
  pub job : EndsJob s old new

-- its last wait stands: for this key, in this mode, because of these
pub record Stands (v : Shown) (s : ℕ) (k : Key) (m : Mode) (b : List ℕ) : Type 0 where
  pub some : b ≢ []
  pub wish : (es : List Event) → IsRunOf es v → last_wish es s ≡ Some (k, m)
  pub waits : (es : List Event) → IsRunOf es v → waits es s ≡ b

-- no need of its open statement is left
pub record IsAllMet (w : Stage) (es : List Event) (s : ℕ) : Type 0 where
  pub st : Statement
  pub is_open : IsOpen w es s st
  pub selected : List ℕ
  pub selects : Selects (view (state w es) s) st selected
  pub none : first_unmet ((state w es).of s).held (needs_of w (state w es) s st selected) ≡ None

abbrev pub HasAllMet : Shown → ℕ → Type 0
HasAllMet v s = (es : List Event) → IsRunOf es v → IsAllMet v.stage es s
