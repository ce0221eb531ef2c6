-- How a transaction ends.
use Rattle.std.specs.Prelude.{◌≡◌, ◌≢◌, ℕ, true, [], Option, Some, None}
use Rattle.sg_modes.specs.Sessions.{IsSession}
use Rattle.sg_plain.specs.Serial.{Entry}
use Rattle.sg_trace.specs.declared.labels.Cause.{Cause}
use Rattle.sg_trace.specs.declared.labels.Cause.TheVariants.{Asked, NoMemory}
use Rattle.sg_engine.specs.declared.shared.Running.{Running}
use Rattle.sg_engine.specs.declared.shared.Seat.{Seat}
use Rattle.sg_engine.specs.Shown.{Shown, Seated, IsBetween, is_live_in, job_in, no_job}
use Rattle.sg_engine.specs.Shown as shown

-- a session may ask for it between statements; want of memory ends it wherever it is
abbrev pub MayRollBack : Shown → ℕ → Cause → Type 0
MayRollBack v s Asked = IsBetween v s
MayRollBack v s NoMemory = is_live_in v s ≡ true

-- the job of the session is gone, and those of the others stay
pub record EndsJob (s : ℕ) (old new : Shown) : Type 0 where
  pub own : job_in new.jobs s ≡ no_job
  pub others : (u : ℕ) → IsSession u → u ≢ s → job_in new.jobs u ≡ job_in old.jobs u

-- the journal entry of the transaction that a session has; there is none without one
abbrev pub entry_of_running : ℕ → ℕ → Option shown.Running → Entry
entry_of_running s begun None = record { session = s; transaction = begun; statements = []; answers = [] }
entry_of_running s begun (Some r) = record { session = s; transaction = begun; statements = r.statements; answers = r.answers }

abbrev pub entry_in : ℕ → Seated → Entry
entry_in s x = entry_of_running s x.begun x.running

-- ---- a seat inside
abbrev pub entry_kept : ℕ → ℕ → Option Running → Entry
entry_kept s begun None = record { session = s; transaction = begun; statements = []; answers = [] }
entry_kept s begun (Some r) = record { session = s; transaction = begun; statements = r.statements.items; answers = r.answers.items }

abbrev pub entry_at : ℕ → Seat → Entry
entry_at s x = entry_kept s x.begun x.running

-- without its transaction
abbrev pub quit : Seat → Seat
quit x = record { begun = x.begun; wish = x.wish; running = None }
