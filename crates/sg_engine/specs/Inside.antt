-- What is shown of the fields of an engine.
use Rattle.std.specs.Prelude.{◌≡◌, ◌+◌, ◌≤◌, [], ℤ, Bool, true, false, List, Option, Some, None, map}
use Rattle.std.specs.Option.{option_map}
use Rattle.sg_cells.specs.declared.settings.Settings.{Settings}
use Rattle.sg_plain.specs.declared.statements.Statement.{Statement}
use Rattle.sg_plain.specs.Rows.{Rows}
use Rattle.sg_plain.specs.Serial.{Entry}
use Rattle.sg_trace.specs.declared.labels.Label.{Label}
use Rattle.sg_trace.specs.Traces.{Stage}
use Rattle.sg_refine.specs.Jobs.{Job}
use Rattle.sg_engine.specs.declared.shared.Work.{Work}
use Rattle.sg_engine.specs.declared.shared.Work.TheVariants as work
use Rattle.sg_engine.specs.declared.shared.Pending.{Pending}
use Rattle.sg_engine.specs.declared.shared.Running.{Running}
use Rattle.sg_engine.specs.declared.shared.Seat.{Seat}
use Rattle.sg_engine.specs.Shown as shown
use Rattle.sg_engine.specs.Shown.{Shown, Refining, no_job}

abbrev pub running_in : Running → shown.Running
running_in r = record { statements = r.statements.items; answers = r.answers.items; open_one = option_map (λ (p : Pending). p.statement) r.pending }

abbrev pub seat_of : Seat → shown.Seated
seat_of x = record { begun = x.begun; running = option_map running_in x.running }

-- a session that has begun none yet
abbrev pub unused_seat : Seat
unused_seat = record { begun = 0; wish = None; running = None }

abbrev pub IsUnused : Seat → Type 0
IsUnused x = x ≡ unused_seat

-- a session that has begun one transaction more
abbrev pub started : Seat → Seat
started x = record { begun = x.begun + 1; wish = x.wish; running = Some (record { statements = record { items = []; spare = 0 }; answers = record { items = []; spare = 0 }; pending = None; cost = 0 }) }

-- the same transaction, with other room
pub record IsSame (old new : Running) : Type 0 where
  pub statements : new.statements.items ≡ old.statements.items
  pub answers : new.answers.items ≡ old.answers.items
  pub pending : new.pending ≡ old.pending
  pub cost : new.cost ≡ old.cost

-- with this statement open, and room to keep it and its answer
pub record IsOpened (st : Statement) (old new : Running) : Type 0 where
  pub statements : new.statements.items ≡ old.statements.items
  pub answers : new.answers.items ≡ old.answers.items
  pub pending : new.pending ≡ Some (record { statement = st; scan = None; work = work.Unread; delivered = false })
  pub cost : new.cost ≡ old.cost
  pub statement_room : 1 ≤ new.statements.spare
  pub answer_room : 1 ≤ new.answers.spare

-- both have a transaction, and these are so related; or neither has one
abbrev pub OnRunning : (Running → Running → Type 0) → Option Running → Option Running → Type 0
OnRunning R None None = Unit {0}
OnRunning R (Some old) (Some new) = R old new
OnRunning R None (Some new) = ⊥
OnRunning R (Some old) None = ⊥

-- only the transaction of the seat has changed
pub record SeatChanges (R : Running → Running → Type 0) (old new : Seat) : Type 0 where
  pub begun : new.begun ≡ old.begun
  pub wish : new.wish ≡ old.wish
  pub running : OnRunning R old.running new.running

-- the job of a seat
abbrev pub job_in_work : Work → Option Job
job_in_work work.Unread = None
job_in_work (work.Awaits found job) = Some job
job_in_work (work.Refined found done) = None
job_in_work (work.Writes change) = None

abbrev pub is_writing : Work → Bool
is_writing work.Unread = false
is_writing (work.Awaits found job) = false
is_writing (work.Refined found done) = false
is_writing (work.Writes change) = true

-- whether the result of its job was delivered; of a statement that writes it is kept
abbrev pub was_delivered : Work → Bool → Bool
was_delivered work.Unread kept = false
was_delivered (work.Awaits found job) kept = false
was_delivered (work.Refined found done) kept = true
was_delivered (work.Writes change) kept = kept

abbrev pub job_in_pending : Option Pending → Refining
job_in_pending None = no_job
job_in_pending (Some p) = record { job = job_in_work p.work; delivered = was_delivered p.work p.delivered; writes = is_writing p.work }

abbrev pub job_in_running : Option Running → Refining
job_in_running None = no_job
job_in_running (Some r) = job_in_pending r.pending

abbrev pub job_of : Seat → Refining
job_of x = job_in_running x.running

abbrev pub shown_in : Stage → List Label → List Entry → List Seat → Shown
shown_in stage labels journal seats = record { stage = stage; labels = labels; journal = journal; seats = map seat_of seats; jobs = map job_of seats }

abbrev pub shown_of : Settings → Rows → List ℤ → List Label → List Entry → List Seat → Shown
shown_of settings opening priorities = shown_in (record { settings = settings; opening = opening; priorities = priorities })
