-- What contracts see of an engine, and which events it shows.
use Rattle.std.specs.Prelude.{◌≡◌, ℕ, suc, ◌-◌, Bool, true, false, cond, List, [], ◌∷◌, ◌++◌, Option, Some, None, slice_index_or, is_some}
use Rattle.sg_plain.specs.declared.statements.Statement.{Statement}
use Rattle.sg_plain.specs.declared.statements.Answer.{Answer}
use Rattle.sg_plain.specs.Serial.{Entry}
use Rattle.sg_modes.specs.Sessions.{IsSession}
use Rattle.sg_refine.specs.Jobs.{Job}
use Rattle.sg_trace.specs.declared.labels.Label.{Label}
use Rattle.sg_trace.specs.Traces.{Stage, Event, Local, state, labels_of}
use Rattle.sg_trace.specs.Legal.{IsLegal, IsSettled, journal, statements_of, answers_of}

-- a live transaction: its answered statements, their answers, and the open one
pub record Running : Type 0 where
  pub statements : List Statement
  pub answers : List Answer
  pub open_one : Option Statement

-- a session: how many transactions it began, and its live one
pub record Seated : Type 0 where
  pub begun : ℕ
  pub running : Option Running

-- the job that a session waits for, whether the result of its open statement's job was delivered, and whether the
-- statement has come to its writes
pub record Refining : Type 0 where
  pub job : Option Job
  pub delivered : Bool
  pub writes : Bool

pub record Shown : Type 0 where
  pub stage : Stage
  pub labels : List Label
  pub journal : List Entry
  pub seats : List Seated
  pub jobs : List Refining

abbrev pub empty_seat : Seated
empty_seat = record { begun = 0; running = None }

-- the seat of a session
abbrev pub seat_in : List Seated → ℕ → Seated
seat_in seats s = slice_index_or seats (s - 1) empty_seat

-- no job is waited for, and no result was delivered
abbrev pub no_job : Refining
no_job = record { job = None; delivered = false; writes = false }

-- the job of a session
abbrev pub job_in : List Refining → ℕ → Refining
job_in jobs s = slice_index_or jobs (s - 1) no_job

-- what a trace leaves of a session, as contracts see it
abbrev pub running_of : Local → Running
running_of x = record { statements = statements_of x.done; answers = answers_of x.done; open_one = x.open_one }

abbrev pub seated : Local → Seated
seated x = record { begun = x.begun; running = cond x.live (Some (running_of x)) None }

-- the events leave what is shown; the newest stands first
pub record Shows (es : List Event) (v : Shown) : Type 0 where
  pub labels : v.labels ≡ labels_of es
  pub journal : v.journal ≡ journal v.stage es
  pub seats : (s : ℕ) → IsSession s → seat_in v.seats s ≡ seated ((state v.stage es).of s)

-- legal events that leave what is shown, with no cycle left
pub record IsRunOf (es : List Event) (v : Shown) : Type 0 where
  pub shows : Shows es v
  pub legal : IsLegal v.stage es
  pub settled : IsSettled es

-- The stage stays; and whatever legal events led here, with these on top they lead to the new value: so the trace stays
-- legal for each script that has what is shown.
pub record Appends (new_ones : List Event) (old new : Shown) : Type 0 where
  pub stage : new.stage ≡ old.stage
  pub runs : (es : List Event) → IsRunOf es old → IsRunOf (new_ones ++ es) new

-- the session has no transaction
abbrev pub IsIdle : Shown → ℕ → Type 0
IsIdle v s = (seat_in v.seats s).running ≡ None

-- the session has one, and nothing open in it
abbrev pub HasNoneOpen : Option Running → Type 0
HasNoneOpen None = ⊥
HasNoneOpen (Some r) = r.open_one ≡ None

abbrev pub IsBetween : Shown → ℕ → Type 0
IsBetween v s = HasNoneOpen (seat_in v.seats s).running

abbrev pub length_in : {A : Type 0} → (Running → List A) → Option Running → ℕ
length_in f None = 0
length_in f (Some r) = Rattle.std.specs.Prelude.length (f r)

-- the number of the next statement of the session
abbrev pub next_statement : Shown → ℕ → ℕ
next_statement v s = suc (length_in (λ r. r.answers) (seat_in v.seats s).running)

-- with this statement open
abbrev pub with_open : Statement → Seated → Seated
with_open st x = record { begun = x.begun; running = Rattle.std.specs.Option.option_map (λ (r : Running). record { statements = r.statements; answers = r.answers; open_one = Some st }) x.running }

-- the session has a transaction
abbrev pub is_live_in : Shown → ℕ → Bool
is_live_in v s = is_some (seat_in v.seats s).running

-- its open statement
abbrev pub open_of : Option Running → Option Statement
open_of None = None
open_of (Some r) = r.open_one

abbrev pub is_open_in : Shown → ℕ → Bool
is_open_in v s = is_some (open_of (seat_in v.seats s).running)

-- the answers of its live transaction so far
abbrev pub AreAnswers : List Answer → Option Running → Type 0
AreAnswers answers None = ⊥
AreAnswers answers (Some r) = answers ≡ r.answers
