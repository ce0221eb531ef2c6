-- How the open statement of a session is answered, and what it writes then.
use Rattle.std.specs.Prelude.{◌≡◌, ◌≤◌, ◌++◌, ℕ, [], ◌∷◌, List, Option, Some, None, IsSome}
use Rattle.std.specs.Option.{option_map}
use Rattle.sg_plain.specs.declared.statements.Statement.{Statement}
use Rattle.sg_plain.specs.declared.statements.Answer.{Answer}
use Rattle.sg_plain.specs.declared.statements.Answer.TheVariants.{Inserted, Duplicate, Done, Missing, Absent, Found, Keys, Deleted, Plan}
use Rattle.sg_writes.specs.declared.changes.Change.{Change}
use Rattle.sg_engine.specs.declared.shared.Work.{Work}
use Rattle.sg_engine.specs.declared.shared.Work.TheVariants as work
use Rattle.sg_engine.specs.declared.shared.Pending.{Pending}
use Rattle.sg_engine.specs.declared.shared.Running.{Running}
use Rattle.sg_engine.specs.declared.shared.Seat.{Seat}
use Rattle.sg_engine.specs.Searches.{pending_of}

-- ---- a seat whose statement is answered
-- it has a statement open, and room to keep it with its answer
abbrev pub HasRoom : Option Running → Type 0
HasRoom None = ⊥
HasRoom (Some r) = IsSome r.pending × (1 ≤ r.statements.spare) × (1 ≤ r.answers.spare)

-- this statement is kept with this answer, and none is open
pub record Keeps (a : Answer) (st : Statement) (old new : Running) : Type 0 where
  pub statements : new.statements.items ≡ old.statements.items ++ st ∷ []
  pub answers : new.answers.items ≡ old.answers.items ++ a ∷ []
  pub pending : new.pending ≡ None
  pub cost : new.cost ≡ old.cost

abbrev pub IsAnsweredBy : Answer → Option Pending → Running → Running → Type 0
IsAnsweredBy a None old new = ⊥
IsAnsweredBy a (Some p) old new = Keeps a p.statement old new

-- the open statement is kept with this answer
abbrev pub IsAnswered : Answer → Running → Running → Type 0
IsAnswered a old new = IsAnsweredBy a old.pending old new

-- ---- a seat whose statement writes
-- the change that the open statement has come to
abbrev pub change_in_work : Work → Option Change
change_in_work work.Unread = None
change_in_work (work.Awaits found job) = None
change_in_work (work.Refined found done) = None
change_in_work (work.Writes change) = Some change

abbrev pub change_in : Option Pending → Option Change
change_in None = None
change_in (Some p) = change_in_work p.work

abbrev pub change_of : Seat → Option Change
change_of x = change_in (pending_of x)

-- the same without its change
abbrev pub unwritten_one : Pending → Pending
unwritten_one p = record { statement = p.statement; scan = p.scan; work = work.Unread; delivered = p.delivered }

abbrev pub unwritten_in : Running → Running
unwritten_in r = record { statements = r.statements; answers = r.answers; pending = option_map unwritten_one r.pending; cost = r.cost }

abbrev pub unwritten : Seat → Seat
unwritten x = record { begun = x.begun; wish = x.wish; running = option_map unwritten_in x.running }

-- the answer is one of a statement that writes, and tells these keys where it tells any
abbrev pub TellsOf : List ℕ → Answer → Type 0
TellsOf keys Inserted = Unit {0}
TellsOf keys Duplicate = Unit {0}
TellsOf keys Done = Unit {0}
TellsOf keys Missing = Unit {0}
TellsOf keys (Deleted ks) = ks ≡ keys
TellsOf keys Absent = ⊥
TellsOf keys (Found shape) = ⊥
TellsOf keys (Keys ks) = ⊥
TellsOf keys (Plan candidates sure refined ks) = ⊥
