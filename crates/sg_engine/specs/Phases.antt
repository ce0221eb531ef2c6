-- What an engine keeps of a session whose statement is open, as far as the statement has come.
use Rattle.std.specs.Prelude.{◌≡◌, ◌≢◌, ◌⊎◌, ℕ, suc, ◌≤◌, ◌-◌, Bool, true, ◌&&◌, not, cond, List, [], ◌∷◌, length, filter, eqb, slice_get, Option, Some, None, IfSome}
use Rattle.sg_shape.specs.declared.shapes.Shape.{Shape}
use Rattle.sg_cells.specs.declared.keys.Key.{Key}
use Rattle.sg_cells.specs.declared.settings.Settings.{Settings}
use Rattle.sg_locks.specs.Grants.{Grant}
use Rattle.sg_plain.specs.declared.statements.Query.{Query}
use Rattle.sg_plain.specs.declared.statements.Statement.{Statement}
use Rattle.sg_plain.specs.declared.statements.Statement.TheVariants.{Insert, Update, Delete, Get, Select, Plan, Filter, DeleteWhere}
use Rattle.sg_plain.specs.declared.statements.Answer.{Answer}
use Rattle.sg_plain.specs.declared.statements.Answer.TheVariants as answer
use Rattle.sg_plain.specs.Rows.{Rows}
use Rattle.sg_plain.specs.Sat.{IsSoundStatement}
use Rattle.sg_refine.specs.Jobs.{Job, AreKeysOf}
use Rattle.sg_rows.specs.Table.{TableRow}
use Rattle.sg_cellrows.specs.CellTable.{CellRow}
use Rattle.sg_trace.specs.Candidates.{touches, proves_in}
use Rattle.sg_trace.specs.Needs.{Held, Selects}
use Rattle.sg_trace.specs.Pending.{chosen}
use Rattle.sg_trace.specs.Replies.{Reply, meeting}
use Rattle.sg_trace.specs.Traces.{Stage, Event, Begin, Ask, Take, Put, Wait, Victim, Answered, Commit, Rollback, state, view}
use Rattle.sg_trace.specs.Legal.{cost}
use Rattle.sg_scan.specs.declared.scans.Scan.{Scan}
use Rattle.sg_scan.specs.declared.searches.Found.{Found}
use Rattle.sg_scan.specs.Cursors.{IsScanFor, IsPassed}
use Rattle.sg_scan.specs.Scans.{HasQuery}
use Rattle.sg_writes.specs.declared.changes.Change.{Change}
use Rattle.sg_writes.specs.Changes.{Writes, IsChangeFor, IsBehindHeld}
use Rattle.sg_laws.specs.Reading.{IsReading, IsGuarded}
use Rattle.sg_engine.specs.declared.shared.Work.{Work}
use Rattle.sg_engine.specs.declared.shared.Work.TheVariants as work
use Rattle.sg_engine.specs.declared.shared.Pending.{Pending}
use Rattle.sg_engine.specs.declared.shared.Running.{Running}
use Rattle.sg_engine.specs.declared.shared.Seat.{Seat}

-- the key and the mode of the last wait of a session, whether it stands or not
abbrev pub last_wish : List Event → ℕ → Option Held
last_wish [] s = None
last_wish (Wait u k m b ∷ es) s = cond (eqb s u) (Some (k, m)) (last_wish es s)
last_wish (Begin u t ∷ es) s = last_wish es s
last_wish (Ask u n st ∷ es) s = last_wish es s
last_wish (Take u k m ∷ es) s = last_wish es s
last_wish (Put u k m ∷ es) s = last_wish es s
last_wish (Victim u c ∷ es) s = last_wish es s
last_wish (Answered u a ∷ es) s = last_wish es s
last_wish (Commit u p ∷ es) s = last_wish es s
last_wish (Rollback u c ∷ es) s = last_wish es s

-- what a search answers, where these of its candidates passed the test
abbrev pub answer_of : Statement → Found → List ℕ → Option Answer
answer_of (Select q) found passed = Some (answer.Keys (chosen found.sure passed found.candidates))
answer_of (Filter s) found passed = Some (answer.Keys (chosen found.sure passed found.candidates))
answer_of (DeleteWhere q) found passed = Some (answer.Deleted (chosen found.sure passed found.candidates))
answer_of (Plan q) found passed =
    Some (answer.Plan (length found.candidates) (length found.sure) (length found.candidates - length found.sure) (chosen found.sure passed found.candidates))
answer_of (Get k) found passed = None
answer_of (Insert k s) found passed = None
answer_of (Update k s) found passed = None
answer_of (Delete k) found passed = None

-- what a job asks of a statement's candidates
abbrev pub IsAskedBy : Query → Job → Type 0
IsAskedBy q job = (job.test ≡ q.test) × (job.query ≡ q.shape)

abbrev pub IsJobOf : Statement → Job → Type 0
IsJobOf (Select q) job = IsAskedBy q job
IsJobOf (Plan q) job = IsAskedBy q job
IsJobOf (Filter s) job = IsAskedBy (meeting s) job
IsJobOf (DeleteWhere q) job = IsAskedBy q job
IsJobOf (Get k) job = ⊥
IsJobOf (Insert k s) job = ⊥
IsJobOf (Update k s) job = ⊥
IsJobOf (Delete k) job = ⊥

-- a candidate of the query that isn't sure
abbrev pub is_unsure : Settings → Query → Shape → Bool
is_unsure c q s = touches c q s && not (proves_in c.grid c.window q s)

abbrev pub unsure_rows : Settings → Query → Rows → Rows
unsure_rows c q rows = filter (λ row. is_unsure c q row.1) rows

-- what is left to be refined of a search on these rows: its candidates that aren't sure. A filter over an index is never
-- refined.
abbrev pub AreLeft : Settings → Rows → Statement → Rows → Type 0
AreLeft c rows (Select q) items = items ≡ unsure_rows c q rows
AreLeft c rows (Plan q) items = items ≡ unsure_rows c q rows
AreLeft c rows (Filter s) items = (c.grid ≡ None) × (items ≡ unsure_rows c (meeting s) rows)
AreLeft c rows (DeleteWhere q) items = items ≡ unsure_rows c q rows
AreLeft c rows (Get k) items = ⊥
AreLeft c rows (Insert k s) items = ⊥
AreLeft c rows (Update k s) items = ⊥
AreLeft c rows (Delete k) items = ⊥

-- of a search that writes, once it has come to its writes: the result of its job was delivered, or nothing is left to be
-- refined
abbrev pub HasRefinedAll : Stage → List Event → ℕ → Statement → Work → Bool → Type 0
HasRefinedAll w es s st work.Unread delivered = Unit {0}
HasRefinedAll w es s st (work.Awaits found job) delivered = Unit {0}
HasRefinedAll w es s st (work.Refined found done) delivered = Unit {0}
HasRefinedAll w es s st (work.Writes change) delivered = (delivered ≡ true) ⊎ (IsReading st → AreLeft w.settings (view (state w es) s) st [])

-- what the session has of the number of its transaction and of its open statement
pub record IsNameOf (w : Stage) (es : List Event) (s : ℕ) (job : Job) : Type 0 where
  pub session : job.name.session ≡ s
  pub transaction : job.name.transaction ≡ ((state w es).of s).begun
  pub statement : job.name.statement ≡ suc (length ((state w es).of s).done)

-- What a search has found is guarded, and so is the reply, whatever keys the job's result will have.
pub record IsAwaiting (w : Stage) (es : List Event) (s : ℕ) (st : Statement) (found : Found) (job : Job) : Type 0 where
  pub name : IsNameOf w es s job
  pub asks : IsJobOf st job
  pub items : AreLeft w.settings (view (state w es) s) st job.items
  pub some : job.items ≢ []
  pub guarded : IsGuarded w es s st
  pub replies : (ks : List ℕ) → AreKeysOf job ks → IfSome (answer_of st found ks) (Reply w.settings (view (state w es) s) st)

-- the result has come
pub record IsRefined (w : Stage) (es : List Event) (s : ℕ) (st : Statement) (found : Found) (passed : List ℕ) : Type 0 where
  pub asks : HasQuery st
  pub guarded : IsGuarded w es s st
  pub reply : IfSome (answer_of st found passed) (Reply w.settings (view (state w es) s) st)

module _ (w : Stage) (es : List Event) (table : List TableRow) (index : List CellRow) (grants : List (Grant Key)) (s : ℕ) where
  -- a change of the statement, with the keys that it selects; what lies behind its place is held
  pub record IsWriting (st : Statement) (change : Change) : Type 0 where
    pub writes : Writes st
    pub change_for : IsChangeFor w.settings st change.selected change
    pub behind : IsBehindHeld grants s table index change
    pub selects : Selects (view (state w es) s) st change.selected
    pub guarded : IsReading st → IsGuarded w es s st

  abbrev pub IsWork : Statement → Work → Type 0
  IsWork st work.Unread = Unit {0}
  IsWork st (work.Awaits found job) = IsAwaiting w es s st found job
  IsWork st (work.Refined found done) = IsRefined w es s st found done.keys
  IsWork st (work.Writes change) = IsWriting st change

  -- a search of the statement; the needs behind its place are met
  pub record IsSearching (st : Statement) (scan : Scan) : Type 0 where
    pub scan_for : IsScanFor w.settings st scan
    pub passed : IsPassed grants s table index scan

  -- an open statement, with room to keep it and its answer
  pub record IsPending (st : Statement) (scan : Option Scan) (it : Work) (delivered : Bool) : Type 0 where
    pub sound : IsSoundStatement st
    pub search : IfSome scan (IsSearching st)
    pub work : IsWork st it
    pub refined : HasRefinedAll w es s st it delivered

  pub record IsRunning (r : Running) : Type 0 where
    pub cost : r.cost ≡ cost ((state w es).of s).held
    pub pending : IfSome r.pending (λ (p : Pending). IsPending p.statement p.scan p.work p.delivered)
    pub statement_room : IfSome r.pending (λ (p : Pending). 1 ≤ r.statements.spare)
    pub answer_room : IfSome r.pending (λ (p : Pending). 1 ≤ r.answers.spare)

  pub record IsSeat (x : Seat) : Type 0 where
    pub wish : x.wish ≡ last_wish es s
    pub running : IfSome x.running IsRunning

-- the seats of all sessions, from session 1 on
abbrev pub AreSeats : Stage → List Event → List TableRow → List CellRow → List (Grant Key) → List Seat → Type 0
AreSeats w es table index grants seats = (i : ℕ) → IfSome (slice_get seats i) (IsSeat w es table index grants (suc i))
