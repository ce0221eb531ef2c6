-- What an open statement comes to where what it needs to read is held, by what its seat keeps.
use Rattle.std.specs.Prelude.{◌≡◌, ◌≢◌, ◌⊎◌, ℕ, ◌+◌, Bool, true, false, List, [], Some, None, IfSome, is_some}
use Rattle.std.specs.Option.{option_map}
use Rattle.sg_cells.specs.declared.settings.Settings.{Settings}
use Rattle.sg_plain.specs.declared.statements.Statement.{Statement}
use Rattle.sg_plain.specs.declared.statements.Statement.TheVariants.{Insert, Update, Delete, Get, Select, Plan, Filter, DeleteWhere}
use Rattle.sg_plain.specs.declared.statements.Answer.{Answer}
use Rattle.sg_plain.specs.Rows.{Rows}
use Rattle.sg_refine.specs.declared.jobs.JobName.{JobName}
use Rattle.sg_refine.specs.Jobs.{Job, AreKeysOf}
use Rattle.sg_trace.specs.Needs.{Selects}
use Rattle.sg_trace.specs.Replies.{Reply, meeting}
use Rattle.sg_scan.specs.declared.searches.Found.{Found}
use Rattle.sg_scan.specs.Scans.{HasQuery, IsFound}
use Rattle.sg_writes.specs.declared.changes.Change.{Change}
use Rattle.sg_writes.specs.Changes.{Writes, IsChangeFor, IsFresh}
use Rattle.sg_engine.specs.declared.shared.Work.{Work}
use Rattle.sg_engine.specs.declared.shared.Work.TheVariants as work
use Rattle.sg_engine.specs.declared.shared.Pending.{Pending}
use Rattle.sg_engine.specs.declared.shared.Running.{Running}
use Rattle.sg_engine.specs.declared.shared.Seat.{Seat}
use Rattle.sg_engine.specs.declared.preparing.Reached.{Reached}
use Rattle.sg_engine.specs.declared.preparing.Reached.TheVariants as reached
use Rattle.sg_engine.specs.declared.preparing.Prepared.{Prepared}
use Rattle.sg_engine.specs.declared.preparing.Prepared.TheVariants as prepared
use Rattle.sg_engine.specs.Shown.{length_in}
use Rattle.sg_engine.specs.Inside.{seat_of, job_in_work, was_delivered}
use Rattle.sg_engine.specs.Phases.{answer_of, IsJobOf, AreLeft}

-- what the statement's query finds among the rows
abbrev pub IsFoundBy : Settings → Rows → Statement → Found → Type 0
IsFoundBy c seen (Select q) found = IsFound c q seen found
IsFoundBy c seen (Plan q) found = IsFound c q seen found
IsFoundBy c seen (Filter s) found = IsFound c (meeting s) seen found
IsFoundBy c seen (DeleteWhere q) found = IsFound c q seen found
IsFoundBy c seen (Get k) found = ⊥
IsFoundBy c seen (Insert k s) found = ⊥
IsFoundBy c seen (Update k s) found = ⊥
IsFoundBy c seen (Delete k) found = ⊥

-- it is a filter over an index, which its candidates answer
abbrev pub is_filtered : Settings → Statement → Bool
is_filtered c (Filter s) = is_some c.grid
is_filtered c (Select q) = false
is_filtered c (Plan q) = false
is_filtered c (DeleteWhere q) = false
is_filtered c (Get k) = false
is_filtered c (Insert k s) = false
is_filtered c (Update k s) = false
is_filtered c (Delete k) = false

-- the result of its job has come
abbrev pub is_refined : Work → Bool
is_refined work.Unread = false
is_refined (work.Awaits found job) = false
is_refined (work.Refined found done) = true
is_refined (work.Writes change) = false

module _ (c : Settings) (seen : Rows) (st : Statement) where
  -- where the result of the job has come, the reply follows from it
  abbrev pub IsReplying : Work → Type 0
  IsReplying work.Unread = Unit {0}
  IsReplying (work.Awaits found job) = Unit {0}
  IsReplying (work.Refined found done) = HasQuery st × IfSome (answer_of st found done.keys) (Reply c seen st)
  IsReplying (work.Writes change) = Unit {0}

  -- what was left to refine was refined, or nothing was left
  abbrev pub IsAllRefined : Work → Type 0
  IsAllRefined it = (is_refined it ≡ true) ⊎ ((items : Rows) → AreLeft c seen st items → items ≡ [])

  -- it writes nothing, and this is its reply
  pub record IsAnswer (a : Answer) : Type 0 where
    pub reads : Writes st → ⊥
    pub reply : Reply c seen st a

  -- it writes, and this is its change, for which nothing was asked yet
  pub record IsChange (it : Change) : Type 0 where
    pub writes : Writes st
    pub change_for : IsChangeFor c st it.selected it
    pub fresh : IsFresh it
    pub selects : Selects seen st it.selected

  -- this is its job, and whatever keys the result will have, the reply follows from what was found
  pub record IsToRefine (called : JobName) (found : Found) (job : Job) : Type 0 where
    pub name : job.name ≡ called
    pub asks : IsJobOf st job
    pub items : AreLeft c seen st job.items
    pub some : job.items ≢ []
    pub replies : (ks : List ℕ) → AreKeysOf job ks → IfSome (answer_of st found ks) (Reply c seen st)

  -- what it comes to once nothing is left to refine
  abbrev pub IsClosed : Reached → Type 0
  IsClosed (reached.Answer a) = IsAnswer a
  IsClosed (reached.Writes change) = IsChange change
  IsClosed (reached.Again job) = ⊥
  IsClosed (reached.Refine found job copy) = ⊥

  -- and what it comes to before that
  abbrev pub IsReached : Work → JobName → Reached → Type 0
  IsReached it called (reached.Answer a) = IsAnswer a × IsAllRefined it
  IsReached it called (reached.Writes change) = IsChange change × IsAllRefined it × (job_in_work it ≡ None)
  IsReached it called (reached.Again job) = job_in_work it ≡ Some job
  IsReached it called (reached.Refine found job copy) = (it ≡ work.Unread) × IsToRefine called found job × (copy ≡ job)

-- ---- at a seat
-- whose job it is: the session's, in its transaction, of its open statement
abbrev pub name_at : ℕ → Seat → JobName
name_at s x = record { session = s; transaction = x.begun; statement = length_in (λ r. r.answers) (seat_of x).running + 1 }

-- with what is kept of it
abbrev pub settled : Reached → Pending → Pending
settled (reached.Answer a) p = p
settled (reached.Again job) p = p
settled (reached.Refine found job copy) p = record { statement = p.statement; scan = p.scan; work = work.Awaits found job; delivered = p.delivered }
settled (reached.Writes change) p = record { statement = p.statement; scan = p.scan; work = work.Writes change; delivered = was_delivered p.work p.delivered }

abbrev pub settled_in : Reached → Running → Running
settled_in r x = record { statements = x.statements; answers = x.answers; pending = option_map (settled r) x.pending; cost = x.cost }

abbrev pub settled_at : Reached → Seat → Seat
settled_at r x = record { begun = x.begun; wish = x.wish; running = option_map (settled_in r) x.running }

-- what is given out
abbrev pub prepared_of : Reached → Prepared
prepared_of (reached.Answer a) = prepared.Answer a
prepared_of (reached.Again job) = prepared.Job job
prepared_of (reached.Refine found job copy) = prepared.Job copy
prepared_of (reached.Writes change) = prepared.Writes
