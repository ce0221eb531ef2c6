-- A seat whose change has come nearer its end, and what its session asks for next to write.
use Rattle.std.specs.Prelude.{IfSome, IsSome}
use Rattle.std.specs.Option.{option_map}
use Rattle.std.proofs.Common.{◌≡◌, ℕ, Bool, ◌+◌, ◌≤◌, ◌<◌, true, List, length, get_or, Option, Some, None, refl, sym, ap, ◌∙◌, subst}
use Rattle.sg_locks.specs.Grants.{Grant}
use Rattle.sg_cells.specs.declared.keys.Key.{Key}
use Rattle.sg_modes.specs.Sessions.{IsSession}
use Rattle.sg_modes.specs.Waits.{Wait}
use Rattle.sg_plain.specs.declared.statements.Statement.{Statement}
use Rattle.sg_plain.specs.Sat.{IsSoundStatement}
use Rattle.sg_plain.specs.Serial.{Entry}
use Rattle.sg_refine.specs.Jobs.{Job}
use Rattle.sg_rows.specs.Table.{TableRow}
use Rattle.sg_cellrows.specs.CellTable.{CellRow}
use Rattle.sg_trace.specs.declared.labels.Label.{Label}
use Rattle.sg_trace.specs.Needs.{Selects, first_unmet, read_needs, write_needs}
use Rattle.sg_trace.specs.Traces.{Stage, Event, State, state, view, present_keys}
use Rattle.sg_trace.specs.Legal.{Act, Takes, Puts, IsAct, needs_of}
use Rattle.sg_stores.specs.Agreement.{seen_rows}
use Rattle.sg_stores.specs.Held.{first_unheld}
use Rattle.sg_stores.specs.Keys.{store_keys}
use Rattle.sg_laws.proofs.Kept.{Good, legal_good}
use Rattle.sg_writes.specs.declared.needs.Act as needs
use Rattle.sg_writes.specs.declared.needs.Act.TheVariants as act
use Rattle.sg_writes.specs.declared.changes.Change.{Change}
use Rattle.sg_writes.specs.Changes.{IsBehindHeld, IsFirst, IsFirstAct}
use Rattle.sg_engine.specs.declared.shared.Work.{Work}
use Rattle.sg_engine.specs.declared.shared.Work.TheVariants as work
use Rattle.sg_engine.specs.declared.shared.Pending.{Pending}
use Rattle.sg_engine.specs.declared.shared.Running.{Running}
use Rattle.sg_engine.specs.declared.shared.Seat.{Seat}
use Rattle.sg_engine.specs.Shown.{Shown, Refining, IsRunOf}
use Rattle.sg_engine.specs.Inside.{seat_of, job_of, job_in_running, job_in_pending, job_in_work, is_writing, running_in, shown_in, OnRunning, SeatChanges, was_delivered}
use Rattle.sg_engine.specs.Phases.{HasRefinedAll, IsPending, IsRunning, IsSeat, IsWork, IsWriting, IsSearching}
use Rattle.sg_engine.specs.Ties.{IsEngine}
use Rattle.sg_engine.specs.Nexts.{IsNextAct, WaitsForNone, HasReadAll}
use Rattle.sg_engine.specs.Acting.{act_of, change_in, change_at, change_by, change_of, OnChange, IsNearer}
use Rattle.sg_engine.specs.Searches.{pending_in, pending_of, OnPending, OnlyPending}
use Rattle.sg_engine.specs.Steps.{HasAllMet}
use Rattle.sg_engine.proofs.Acts.{locking_act, putting_act}
use Rattle.sg_engine.proofs.Keys.{store_is}
use Rattle.sg_engine.proofs.Nexts.{Opened, opened, own_now, is_next}
use Rattle.sg_engine.proofs.Replied.{view_is, read_first, none_left}
use Rattle.sg_engine.proofs.Rooms.{told, told_running}
use Rattle.sg_engine.proofs.Runs.{runs_alike}

-- ---- what a seat tells
module _ (grants : List (Grant Key)) (s : ℕ) (table : List TableRow) (index : List CellRow) where
  abbrev R : Pending → Pending → Type 0
  R = IsNearer grants s table index

  abbrev Moved : Running → Running → Type 0
  Moved = OnlyPending R

  abbrev statement_in : Option Pending → Option Statement
  statement_in o = option_map (λ (p : Pending). p.statement) o

  abbrev refining : Option Job → Bool → Bool → Refining
  refining job d writes = record { job = job; delivered = d; writes = writes }

  statement_same : (a b : Option Pending) → OnPending R a b → statement_in b ≡ statement_in a
  statement_same None None h = refl
  statement_same None (Some b) h = absurd h
  statement_same (Some a) None h = absurd h
  statement_same (Some a) (Some b) h = ap (λ st. Some st) h.statement

  abbrev told_of : Work → Bool → Refining
  told_of it d = refining (job_in_work it) (was_delivered it d) (is_writing it)

  work_same : (a b : Work) (d : Bool) → OnChange grants s table index a b → told_of b d ≡ told_of a d
  work_same work.Unread b d h = absurd h
  work_same (work.Awaits found job) b d h = absurd h
  work_same (work.Refined found done) b d h = absurd h
  work_same (work.Writes x) work.Unread d h = absurd h
  work_same (work.Writes x) (work.Awaits found job) d h = absurd h
  work_same (work.Writes x) (work.Refined found done) d h = absurd h
  work_same (work.Writes x) (work.Writes y) d h = refl

  job_same : (a b : Option Pending) → OnPending R a b → job_in_pending b ≡ job_in_pending a
  job_same None None h = refl
  job_same None (Some b) h = absurd h
  job_same (Some a) None h = absurd h
  job_same (Some a) (Some b) h = work_same a.work b.work b.delivered h.change ∙ ap (told_of a.work) h.delivered

  running_same : (a b : Option Running) → OnRunning Moved a b → option_map running_in b ≡ option_map running_in a
  running_same None None h = refl
  running_same None (Some b) h = absurd h
  running_same (Some a) None h = absurd h
  running_same (Some a) (Some b) h =
      ap (λ r. Some r) (told_running b.statements.items a.statements.items b.answers.items a.answers.items (statement_in b.pending) (statement_in a.pending)
      (ap (λ r. r.items) h.statements) (ap (λ r. r.items) h.answers) (statement_same a.pending b.pending h.pending))

  same_job_by : (a b : Option Running) → OnRunning Moved a b → job_in_running b ≡ job_in_running a
  same_job_by None None h = refl
  same_job_by None (Some b) h = absurd h
  same_job_by (Some a) None h = absurd h
  same_job_by (Some a) (Some b) h = job_same a.pending b.pending h.pending

  pub placed_seat : (d x : Seat) → SeatChanges Moved d x → seat_of x ≡ seat_of d
  placed_seat d x h = told x.begun (option_map running_in x.running) d.begun (option_map running_in d.running) h.begun (running_same d.running x.running h.running)

  pub placed_job : (d x : Seat) → SeatChanges Moved d x → job_of x ≡ job_of d
  placed_job d x h = same_job_by d.running x.running h.running

  with_room : (Q : Type 0) (a b : Option Pending) → OnPending R a b → IfSome a (λ (p : Pending). Q) → IfSome b (λ (p : Pending). Q)
  with_room Q None None h k = tt
  with_room Q None (Some b) h k = absurd h
  with_room Q (Some a) None h k = absurd h
  with_room Q (Some a) (Some b) h k = k

-- what is kept of the seat
module _ (w : Stage) (es : List Event) (table : List TableRow) (index : List CellRow) (grants : List (Grant Key)) (s : ℕ) where
  abbrev KeptPending : Option Pending → Type 0
  KeptPending o = IfSome o (λ (p : Pending). IsPending w es table index grants s p.statement p.scan p.work p.delivered)

  kept_work : (st : Statement) (a b : Work) → OnChange grants s table index a b → IsWork w es table index grants s st a → IsWork w es table index grants s st b
  kept_work st work.Unread b h k = absurd h
  kept_work st (work.Awaits found job) b h k = absurd h
  kept_work st (work.Refined found done) b h k = absurd h
  kept_work st (work.Writes x) work.Unread h k = absurd h
  kept_work st (work.Writes x) (work.Awaits found job) h k = absurd h
  kept_work st (work.Writes x) (work.Refined found done) h k = absurd h
  kept_work st (work.Writes x) (work.Writes y) h k = record {
    writes = k.writes;
    change_for = record { statement = h.statement ∙ k.change_for.statement; cells = h.cells ∙ k.change_for.cells; selected = refl };
    behind = h.behind;
    selects = subst (λ (ks : List ℕ). Selects (view (state w es) s) st ks) (sym h.selected) k.selects;
    guarded = k.guarded;
  }

  kept_refined : (st : Statement) (a b : Work) (delivered : Bool) → OnChange grants s table index a b → HasRefinedAll w es s st a delivered → HasRefinedAll w es s st b delivered
  kept_refined st work.Unread b delivered h k = absurd h
  kept_refined st (work.Awaits found job) b delivered h k = absurd h
  kept_refined st (work.Refined found done) b delivered h k = absurd h
  kept_refined st (work.Writes x) work.Unread delivered h k = absurd h
  kept_refined st (work.Writes x) (work.Awaits found job) delivered h k = absurd h
  kept_refined st (work.Writes x) (work.Refined found done) delivered h k = absurd h
  kept_refined st (work.Writes x) (work.Writes y) delivered h k = k

  kept_pending : (a b : Option Pending) → OnPending (IsNearer grants s table index) a b → KeptPending a → KeptPending b
  kept_pending None None h k = tt
  kept_pending None (Some b) h k = absurd h
  kept_pending (Some a) None h k = absurd h
  kept_pending (Some a) (Some b) h k =
      subst (λ (st : Statement). IsPending w es table index grants s st b.scan b.work b.delivered) (sym h.statement)
      (record {
        sound = k.sound;
        search = subst (λ r. IfSome r (IsSearching w es table index grants s a.statement)) (sym h.scan) k.search;
        work = kept_work a.statement a.work b.work h.change k.work;
        refined = kept_refined a.statement a.work b.work b.delivered h.change (subst (HasRefinedAll w es s a.statement a.work) (sym h.delivered) k.refined);
      })

  kept_running : (a b : Option Running) → OnRunning (Moved grants s table index) a b → IfSome a (IsRunning w es table index grants s) → IfSome b (IsRunning w es table index grants s)
  kept_running None None h k = tt
  kept_running None (Some b) h k = absurd h
  kept_running (Some a) None h k = absurd h
  kept_running (Some a) (Some b) h k = record {
    cost = h.cost ∙ k.cost;
    pending = kept_pending a.pending b.pending h.pending k.pending;
    statement_room = subst (λ n. IfSome b.pending (λ (p : Pending). 1 ≤ n)) (ap (λ r. r.spare) (sym h.statements)) (with_room grants s table index (1 ≤ a.statements.spare) a.pending b.pending h.pending k.statement_room);
    answer_room = subst (λ n. IfSome b.pending (λ (p : Pending). 1 ≤ n)) (ap (λ r. r.spare) (sym h.answers)) (with_room grants s table index (1 ≤ a.answers.spare) a.pending b.pending h.pending k.answer_room);
  }

  pub placed_kept : (d x : Seat) → SeatChanges (Moved grants s table index) d x → IsSeat w es table index grants s d → IsSeat w es table index grants s x
  placed_kept d x h k = record { wish = h.wish ∙ k.wish; running = kept_running d.running x.running h.running k.running }

-- ---- the change at a seat
change_in_work : (it : Work) → is_writing it ≡ true → IsSome (change_in it)
change_in_work work.Unread h = absurd (cc)
change_in_work (work.Awaits found job) h = absurd (cc)
change_in_work (work.Refined found done) h = absurd (cc)
change_in_work (work.Writes change) h = refl

change_in_pending : (o : Option Pending) → (job_in_pending o).writes ≡ true → IsSome (change_at o)
change_in_pending None h = absurd (cc)
change_in_pending (Some p) h = change_in_work p.work h

change_in_running : (o : Option Running) → (job_in_running o).writes ≡ true → IsSome (change_by o)
change_in_running None h = absurd (cc)
change_in_running (Some r) h = change_in_pending r.pending h

pub has_change : (d : Seat) → (job_of d).writes ≡ true → IsSome (change_of d)
has_change d h = change_in_running d.running h

work_of : (it : Work) (change : Change) → change_in it ≡ Some change → it ≡ work.Writes change
work_of work.Unread change h = absurd (cc)
work_of (work.Awaits found job) change h = absurd (cc)
work_of (work.Refined found done) change h = absurd (cc)
work_of (work.Writes x) change h = cc

-- the open statement that writes it
record At (o : Option Pending) (change : Change) : Type 0 where
  pub pending : Pending
  pub at : o ≡ Some pending
  pub work_is : pending.work ≡ work.Writes change

at_pending : (o : Option Pending) (change : Change) → change_at o ≡ Some change → At o change
at_pending None change h = absurd (cc)
at_pending (Some p) change h = record { pending = p; at = refl; work_is = work_of p.work change h }

at_running : (o : Option Running) (change : Change) → change_by o ≡ Some change → At (pending_in o) change
at_running None change h = absurd (cc)
at_running (Some r) change h = at_pending r.pending change h

-- ---- what is next
module _ (w : Stage) (labels : List Label) (entries : List Entry) (seats : List Seat) (table : List TableRow) (index : List CellRow) (grants : List (Grant Key)) (standing : List Wait) (live room entry_room : ℕ)
    (ok : IsEngine (shown_in w labels entries seats) table index grants standing seats live room entry_room)
    (s i : ℕ) (session : IsSession s) (within : i < length seats) (mine : i + 1 ≡ s) (d : Seat) (there : d ≡ get_or seats i d) where
  abbrev v : Shown
  v = shown_in w labels entries seats

  abbrev z : State
  z = state w ok.events

  own : IsSeat w ok.events table index grants s d
  own = own_now w labels entries seats table index grants standing live room entry_room ok s i session within mine d there

  kept_at : (o : Option Running) → IfSome o (IsRunning w ok.events table index grants s) → (p : Pending) → pending_in o ≡ Some p → IsPending w ok.events table index grants s p.statement p.scan p.work p.delivered
  kept_at None h p e = absurd (cc)
  kept_at (Some r) h p e = subst (λ o. IfSome o (λ (q : Pending). IsPending w ok.events table index grants s q.statement q.scan q.work q.delivered)) e h.pending

  writing_at : (change : Change) (a : At (pending_of d) change) → IsWriting w ok.events table index grants s a.pending.statement change
  writing_at change a = subst (IsWork w ok.events table index grants s a.pending.statement) a.work_is (kept_at d.running own.running a.pending a.at).work

  behind_by : (o : Option Change) → change_of d ≡ o → IfSome o (IsBehindHeld grants s table index)
  behind_by None e = tt
  behind_by (Some change) e = (writing_at change (at_running d.running change e)).behind

  pub behinds : IfSome (change_of d) (IsBehindHeld grants s table index)
  behinds = behind_by (change_of d) refl

  module _ (change : Change) (a : At (pending_of d) change) (free : WaitsForNone v s) (read : HasReadAll v s) where
    abbrev p : Pending
    p = a.pending

    abbrev st : Statement
    st = a.pending.statement

    abbrev js : List ℕ
    js = change.selected

    writing : IsWriting w ok.events table index grants s a.pending.statement change
    writing = writing_at change a

    sound : IsSoundStatement a.pending.statement
    sound = (kept_at d.running own.running a.pending a.at).sound

    good : Good w (state w ok.events)
    good = legal_good w ok.staged ok.events ok.run.legal

    keys_are : store_keys table index ≡ present_keys w (state w ok.events)
    keys_are = store_is w ok.events ok.staged ok.run.legal table index grants ok.ties

    seen_are : seen_rows s table ≡ view (state w ok.events) s
    seen_are = view_is w (state w ok.events) good s session table index grants ok.ties

    opened_now : (xs : List Event) → IsRunOf xs v → Opened ((state w xs).of s) a.pending
    opened_now = opened w labels entries seats table index grants standing live room entry_room ok s i session within mine d there a.pending a.at sound

    -- all that it reads is held
    reads : first_unheld grants s (read_needs w.settings (store_keys table index) (seen_rows s table) a.pending.statement) ≡ None
    reads =
        read_first w (state w ok.events) good s session table index grants ok.ties a.pending.statement change.selected writing.selects keys_are seen_are
        ∙ read ok.events ok.run a.pending.statement (opened_now ok.events ok.run).open_one

    first : (found : Option needs.Act) → IsFirstAct grants s table index change found
        → IsFirst grants s (store_keys table index) (write_needs w.settings (store_keys table index) (seen_rows s table) change.selected a.pending.statement) found
    first found h = h w.settings a.pending.statement change.selected writing.change_for ok.staged.settings (ok.ties.cells_seen s session) ok.ties.codes

    next_by : (it : Act) → IsAct w (state w ok.events) s a.pending.statement it → IsNextAct v s it
    next_by it h = is_next w labels entries seats table index grants standing live room entry_room ok s i session within mine d there a.pending a.at sound free it h

    next_of : (it : needs.Act) → IsFirstAct grants s table index change (Some it) → IsNextAct v s (act_of it)
    next_of (act.Lock k m) h =
        next_by (Takes k m) (locking_act w (state w ok.events) good s session table index grants ok.ties a.pending.statement change.selected writing.selects keys_are seen_are reads k m (first (Some (act.Lock k m)) h))
    next_of (act.New k next m) h =
        next_by (Puts k next m)
        (putting_act w (state w ok.events) good s session table index grants ok.ties a.pending.statement change.selected writing.selects keys_are seen_are reads k next m (first (Some (act.New k next m)) h))

    -- none is left in any run
    met_of : IsFirstAct grants s table index change None → HasAllMet v s
    met_of h = λ xs run.
        let f = first None h in
        let o = opened_now xs run in
        let same : state w ok.events ≡ state w xs = (runs_alike v ok.staged ok.events xs ok.run run).state in
        record {
          st = a.pending.statement;
          is_open = record { live = o.live; open_one = o.open_one; no_wait = free xs run };
          selected = change.selected;
          selects = subst (λ (y : State). Selects (view y s) a.pending.statement change.selected) same writing.selects;
          none = subst (λ (y : State). first_unmet (y.of s).held (needs_of w y s a.pending.statement change.selected) ≡ None) same
              (none_left w (state w ok.events) good s session table index grants ok.ties a.pending.statement change.selected writing.selects keys_are seen_are reads (sym f.need));
        }

  abbrev IsFirstFor : Option needs.Act → Type 0
  IsFirstFor found = IfSome (change_of d) (λ (change : Change). IsFirstAct grants s table index change found)

  acts_by : (it : needs.Act) → WaitsForNone v s → HasReadAll v s → (o : Option Change) → change_of d ≡ o → IsSome o → IfSome o (λ (change : Change). IsFirstAct grants s table index change (Some it)) → IsNextAct v s (act_of it)
  acts_by it free read None e has h = absurd (cc)
  acts_by it free read (Some change) e has h = next_of change (at_running d.running change e) free read it h

  all_by : WaitsForNone v s → HasReadAll v s → (o : Option Change) → change_of d ≡ o → IsSome o → IfSome o (λ (change : Change). IsFirstAct grants s table index change None) → HasAllMet v s
  all_by free read None e has h = absurd (cc)
  all_by free read (Some change) e has h = met_of change (at_running d.running change e) free read h

  module _ (free : WaitsForNone v s) (read : HasReadAll v s) (has : IsSome (change_of d)) where
    pub acts : (found : Option needs.Act) → IsFirstFor found → IfSome found (λ it. IsNextAct v s (act_of it))
    acts None h = tt
    acts (Some it) h = acts_by it free read (change_of d) refl has h

    pub all_met : (found : Option needs.Act) → IsFirstFor found → found ≡ None → HasAllMet v s
    all_met found h none = all_by free read (change_of d) refl has (subst IsFirstFor none h)
