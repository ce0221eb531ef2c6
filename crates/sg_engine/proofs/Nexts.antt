-- A seat whose scan has moved, and what its session does next.
use Rattle.std.specs.Prelude.{map, IfSome, IfOk, IsSome, is_some, Result, Ok, Err}
use Rattle.std.specs.Option.{option_map}
use Rattle.std.proofs.Common.{◌≡◌, ℕ, suc, ◌+◌, ◌≤◌, ◌<◌, Bool, true, false, cond, List, length, get_or, set, Option, Some, None, refl, sym, ap, ◌∙◌, subst, add-one}
use Rattle.std.proofs.Math.Seq.{map-set_same}
use Rattle.sg_locks.specs.Grants.{Grant}
use Rattle.sg_cells.specs.declared.keys.Key.{Key}
use Rattle.sg_modes.specs.declared.modes.Mode.{Mode}
use Rattle.sg_modes.specs.Sessions.{IsSession}
use Rattle.sg_modes.specs.Waits.{Wait}
use Rattle.sg_plain.specs.declared.statements.Statement.{Statement}
use Rattle.sg_plain.specs.Sat.{IsSoundStatement}
use Rattle.sg_plain.specs.Serial.{Entry}
use Rattle.sg_rows.specs.Table.{TableRow}
use Rattle.sg_cellrows.specs.CellTable.{CellRow}
use Rattle.sg_trace.specs.declared.labels.Label.{Label}
use Rattle.sg_trace.specs.Needs.{Need, Lock, read_needs, first_unmet}
use Rattle.sg_trace.specs.Traces.{Stage, Event, Local, State, state, view}
use Rattle.sg_trace.specs.Legal.{Act, Takes, IsAct}
use Rattle.sg_stores.specs.Agreement.{seen_rows}
use Rattle.sg_stores.specs.Held.{lock_need}
use Rattle.sg_stores.specs.Keys.{store_keys}
use Rattle.sg_laws.specs.Reading.{HasRead}
use Rattle.sg_turns.proofs.Answers.{selected}
use Rattle.sg_laws.proofs.Needs.{sees}
use Rattle.sg_laws.proofs.Kept.{Good, legal_good}
use Rattle.sg_engine.specs.declared.shared.Seat.{Seat}
use Rattle.sg_engine.specs.declared.shared.Work.{Work}
use Rattle.sg_engine.specs.declared.shared.Running.{Running}
use Rattle.sg_engine.specs.declared.shared.Pending.{Pending}
use Rattle.sg_engine.specs.Shown.{Shown, Seated, Refining, IsRunOf, seated, running_of, open_of}
use Rattle.sg_engine.specs.Inside.{seat_of, job_of, job_in_running, job_in_pending, job_in_work, is_writing, was_delivered, running_in, shown_in, OnRunning, SeatChanges}
use Rattle.sg_engine.specs.Phases.{HasRefinedAll, IsPending, IsRunning, IsSeat, IsWork, IsSearching}
use Rattle.sg_engine.specs.Ties.{IsEngine}
use Rattle.sg_engine.specs.Nexts.{IsNextAct, WaitsForNone, HasReadAll}
use Rattle.sg_engine.specs.Searches.{pending_in, pending_of, OnPending, OnlyPending, IsScanAt, IsSearched, IsReadNeed}
use Rattle.sg_engine.proofs.Kept.{each_set, own_seat, if_some}
use Rattle.sg_engine.proofs.Rooms.{told, told_running}
use Rattle.sg_engine.proofs.Keys.{store_is}
use Rattle.sg_engine.proofs.Seats.{seat_at}
use Rattle.sg_engine.proofs.Runs.{runs_alike}
use Rattle.sg_engine.proofs.Replied.{view_is, read_first}
use Rattle.sg_engine.proofs.Acts.{reading_act}

-- ---- what a seat tells
module _ (c : Rattle.sg_cells.specs.declared.settings.Settings.Settings) (grants : List (Grant Key)) (s : ℕ) (table : List TableRow) (index : List CellRow) where
  abbrev Moved : Running → Running → Type 0
  Moved = OnlyPending (IsSearched c grants s table index)

  abbrev R : Pending → Pending → Type 0
  R = IsSearched c grants s table index

  abbrev statement_in : Option Pending → Option Statement
  statement_in o = option_map (λ (p : Pending). p.statement) o

  abbrev refining : Work → Bool → Refining
  refining it d = record { job = job_in_work it; delivered = was_delivered it d; writes = is_writing it }

  statement_same : (a b : Option Pending) → OnPending R a b → statement_in b ≡ statement_in a
  statement_same None None h = refl
  statement_same None (Some b) h = absurd h
  statement_same (Some a) None h = absurd h
  statement_same (Some a) (Some b) h = ap (λ st. Some st) h.statement

  job_same : (a b : Option Pending) → OnPending R a b → job_in_pending b ≡ job_in_pending a
  job_same None None h = refl
  job_same None (Some b) h = absurd h
  job_same (Some a) None h = absurd h
  job_same (Some a) (Some b) h = ap (λ it. refining it b.delivered) h.work ∙ ap (refining a.work) h.delivered

  running_same : (a b : Option Running) → OnRunning Moved a b → option_map running_in b ≡ option_map running_in a
  running_same None None h = refl
  running_same None (Some b) h = absurd h
  running_same (Some a) None h = absurd h
  running_same (Some a) (Some b) h =
      ap (λ r. Some r) (told_running b.statements.items a.statements.items b.answers.items a.answers.items (statement_in b.pending) (statement_in a.pending)
      (ap (λ r. r.items) h.statements) (ap (λ r. r.items) h.answers) (statement_same a.pending b.pending h.pending))

  same_job_by : (a b : Option Running) → OnRunning Moved a b → job_in_running b ≡ job_in_running a
  same_job_by None None h = refl
  same_job_by None (Some b) h = absurd h
  same_job_by (Some a) None h = absurd h
  same_job_by (Some a) (Some b) h = job_same a.pending b.pending h.pending

  pub moved_seat : (d x : Seat) → SeatChanges Moved d x → seat_of x ≡ seat_of d
  moved_seat d x h = told x.begun (option_map running_in x.running) d.begun (option_map running_in d.running) h.begun (running_same d.running x.running h.running)

  pub moved_job : (d x : Seat) → SeatChanges Moved d x → job_of x ≡ job_of d
  moved_job d x h = same_job_by d.running x.running h.running

  with_room : (Q : Type 0) (a b : Option Pending) → OnPending R a b → IfSome a (λ (p : Pending). Q) → IfSome b (λ (p : Pending). Q)
  with_room Q None None h k = tt
  with_room Q None (Some b) h k = absurd h
  with_room Q (Some a) None h k = absurd h
  with_room Q (Some a) (Some b) h k = k

-- what is kept of the seat
module _ (w : Stage) (es : List Event) (table : List TableRow) (index : List CellRow) (grants : List (Grant Key)) (s : ℕ) where
  abbrev KeptPending : Option Pending → Type 0
  KeptPending o = IfSome o (λ (p : Pending). IsPending w es table index grants s p.statement p.scan p.work p.delivered)

  kept_pending : (a b : Option Pending) → OnPending (IsSearched w.settings grants s table index) a b → KeptPending a → KeptPending b
  kept_pending None None h k = tt
  kept_pending None (Some b) h k = absurd h
  kept_pending (Some a) None h k = absurd h
  kept_pending (Some a) (Some b) h k = record {
    sound = subst IsSoundStatement (sym h.statement) k.sound;
    search = if_some (IsScanAt w.settings grants s table index b.statement) (IsSearching w es table index grants s b.statement) b.scan (λ r _ x. record { scan_for = x.scan_for; passed = x.passed }) h.scan;
    work = subst (λ (st : Statement). IsWork w es table index grants s st b.work) (sym h.statement) (subst (IsWork w es table index grants s a.statement) (sym h.work) k.work);
    refined = subst (λ (st : Statement). HasRefinedAll w es s st b.work b.delivered) (sym h.statement)
        (subst (λ (it : Work). HasRefinedAll w es s a.statement it b.delivered) (sym h.work) (subst (HasRefinedAll w es s a.statement a.work) (sym h.delivered) k.refined));
  }

  kept_running : (a b : Option Running) → OnRunning (Moved w.settings grants s table index) a b → IfSome a (IsRunning w es table index grants s) → IfSome b (IsRunning w es table index grants s)
  kept_running None None h k = tt
  kept_running None (Some b) h k = absurd h
  kept_running (Some a) None h k = absurd h
  kept_running (Some a) (Some b) h k = record {
    cost = h.cost ∙ k.cost;
    pending = kept_pending a.pending b.pending h.pending k.pending;
    statement_room = subst (λ n. IfSome b.pending (λ (p : Pending). 1 ≤ n)) (ap (λ r. r.spare) (sym h.statements)) (with_room w.settings grants s table index (1 ≤ a.statements.spare) a.pending b.pending h.pending k.statement_room);
    answer_room = subst (λ n. IfSome b.pending (λ (p : Pending). 1 ≤ n)) (ap (λ r. r.spare) (sym h.answers)) (with_room w.settings grants s table index (1 ≤ a.answers.spare) a.pending b.pending h.pending k.answer_room);
  }

  pub moved_kept : (d x : Seat) → SeatChanges (Moved w.settings grants s table index) d x → IsSeat w es table index grants s d → IsSeat w es table index grants s x
  moved_kept d x h k = record { wish = h.wish ∙ k.wish; running = kept_running d.running x.running h.running k.running }

-- ---- a seat that shows the same
abbrev shown_with : Stage → List Label → List Entry → List Seated → List Refining → Shown
shown_with w labels entries xs a = record { stage = w; labels = labels; journal = entries; seats = xs; jobs = a }

module _ (seats : List Seat) (i : ℕ) (d x : Seat) (there : d ≡ get_or seats i d) (same : seat_of x ≡ seat_of d) (job : job_of x ≡ job_of d) where
  pub shown_swapped : (w : Stage) (labels : List Label) (entries : List Entry) → shown_in w labels entries (set seats i x) ≡ shown_in w labels entries seats
  shown_swapped w labels entries =
      ap (λ z. shown_with w labels entries z (map job_of (set seats i x))) (map-set_same seat_of seats i x d (same ∙ ap seat_of there))
      ∙ ap (shown_with w labels entries (map seat_of seats)) (map-set_same job_of seats i x d (job ∙ ap job_of there))

  pub swap_engine : (w : Stage) (labels : List Label) (entries : List Entry) (table : List TableRow) (index : List CellRow) (grants : List (Grant Key)) (standing : List Wait) (live room entry_room : ℕ)
      → (ok : IsEngine (shown_in w labels entries seats) table index grants standing seats live room entry_room) → (s : ℕ) → i < length seats → i + 1 ≡ s → IsSeat w ok.events table index grants s x
      → IsEngine (shown_in w labels entries (set seats i x)) table index grants standing (set seats i x) live room entry_room
  swap_engine w labels entries table index grants standing live room entry_room ok s within mine own =
      subst (λ v. IsEngine v table index grants standing (set seats i x) live room entry_room) (sym (shown_swapped w labels entries)) (record {
        events = ok.events;
        staged = ok.staged;
        run = ok.run;
        ties = ok.ties;
        waits_are = ok.waits_are;
        kept = each_set (λ j. IsSeat w ok.events table index grants (suc j)) (λ j. IsSeat w ok.events table index grants (suc j)) seats i x (λ j ne y e h. h) ok.kept
            (subst (λ u. IsSeat w ok.events table index grants u x) (sym mine ∙ add-one i) own) within;
        seats = ok.seats;
        live_is = ok.live_is;
        labels_fit = ok.labels_fit;
        entries_fit = ok.entries_fit;
      })

-- ---- the open statement
pub record Opened (y : Local) (p : Pending) : Type 0 where
  pub live : y.live ≡ true
  pub open_one : y.open_one ≡ Some p.statement

opened_by : (y : Local) (p : Pending) (b : Bool) → y.live ≡ b → (o : Option Running) → pending_in o ≡ Some p → option_map running_in o ≡ cond b (Some (running_of y)) None → Opened y p
opened_by y p b l None h e = absurd (cc)
opened_by y p false l (Some r) h e = absurd (cc)
opened_by y p true l (Some r) h e = record { live = l; open_one = sym (ap open_of e) ∙ ap (λ o. option_map (λ (q : Pending). q.statement) o) h }

opened_at : (y : Local) (d : Seat) (p : Pending) → pending_of d ≡ Some p → seat_of d ≡ seated y → Opened y p
opened_at y d p h e = opened_by y p y.live refl d.running h (ap (λ (x : Seated). x.running) e)

has_by : (o : Option Running) → is_some (open_of (option_map running_in o)) ≡ true → IsSome (pending_in o)
has_by None h = absurd (cc)
has_by (Some r) h = go r.pending h
  where
    go : (o : Option Pending) → is_some (option_map (λ (q : Pending). q.statement) o) ≡ true → IsSome o
    go None h = absurd (cc)
    go (Some p) h = refl

pub has_pending : (d : Seat) → is_some (open_of (seat_of d).running) ≡ true → IsSome (pending_of d)
has_pending d h = has_by d.running h

pub one : (a b : Statement) → Some a ≡ Some b → a ≡ b
one a b h = cc

none_of : (need : Option (Key × Mode)) → option_map lock_need need ≡ None → need ≡ None
none_of None e = refl
none_of (Some need) e = absurd (cc)

-- ---- what is next
module _ (w : Stage) (labels : List Label) (entries : List Entry) (seats : List Seat) (table : List TableRow) (index : List CellRow) (grants : List (Grant Key)) (standing : List Wait) (live room entry_room : ℕ)
    (ok : IsEngine (shown_in w labels entries seats) table index grants standing seats live room entry_room)
    (s i : ℕ) (session : IsSession s) (within : i < length seats) (mine : i + 1 ≡ s) (d : Seat) (there : d ≡ get_or seats i d) where
  abbrev v : Shown
  v = shown_in w labels entries seats

  abbrev es : List Event
  es = ok.events

  abbrev z : State
  z = state w ok.events

  pub good : Good w (state w ok.events)
  good = legal_good w ok.staged ok.events ok.run.legal

  pub keys_are : store_keys table index ≡ Rattle.sg_trace.specs.Traces.present_keys w (state w ok.events)
  keys_are = store_is w ok.events ok.staged ok.run.legal table index grants ok.ties

  pub seen_are : seen_rows s table ≡ view (state w ok.events) s
  seen_are = view_is w (state w ok.events) good s session table index grants ok.ties

  pub own_now : IsSeat w ok.events table index grants s d
  own_now = own_seat w ok.events table index grants seats s i within mine d there ok.kept

  -- of the open statement
  module _ (p : Pending) (at : pending_of d ≡ Some p) (sound : IsSoundStatement p.statement) where
    pub opened : (xs : List Event) → IsRunOf xs v → Opened ((state w xs).of s) p
    opened xs run = opened_at ((state w xs).of s) d p at (sym (seat_at seats i within s mine d there) ∙ run.shows.seats s session)

    pub same_state : (xs : List Event) → IsRunOf xs v → state w ok.events ≡ state w xs
    same_state xs run = (runs_alike v ok.staged ok.events xs ok.run run).state

    pub chosen : (js : List ℕ) × Rattle.sg_trace.specs.Needs.Selects (view (state w ok.events) s) p.statement js
    chosen = selected (view (state w ok.events) s) (sees w.settings (state w ok.events) s good.sound).rows p.statement sound

    -- any act of the session's is its next, whatever led here
    pub is_next : WaitsForNone v s → (a : Act) → IsAct w (state w ok.events) s p.statement a → IsNextAct v s a
    is_next free a act = λ xs run.
        let o = opened xs run in
        (p.statement, record { live = o.live; open_one = o.open_one; no_wait = free xs run }, subst (λ (y : State). IsAct w y s p.statement a) (same_state xs run) act)

    pub take_next : WaitsForNone v s → (k : Key) (m : Mode) → IsReadNeed w.settings grants s table index p.statement (Some (k, m)) → IsNextAct v s (Takes k m)
    take_next free k m need =
        is_next free (Takes k m) (reading_act w (state w ok.events) good s session table index grants ok.ties p.statement chosen.0 chosen.1 keys_are seen_are k m (sym (need (ok.ties.cells_seen s session) ok.ties.codes)))

    pub read_all : IsReadNeed w.settings grants s table index p.statement None → HasReadAll v s
    read_all need = λ xs run st is.
        let o = opened xs run in
        let same : st ≡ p.statement = one st p.statement (sym is ∙ o.open_one) in
        subst (λ (q : Statement). HasRead w xs s q) (sym same)
        (subst (λ (y : State). first_unmet (y.of s).held (read_needs w.settings (Rattle.sg_trace.specs.Traces.present_keys w y) (view y s) p.statement) ≡ None) (same_state xs run)
        (sym (read_first w (state w ok.events) good s session table index grants ok.ties p.statement chosen.0 chosen.1 keys_are seen_are) ∙ sym (need (ok.ties.cells_seen s session) ok.ties.codes)))

    pub none_needed : (need : Option (Key × Mode)) → IsReadNeed w.settings grants s table index p.statement need → HasReadAll v s → need ≡ None
    none_needed need is read =
        let o = opened ok.events ok.run in
        none_of need
        (is (ok.ties.cells_seen s session) ok.ties.codes
        ∙ (read_first w (state w ok.events) good s session table index grants ok.ties p.statement chosen.0 chosen.1 keys_are seen_are ∙ read ok.events ok.run p.statement o.open_one))

  scans_by : (o : Option Running) → IfSome o (IsRunning w ok.events table index grants s) → IfSome (pending_in o) (λ (p : Pending). IfSome p.scan (IsScanAt w.settings grants s table index p.statement))
  scans_by None h = tt
  scans_by (Some r) h =
      if_some (λ (p : Pending). IsPending w ok.events table index grants s p.statement p.scan p.work p.delivered) (λ (p : Pending). IfSome p.scan (IsScanAt w.settings grants s table index p.statement)) r.pending
      (λ p _ k. if_some (IsSearching w ok.events table index grants s p.statement) (IsScanAt w.settings grants s table index p.statement) p.scan (λ x _ y. record { scan_for = y.scan_for; passed = y.passed }) k.search) h.pending

  pub scans : IfSome (pending_of d) (λ (p : Pending). IfSome p.scan (IsScanAt w.settings grants s table index p.statement))
  scans = scans_by d.running own_now.running

  sounds_by : (o : Option Running) → IfSome o (IsRunning w ok.events table index grants s) → IfSome (pending_in o) (λ (p : Pending). IsSoundStatement p.statement)
  sounds_by None h = tt
  sounds_by (Some r) h =
      if_some (λ (p : Pending). IsPending w ok.events table index grants s p.statement p.scan p.work p.delivered) (λ (p : Pending). IsSoundStatement p.statement) r.pending (λ p _ k. k.sound) h.pending

  pub sounds : IfSome (pending_of d) (λ (p : Pending). IsSoundStatement p.statement)
  sounds = sounds_by d.running own_now.running

  abbrev Needed : Option (Key × Mode) → Type 0
  Needed need = IfSome (pending_of d) (λ (p : Pending). IsReadNeed w.settings grants s table index p.statement need)

  taken : (k : Key) (m : Mode) → WaitsForNone v s → (o : Option Pending) → pending_of d ≡ o → IsSome o → IfSome o (λ (p : Pending). IsSoundStatement p.statement)
      → IfSome o (λ (p : Pending). IsReadNeed w.settings grants s table index p.statement (Some (k, m))) → IsNextAct v s (Takes k m)
  taken k m free None e has sound need = absurd (cc)
  taken k m free (Some p) e has sound need = take_next p e sound free k m need

  all_read : (o : Option Pending) → pending_of d ≡ o → IsSome o → IfSome o (λ (p : Pending). IsSoundStatement p.statement)
      → IfSome o (λ (p : Pending). IsReadNeed w.settings grants s table index p.statement None) → HasReadAll v s
  all_read None e has sound need = absurd (cc)
  all_read (Some p) e has sound need = read_all p e sound need

  unread_by : (o : Option Pending) → pending_of d ≡ o → IsSome o → IfSome o (λ (p : Pending). IsSoundStatement p.statement) → (need : Option (Key × Mode))
      → IfSome o (λ (p : Pending). IsReadNeed w.settings grants s table index p.statement need) → HasReadAll v s → need ≡ None
  unread_by None e has sound need h read = absurd (cc)
  unread_by (Some p) e has sound need h read = none_needed p e sound need h read

  -- what is asked for first
  pub takes : {E : Type 0} (r : Result (Option (Key × Mode)) E) → IfOk r Needed → IsSome (pending_of d) → WaitsForNone v s → IfOk r (λ need. IfSome need (λ q. IsNextAct v s (Takes q.0 q.1)))
  takes (Err e) h has free = tt
  takes (Ok None) h has free = tt
  takes (Ok (Some q)) h has free = taken q.0 q.1 free (pending_of d) refl has sounds h

  pub reads : {E : Type 0} (r : Result (Option (Key × Mode)) E) → IfOk r Needed → IsSome (pending_of d) → IfOk r (λ need. need ≡ None → HasReadAll v s)
  reads (Err e) h has = tt
  reads (Ok need) h has = λ none. all_read (pending_of d) refl has sounds (subst Needed none h)

  pub unread : {E : Type 0} (r : Result (Option (Key × Mode)) E) → IfOk r Needed → IsSome (pending_of d) → HasReadAll v s → IfOk r (λ need. need ≡ None)
  unread (Err e) h has read = tt
  unread (Ok need) h has read = unread_by (pending_of d) refl has sounds need h read
