-- A seat that keeps what its open statement has come to, and what follows.
use Rattle.std.specs.Prelude.{map, IfSome, IsSome, ◌-◌, ◌^◌}
use Rattle.std.specs.Option.{option_map}
use Rattle.std.proofs.Common.{◌≡◌, ◌⊎◌, ℕ, suc, ◌+◌, ◌≤◌, ◌<◌, Bool, true, false, cond, List, [], ◌∷◌, length, get_or, set, Option, Some, None, refl, sym, ap, ◌∙◌, subst, arith, add-one, inl, inr, get_or-set_same, get_or-set_other}
use mathlib.Core.Bool.{true≢false}
use Rattle.std.proofs.Math.Seq.{map-set_same}
use Rattle.std.proofs.lemmas.List.{get_or_default, get_or-map, map-set, length-set, length-append}
use Rattle.sg_cells.specs.declared.keys.Key.{Key}
use Rattle.sg_cells.specs.declared.settings.Settings.{Settings}
use Rattle.sg_locks.specs.Grants.{Grant}
use Rattle.sg_modes.specs.Sessions.{IsSession}
use Rattle.sg_modes.specs.Waits.{Wait}
use Rattle.sg_plain.specs.declared.statements.Statement.{Statement}
use Rattle.sg_plain.specs.declared.statements.Statement.TheVariants.{Insert, Update, Delete, Get, Select, Plan, Filter, DeleteWhere}
use Rattle.sg_plain.specs.declared.statements.Answer.{Answer}
use Rattle.sg_plain.specs.Rows.{Rows}
use Rattle.sg_plain.specs.Sat.{IsSoundStatement}
use Rattle.sg_plain.specs.Serial.{Entry}
use Rattle.sg_refine.specs.declared.jobs.JobName.{JobName}
use Rattle.sg_refine.specs.Jobs.{Job}
use Rattle.sg_rows.specs.Table.{TableRow}
use Rattle.sg_cellrows.specs.CellTable.{CellRow}
use Rattle.sg_trace.specs.declared.labels.Label.{Label}
use Rattle.sg_trace.specs.Needs.{Selects, read_needs, write_needs}
use Rattle.sg_trace.specs.Replies.{Reply}
use Rattle.sg_trace.specs.Traces.{Stage, Event, DoneList, Local, State, state, view, labels_of}
use Rattle.sg_trace.specs.Legal.{Replies, answers_of}
use Rattle.sg_scan.specs.Cursors.{IsScanFor}
use Rattle.sg_stores.specs.Agreement.{seen_rows}
use Rattle.sg_stores.specs.Held.{first_unheld}
use Rattle.sg_stores.specs.Keys.{store_keys}
use Rattle.sg_writes.specs.Changes.{Writes}
use Rattle.sg_laws.specs.Reading.{IsReading, IsGuarded}
use Rattle.sg_reading.proofs.Readings.{reads_guard}
use Rattle.sg_engine.specs.declared.shared.Seat.{Seat}
use Rattle.sg_engine.specs.declared.shared.Work.{Work}
use Rattle.sg_engine.specs.declared.shared.Work.TheVariants as work
use Rattle.sg_engine.specs.declared.shared.Running.{Running}
use Rattle.sg_engine.specs.declared.shared.Pending.{Pending}
use Rattle.sg_engine.specs.declared.preparing.Reached.{Reached}
use Rattle.sg_engine.specs.declared.preparing.Reached.TheVariants as reached
use Rattle.sg_engine.specs.Shown.{Shown, Seated, Refining, IsRunOf, seat_in, job_in, no_job, empty_seat, seated, running_of, length_in}
use Rattle.sg_engine.specs.Inside.{seat_of, job_of, job_in_running, job_in_pending, job_in_work, is_writing, was_delivered, running_in, shown_in}
use Rattle.sg_engine.specs.Phases.{HasRefinedAll, IsNameOf, IsWork, IsPending, IsRunning, IsSeat, IsSearching, AreLeft, answer_of, unsure_rows}
use Rattle.sg_engine.specs.Ties.{IsEngine, is_running, running_count}
use Rattle.sg_engine.specs.Nexts.{IsNextAct, WaitsForNone, HasReadAll}
use Rattle.sg_engine.specs.Searches.{pending_in, pending_of}
use Rattle.sg_engine.specs.Steps.{IsSameRun, SetsJob, OpenReads}
use Rattle.sg_engine.specs.Preparing.{IsJobAt, IsJobFor, HasNoneLeft, Prepares, IsNoJob}
use Rattle.sg_engine.specs.Reaching.{IsReplying, IsAllRefined, is_refined, IsReached, name_at, settled, settled_in, settled_at, prepared_of}
use Rattle.sg_engine.proofs.Kept.{each_set, if_some}
use Rattle.sg_engine.proofs.Rooms.{told, told_running}
use Rattle.sg_engine.proofs.Events.{done_labels}
use Rattle.sg_engine.proofs.Seats.{seat_at, length_map, count_set}
use Rattle.sg_engine.proofs.Replied.{read_first, answer_act}
use Rattle.sg_engine.proofs.Nexts.{Opened, opened, one, good, keys_are, seen_are, same_state, chosen, own_now, is_next, shown_swapped}
use Rattle.sg_engine.proofs.Reached.{asked_query, query_reads}

-- what is read twice is the same
pub same_read : (seats : List Seat) (i : ℕ) (a b : Seat) → i < length seats → a ≡ get_or seats i a → b ≡ get_or seats i b → a ≡ b
same_read seats i a b within e f = e ∙ (get_or_default seats i a b within ∙ sym f)

-- ---- jobs that are shown
module _ (seats : List Seat) (i : ℕ) (within : i < length seats) (s : ℕ) (session : IsSession s) (mine : i + 1 ≡ s) where
  pub job_at : (d : Seat) → d ≡ get_or seats i d → job_in (map job_of seats) s ≡ job_of d
  job_at d is =
      let at : s - 1 ≡ i = omega arith in
      ap (λ n. get_or (map job_of seats) n no_job) at ∙ (get_or-map job_of seats i d no_job within ∙ ap job_of (sym is))

  job_set : (x : Seat) → job_in (map job_of (set seats i x)) s ≡ job_of x
  job_set x =
      let at : s - 1 ≡ i = omega arith in
      let long : i < length (set seats i x) = (let l = length-set seats i x in omega (arith, l, within)) in
      ap (λ n. get_or (map job_of (set seats i x)) n no_job) at ∙ (get_or-map job_of (set seats i x) i x no_job long ∙ ap job_of (get_or-set_same seats i x x within))

  -- what is shown of the session's job is that of its seat
  pub sets_job : (x : Seat) (refining : Refining) → job_of x ≡ refining → (w : Stage) (labels : List Label) (entries : List Entry) → SetsJob s refining (shown_in w labels entries seats) (shown_in w labels entries (set seats i x))
  sets_job x refining is w labels entries = record {
    own = job_set x ∙ is;
    others = λ u on ne.
        let low = on.0 in
        ap (λ xs. get_or xs (u - 1) no_job) (map-set job_of seats i x) ∙ get_or-set_other (map job_of seats) i (u - 1) (job_of x) no_job (λ e. ne (omega (arith, e, mine, low)));
  }

-- ---- a seat that shows the same but for its job
module _ (seats : List Seat) (i : ℕ) (d x : Seat) (there : d ≡ get_or seats i d) (same : seat_of x ≡ seat_of d) where
  seats_same : map seat_of (set seats i x) ≡ map seat_of seats
  seats_same = map-set_same seat_of seats i x d (same ∙ ap seat_of there)

  pub same_run : (w : Stage) (labels : List Label) (entries : List Entry) → IsSameRun (shown_in w labels entries seats) (shown_in w labels entries (set seats i x))
  same_run w labels entries = record { stage = refl; labels = refl; journal = refl; seats = seats_same }

  run_on : (w : Stage) (labels : List Label) (entries : List Entry) (es : List Event) → IsRunOf es (shown_in w labels entries seats) → IsRunOf es (shown_in w labels entries (set seats i x))
  run_on w labels entries es run = record {
    shows = record { labels = run.shows.labels; journal = run.shows.journal; seats = λ u is. ap (λ xs. seat_in xs u) seats_same ∙ run.shows.seats u is };
    legal = run.legal;
    settled = run.settled;
  }

  pub run_engine : (w : Stage) (labels : List Label) (entries : List Entry) (table : List TableRow) (index : List CellRow) (grants : List (Grant Key)) (standing : List Wait) (live room entry_room : ℕ)
      → (ok : IsEngine (shown_in w labels entries seats) table index grants standing seats live room entry_room) → (s : ℕ) → i < length seats → i + 1 ≡ s → IsSeat w ok.events table index grants s x
      → IsEngine (shown_in w labels entries (set seats i x)) table index grants standing (set seats i x) live room entry_room
  run_engine w labels entries table index grants standing live room entry_room ok s within mine own = record {
    events = ok.events;
    staged = ok.staged;
    run = run_on w labels entries ok.events ok.run;
    ties = ok.ties;
    waits_are = ok.waits_are;
    kept = each_set (λ j. IsSeat w ok.events table index grants (suc j)) (λ j. IsSeat w ok.events table index grants (suc j)) seats i x (λ j ne y e h. h) ok.kept
        (subst (λ u. IsSeat w ok.events table index grants u x) (sym mine ∙ add-one i) own) within;
    seats = ap (λ xs. length xs) seats_same ∙ ok.seats;
    live_is = ok.live_is ∙ ap running_count (sym seats_same);
    labels_fit = ok.labels_fit;
    entries_fit = ok.entries_fit;
  }

-- ---- what is shown of a seat afterwards
statement_same : (r : Reached) (p : Pending) → (settled r p).statement ≡ p.statement
statement_same (reached.Answer a) p = refl
statement_same (reached.Again job) p = refl
statement_same (reached.Refine found job copy) p = refl
statement_same (reached.Writes change) p = refl

scan_same : (r : Reached) (p : Pending) → (settled r p).scan ≡ p.scan
scan_same (reached.Answer a) p = refl
scan_same (reached.Again job) p = refl
scan_same (reached.Refine found job copy) p = refl
scan_same (reached.Writes change) p = refl

abbrev statement_in : Option Pending → Option Statement
statement_in o = option_map (λ (p : Pending). p.statement) o

module _ (r : Reached) where
  open_same : (o : Option Pending) → statement_in (option_map (settled r) o) ≡ statement_in o
  open_same None = refl
  open_same (Some p) = ap (λ st. Some st) (statement_same r p)

  running_same : (o : Option Running) → option_map running_in (option_map (settled_in r) o) ≡ option_map running_in o
  running_same None = refl
  running_same (Some x) = ap (λ y. Some y) (told_running x.statements.items x.statements.items x.answers.items x.answers.items (statement_in (option_map (settled r) x.pending)) (statement_in x.pending) refl refl (open_same x.pending))

  pub settled_seat : (d : Seat) → seat_of (settled_at r d) ≡ seat_of d
  settled_seat d = told d.begun (option_map running_in (option_map (settled_in r) d.running)) d.begun (option_map running_in d.running) refl (running_same d.running)

  job_after_by : (o : Option Running) (p : Pending) → pending_in o ≡ Some p → job_in_running (option_map (settled_in r) o) ≡ job_in_pending (Some (settled r p))
  job_after_by None p e = absurd (cc)
  job_after_by (Some x) p e = ap (λ o. job_in_pending (option_map (settled r) o)) e

  job_after : (d : Seat) (p : Pending) → pending_of d ≡ Some p → job_of (settled_at r d) ≡ job_in_pending (Some (settled r p))
  job_after d p e = job_after_by d.running p e

job_now_by : (o : Option Running) (p : Pending) → pending_in o ≡ Some p → job_in_running o ≡ job_in_pending (Some p)
job_now_by None p e = absurd (cc)
job_now_by (Some x) p e = ap job_in_pending e

pub job_now : (d : Seat) (p : Pending) → pending_of d ≡ Some p → job_of d ≡ job_in_pending (Some p)
job_now d p e = job_now_by d.running p e

-- the job that is waited for
abbrev waiting_for : Job → Refining
waiting_for job = record { job = Some job; delivered = false; writes = false }

waited_by : (it : Work) (kept : Bool) (job : Job) → job_in_work it ≡ Some job → record { job = job_in_work it; delivered = was_delivered it kept; writes = is_writing it } ≡ waiting_for job
waited_by work.Unread kept job e = absurd (cc)
waited_by (work.Awaits found j) kept job e = ap waiting_for (inner e)
  where
    inner : Some j ≡ Some job → j ≡ job
    inner f = cc
waited_by (work.Refined found done) kept job e = absurd (cc)
waited_by (work.Writes change) kept job e = absurd (cc)

-- and of a statement that waits for it none was delivered
undelivered : (it : Work) (kept : Bool) (job : Job) → job_in_work it ≡ Some job → was_delivered it kept ≡ false
undelivered work.Unread kept job e = refl
undelivered (work.Awaits found j) kept job e = refl
undelivered (work.Refined found done) kept job e = absurd (cc)
undelivered (work.Writes change) kept job e = absurd (cc)

delivered_by : (it : Work) (kept : Bool) → is_refined it ≡ true → was_delivered it kept ≡ true
delivered_by work.Unread kept e = absurd (true≢false (sym e))
delivered_by (work.Awaits found j) kept e = absurd (true≢false (sym e))
delivered_by (work.Refined found done) kept e = refl
delivered_by (work.Writes change) kept e = absurd (true≢false (sym e))

-- ---- the state alone tells whether a job is the statement's
job_alike : (w : Stage) (es xs : List Event) → state w es ≡ state w xs → (s : ℕ) (st : Statement) (job : Job) → IsJobAt w es s st job → IsJobAt w xs s st job
job_alike w es xs same s st job h = record {
  name = record {
    session = h.name.session;
    transaction = h.name.transaction ∙ ap (λ (z : State). (z.of s).begun) same;
    statement = h.name.statement ∙ ap (λ (z : State). suc (length (z.of s).done)) same;
  };
  asks = h.asks;
  items = subst (λ (z : State). AreLeft w.settings (view z s) st job.items) same h.items;
  some = h.some;
}

answers_length : (ds : DoneList) → length (answers_of ds) ≡ length ds
answers_length [] = refl
answers_length (d ∷ ds) = length-append (answers_of ds) (d.1 ∷ []) ∙ (let ih = answers_length ds in omega (arith, ih))

count_by : (y : Local) (b : Bool) → b ≡ true → length_in (λ r. r.answers) (cond b (Some (running_of y)) None) ≡ length y.done
count_by y true e = answers_length y.done
count_by y false e = absurd (cc)

-- a statement that writes nothing needs nothing to write
no_writes : (c : Settings) (ks : List Key) (rows : Rows) (grants : List (Grant Key)) (s : ℕ) (js : List ℕ) (st : Statement) → (Writes st → ⊥) → first_unheld grants s (write_needs c ks rows js st) ≡ None
no_writes c ks rows grants s js (Get k) h = refl
no_writes c ks rows grants s js (Select q) h = refl
no_writes c ks rows grants s js (Plan q) h = refl
no_writes c ks rows grants s js (Filter f) h = refl
no_writes c ks rows grants s js (Insert k f) h = absurd (h tt)
no_writes c ks rows grants s js (Update k f) h = absurd (h tt)
no_writes c ks rows grants s js (Delete k) h = absurd (h tt)
no_writes c ks rows grants s js (DeleteWhere q) h = absurd (h tt)

-- a search of which nothing is left leaves no candidate
left_empty : (c : Settings) (rows : Rows) (st : Statement) → ((items : Rows) → AreLeft c rows st items → items ≡ []) → Writes st → IsReading st → AreLeft c rows st []
left_empty c rows (DeleteWhere q) none writes reads = sym (none (unsure_rows c q rows) refl)
left_empty c rows (Insert k f) none writes reads = absurd reads
left_empty c rows (Update k f) none writes reads = absurd reads
left_empty c rows (Delete k) none writes reads = absurd reads
left_empty c rows (Get k) none writes reads = absurd writes
left_empty c rows (Select q) none writes reads = absurd writes
left_empty c rows (Plan q) none writes reads = absurd writes
left_empty c rows (Filter f) none writes reads = absurd writes

-- ---- what the seat has kept
module _ (w : Stage) (labels : List Label) (entries : List Entry) (seats : List Seat) (table : List TableRow) (index : List CellRow) (grants : List (Grant Key)) (standing : List Wait) (live room entry_room : ℕ)
    (ok : IsEngine (shown_in w labels entries seats) table index grants standing seats live room entry_room)
    (s i : ℕ) (session : IsSession s) (within : i < length seats) (mine : i + 1 ≡ s) (d : Seat) (there : d ≡ get_or seats i d) where
  abbrev v : Shown
  v = shown_in w labels entries seats

  abbrev KeptPending : Pending → Type 0
  KeptPending p = IsPending w ok.events table index grants s p.statement p.scan p.work p.delivered

  own : IsSeat w ok.events table index grants s d
  own = own_now w labels entries seats table index grants standing live room entry_room ok s i session within mine d there

  seen : seen_rows s table ≡ view (state w ok.events) s
  seen = seen_are w labels entries seats table index grants standing live room entry_room ok s i session within mine d there

  kept_by : (o : Option Running) → IfSome o (IsRunning w ok.events table index grants s) → IfSome (pending_in o) KeptPending
  kept_by None h = tt
  kept_by (Some x) h = h.pending

  kept : IfSome (pending_of d) KeptPending
  kept = kept_by d.running own.running

  pub replying : IfSome (pending_of d) (λ (p : Pending). IsReplying w.settings (seen_rows s table) p.statement p.work)
  replying = if_some KeptPending (λ (p : Pending). IsReplying w.settings (seen_rows s table) p.statement p.work) (pending_of d) (λ p _ h. by_work p.statement p.work h.work) kept
    where
      by_work : (st : Statement) (it : Work) → IsWork w ok.events table index grants s st it → IsReplying w.settings (seen_rows s table) st it
      by_work st work.Unread h = tt
      by_work st (work.Awaits found job) h = tt
      by_work st (work.Refined found done) h = (h.asks, subst (λ (rows : Rows). IfSome (answer_of st found done.keys) (Reply w.settings rows st)) (sym seen) h.reply)
      by_work st (work.Writes change) h = tt

  pub scan_for : IfSome (pending_of d) (λ (p : Pending). IfSome p.scan (IsScanFor w.settings p.statement))
  scan_for = if_some KeptPending (λ (p : Pending). IfSome p.scan (IsScanFor w.settings p.statement)) (pending_of d)
      (λ p _ h. if_some (IsSearching w ok.events table index grants s p.statement) (IsScanFor w.settings p.statement) p.scan (λ x _ y. y.scan_for) h.search) kept

  some_by : (P : Pending → Type 0) (o : Option Pending) → ((p : Pending) → o ≡ Some p → P p) → IfSome o P
  some_by P None f = tt
  some_by P (Some p) f = f p refl

  -- where what is shown doesn't write, the seat doesn't
  pub not_writing : (job_in (map job_of seats) s).writes ≡ false → IfSome (pending_of d) (λ (p : Pending). is_writing p.work ≡ false)
  not_writing h = some_by (λ (p : Pending). is_writing p.work ≡ false) (pending_of d) (λ p e. ap (λ (x : Refining). x.writes) (sym (job_at seats i within s session mine d there ∙ job_now d p e)) ∙ h)

  seat_is : seat_of d ≡ seated ((state w ok.events).of s)
  seat_is = sym (seat_at seats i within s mine d there) ∙ ok.run.shows.seats s session

  -- the answers of the transaction can be counted, with one more
  runs_by : (o : Option Running) → IsSome (pending_in o) → is_running (record { begun = d.begun; running = option_map running_in o }) ≡ 1
  runs_by None e = absurd (cc)
  runs_by (Some x) e = refl

  live_by : (y : Local) (b : Bool) → y.live ≡ b → is_running (record { begun = y.begun; running = cond b (Some (running_of y)) None }) ≡ 1 → b ≡ true
  live_by y true e h = refl
  live_by y false e h = absurd (omega (arith, h))

  pub answers_fit : IsSome (pending_of d) → length labels + room < 2 ^ 64 → length_in (λ r. r.answers) (seat_of d).running + 1 < 2 ^ 64
  answers_fit some fits =
      let y : Local = (state w ok.events).of s in
      let one_runs : is_running (seat_of d) ≡ 1 = runs_by d.running some in
      let on : y.live ≡ true = live_by y y.live refl (ap is_running (sym seat_is) ∙ one_runs) in
      let c : length_in (λ r. r.answers) (seat_of d).running ≡ length y.done = ap (λ (r : Seated). length_in (λ q. q.answers) r.running) seat_is ∙ count_by y y.live on in
      let h = done_labels w ok.events s in
      let l : length labels ≡ length (labels_of ok.events) = ap (λ (ls : List Label). length ls) ok.run.shows.labels in
      let long' : i < length (map seat_of seats) = (let m = length_map seats in let b = within in omega (arith, m, b)) in
      let k = count_set (map seat_of seats) i empty_seat empty_seat long' in
      let at : s - 1 ≡ i = omega arith in
      let old : is_running (get_or (map seat_of seats) i empty_seat) ≡ 1 = ap (λ n. is_running (get_or (map seat_of seats) n empty_seat)) (sym at) ∙ (ap is_running (seat_at seats i within s mine d there) ∙ one_runs) in
      let lv = ok.live_is in
      let lf = ok.labels_fit in
      let none : is_running empty_seat ≡ 0 = refl in
      omega (arith, fits, c, h, l, k, old, lv, lf, none)

  -- ---- of the open statement
  module _ (p : Pending) (at : pending_of d ≡ Some p) (read : HasReadAll v s) (r : Reached) (is : IsReached w.settings (seen_rows s table) p.statement p.work (name_at s d) r) where
    open_at : (xs : List Event) → IsRunOf xs v → Opened ((state w xs).of s) p
    open_at xs run = opened w labels entries seats table index grants standing live room entry_room ok s i session within mine d there p at (kept_at.sound) xs run
      where
        kept_at : KeptPending p
        kept_at = subst (λ o. IfSome o KeptPending) at kept

    pending_is : KeptPending p
    pending_is = subst (λ o. IfSome o KeptPending) at kept

    guarded : IsReading p.statement → IsGuarded w ok.events s p.statement
    guarded reads = reads_guard w ok.events ok.staged ok.run.legal s p.statement reads (read ok.events ok.run p.statement (open_at ok.events ok.run).open_one)

    name_is : (job : Job) → job.name ≡ name_at s d → IsNameOf w ok.events s job
    name_is job e = record {
      session = ap (λ (n : JobName). n.session) e;
      transaction = ap (λ (n : JobName). n.transaction) e ∙ ap (λ (x : Seated). x.begun) seat_is;
      statement =
          let y : Local = (state w ok.events).of s in
          ap (λ (n : JobName). n.statement) e
          ∙ (add-one (length_in (λ q. q.answers) (seat_of d).running)
          ∙ ap (λ n. suc n) (ap (λ (x : Seated). length_in (λ q. q.answers) x.running) seat_is ∙ count_by y y.live (open_at ok.events ok.run).live));
    }

    -- what is kept of it afterwards
    work_by : (r : Reached) → IsReached w.settings (seen_rows s table) p.statement p.work (name_at s d) r → IsWork w ok.events table index grants s p.statement (settled r p).work
    work_by (reached.Answer a) h = pending_is.work
    work_by (reached.Again job) h = pending_is.work
    work_by (reached.Refine found job copy) h =
        let it = h.1 in record {
          name = name_is job it.name;
          asks = it.asks;
          items = subst (λ (rows : Rows). AreLeft w.settings rows p.statement job.items) seen it.items;
          some = it.some;
          guarded = guarded (query_reads p.statement (asked_query p.statement job it.asks));
          replies = λ ks keys. subst (λ (rows : Rows). IfSome (answer_of p.statement found ks) (Reply w.settings rows p.statement)) seen (it.replies ks keys);
        }
    work_by (reached.Writes change) h =
        let it = h.0 in record {
          writes = it.writes;
          change_for = it.change_for;
          behind = it.fresh grants s table index;
          selects = subst (λ (rows : Rows). Selects rows p.statement change.selected) seen it.selects;
          guarded = guarded;
        }

    refined_by : (r : Reached) → IsReached w.settings (seen_rows s table) p.statement p.work (name_at s d) r → HasRefinedAll w ok.events s p.statement (settled r p).work (settled r p).delivered
    refined_by (reached.Answer a) h = pending_is.refined
    refined_by (reached.Again job) h = pending_is.refined
    refined_by (reached.Refine found job copy) h = tt
    refined_by (reached.Writes change) h = by_left h.1
      where
        by_left : IsAllRefined w.settings (seen_rows s table) p.statement p.work → HasRefinedAll w ok.events s p.statement (work.Writes change) (was_delivered p.work p.delivered)
        by_left (inl e) = inl (delivered_by p.work p.delivered e)
        by_left (inr none) = inr (λ reads. subst (λ (rows : Rows). AreLeft w.settings rows p.statement []) seen (left_empty w.settings (seen_rows s table) p.statement none h.0.writes reads))

    pending_after : IsPending w ok.events table index grants s (settled r p).statement (settled r p).scan (settled r p).work (settled r p).delivered
    pending_after = record {
      sound = subst IsSoundStatement (sym (statement_same r p)) pending_is.sound;
      search = subst (λ (st : Statement). IfSome (settled r p).scan (IsSearching w ok.events table index grants s st)) (sym (statement_same r p)) (subst (λ o. IfSome o (IsSearching w ok.events table index grants s p.statement)) (sym (scan_same r p)) pending_is.search);
      work = subst (λ (st : Statement). IsWork w ok.events table index grants s st (settled r p).work) (sym (statement_same r p)) (work_by r is);
      refined = subst (λ (st : Statement). HasRefinedAll w ok.events s st (settled r p).work (settled r p).delivered) (sym (statement_same r p)) (refined_by r is);
    }

    some_mapped : (Q : Type 0) (o : Option Pending) → IfSome o (λ (q : Pending). Q) → IfSome (option_map (settled r) o) (λ (q : Pending). Q)
    some_mapped Q None h = tt
    some_mapped Q (Some q) h = h

    running_after : (o : Option Running) → pending_in o ≡ Some p → IfSome o (IsRunning w ok.events table index grants s) → IfSome (option_map (settled_in r) o) (IsRunning w ok.events table index grants s)
    running_after None e h = tt
    running_after (Some x) e h = record {
      cost = h.cost;
      pending = subst (λ o. IfSome (option_map (settled r) o) KeptPending) (sym e) pending_after;
      statement_room = some_mapped (1 ≤ x.statements.spare) x.pending h.statement_room;
      answer_room = some_mapped (1 ≤ x.answers.spare) x.pending h.answer_room;
    }

    pub seat_after : IsSeat w ok.events table index grants s (settled_at r d)
    seat_after = record { wish = own.wish; running = running_after d.running at own.running }

    -- ---- what follows
    abbrev x : Seat
    x = settled_at r d

    abbrev later : Shown
    later = shown_in w labels entries (set seats i x)

    job_before : job_in (map job_of seats) s ≡ job_in_pending (Some p)
    job_before = job_at seats i within s session mine d there ∙ job_now d p at

    -- the run's other ends leave the same state, and the same statement open
    statement_is : (xs : List Event) → IsRunOf xs v → (st : Statement) → ((state w xs).of s).open_one ≡ Some st → p.statement ≡ st
    statement_is xs run st open_one = one p.statement st (sym (open_at xs run).open_one ∙ open_one)

    alike : (xs : List Event) → IsRunOf xs v → state w ok.events ≡ state w xs
    alike xs run = same_state w labels entries seats table index grants standing live room entry_room ok s i session within mine d there p at pending_is.sound xs run

    job_for : (job : Job) → IsJobAt w ok.events s p.statement job → IsJobFor v s job
    job_for job h = λ xs run st open_one. subst (λ (q : Statement). IsJobAt w xs s q job) (statement_is xs run st open_one) (job_alike w ok.events xs (alike xs run) s p.statement job h)

    awaited : (st : Statement) (it : Work) (job : Job) → IsWork w ok.events table index grants s st it → job_in_work it ≡ Some job → IsJobAt w ok.events s st job
    awaited st work.Unread job h e = absurd (cc)
    awaited st (work.Awaits found j) job h e = subst (IsJobAt w ok.events s st) (inner e) (record { name = h.name; asks = h.asks; items = h.items; some = h.some })
      where
        inner : Some j ≡ Some job → j ≡ job
        inner f = cc
    awaited st (work.Refined found done) job h e = absurd (cc)
    awaited st (work.Writes change) job h e = absurd (cc)

    run_same : IsSameRun v later
    run_same = same_run seats i d x there (settled_seat r d) w labels entries

    answered : (a : Answer) → (Writes p.statement → ⊥) → Reply w.settings (seen_rows s table) p.statement a → WaitsForNone v s → IsNextAct v s (Replies a)
    answered a reads reply free =
        let z : State = state w ok.events in
        let fine = good w labels entries seats table index grants standing live room entry_room ok s i session within mine d there in
        let keys = keys_are w labels entries seats table index grants standing live room entry_room ok s i session within mine d there in
        let js = chosen w labels entries seats table index grants standing live room entry_room ok s i session within mine d there p at pending_is.sound in
        let none_read : first_unheld grants s (read_needs w.settings (store_keys table index) (seen_rows s table) p.statement) ≡ None =
        read_first w z fine s session table index grants ok.ties p.statement js.0 js.1 keys seen ∙ read ok.events ok.run p.statement (open_at ok.events ok.run).open_one in
        is_next w labels entries seats table index grants standing live room entry_room ok s i session within mine d there p at pending_is.sound free (Replies a)
        (answer_act w z fine s session table index grants ok.ties p.statement js.0 js.1 keys seen none_read (no_writes w.settings (store_keys table index) (seen_rows s table) grants s js.0 p.statement reads) a reply)

    open_reads : (Writes p.statement → ⊥) → OpenReads v s
    open_reads reads = λ xs run st open_one writes. reads (subst Writes (sym (statement_is xs run st open_one)) writes)

  -- what is given out follows
  module _ (p : Pending) (at : pending_of d ≡ Some p) (read : HasReadAll v s) (free : WaitsForNone v s) where
    same_seat : (r : Reached) → settled r p ≡ p → shown_in w labels entries (set seats i (settled_at r d)) ≡ v
    same_seat r e = shown_swapped seats i d (settled_at r d) there (settled_seat r d) (job_after r d p at ∙ (ap (λ (q : Pending). job_in_pending (Some q)) e ∙ sym (job_now d p at))) w labels entries

    pub prepares : (r : Reached) → IsReached w.settings (seen_rows s table) p.statement p.work (name_at s d) r → Prepares s v (shown_in w labels entries (set seats i (settled_at r d))) (prepared_of r)
    prepares (reached.Answer a) h = (same_seat (reached.Answer a) refl, answered p at read (reached.Answer a) h a h.0.reads h.0.reply free, open_reads p at read (reached.Answer a) h h.0.reads)
    prepares (reached.Again job) h =
        let r : Reached = reached.Again job in (
          run_same p at read r h,
          sets_job seats i within s session mine (settled_at r d) (waiting_for job) (job_after r d p at ∙ waited_by p.work p.delivered job h) w labels entries,
          job_for p at read r h job (awaited p at read r h p.statement p.work job (pending_is p at read r h).work h),
          ap (λ (x : Refining). x.delivered) (job_before p at read r h) ∙ undelivered p.work p.delivered job h,
        )
    prepares (reached.Refine found job copy) h =
        let r : Reached = reached.Refine found job copy in
        let kept_now = work_by p at read r h r h in
        let is_job : IsJobAt w ok.events s p.statement copy = subst (IsJobAt w ok.events s p.statement) (sym h.2) (record { name = kept_now.name; asks = kept_now.asks; items = kept_now.items; some = kept_now.some }) in (
          run_same p at read r h,
          sets_job seats i within s session mine (settled_at r d) (waiting_for copy) (job_after r d p at ∙ ap waiting_for (sym h.2)) w labels entries,
          job_for p at read r h copy is_job,
          ap (λ (x : Refining). x.delivered) (job_before p at read r h) ∙ ap (λ it. was_delivered it p.delivered) h.0,
        )
    prepares (reached.Writes change) h =
        let r : Reached = reached.Writes change in (
          run_same p at read r h,
          sets_job seats i within s session mine (settled_at r d) (record { job = None; delivered = (job_in (map job_of seats) s).delivered; writes = true })
              (job_after r d p at ∙ ap (λ b. record { job = None; delivered = b; writes = true }) (ap (λ (x : Refining). x.delivered) (sym (job_before p at read r h)))) w labels entries,
          ap (λ (x : Refining). x.job) (job_before p at read r h) ∙ h.2,
        )

    none_left : (r : Reached) → (is : IsReached w.settings (seen_rows s table) p.statement p.work (name_at s d) r) → (is_refined p.work ≡ true) ⊎ ((items : Rows) → AreLeft w.settings (seen_rows s table) p.statement items → items ≡ []) → HasNoneLeft v s
    none_left r is (inl e) = inl (ap (λ (x : Refining). x.delivered) (job_before p at read r is) ∙ delivered_by p.work p.delivered e)
    none_left r is (inr f) = inr (λ xs run st open_one items left.
        f items (subst (λ (q : Statement). AreLeft w.settings (seen_rows s table) q items) (sym (statement_is p at read r is xs run st open_one))
        (subst (λ (rows : Rows). AreLeft w.settings rows st items) (ap (λ (z : State). view z s) (sym (alike p at read r is xs run)) ∙ sym seen) left)))

    pub leaves_none : (r : Reached) → IsReached w.settings (seen_rows s table) p.statement p.work (name_at s d) r → IsNoJob (prepared_of r) → HasNoneLeft v s
    leaves_none (reached.Answer a) h quiet = none_left (reached.Answer a) h h.1
    leaves_none (reached.Writes change) h quiet = none_left (reached.Writes change) h h.1
    leaves_none (reached.Again job) h quiet = absurd quiet
    leaves_none (reached.Refine found job copy) h quiet = absurd quiet

  -- ---- all of it, by what the seat has come to
  abbrev Comes : Reached → Type 0
  Comes r = IfSome (pending_of d) (λ (p : Pending). IsReached w.settings (seen_rows s table) p.statement p.work (name_at s d) r)

  with_pending : (P : Type 0) (o : Option Pending) → pending_of d ≡ o → IsSome o → ((p : Pending) → pending_of d ≡ Some p → P) → P
  with_pending P None e some f = absurd (cc)
  with_pending P (Some p) e some f = f p e

  comes_at : (r : Reached) (p : Pending) → pending_of d ≡ Some p → Comes r → IsReached w.settings (seen_rows s table) p.statement p.work (name_at s d) r
  comes_at r p at h = subst (λ o. IfSome o (λ (q : Pending). IsReached w.settings (seen_rows s table) q.statement q.work (name_at s d) r)) at h

  module _ (some : IsSome (pending_of d)) (read : HasReadAll v s) (r : Reached) (comes : Comes r) where
    pub comes_engine : IsEngine (shown_in w labels entries (set seats i (settled_at r d))) table index grants standing (set seats i (settled_at r d)) live room entry_room
    comes_engine = with_pending _ (pending_of d) refl some
        (λ p at. run_engine seats i d (settled_at r d) there (settled_seat r d) w labels entries table index grants standing live room entry_room ok s within mine (seat_after p at read r (comes_at r p at comes)))

    pub comes_prepares : WaitsForNone v s → Prepares s v (shown_in w labels entries (set seats i (settled_at r d))) (prepared_of r)
    comes_prepares free = with_pending _ (pending_of d) refl some (λ p at. prepares p at read free r (comes_at r p at comes))

    pub comes_left : WaitsForNone v s → IsNoJob (prepared_of r) → HasNoneLeft v s
    comes_left free quiet = with_pending _ (pending_of d) refl some (λ p at. leaves_none p at read free r (comes_at r p at comes) quiet)
