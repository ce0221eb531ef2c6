-- The change of a session's open statement is finished: it may be, and what is shown and kept then.
use Rattle.std.specs.Prelude.{map, ◌-◌, IfSome, IsSome}
use Rattle.std.specs.Option.{option_map}
use Rattle.std.proofs.Common.{◌≡◌, ℕ, ◌+◌, ◌≤◌, ◌<◌, true, List, [], ◌∷◌, ◌++◌, length, get_or, set, slice_get, Option, Some, None, refl, sym, ap, ◌∙◌, subst, arith}
use Rattle.std.proofs.lemmas.List.{get_or-map}
use Rattle.std.proofs.lemmas.Option.{slice_get-get_or}
use Rattle.sg_cells.specs.declared.keys.Key.{Key}
use Rattle.sg_cells.specs.declared.settings.Settings.{Settings}
use Rattle.sg_locks.specs.Grants.{Grant}
use Rattle.sg_modes.specs.Sessions.{IsSession}
use Rattle.sg_modes.specs.Waits.{Wait}
use Rattle.sg_plain.specs.declared.statements.Statement.{Statement}
use Rattle.sg_plain.specs.declared.statements.Statement.TheVariants.{Insert, Update, Delete, Get, Select, Plan, Filter, DeleteWhere}
use Rattle.sg_plain.specs.declared.statements.Answer.{Answer}
use Rattle.sg_plain.specs.declared.statements.Answer.TheVariants as answer
use Rattle.sg_plain.specs.Rows.{Rows}
use Rattle.sg_plain.specs.Sat.{IsSoundStatement, Satisfies}
use Rattle.sg_plain.specs.Serial.{Entry}
use Rattle.sg_plain.proofs.Collects.{IsKeysWith-unique}
use Rattle.sg_rows.specs.Table.{TableRow}
use Rattle.sg_cellrows.specs.CellTable.{CellRow}
use Rattle.sg_trace.specs.declared.labels.Label.{Label}
use Rattle.sg_trace.specs.declared.labels.Label.TheVariants as label
use Rattle.sg_trace.specs.Needs.{Need, Selects, first_unmet}
use Rattle.sg_trace.specs.Replies.{Reply}
use Rattle.sg_trace.specs.Traces.{Stage, Event, Answered, State, state, view}
use Rattle.sg_trace.specs.Legal.{IsAct, IsActFor, Fits, Replies, needs_of}
use Rattle.sg_stores.specs.Agreement.{seen_rows}
use Rattle.sg_laws.proofs.Kept.{Good, legal_good, none_unmet}
use Rattle.sg_writes.specs.declared.changes.Change.{Change}
use Rattle.sg_writes.specs.Changes.{Writes, IsChangeFor}
use Rattle.sg_writes.specs.Finished.{IsAlone, IsFinished, Finishes}
use Rattle.sg_engine.specs.declared.shared.Work.{Work}
use Rattle.sg_engine.specs.declared.shared.Work.TheVariants as work
use Rattle.sg_engine.specs.declared.shared.Pending.{Pending}
use Rattle.sg_engine.specs.declared.shared.Running.{Running}
use Rattle.sg_engine.specs.declared.shared.Seat.{Seat}
use Rattle.sg_engine.specs.Shown.{Shown, Refining, job_in, no_job, running_of, IsRunOf}
use Rattle.sg_engine.specs.Shown as shown
use Rattle.sg_engine.specs.Inside.{running_in, job_of, job_in_running, job_in_pending, is_writing, shown_in, OnRunning, SeatChanges}
use Rattle.sg_engine.specs.Ends.{EndsJob}
use Rattle.sg_engine.specs.Searches.{pending_in}
use Rattle.sg_engine.specs.Steps.{IsAllMet, HasAllMet}
use Rattle.sg_engine.specs.Answers.{HasRoom, IsAnsweredBy, IsAnswered, change_in_work, change_in, change_of, unwritten_one, unwritten_in, unwritten, TellsOf}
use Rattle.sg_engine.specs.Phases.{IsPending, IsRunning, IsWork, IsWriting}
use Rattle.sg_engine.specs.Ties.{Ties, IsEngine}
use Rattle.sg_engine.proofs.Alone.{is_alone}
use Rattle.sg_engine.proofs.Answered.{write_ties}
use Rattle.sg_engine.proofs.Replied.{view_is}
use Rattle.sg_engine.proofs.Answering.{inside, own, running_is, has_room, answer_runs, answer_jobs, answer_engine}

-- ---- the change at a seat
writes_some : (it : Work) → is_writing it ≡ true → IsSome (change_in_work it)
writes_some work.Unread h = absurd (cc)
writes_some (work.Awaits found job) h = absurd (cc)
writes_some (work.Refined found done) h = absurd (cc)
writes_some (work.Writes change) h = refl

pending_writes : (o : Option Pending) → (job_in_pending o).writes ≡ true → IsSome (change_in o)
pending_writes None h = absurd (cc)
pending_writes (Some p) h = writes_some p.work h

running_writes : (o : Option Running) → (job_in_running o).writes ≡ true → IsSome (change_in (pending_in o))
running_writes None h = absurd (cc)
running_writes (Some r) h = pending_writes r.pending h

-- the transaction has this change
record HasChange (o : Option Running) (change : Change) : Type 0 where
  pub running : Running
  pub pending : Pending
  pub is_running : o ≡ Some running
  pub is_pending : running.pending ≡ Some pending
  pub is_change : pending.work ≡ work.Writes change

work_is : (it : Work) (change : Change) → change_in_work it ≡ Some change → it ≡ work.Writes change
work_is work.Unread change e = absurd (cc)
work_is (work.Awaits found job) change e = absurd (cc)
work_is (work.Refined found done) change e = absurd (cc)
work_is (work.Writes it) change e = cc

change_at : (o : Option Running) (change : Change) → change_in (pending_in o) ≡ Some change → HasChange o change
change_at None change e = absurd (cc)
change_at (Some r) change e = by_pending r.pending refl e
  where
    by_pending : (q : Option Pending) → r.pending ≡ q → change_in q ≡ Some change → HasChange (Some r) change
    by_pending None at e = absurd (cc)
    by_pending (Some p) at e = record { running = r; pending = p; is_running = refl; is_pending = at; is_change = work_is p.work change e }

-- ---- without its change
module _ (a : Answer) where
  pending_back : (o : Option Pending) (p q : Running) → IsAnsweredBy a (option_map unwritten_one o) (unwritten_in p) q → IsAnsweredBy a o p q
  pending_back None p q h = absurd h
  pending_back (Some r) p q h = record { statements = h.statements; answers = h.answers; pending = h.pending; cost = h.cost }

  running_back : (o u : Option Running) → OnRunning (IsAnswered a) (option_map unwritten_in o) u → OnRunning (IsAnswered a) o u
  running_back None None h = tt
  running_back None (Some q) h = absurd h
  running_back (Some p) None h = absurd h
  running_back (Some p) (Some q) h = pending_back p.pending p q h

  -- a seat that was answered then was answered
  pub answered_back : (d x : Seat) → SeatChanges (IsAnswered a) (unwritten d) x → SeatChanges (IsAnswered a) d x
  answered_back d x h = record { begun = h.begun; wish = h.wish; running = running_back d.running x.running h.running }

some_still : (o : Option Pending) → IsSome o → IsSome (option_map unwritten_one o)
some_still None h = absurd (cc)
some_still (Some p) h = refl

room_still : (o : Option Running) → HasRoom o → HasRoom (option_map unwritten_in o)
room_still None h = absurd h
room_still (Some r) h = (some_still r.pending h.0, h.1, h.2)

-- ---- the answer
-- it tells the keys that are selected, where it tells any
tells_of : (c : Settings) (V : Rows) (st : Statement) (a : Answer) (ks : List ℕ) → Writes st → Selects V st ks → Reply c V st a → TellsOf ks a
tells_of c V (Insert k h) answer.Inserted ks does sel r = tt
tells_of c V (Insert k h) answer.Duplicate ks does sel r = tt
tells_of c V (Insert k h) _ ks does sel r = absurd r
tells_of c V (Update k h) answer.Done ks does sel r = tt
tells_of c V (Update k h) answer.Missing ks does sel r = tt
tells_of c V (Update k h) _ ks does sel r = absurd r
tells_of c V (Delete k) answer.Done ks does sel r = tt
tells_of c V (Delete k) answer.Missing ks does sel r = tt
tells_of c V (Delete k) _ ks does sel r = absurd r
tells_of c V (DeleteWhere q) (answer.Deleted js) ks does sel r = IsKeysWith-unique (Satisfies q) V js ks r sel
tells_of c V (DeleteWhere q) _ ks does sel r = absurd r
tells_of c V (Get k) a ks does sel r = absurd does
tells_of c V (Select q) a ks does sel r = absurd does
tells_of c V (Plan q) a ks does sel r = absurd does
tells_of c V (Filter f) a ks does sel r = absurd does

-- a statement selects these keys and no others
selected_one : (V : Rows) (st : Statement) (js ks : List ℕ) → Selects V st js → Selects V st ks → js ≡ ks
selected_one V (DeleteWhere q) js ks h g = IsKeysWith-unique (Satisfies q) V js ks h g
selected_one V (Insert k s) js ks h g = h ∙ sym g
selected_one V (Update k s) js ks h g = h ∙ sym g
selected_one V (Delete k) js ks h g = h ∙ sym g
selected_one V (Get k) js ks h g = h ∙ sym g
selected_one V (Select q) js ks h g = h ∙ sym g
selected_one V (Plan q) js ks h g = h ∙ sym g
selected_one V (Filter f) js ks h g = h ∙ sym g

-- ---- the engine
module _ (w : Stage) (labels : List Label) (entries : List Entry) (seats : List Seat) (table : List TableRow) (index : List CellRow) (grants : List (Grant Key)) (standing : List Wait) (live room entry_room : ℕ)
    (ok : IsEngine (shown_in w labels entries seats) table index grants standing seats live room entry_room)
    (s i : ℕ) (session : IsSession s) (below : i < 64) (mine : i + 1 ≡ s) where
  abbrev v : Shown
  v = shown_in w labels entries seats

  abbrev z : State
  z = state w ok.events

  good : Good w (state w ok.events)
  good = legal_good w ok.staged ok.events ok.run.legal

  seen_is : seen_rows s table ≡ view (state w ok.events) s
  seen_is = view_is w (state w ok.events) good s session table index grants ok.ties

  module _ (d : Seat) (there : d ≡ get_or seats i d) where
    within : i < length seats
    within = inside w labels entries seats table index grants standing live room entry_room ok s i session below mine d there

    job_is : job_in (map job_of seats) s ≡ job_of d
    job_is =
        let at : s - 1 ≡ i = omega (arith, mine) in
        ap (λ n. get_or (map job_of seats) n no_job) at ∙ (get_or-map job_of seats i d no_job within ∙ ap job_of (sym there))

    pub has_change : (job_in v.jobs s).writes ≡ true → IsSome (change_of d)
    has_change writes = running_writes d.running (ap (λ (r : Refining). r.writes) (sym job_is) ∙ writes)

    -- it is the seat that was read before
    same_seat : (j : ℕ) → j + 1 ≡ s → (e : Seat) → e ≡ get_or seats j e → e ≡ d
    same_seat j place e at =
        let same : j ≡ i = omega (arith, place, mine) in
        let a : slice_get seats i ≡ Some e = slice_get-get_or seats i e within ∙ ap (λ y. Some y) (ap (λ n. get_or seats n e) (sym same) ∙ sym at) in
        let b : slice_get seats i ≡ Some d = slice_get-get_or seats i d within ∙ ap (λ y. Some y) (sym there) in
        let c : Some e ≡ Some d = sym a ∙ b in
        cc

    module _ (met : HasAllMet (shown_in w labels entries seats) s) where
      all : IsAllMet w ok.events s
      all = met ok.events ok.run

      pub still_room : HasRoom (unwritten d).running
      still_room =
          room_still d.running (has_room w labels entries seats table index grants standing live room entry_room ok s i session below mine d there all.st all.is_open)

      module _ (change : Change) (at_change : change_of d ≡ Some change) where
        here : HasChange d.running change
        here = change_at d.running change at_change

        running_kept : IsRunning w ok.events table index grants s here.running
        running_kept =
            subst (λ o. IfSome o (IsRunning w ok.events table index grants s)) here.is_running
            (own w labels entries seats table index grants standing live room entry_room ok s i session below mine d there).running

        pending_kept : IsPending w ok.events table index grants s here.pending.statement here.pending.scan here.pending.work here.pending.delivered
        pending_kept = subst (λ o. IfSome o (λ (p : Pending). IsPending w ok.events table index grants s p.statement p.scan p.work p.delivered)) here.is_pending running_kept.pending

        writing : IsWriting w ok.events table index grants s here.pending.statement change
        writing = subst (IsWork w ok.events table index grants s here.pending.statement) here.is_change pending_kept.work

        open_is : here.pending.statement ≡ all.st
        open_is =
            let shows : option_map running_in d.running ≡ Some (running_of (z.of s)) =
            running_is w labels entries seats table index grants standing live room entry_room ok s i session below mine d there all.st all.is_open in
            let same : Some (running_in here.running) ≡ Some (running_of (z.of s)) = sym (ap (option_map running_in) here.is_running) ∙ shows in
            let inner : running_in here.running ≡ running_of (z.of s) = cc in
            let ones : Some here.pending.statement ≡ Some all.st =
            sym (ap (option_map (λ (p : Pending). p.statement)) here.is_pending) ∙ (ap (λ (r : shown.Running). r.open_one) inner ∙ all.is_open.open_one) in
            cc

        is_for : IsChangeFor w.settings all.st change.selected change
        is_for = subst (λ st. IsChangeFor w.settings st change.selected change) open_is writing.change_for

        does : Writes all.st
        does = subst Writes open_is writing.writes

        selects : Selects (view z s) all.st change.selected
        selects = subst (λ st. Selects (view z s) st change.selected) open_is writing.selects

        none_left : first_unmet (z.of s).held (needs_of w z s all.st change.selected) ≡ None
        none_left = subst (λ js. first_unmet (z.of s).held (needs_of w z s all.st js) ≡ None) (selected_one (view z s) all.st all.selected change.selected all.selects selects) all.none

        -- so it may be finished
        pub change_writes : Writes change.statement
        change_writes = subst Writes (sym is_for.statement) does

        pub change_sound : IsSoundStatement change.statement
        change_sound = subst IsSoundStatement (sym is_for.statement) (subst IsSoundStatement open_is pending_kept.sound)

        pub change_alone : IsAlone s table index change
        change_alone =
            is_alone w z good s all.st change.selected selects (none_unmet (z.of s) (needs_of w z s all.st change.selected) none_left) session table index grants ok.ties change is_for

        -- ---- and once it is
        module _ (table' : List TableRow) (index' : List CellRow) (a : Answer) (finishes : Finishes s table index table' index' change a) where
          seen_selects : Selects (seen_rows s table) all.st change.selected
          seen_selects = subst (λ (r : Rows). Selects r all.st change.selected) (sym seen_is) selects

          finished : IsFinished w.settings all.st s table index table' index' a
          finished = finishes w.settings all.st change.selected is_for good.sound.settings (ok.ties.cells_seen s session) seen_selects

          -- it tells the keys that were read at the seat before
          pub tells : (keys found : List ℕ) → keys ≡ found → (j : ℕ) → j + 1 ≡ s → (e : Seat) → e ≡ get_or seats j e → IfSome (change_of e) (λ it. found ≡ it.selected) → TellsOf keys a
          tells keys found same j place e at read =
              let own : change_of e ≡ Some change = ap change_of (same_seat j place e at) ∙ at_change in
              let is : found ≡ change.selected = subst (λ o. IfSome o (λ (it : Change). found ≡ it.selected)) own read in
              subst (λ ks. TellsOf ks a) (sym (same ∙ is)) (tells_of w.settings (seen_rows s table) all.st a change.selected does seen_selects finished.reply)

          act : IsAct w z s all.st (Replies a)
          act = record {
            selected = change.selected;
            selects = selects;
            follows = subst (λ (o : Option Need). IsActFor w z s all.st o (Replies a)) (sym none_left) (subst (λ (r : Rows). Reply w.settings r all.st a) seen_is finished.reply);
          }

          fits : Fits w ok.events (Answered s a)
          fits = (all.st, all.is_open, act)

          ties : Ties w.settings (state w (Answered s a ∷ ok.events)) table' index' grants
          ties = write_ties w ok.events s all.st a all.is_open.open_one good session does act table table' index index' grants ok.ties finished

          module _ (x : Seat) (changes : SeatChanges (IsAnswered a) (unwritten d) x) (labels' : List Label) (pushed : labels' ≡ labels ++ label.Answer s a ∷ []) where
            changed : SeatChanges (IsAnswered a) d x
            changed = answered_back a d x changes

            pub write_runs : (xs : List Event) → IsRunOf xs v → IsRunOf (Answered s a ∷ xs) (shown_in w labels' entries (set seats i x))
            write_runs = answer_runs w labels entries seats table index grants standing live room entry_room ok s i session below mine d there all.st all.is_open a x changed labels' pushed fits

            pub write_jobs : EndsJob s v (shown_in w labels' entries (set seats i x))
            write_jobs = answer_jobs w labels entries seats table index grants standing live room entry_room ok s i session below mine d there all.st all.is_open a x changed labels' pushed fits

            pub write_engine : (room' : ℕ) → live ≤ room' → IsEngine (shown_in w labels' entries (set seats i x)) table' index' grants standing (set seats i x) live room' entry_room
            write_engine = answer_engine w labels entries seats table index grants standing live room entry_room ok s i session below mine d there all.st all.is_open a x changed labels' pushed fits table' index' ties
