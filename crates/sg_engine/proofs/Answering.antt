-- The open statement of a session is answered: what is shown then, and the engine after it.
use Rattle.std.specs.Prelude.{map, is_some, ◌-◌, IfSome, IsSome}
use Rattle.std.specs.Option.{option_map}
use Rattle.std.proofs.Common.{◌≡◌, ℕ, ◌+◌, ◌≤◌, ◌<◌, Bool, true, false, cond, List, [], ◌∷◌, ◌++◌, length, get_or, set, Option, Some, None, refl, sym, ap, ◌∙◌, subst, arith, get_or-set_same, get_or-set_other}
use Rattle.std.proofs.lemmas.List.{length-set, map-set, get_or-map}
use Rattle.sg_locks.specs.Grants.{Grant}
use Rattle.sg_cells.specs.declared.keys.Key.{Key}
use Rattle.sg_modes.specs.Sessions.{IsSession}
use Rattle.sg_modes.specs.Waits.{Wait}
use Rattle.sg_plain.specs.declared.statements.Statement.{Statement}
use Rattle.sg_plain.specs.declared.statements.Answer.{Answer}
use Rattle.sg_plain.specs.Serial.{Entry}
use Rattle.sg_rows.specs.Table.{TableRow}
use Rattle.sg_cellrows.specs.CellTable.{CellRow}
use Rattle.sg_trace.specs.declared.labels.Label.{Label}
use Rattle.sg_trace.specs.declared.labels.Label.TheVariants as label
use Rattle.sg_trace.specs.Traces.{Stage, Event, Answered, Local, state, after, answered}
use Rattle.sg_trace.specs.Legal.{IsLegal, IsOpen, Fits, Replies, statements_of, answers_of, cost}
use Rattle.sg_engine.specs.declared.shared.Seat.{Seat}
use Rattle.sg_engine.specs.declared.shared.Running as raw
use Rattle.sg_engine.specs.declared.shared.Pending.{Pending}
use Rattle.sg_engine.specs.Shown.{Shown, Seated, Running, Refining, empty_seat, running_of, seated, no_job, IsRunOf}
use Rattle.sg_engine.specs.Inside.{seat_of, running_in, job_of, job_in_running, job_in_pending, shown_in, OnRunning, SeatChanges}
use Rattle.sg_engine.specs.Ends.{EndsJob}
use Rattle.sg_engine.specs.Nexts.{IsNextAct}
use Rattle.sg_engine.specs.Steps.{OpenReads}
use Rattle.sg_engine.specs.Answers.{HasRoom, IsAnsweredBy, IsAnswered}
use Rattle.sg_engine.specs.Phases.{IsPending, IsRunning, IsSeat}
use Rattle.sg_engine.specs.Ties.{Ties, IsEngine, is_running, running_count}
use Rattle.sg_engine.proofs.Seats.{seat_at, length_map, count_set}
use Rattle.sg_engine.proofs.Begins.{seats_after, long, within_is}
use Rattle.sg_engine.proofs.Rooms.{run_with, told_running}
use Rattle.sg_engine.proofs.Kept.{seats_on, own_seat}
use Rattle.sg_engine.proofs.Passes.{Side}
use Rattle.sg_engine.proofs.Stays.{passed_stays, behind_stays}
use Rattle.sg_engine.proofs.Runs.{appends_by}
use Rattle.sg_engine.proofs.Answered.{held_same, read_ties}

-- ---- one seat
abbrev statement_in : Option Pending → Option Statement
statement_in o = option_map (λ (p : Pending). p.statement) o

-- with its open statement kept with an answer
abbrev kept_with : Answer → List Statement → List Answer → Option Statement → Running
kept_with a xs ys None = run_with xs ys None
kept_with a xs ys (Some st) = run_with (xs ++ st ∷ []) (ys ++ a ∷ []) None

module _ (a : Answer) where
  kept_by : (o : Option Pending) (p q : raw.Running) → IsAnsweredBy a o p q → running_in q ≡ kept_with a p.statements.items p.answers.items (statement_in o)
  kept_by None p q h = absurd h
  kept_by (Some x) p q h = told_running q.statements.items (p.statements.items ++ x.statement ∷ []) q.answers.items (p.answers.items ++ a ∷ []) (statement_in q.pending) None h.statements h.answers (ap statement_in h.pending)

  abbrev kept_in : Running → Running
  kept_in r = kept_with a r.statements r.answers r.open_one

  answered_by : (p q : Option raw.Running) → OnRunning (IsAnswered a) p q → option_map running_in q ≡ option_map kept_in (option_map running_in p)
  answered_by None None h = refl
  answered_by None (Some q) h = absurd h
  answered_by (Some p) None h = absurd h
  answered_by (Some p) (Some q) h = ap (λ r. Some r) (kept_by p.pending p q h)

  abbrev with_answer : Seated → Seated
  with_answer x = record { begun = x.begun; running = option_map kept_in x.running }

  abbrev seat_with : ℕ → Option Running → Seated
  seat_with n o = record { begun = n; running = o }

  pub answered_seat : (d x : Seat) → SeatChanges (IsAnswered a) d x → seat_of x ≡ with_answer (seat_of d)
  answered_seat d x h = ap (λ n. seat_with n (option_map running_in x.running)) h.begun ∙ ap (seat_with d.begun) (answered_by d.running x.running h.running)

  -- which is what the trace leaves
  left_by : (y : Local) (st : Statement) (b : Bool) → y.open_one ≡ Some st → with_answer (record { begun = y.begun; running = cond b (Some (running_of y)) None }) ≡ record { begun = y.begun; running = cond b (Some (running_of (answered y (Some st) a))) None }
  left_by y st true e = ap (λ o. record { begun = y.begun; running = Some (kept_with a (statements_of y.done) (answers_of y.done) o) }) e
  left_by y st false e = refl

  left_seated : (y : Local) (st : Statement) → y.open_one ≡ Some st → with_answer (seated y) ≡ seated (answered y y.open_one a)
  left_seated y st e = left_by y st y.live e ∙ sym (ap (λ o. seated (answered y o a)) e)

  -- no job is left
  gone_by : (o : Option Pending) (p q : raw.Running) → IsAnsweredBy a o p q → job_in_pending q.pending ≡ no_job
  gone_by None p q h = absurd h
  gone_by (Some x) p q h = ap job_in_pending h.pending

  gone : (p q : Option raw.Running) → OnRunning (IsAnswered a) p q → job_in_running q ≡ no_job
  gone None None h = refl
  gone None (Some q) h = absurd h
  gone (Some p) None h = absurd h
  gone (Some p) (Some q) h = gone_by p.pending p q h

-- ---- jobs
module _ (seats : List Seat) (s i : ℕ) (within : i < length seats) (mine : i + 1 ≡ s) (x : Seat) (none : job_of x ≡ no_job) (w w' : Stage) (labels labels' : List Label) (entries entries' : List Entry) where
  abbrev jobs' : List Refining
  jobs' = map job_of (set seats i x)

  pub job_gone : EndsJob s (shown_in w labels entries seats) (shown_in w' labels' entries' (set seats i x))
  job_gone = record {
    own =
        let at : s - 1 ≡ i = omega arith in
        let far : i < length (set seats i x) = (let l = length-set seats i x in omega (arith, l, within)) in
        ap (λ n. get_or jobs' n no_job) at ∙ (get_or-map job_of (set seats i x) i x no_job far ∙ (ap job_of (get_or-set_same seats i x x within) ∙ none));
    others = λ u is ne.
        let low = is.0 in
        ap (λ xs. get_or xs (u - 1) no_job) (map-set job_of seats i x) ∙ get_or-set_other (map job_of seats) i (u - 1) (job_of x) no_job (λ e. ne (omega (arith, e, mine, low)));
  }

-- ---- the engine
module _ (w : Stage) (labels : List Label) (entries : List Entry) (seats : List Seat) (table : List TableRow) (index : List CellRow) (grants : List (Grant Key)) (standing : List Wait) (live room entry_room : ℕ)
    (ok : IsEngine (shown_in w labels entries seats) table index grants standing seats live room entry_room)
    (s i : ℕ) (session : IsSession s) (below : i < 64) (mine : i + 1 ≡ s) (d : Seat) (there : d ≡ get_or seats i d) where
  abbrev v : Shown
  v = shown_in w labels entries seats

  abbrev y : Local
  y = (state w ok.events).of s

  pub inside : i < length seats
  inside = within_is w labels entries seats table index grants standing live room entry_room ok s i session below mine d there

  pub seat_is : seat_of d ≡ seated y
  seat_is = sym (seat_at seats i inside s mine d there) ∙ ok.run.shows.seats s session

  pub own : IsSeat w ok.events table index grants s d
  own = own_seat w ok.events table index grants seats s i inside mine d there ok.kept

  module _ (st : Statement) (is_open : IsOpen w ok.events s st) where
    pub running_is : option_map running_in d.running ≡ Some (running_of y)
    running_is = ap (λ (r : Seated). r.running) seat_is ∙ ap (λ b. cond b (Some (running_of y)) None) is_open.live

    pending_some : (o : Option Pending) → statement_in o ≡ Some st → IsSome o
    pending_some None e = absurd (cc)
    pending_some (Some p) e = refl

    roomy : (o : Option Pending) (n : ℕ) → IsSome o → IfSome o (λ (p : Pending). 1 ≤ n) → 1 ≤ n
    roomy None n e h = absurd (cc)
    roomy (Some p) n e h = h

    room_by : (o : Option raw.Running) → option_map running_in o ≡ Some (running_of y) → IfSome o (IsRunning w ok.events table index grants s) → HasRoom o
    room_by None e h = absurd (cc)
    room_by (Some r) e h =
        let same : running_in r ≡ running_of y = cc in
        let some = pending_some r.pending (ap (λ (q : Running). q.open_one) same ∙ is_open.open_one) in
        (some, roomy r.pending r.statements.spare some h.statement_room, roomy r.pending r.answers.spare some h.answer_room)

    -- the seat has a statement open, and room to keep it
    pub has_room : HasRoom d.running
    has_room = room_by d.running running_is own.running

    module _ (a : Answer) (x : Seat) (changes : SeatChanges (IsAnswered a) d x) (labels' : List Label) (pushed : labels' ≡ labels ++ label.Answer s a ∷ []) (fits : Fits w ok.events (Answered s a)) where
      abbrev e : Event
      e = Answered s a

      abbrev later : Shown
      later = shown_in w labels' entries (set seats i x)

      left : seat_of x ≡ seated (after e y)
      left = answered_seat a d x changes ∙ (ap (with_answer a) seat_is ∙ left_seated a y st is_open.open_one)

      legal : IsLegal w (e ∷ ok.events)
      legal = (ok.run.legal, fits, ok.run.settled)

      run : IsRunOf (e ∷ ok.events) later
      run = record {
        shows = record {
          labels = pushed ∙ ap (λ (ls : List Label). ls ++ label.Answer s a ∷ []) ok.run.shows.labels;
          journal = ok.run.shows.journal;
          seats = seats_after w ok.events e seats i inside mine x ok.run.shows.seats left;
        };
        legal = legal;
        settled = ok.run.settled;
      }

      -- whatever events led here
      pub answer_runs : (xs : List Event) → IsRunOf xs v → IsRunOf (e ∷ xs) later
      answer_runs xs other = appends_by v later ok.staged refl (e ∷ []) ok.events ok.run run xs other

      pub answer_jobs : EndsJob s v later
      answer_jobs = job_gone seats s i inside mine x (gone a d.running x.running changes.running) w w labels labels' entries entries

      some_map : (f : Running → Running) (o : Option Running) → is_some (option_map f o) ≡ is_some o
      some_map f None = refl
      some_map f (Some r) = refl

      counts : live ≡ running_count (map seat_of (set seats i x))
      counts =
          let long' : i < length (map seat_of seats) = (let l = ok.seats in let n = long w labels entries seats table index grants standing live room entry_room ok in omega (arith, l, n, below)) in
          let c = count_set (map seat_of seats) i (seat_of x) empty_seat long' in
          let at : s - 1 ≡ i = omega arith in
          let same : is_running (seat_of x) ≡ is_running (seat_of d) = ap is_running (answered_seat a d x changes) ∙ ap (λ b. cond b 1 0) (some_map (kept_in a) (seat_of d).running) in
          let old : is_running (get_or (map seat_of seats) i empty_seat) ≡ is_running (seat_of d) =
          ap (λ m. is_running (get_or (map seat_of seats) m empty_seat)) (sym at) ∙ ap is_running (seat_at seats i inside s mine d there) in
          let l = ok.live_is in
          let m : running_count (map seat_of (set seats i x)) ≡ running_count (set (map seat_of seats) i (seat_of x)) = ap running_count (map-set seat_of seats i x) in
          omega (arith, c, same, old, l, m)

      module _ (table' : List TableRow) (index' : List CellRow) (ties : Ties w.settings (state w (Answered s a ∷ ok.events)) table' index' grants) (room' : ℕ) (enough : live ≤ room') where
        by_pending : (o : Option Pending) (p q : raw.Running) → IsAnsweredBy a o p q → IsRunning w ok.events table index grants s p → IsRunning w (e ∷ ok.events) table' index' grants s q
        by_pending None p q h k = absurd h
        by_pending (Some r) p q h k = record {
          cost = h.cost ∙ (k.cost ∙ ap cost (sym (held_same w ok.events s st a is_open.open_one s)));
          pending = subst (λ o. IfSome o (λ (p : Pending). IsPending w (e ∷ ok.events) table' index' grants s p.statement p.scan p.work p.delivered)) (sym h.pending) tt;
          statement_room = subst (λ o. IfSome o (λ (p : Pending). 1 ≤ q.statements.spare)) (sym h.pending) tt;
          answer_room = subst (λ o. IfSome o (λ (p : Pending). 1 ≤ q.answers.spare)) (sym h.pending) tt;
        }

        by_running : (o u : Option raw.Running) → OnRunning (IsAnswered a) o u → IfSome o (IsRunning w ok.events table index grants s) → IfSome u (IsRunning w (e ∷ ok.events) table' index' grants s)
        by_running None None h k = tt
        by_running None (Some q) h k = absurd h
        by_running (Some p) None h k = absurd h
        by_running (Some p) (Some q) h k = by_pending p.pending p q h k

        now_kept : IsSeat w (e ∷ ok.events) table' index' grants s x
        now_kept = record { wish = changes.wish ∙ own.wish; running = by_running d.running x.running changes.running own.running }

        before : Side w ok.events table index grants
        before = record { legal = ok.run.legal; ties = ok.ties }

        then : Side w (e ∷ ok.events) table' index' grants
        then = record { legal = legal; ties = ties }

        pub answer_engine : IsEngine later table' index' grants standing (set seats i x) live room' entry_room
        answer_engine = record {
          events = e ∷ ok.events;
          staged = ok.staged;
          run = run;
          ties = ties;
          waits_are = ok.waits_are;
          kept = seats_on w ok.events seats (long w labels entries seats table index grants standing live room entry_room ok) ok.run.shows.seats ok.staged e legal i mine x table index grants table' index' grants
              (λ u is ne st scan h. passed_stays w ok.staged u is e ok.events ne table index grants before table' index' grants then st scan h.scan_for h.passed)
              (λ u is ne st change h. behind_stays w ok.staged u is e ok.events ne table index grants before table' index' grants then change h.behind) ok.kept now_kept inside;
          seats = length_map (set seats i x) ∙ (length-set seats i x ∙ long w labels entries seats table index grants standing live room entry_room ok);
          live_is = counts;
          labels_fit = enough;
          entries_fit = ok.entries_fit;
        }

  -- ---- of a statement that writes nothing
  module _ (a : Answer) (next : IsNextAct v s (Replies a)) (reads : OpenReads v s) where
    abbrev st : Statement
    st = (next ok.events ok.run).0

    abbrev is_open : IsOpen w ok.events s st
    is_open = (next ok.events ok.run).1

    pub read_room : HasRoom d.running
    read_room = has_room st is_open

    module _ (x : Seat) (changes : SeatChanges (IsAnswered a) d x) (labels' : List Label) (pushed : labels' ≡ labels ++ label.Answer s a ∷ []) where
      fits : Fits w ok.events (Answered s a)
      fits = next ok.events ok.run

      pub read_runs : (xs : List Event) → IsRunOf xs v → IsRunOf (Answered s a ∷ xs) (shown_in w labels' entries (set seats i x))
      read_runs = answer_runs st is_open a x changes labels' pushed fits

      pub read_jobs : EndsJob s v (shown_in w labels' entries (set seats i x))
      read_jobs = answer_jobs st is_open a x changes labels' pushed fits

      pub read_engine : (room' : ℕ) → live ≤ room' → IsEngine (shown_in w labels' entries (set seats i x)) table index grants standing (set seats i x) live room' entry_room
      read_engine =
          answer_engine st is_open a x changes labels' pushed fits table index
          (read_ties w ok.events s st a is_open.open_one w.settings table index grants session (reads ok.events ok.run st is_open.open_one) ok.ties)
