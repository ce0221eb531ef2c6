-- A statement that is asked for.
use Rattle.std.specs.Prelude.{map, is_some, ◌-◌, IfSome}
use Rattle.std.specs.Option.{option_map}
use Rattle.std.proofs.Common.{◌≡◌, ℕ, suc, ◌+◌, ◌≤◌, ◌<◌, Bool, true, false, cond, List, [], ◌∷◌, ◌++◌, length, get_or, set, Option, Some, None, refl, sym, ap, ◌∙◌, subst, arith, add-one}
use Rattle.std.proofs.lemmas.List.{length-set, map-set, length-append}
use Rattle.sg_locks.specs.Grants.{Grant}
use Rattle.sg_cells.specs.declared.keys.Key.{Key}
use Rattle.sg_modes.specs.Sessions.{IsSession}
use Rattle.sg_modes.specs.Waits.{Wait}
use Rattle.sg_plain.specs.declared.statements.Statement.{Statement}
use Rattle.sg_plain.specs.Sat.{IsSoundStatement}
use Rattle.sg_plain.specs.Serial.{Entry}
use Rattle.sg_rows.specs.Table.{TableRow}
use Rattle.sg_cellrows.specs.CellTable.{CellRow}
use Rattle.sg_trace.specs.declared.labels.Label.{Label}
use Rattle.sg_trace.specs.declared.labels.Label.TheVariants as label
use Rattle.sg_trace.specs.Traces.{Stage, Event, Ask, DoneList, Local, state, after, labels_of}
use Rattle.sg_trace.specs.Legal.{IsLegal, IsSettled, answers_of, cost}
use Rattle.sg_trace.specs.Legal as legal
use Rattle.sg_engine.specs.declared.shared.Seat.{Seat}
use Rattle.sg_engine.specs.declared.shared.Running as raw
use Rattle.sg_engine.specs.declared.shared.Pending.{Pending}
use Rattle.sg_engine.specs.Shown.{Shown, Seated, Running, empty_seat, seat_in, running_of, seated, IsRunOf, HasNoneOpen, length_in, next_statement, with_open}
use Rattle.sg_engine.specs.Inside.{seat_of, shown_in, OnRunning, SeatChanges, IsOpened}
use Rattle.sg_engine.specs.Phases.{IsPending, IsRunning, IsSeat}
use Rattle.sg_engine.specs.Ties.{IsEngine, is_running, running_count}
use Rattle.sg_engine.proofs.Events.{done_labels}
use Rattle.sg_engine.proofs.Seats.{seat_at, length_map, count_set}
use Rattle.sg_engine.proofs.Begins.{Alike, ties_alike, alike_after, seats_after, long, within_is}
use Rattle.sg_engine.proofs.Kept.{seats_on, own_seat}

answers_length : (ds : DoneList) → length (answers_of ds) ≡ length ds
answers_length [] = refl
answers_length (d ∷ ds) = length-append (answers_of ds) (d.1 ∷ []) ∙ (let ih = answers_length ds in omega (arith, ih))

-- a seat with no statement open is that of a live session
between_by : (x : Local) (b : Bool) → x.live ≡ b → HasNoneOpen (cond b (Some (running_of x)) None) → legal.IsBetween x
between_by x true e h = record { live = e; none_open = h }
between_by x false e h = absurd h

between_is : (x : Local) → HasNoneOpen (seated x).running → legal.IsBetween x
between_is x h = between_by x x.live refl h

count_by : (x : Local) (b : Bool) → b ≡ true → length_in (λ r. r.answers) (cond b (Some (running_of x)) None) ≡ length x.done
count_by x true e = answers_length x.done
count_by x false e = absurd (cc)

opened_by : (x : Local) (st : Statement) (b : Bool) → b ≡ true → with_open st (record { begun = x.begun; running = cond b (Some (running_of x)) None })
    ≡ record { begun = x.begun; running = cond b (Some (running_of (record x { open_one = Some st }))) None }
opened_by x st true e = refl
opened_by x st false e = absurd (cc)

module _ (w : Stage) (labels : List Label) (entries : List Entry) (seats : List Seat) (s i : ℕ) (session : IsSession s) (within : i < length seats) (mine : i + 1 ≡ s) (d : Seat) (there : d ≡ get_or seats i d) (x : Seat) (st : Statement) (sound : IsSoundStatement st)
    (is : seat_of x ≡ with_open st (seat_of d)) (labels' : List Label) (number : ℕ) (pushed : labels' ≡ labels ++ label.Ask s number ∷ []) (counted : number ≡ length_in (λ r. r.answers) (seat_of d).running + 1) (es : List Event) where
  abbrev before : Shown
  before = shown_in w labels entries seats

  abbrev later : Shown
  later = shown_in w labels' entries (set seats i x)

  abbrev y : Local
  y = (state w es).of s

  abbrev n : ℕ
  n = next_statement before s

  module _ (run : IsRunOf es before) (none : HasNoneOpen (seat_in (map seat_of seats) s).running) where
    seat_is : seat_in (map seat_of seats) s ≡ seated y
    seat_is = run.shows.seats s session

    between : legal.IsBetween y
    between = between_is y (subst (λ (r : Seated). HasNoneOpen r.running) seat_is none)

    number_is : n ≡ suc (length y.done)
    number_is = ap (λ (r : Seated). suc (length_in (λ q. q.answers) r.running)) seat_is ∙ ap (λ m. suc m) (count_by y y.live between.live)

    pushed_is : number ≡ n
    pushed_is = counted ∙ (add-one (length_in (λ r. r.answers) (seat_of d).running) ∙ ap (λ (r : Seated). suc (length_in (λ q. q.answers) r.running)) (sym (seat_at seats i within s mine d there)))

    own : seat_of x ≡ seated (after (Ask s n st) y)
    own = is ∙ (ap (with_open st) (sym (seat_at seats i within s mine d there) ∙ seat_is) ∙ opened_by y st y.live between.live)

    pub ask_shown : IsRunOf (Ask s n st ∷ es) later
    ask_shown = record {
      shows = record {
        labels = pushed ∙ (ap (λ (ls : List Label). ls ++ label.Ask s number ∷ []) run.shows.labels ∙ ap (λ m. labels_of es ++ label.Ask s m ∷ []) pushed_is);
        journal = run.shows.journal;
        seats = seats_after w es (Ask s n st) seats i within mine x run.shows.seats own;
      };
      legal = (run.legal, (between, sound, number_is), run.settled);
      settled = run.settled;
    }

module _ (w : Stage) (labels : List Label) (entries : List Entry) (seats : List Seat) (table : List TableRow) (index : List CellRow) (grants : List (Grant Key)) (standing : List Wait) (live room entry_room : ℕ)
    (ok : IsEngine (shown_in w labels entries seats) table index grants standing seats live room entry_room)
    (s i : ℕ) (session : IsSession s) (below : i < 64) (mine : i + 1 ≡ s) (d : Seat) (there : d ≡ get_or seats i d) where
  abbrev inside : i < length seats
  inside = within_is w labels entries seats table index grants standing live room entry_room ok s i session below mine d there

  pub asked_most : HasNoneOpen (seat_in (map seat_of seats) s).running → length_in (λ r. r.answers) (seat_of d).running ≤ length labels
  asked_most none =
      let e : seat_of d ≡ seated ((state w ok.events).of s) = sym (seat_at seats i inside s mine d there) ∙ ok.run.shows.seats s session in
      let b = between_is ((state w ok.events).of s) (subst (λ (r : Seated). HasNoneOpen r.running) (ok.run.shows.seats s session) none) in
      let c : length_in (λ r. r.answers) (seat_of d).running ≡ length ((state w ok.events).of s).done = ap (λ (r : Seated). length_in (λ q. q.answers) r.running) e ∙ count_by ((state w ok.events).of s) ((state w ok.events).of s).live b.live in
      let h = done_labels w ok.events s in
      let l : length labels ≡ length (labels_of ok.events) = ap (λ (ls : List Label). length ls) ok.run.shows.labels in
      omega (arith, c, h, l)

  module _ (x : Seat) (st : Statement) (sound : IsSoundStatement st) (is : seat_of x ≡ with_open st (seat_of d)) (labels' : List Label) (number room' : ℕ) (pushed : labels' ≡ labels ++ label.Ask s number ∷ [])
      (counted : number ≡ length_in (λ r. r.answers) (seat_of d).running + 1) (none : HasNoneOpen (seat_in (map seat_of seats) s).running) (fits : live ≤ room') where
    is_some_map : (f : Running → Running) (o : Option Running) → is_some (option_map f o) ≡ is_some o
    is_some_map f None = refl
    is_some_map f (Some r) = refl

    counts : live ≡ running_count (map seat_of (set seats i x))
    counts =
        let long' : i < length (map seat_of seats) = (let l = ok.seats in omega (arith, l)) in
        let c = count_set (map seat_of seats) i (seat_of x) empty_seat long' in
        let at : s - 1 ≡ i = omega arith in
        let same : is_running (seat_of x) ≡ is_running (seat_of d) = ap is_running is ∙ ap (λ b. cond b 1 0) (is_some_map (λ r. record { statements = r.statements; answers = r.answers; open_one = Some st }) (seat_of d).running) in
        let old : is_running (get_or (map seat_of seats) i empty_seat) ≡ is_running (seat_of d) =
        ap (λ m. is_running (get_or (map seat_of seats) m empty_seat)) (sym at) ∙ ap is_running (seat_at seats i inside s mine d there) in
        let l = ok.live_is in
        let m : running_count (map seat_of (set seats i x)) ≡ running_count (set (map seat_of seats) i (seat_of x)) = ap running_count (map-set seat_of seats i x) in
        omega (arith, c, same, old, l, m)

    abbrev e : Event
    e = Ask s (next_statement (shown_in w labels entries seats) s) st

    run : IsRunOf (e ∷ ok.events) (shown_in w labels' entries (set seats i x))
    run = ask_shown w labels entries seats s i session inside mine d there x st sound is labels' number pushed counted ok.events ok.run none

    alike : Alike (state w ok.events) (state w (e ∷ ok.events))
    alike = alike_after w ok.events e refl refl refl refl

    kept_after : SeatChanges (IsOpened st) d x → IsSeat w (e ∷ ok.events) table index grants s x
    kept_after changes =
        let old = own_seat w ok.events table index grants seats s i inside mine d there ok.kept in
        record { wish = changes.wish ∙ old.wish; running = opened d.running x.running changes.running old.running }
      where
        opened : (a b : Option raw.Running) → OnRunning (IsOpened st) a b → IfSome a (IsRunning w ok.events table index grants s) → IfSome b (IsRunning w (e ∷ ok.events) table index grants s)
        opened None None h k = tt
        opened (Some a) None h k = absurd h
        opened None (Some b) h k = absurd h
        opened (Some a) (Some b) h k = record {
          cost = h.cost ∙ (k.cost ∙ ap cost (alike.held s));
          pending = subst (λ o. IfSome o (λ (p : Pending). IsPending w (e ∷ ok.events) table index grants s p.statement p.scan p.work p.delivered)) (sym h.pending) (record { sound = sound; search = tt; work = tt; refined = tt });
          statement_room = subst (λ o. IfSome o (λ (p : Pending). 1 ≤ b.statements.spare)) (sym h.pending) h.statement_room;
          answer_room = subst (λ o. IfSome o (λ (p : Pending). 1 ≤ b.answers.spare)) (sym h.pending) h.answer_room;
        }

    pub ask_engine : SeatChanges (IsOpened st) d x → IsEngine (shown_in w labels' entries (set seats i x)) table index grants standing (set seats i x) live room' entry_room
    ask_engine changes = record {
      events = e ∷ ok.events;
      staged = ok.staged;
      run = run;
      ties = ties_alike w.settings (state w ok.events) (state w (e ∷ ok.events)) table index grants alike ok.ties;
      waits_are = ok.waits_are;
      kept = seats_on w ok.events seats (long w labels entries seats table index grants standing live room entry_room ok) ok.run.shows.seats ok.staged e run.legal i mine x table index grants table index grants
          (λ u is ne st scan h. h.passed) (λ u is ne st change h. h.behind) ok.kept (kept_after changes) inside;
      seats = length_map (set seats i x) ∙ (length-set seats i x ∙ long w labels entries seats table index grants standing live room entry_room ok);
      live_is = counts;
      labels_fit = fits;
      entries_fit = ok.entries_fit;
    }
