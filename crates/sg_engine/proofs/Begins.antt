-- A begin, and a statement that is asked for.
use Rattle.std.specs.Prelude.{map, is_some, ◌-◌}
use Rattle.std.proofs.Common.{◌≡◌, ℕ, suc, ◌+◌, ◌≤◌, ◌<◌, Bool, true, false, cond, List, [], ◌∷◌, ◌++◌, length, get_or, set, Option, Some, None, refl, sym, ap, ◌∙◌, subst, arith, inl, inr, eqb, add-one}
use Rattle.std.proofs.lemmas.Bool.{eqb-true, eqb-false}
use Rattle.std.proofs.lemmas.List.{length-set, map-set}
use Rattle.sg_cells.specs.declared.keys.Key.{Key}
use Rattle.sg_cells.specs.declared.keys.Key.TheVariants.{Row, Cell}
use Rattle.sg_cells.specs.declared.settings.Settings.{Settings}
use Rattle.sg_cells.specs.Laws.{Has}
use Rattle.sg_locks.specs.Grants.{Grant, is_same_mode}
use Rattle.sg_modes.specs.Sessions.{IsSession}
use Rattle.sg_plain.specs.Rows.{Rows, shape_at}
use Rattle.sg_rows.specs.Table.{TableRow}
use Rattle.sg_cellrows.specs.CellTable.{CellRow}
use Rattle.sg_trace.specs.declared.labels.Label.{Label}
use Rattle.sg_trace.specs.declared.labels.Label.TheVariants as label
use Rattle.sg_trace.specs.Needs.{Held, holds_by}
use Rattle.sg_trace.specs.Keys.{is_write}
use Rattle.sg_trace.specs.Legal.{cost}
use Rattle.sg_trace.specs.Traces.{Stage, Event, Begin, DoneList, Local, State, state, after, session_of, labels_of, effects, is_stored, IsPresent}
use Rattle.sg_engine.specs.declared.shared.Seat.{Seat}
use Rattle.sg_engine.specs.Shown.{Shown, Seated, Running, empty_seat, seat_in, running_of, seated, IsRunOf}
use Rattle.sg_engine.specs.Inside.{seat_of, started, shown_in}
use Rattle.sg_engine.specs.Phases.{IsSeat}
use Rattle.sg_engine.specs.Ties.{Ties, IsEngine, is_running, running_count}
use Rattle.sg_engine.proofs.Events.{tidy, begun_labels, with_same}
use Rattle.sg_engine.proofs.Kept.{seats_on, own_seat}
use Rattle.sg_engine.proofs.Seats.{seat_at, seat_set, seat_kept, length_map, count_set, count_most}

-- ---- stores
-- the two leave the same committed rows, and of each session the same answers, keys and puts
pub record Alike (y z : State) : Type 0 where
  pub rows : y.rows ≡ z.rows
  pub done : (s : ℕ) → (y.of s).done ≡ (z.of s).done
  pub held : (s : ℕ) → (y.of s).held ≡ (z.of s).held
  pub puts : (s : ℕ) → (y.of s).puts ≡ (z.of s).puts

present_alike : (c : Settings) (y z : State) → Alike y z → (k : Key) → IsPresent c y k → IsPresent c z k
present_alike c y z a k (inl e) = inl (ap (λ (r : Rows). is_stored c r k) (sym a.rows) ∙ e)
present_alike c y z a k (inr (s, h)) = inr (s, subst (λ (ps : List Key). Has ps k) (a.puts s) h)

alike_back : (y z : State) → Alike y z → Alike z y
alike_back y z a = record { rows = sym a.rows; done = λ s. sym (a.done s); held = λ s. sym (a.held s); puts = λ s. sym (a.puts s) }

pub ties_alike : (c : Settings) (y z : State) (table : List TableRow) (index : List CellRow) (grants : List (Grant Key)) → Alike y z → Ties c y table index grants → Ties c z table index grants
ties_alike c y z table index grants a t = record {
  committed = λ k. t.committed k ∙ ap (λ (r : Rows). shape_at r k) a.rows;
  seen = λ s session k. t.seen s session k ∙ (ap (λ (r : Rows). shape_at (effects (y.of s).done r) k) a.rows ∙ ap (λ (ds : DoneList). shape_at (effects ds z.rows) k) (a.done s));
  cells_committed = t.cells_committed;
  cells_seen = t.cells_seen;
  writers = λ s k e. ap (λ (hs : List Held). holds_by is_write hs (Row k)) (sym (a.held s)) ∙ t.writers s k e;
  cell_writers = λ s cell code k e. ap (λ (hs : List Held). holds_by is_write hs (Cell cell k)) (sym (a.held s)) ∙ t.cell_writers s cell code k e;
  keys = λ k. (λ h. present_alike c y z a k ((t.keys k).0 h), λ p. (t.keys k).1 (present_alike c z y (alike_back y z a) k p));
  held = λ s session k code m. t.held s session k code m ∙ ap (λ (hs : List Held). holds_by (is_same_mode m) hs k) (a.held s);
  rows_kept = t.rows_kept;
  cells_kept = t.cells_kept;
  rising = t.rising;
  sorted = t.sorted;
  codes = t.codes;
}

-- a label that changes none of these of its session
pub alike_after : (w : Stage) (es : List Event) (e : Event) → (state w (e ∷ es)).rows ≡ (state w es).rows
    → (after e ((state w es).of (session_of e))).done ≡ ((state w es).of (session_of e)).done
    → (after e ((state w es).of (session_of e))).held ≡ ((state w es).of (session_of e)).held
    → (after e ((state w es).of (session_of e))).puts ≡ ((state w es).of (session_of e)).puts
    → Alike (state w es) (state w (e ∷ es))
alike_after w es e r d h p = record {
  rows = sym r;
  done = λ u. by_test (λ x. x.done) u (eqb (session_of e) u) refl d;
  held = λ u. by_test (λ x. x.held) u (eqb (session_of e) u) refl h;
  puts = λ u. by_test (λ x. x.puts) u (eqb (session_of e) u) refl p;
}
  where
    by_test : {A : Type 0} (f : Local → A) (u : ℕ) (b : Bool) → eqb (session_of e) u ≡ b → f (after e ((state w es).of (session_of e))) ≡ f ((state w es).of (session_of e))
        → f ((state w es).of u) ≡ f (cond b (after e ((state w es).of (session_of e))) ((state w es).of u))
    by_test f u true t same = ap (λ n. f ((state w es).of n)) (sym (eqb-true (session_of e) u t)) ∙ sym same
    by_test f u false t same = refl

-- ---- what is shown
-- what the seats show of each session, where one has changed
module _ (w : Stage) (es : List Event) (e : Event) (seats : List Seat) (i : ℕ) (within : i < length seats) (mine : i + 1 ≡ session_of e) (x : Seat)
    (all : (u : ℕ) → IsSession u → seat_in (map seat_of seats) u ≡ seated ((state w es).of u)) (own : seat_of x ≡ seated (after e ((state w es).of (session_of e)))) where
  by_session : (u : ℕ) → IsSession u → (b : Bool) → eqb (session_of e) u ≡ b → seat_in (map seat_of (set seats i x)) u ≡ seated (cond b (after e ((state w es).of (session_of e))) ((state w es).of u))
  by_session u session true t = seat_set seats i within x u (mine ∙ eqb-true (session_of e) u t) ∙ own
  by_session u session false t = seat_kept seats i within x u session (λ q. eqb-false (session_of e) u t (sym mine ∙ q)) ∙ all u session

  pub seats_after : (u : ℕ) → IsSession u → seat_in (map seat_of (set seats i x)) u ≡ seated ((state w (e ∷ es)).of u)
  seats_after u session = by_session u session (eqb (session_of e) u) refl

-- what a seat tells
not_live : (x : Local) → (seated x).running ≡ None → x.live ≡ false
not_live x h = by_test x.live h
  where
    by_test : (b : Bool) → cond b (Some (running_of x)) None ≡ None → b ≡ false
    by_test true h = absurd (cc)
    by_test false h = refl

-- ---- a begin
module _ (w : Stage) (labels : List Label) (entries : List Rattle.sg_plain.specs.Serial.Entry) (seats : List Seat) (s i : ℕ) (session : IsSession s) (within : i < length seats) (mine : i + 1 ≡ s) (x : Seat) (es : List Event) where
  abbrev before : Shown
  before = shown_in w labels entries seats

  abbrev z : State
  z = state w es

  module _ (run : IsRunOf es before) (idle_now : (seat_in (map seat_of seats) s).running ≡ None) where
    abbrev t : ℕ
    t = suc (seat_in (map seat_of seats) s).begun

    abbrev later : Shown
    later = shown_in w (labels ++ label.Begin s t ∷ []) entries (set seats i x)

    here : seat_in (map seat_of seats) s ≡ seated (z.of s)
    here = run.shows.seats s session

    pub was_idle : (z.of s).live ≡ false
    was_idle = not_live (z.of s) (ap (λ (r : Seated). r.running) (sym here) ∙ idle_now)

    number : t ≡ suc (z.of s).begun
    number = ap (λ (r : Seated). suc r.begun) here

    pub begin_run : seat_of x ≡ record { begun = t; running = Some (record { statements = []; answers = []; open_one = None }) } → IsRunOf (Begin s t ∷ es) later
    begin_run is = record {
      shows = record {
        labels = ap (λ (ls : List Label). ls ++ label.Begin s t ∷ []) run.shows.labels;
        journal = run.shows.journal;
        seats = seats_after w es (Begin s t) seats i within mine x run.shows.seats (is ∙ ap (λ n. record { begun = n; running = Some (record { statements = []; answers = []; open_one = None }) }) number);
      };
      legal = (run.legal, (session, was_idle, number), run.settled);
      settled = run.settled;
    }

    pub begin_alike : Alike z (state w (Begin s t ∷ es))
    begin_alike =
        let bare = tidy w es run.legal s was_idle in
        alike_after w es (Begin s t) refl (sym bare.done) (sym bare.held) (sym bare.puts)

    module _ (d : Seat) (there : d ≡ get_or seats i d) (labels' : List Label) (entries' : List Rattle.sg_plain.specs.Serial.Entry) (n : ℕ) (pushed : labels' ≡ labels ++ label.Begin s n ∷ []) (counted : n ≡ d.begun + 1) (entries_are : entries' ≡ entries)
        (is : seat_of x ≡ record { begun = d.begun + 1; running = Some (record { statements = []; answers = []; open_one = None }) }) where
      number_is : d.begun + 1 ≡ t
      number_is = add-one d.begun ∙ ap (λ (r : Seated). suc r.begun) (sym (seat_at seats i within s mine d there))

      abbrev after_it : Shown
      after_it = shown_in w labels' entries' (set seats i x)

      shown_is : later ≡ after_it
      shown_is =
          ap (λ (ls : List Label). shown_in w ls entries (set seats i x)) (sym (pushed ∙ ap (λ m. labels ++ label.Begin s m ∷ []) (counted ∙ number_is)))
          ∙ ap (λ (xs : List Rattle.sg_plain.specs.Serial.Entry). shown_in w labels' xs (set seats i x)) (sym entries_are)

      pub begin_shown : IsRunOf (Begin s t ∷ es) after_it
      begin_shown = subst (IsRunOf (Begin s t ∷ es)) shown_is (begin_run (is ∙ ap (λ m. record { begun = m; running = Some (record { statements = []; answers = []; open_one = None }) }) number_is))

-- ---- the engine after a begin
module _ (w : Stage) (labels : List Label) (entries : List Rattle.sg_plain.specs.Serial.Entry) (seats : List Seat) (table : List TableRow) (index : List CellRow) (grants : List (Grant Key)) (standing : List Rattle.sg_modes.specs.Waits.Wait) (live room entry_room : ℕ)
    (ok : IsEngine (shown_in w labels entries seats) table index grants standing seats live room entry_room) where
  pub live_most : live ≤ 64
  live_most = let a = ok.live_is in let b = ok.seats in let h = count_most (map seat_of seats) in omega (arith, a, b, h)

  pub long : length seats ≡ 64
  long = sym (length_map seats) ∙ ok.seats

  module _ (s i : ℕ) (session : IsSession s) (below : i < 64) (mine : i + 1 ≡ s) (d : Seat) (there : d ≡ get_or seats i d) where
    pub within_is : i < length seats
    within_is = let l = long in omega (arith, l)

    seat_is : seat_in (map seat_of seats) s ≡ seated ((state w ok.events).of s)
    seat_is = ok.run.shows.seats s session

    pub begun_most : d.begun ≤ length labels
    begun_most =
        let h = begun_labels w ok.events s in
        let e : d.begun ≡ ((state w ok.events).of s).begun = ap (λ (r : Seated). r.begun) (sym (seat_at seats i within_is s mine d there) ∙ seat_is) in
        let l : length labels ≡ length (labels_of ok.events) = ap (λ (ls : List Label). length ls) ok.run.shows.labels in
        omega (arith, h, e, l)

    module _ (x : Seat) (labels' : List Label) (entries' : List Rattle.sg_plain.specs.Serial.Entry) (n room' entry_room' : ℕ) (pushed : labels' ≡ labels ++ label.Begin s n ∷ []) (counted : n ≡ d.begun + 1) (entries_are : entries' ≡ entries)
        (started_is : x ≡ started d) (idle_now : (seat_in (map seat_of seats) s).running ≡ None) (fits : live + 1 ≤ room') (entries_fit : live + 1 ≤ entry_room') where
      is : seat_of x ≡ seat_of (started d)
      is = ap seat_of started_is

      counts : live + 1 ≡ running_count (map seat_of (set seats i x))
      counts =
          let long' : i < length (map seat_of seats) = (let l = ok.seats in omega (arith, l)) in
          let c = count_set (map seat_of seats) i (seat_of x) empty_seat long' in
          let one : is_running (seat_of x) ≡ 1 = ap is_running is in
          let at : s - 1 ≡ i = omega arith in
          let none : is_running (get_or (map seat_of seats) i empty_seat) ≡ 0 =
          ap (λ m. is_running (get_or (map seat_of seats) m empty_seat)) (sym at) ∙ ap (λ (o : Option Running). cond (is_some o) 1 0) idle_now in
          let l = ok.live_is in
          let m : running_count (map seat_of (set seats i x)) ≡ running_count (set (map seat_of seats) i (seat_of x)) = ap running_count (map-set seat_of seats i x) in
          omega (arith, c, one, none, l, m)

      abbrev e : Event
      e = Begin s (suc (seat_in (map seat_of seats) s).begun)

      run : IsRunOf (e ∷ ok.events) (shown_in w labels' entries' (set seats i x))
      run = begin_shown w labels entries seats s i session within_is mine x ok.events ok.run idle_now d there labels' entries' n pushed counted entries_are is

      -- it has answered nothing, and holds nothing
      own : IsSeat w (e ∷ ok.events) table index grants s x
      own =
          let local : (state w (e ∷ ok.events)).of s ≡ after e ((state w ok.events).of s) = with_same (state w ok.events).of s (after e ((state w ok.events).of s)) in
          let old = own_seat w ok.events table index grants seats s i within_is mine d there ok.kept in
          subst (IsSeat w (e ∷ ok.events) table index grants s) (sym started_is) (record {
            wish = old.wish;
            running = record { cost = ap (λ (y : Local). cost y.held) (sym local); pending = tt; statement_room = tt; answer_room = tt };
          })

      pub begin_engine : IsEngine (shown_in w labels' entries' (set seats i x)) table index grants standing (set seats i x) (live + 1) room' entry_room'
      begin_engine = record {
        events = e ∷ ok.events;
        staged = ok.staged;
        run = run;
        ties = ties_alike w.settings (state w ok.events) (state w (e ∷ ok.events)) table index grants (begin_alike w labels entries seats s i session within_is mine x ok.events ok.run idle_now) ok.ties;
        waits_are = ok.waits_are;
        kept = seats_on w ok.events seats long ok.run.shows.seats ok.staged e run.legal i mine x table index grants table index grants (λ u is ne st scan h. h.passed) (λ u is ne st change h. h.behind) ok.kept own within_is;
        seats = length_map (set seats i x) ∙ (length-set seats i x ∙ long);
        live_is = counts;
        labels_fit = fits;
        entries_fit = entries_fit;
      }
