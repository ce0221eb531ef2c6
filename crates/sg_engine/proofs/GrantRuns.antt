-- An engine after a session was given a key.
use Rattle.std.specs.Prelude.{map, IfSome, filter}
use Rattle.std.specs.Option.{option_map}
use Rattle.std.proofs.Common.{◌≡◌, ℕ, ◌+◌, ◌≤◌, ◌<◌, ◌^◌, Bool, true, false, cond, eqb, List, [], ◌∷◌, ◌++◌, length, get_or, set, Option, Some, None, refl, sym, ap, ◌∙◌, subst, arith}
use mathlib.Core.Bool.{true≢false}
use Rattle.std.proofs.Math.Seq.{map-set_same}
use Rattle.sg_cells.specs.declared.keys.Key.{Key}
use Rattle.sg_locks.specs.Grants.{Grant, has_grant, is_same_mode, AddsGrant, IsUnblocked}
use Rattle.sg_locks.specs.Grants as locks
use Rattle.sg_modes.specs.declared.modes.Mode.{Mode}
use Rattle.sg_modes.specs.Sessions.{IsSession, AreSessions, has_session}
use Rattle.sg_modes.specs.Waits.{Wait}
use Rattle.sg_plain.specs.declared.statements.Statement.{Statement}
use Rattle.sg_plain.specs.Serial.{Entry}
use Rattle.sg_rows.specs.Table.{TableRow}
use Rattle.sg_cellrows.specs.CellTable.{CellRow}
use Rattle.sg_trace.specs.declared.labels.Label.{Label}
use Rattle.sg_trace.specs.declared.labels.Label.TheVariants as label
use Rattle.sg_trace.specs.Keys.{is_write, meets}
use Rattle.sg_trace.specs.Needs.{Need, Lock, Held, is_met, first_unmet, holds_by}
use Rattle.sg_trace.specs.Traces.{Stage, Event, Begin, Ask, Take, Put, Local, State, state, after, session_of, label_of, labels_of, IsPresent, view}
use Rattle.sg_trace.specs.Traces as traces
use Rattle.sg_trace.specs.Legal.{IsLegal, IsSettled, Takes, IsAct, IsOpen, needs_of, cost, waits, journal}
use Rattle.sg_stores.specs.Held.{key_cmp}
use Rattle.sg_laws.specs.Reading.{IsLive}
use Rattle.sg_laws.proofs.Kept.{Good, legal_good, lists_of, needs_good, unmet_has, takes_for}
use Rattle.sg_laws.proofs.Needs.{NeedOk}
use Rattle.sg_engine.specs.declared.shared.Pending.{Pending}
use Rattle.sg_engine.specs.declared.shared.Running.{Running}
use Rattle.sg_engine.specs.declared.shared.Seat.{Seat}
use Rattle.sg_engine.specs.Shown.{Shown, Seated, seated, IsRunOf}
use Rattle.sg_engine.specs.Inside.{seat_of, running_in, job_of, job_in_running, shown_in}
use Rattle.sg_engine.specs.Phases.{IsPending, IsRunning, IsSearching, IsSeat}
use Rattle.sg_engine.specs.Nexts.{IsNextAct, IsFree, cost_with, with_key, counted}
use Rattle.sg_engine.specs.Ties.{IsCoded, Ties, IsEngine, running_count}
use Rattle.sg_engine.proofs.Events.{with_same, count_labels}
use Rattle.sg_engine.proofs.Seats.{seat_at}
use Rattle.sg_engine.proofs.Begins.{seats_after, long, within_is}
use Rattle.sg_engine.proofs.Kept.{if_some, seats_on, own_seat}
use Rattle.sg_engine.proofs.Takes.{take_ties}
use Rattle.sg_engine.proofs.Passes.{Side}
use Rattle.sg_engine.proofs.Stays.{passed_stays, behind_stays}
use Rattle.sg_engine.proofs.Conflicts.{held_back, conflict_is, unblocked}
use Rattle.sg_engine.proofs.Replied.{coded_key}
use Rattle.sg_engine.proofs.Runs.{appends_by}
use Rattle.sg_engine.proofs.Standing.{cost_more}
use Rattle.sg_engine.proofs.Granted.{passed_more, held_more, pending_own}

-- ---- how much a session holds
held_after : (e : Event) (x : Local) → length (after e x).held ≤ length x.held + 1
held_after (Begin s t) x = omega arith
held_after (Ask s n st) x = omega arith
held_after (Take s k m) x = omega arith
held_after (Put s k m) x = omega arith
held_after (traces.Wait s k m b) x = omega arith
held_after (traces.Victim s c) x = omega arith
held_after (traces.Answered s a) x = by_open x.open_one
  where
    by_open : (o : Option Statement) → length (traces.answered x o a).held ≤ length x.held + 1
    by_open None = omega arith
    by_open (Some st) = omega arith
held_after (traces.Commit s p) x = omega arith
held_after (traces.Rollback s c) x = omega arith

held_events : (w : Stage) (es : List Event) (s : ℕ) → length ((state w es).of s).held ≤ length es
held_events w [] s = omega arith
held_events w (e ∷ es) s = by_test (eqb (session_of e) s) (held_events w es) (held_after e ((state w es).of (session_of e)))
  where
    by_test : (b : Bool) → ((u : ℕ) → length ((state w es).of u).held ≤ length es) → length (after e ((state w es).of (session_of e))).held ≤ length ((state w es).of (session_of e)).held + 1
        → length (cond b (after e ((state w es).of (session_of e))) ((state w es).of s)).held ≤ length (e ∷ es)
    by_test true all new = let h = all (session_of e) in omega (arith, h, new)
    by_test false all new = let h = all s in omega (arith, h)

filtered_less : (p : Held → Bool) (hs : List Held) → length (filter p hs) ≤ length hs
filtered_less p [] = omega arith
filtered_less p (h ∷ hs) = by_test (p h) (filtered_less p hs)
  where
    by_test : (b : Bool) → length (filter p hs) ≤ length hs → length (cond b (h ∷ filter p hs) (filter p hs)) ≤ length (h ∷ hs)
    by_test true e = omega (arith, e)
    by_test false e = omega (arith, e)

cost_labels : (w : Stage) (es : List Event) (s : ℕ) → cost ((state w es).of s).held ≤ length (labels_of es)
cost_labels w es s =
    let h = held_events w es s in
    let e = count_labels es in
    let f = filtered_less (λ h. is_write h.1) ((state w es).of s).held in
    omega (arith, h, e, f)

-- ---- the seat
counted_shown : (m : Mode) (o : Option Running) → option_map running_in (option_map (with_key m) o) ≡ option_map running_in o
counted_shown m None = refl
counted_shown m (Some r) = refl

pub counted_seat : (m : Mode) (d : Seat) → seat_of (counted m d) ≡ seat_of d
counted_seat m d = ap (λ o. record { begun = d.begun; running = o }) (counted_shown m d.running)

counted_job_by : (m : Mode) (o : Option Running) → job_in_running (option_map (with_key m) o) ≡ job_in_running o
counted_job_by m None = refl
counted_job_by m (Some r) = refl

pub counted_job : (m : Mode) (d : Seat) → job_of (counted m d) ≡ job_of d
counted_job m d = counted_job_by m d.running

first_not : (held : List Held) (ns : List Need) (n : Need) → first_unmet held ns ≡ Some n → is_met held n ≡ false
first_not held [] n e = absurd (cc)
first_not held (y ∷ ys) n e = by_test (is_met held y) refl (first_not held ys n) e
  where
    by_test : (b : Bool) → is_met held y ≡ b → (first_unmet held ys ≡ Some n → is_met held n ≡ false) → cond b (first_unmet held ys) (Some y) ≡ Some n → is_met held n ≡ false
    by_test true q later e = later e
    by_test false q later e = let same : y ≡ n = cc in subst (λ x. is_met held x ≡ false) same q

module _ (w : Stage) (labels : List Label) (entries : List Entry) (seats : List Seat) (table : List TableRow) (index : List CellRow) (grants : List (Grant Key)) (standing : List Wait) (live room entry_room : ℕ)
    (ok : IsEngine (shown_in w labels entries seats) table index grants standing seats live room entry_room)
    (s i : ℕ) (session : IsSession s) (below : i < 64) (mine : i + 1 ≡ s) (d : Seat) (there : d ≡ get_or seats i d) where
  abbrev es : List Event
  es = ok.events

  abbrev z : State
  z = state w ok.events

  abbrev v : Shown
  v = shown_in w labels entries seats

  within : i < length seats
  within = within_is w labels entries seats table index grants standing live room entry_room ok s i session below mine d there

  own_old : IsSeat w ok.events table index grants s d
  own_old = own_seat w ok.events table index grants seats s i within mine d there ok.kept

  seat_is : seat_of d ≡ seated (z.of s)
  seat_is = sym (seat_at seats i within s mine d there) ∙ ok.run.shows.seats s session

  pub cost_fits : (spare : ℕ) → 1 ≤ spare → length labels + spare < 2 ^ 64 → IfSome d.running (λ r. r.cost + 1 < 2 ^ 64)
  cost_fits spare one fits =
      if_some (IsRunning w ok.events table index grants s) (λ r. r.cost + 1 < 2 ^ 64) d.running
      (λ r _ h. let c = h.cost in let most = cost_labels w ok.events s in let l : length labels ≡ length (labels_of ok.events) = ap (λ (ls : List Label). length ls) ok.run.shows.labels in omega (arith, c, most, l, one, fits)) own_old.running

  -- ---- an event of the session that shows nothing but its label
  module _ (e : Event) (by : session_of e ≡ s) (legal : IsLegal w (e ∷ ok.events)) (settled : IsSettled (e ∷ ok.events)) (quiet : seated (after e (z.of (session_of e))) ≡ seated (z.of (session_of e)))
      (journal_is : journal w (e ∷ ok.events) ≡ journal w ok.events) (waits_is : (u : ℕ) → waits (e ∷ ok.events) u ≡ waits ok.events u)
      (x : Seat) (x_shows : seat_of x ≡ seat_of d) (labels' : List Label) (pushed : labels' ≡ labels ++ label_of e ∷ []) where
    abbrev later : Shown
    later = shown_in w labels' entries (set seats i x)

    seats_same : map seat_of (set seats i x) ≡ map seat_of seats
    seats_same = map-set_same seat_of seats i x d (x_shows ∙ ap seat_of there)

    run_after : IsRunOf (e ∷ ok.events) later
    run_after = record {
      shows = record {
        labels = pushed ∙ ap (λ (ls : List Label). ls ++ label_of e ∷ []) ok.run.shows.labels;
        journal = ok.run.shows.journal ∙ sym journal_is;
        seats = seats_after w ok.events e seats i within (mine ∙ sym by) x ok.run.shows.seats (x_shows ∙ (seat_is ∙ (ap (λ u. seated (z.of u)) (sym by) ∙ sym quiet)));
      };
      legal = legal;
      settled = settled;
    }

    pub runs_after : (xs : List Event) → IsRunOf xs v → IsRunOf (e ∷ xs) later
    runs_after xs run = appends_by v later ok.staged refl (e ∷ []) ok.events ok.run run_after xs run

    module _ (table' : List TableRow) (index' : List CellRow) (grants' : List (Grant Key)) (ties' : Ties w.settings (state w (e ∷ ok.events)) table' index' grants') (own : IsSeat w (e ∷ ok.events) table' index' grants' s x) (room' : ℕ) (fits : live ≤ room') where
      side : Side w ok.events table index grants
      side = record { legal = ok.run.legal; ties = ok.ties }

      side' : Side w (e ∷ ok.events) table' index' grants'
      side' = record { legal = legal; ties = ties' }

      pub engine_after : IsEngine later table' index' grants' standing (set seats i x) live room' entry_room
      engine_after = record {
        events = e ∷ ok.events;
        staged = ok.staged;
        run = run_after;
        ties = ties';
        waits_are = λ u is. ok.waits_are u is ∙ sym (waits_is u);
        kept = seats_on w ok.events seats (long w labels entries seats table index grants standing live room entry_room ok) ok.run.shows.seats ok.staged e legal i (mine ∙ sym by) x table index grants table' index' grants'
            (λ u is ne st scan h. passed_stays w ok.staged u is e ok.events ne table index grants side table' index' grants' side' st scan h.scan_for h.passed)
            (λ u is ne st change h. behind_stays w ok.staged u is e ok.events ne table index grants side table' index' grants' side' change h.behind) ok.kept
            (subst (λ u. IsSeat w (e ∷ ok.events) table' index' grants' u x) (sym by) own) within;
        seats = ap (λ (xs : List Seated). length xs) seats_same ∙ ok.seats;
        live_is = ok.live_is ∙ ap running_count (sym seats_same);
        labels_fit = fits;
        entries_fit = ok.entries_fit;
      }

  -- ---- a lock
  module _ (k : Key) (m : Mode) (next : IsNextAct v s (Takes k m)) (free : IsFree v s k m) where
    abbrev st : Statement
    st = (next ok.events ok.run).0

    abbrev is_open : IsOpen w ok.events s st
    is_open = (next ok.events ok.run).1

    abbrev is_act : IsAct w z s st (Takes k m)
    is_act = (next ok.events ok.run).2

    legal_take : IsLegal w (Take s k m ∷ ok.events)
    legal_take = (ok.run.legal, (st, is_open, is_act, free ok.events ok.run), ok.run.settled)

    good : Good w z
    good = legal_good w ok.staged ok.events ok.run.legal

    unmet : first_unmet (z.of s).held (needs_of w z s st is_act.selected) ≡ Some (Lock k m)
    unmet = takes_for w z s st k m (first_unmet (z.of s).held (needs_of w z s st is_act.selected)) is_act.follows

    need_ok : NeedOk (IsPresent w.settings z) (Lock k m)
    need_ok = unmet_has (NeedOk (IsPresent w.settings z)) (z.of s) (needs_of w z s st is_act.selected) (Lock k m) (needs_good w z s st is_act.selected good is_act.selects) unmet

    code : IsCoded k
    code = coded_key k ((lists_of w z good).coded k need_ok.0)

    -- the session hasn't the lock yet, and nobody is in its way
    pub not_held : has_grant key_cmp grants s k m ≡ false
    not_held = ok.ties.held s session k code m ∙ by_test (holds_by (is_same_mode m) (z.of s).held k) refl
      where
        by_test : (b : Bool) → holds_by (is_same_mode m) (z.of s).held k ≡ b → b ≡ false
        by_test false e = refl
        by_test true e = absurd (true≢false (sym (held_back (meets m) k (z.of s).held m need_ok.1 e) ∙ first_not (z.of s).held (needs_of w z s st is_act.selected) (Lock k m) unmet))

    pub nobody : (found : List ℕ) → AreSessions found → ((n : ℕ) → has_session found n ≡ locks.blocks key_cmp grants s k m n) → IsUnblocked key_cmp grants s k m
    nobody found are has =
        unblocked w ok.staged ok.events ok.run.legal table index grants ok.ties s k code m found has
        (conflict_is w ok.staged ok.events ok.run.legal table index grants ok.ties s k code m found are has ∙ free ok.events ok.run)

    module _ (new : List (Grant Key)) (adds : AddsGrant key_cmp grants new (record { session = s; key = k; mode = m })) where
      abbrev e : Event
      e = Take s k m

      same_local : (state w (Take s k m ∷ ok.events)).of s ≡ after (Take s k m) (z.of s)
      same_local = with_same z.of s (after (Take s k m) (z.of s))

      live' : IsLive w (Take s k m ∷ ok.events) s
      live' = ap (λ (y : Local). y.live) same_local ∙ is_open.live

      running_after : (o : Option Running) → IfSome o (IsRunning w ok.events table index grants s) → IfSome (option_map (with_key m) o) (IsRunning w (Take s k m ∷ ok.events) table index new s)
      running_after None h = tt
      running_after (Some r) h = record {
        cost = ap (cost_with m) h.cost ∙ (sym (cost_more k m (z.of s).held) ∙ ap (λ (y : Local). cost y.held) (sym same_local));
        pending = if_some (λ (p : Pending). IsPending w ok.events table index grants s p.statement p.scan p.work p.delivered) (λ (p : Pending). IsPending w (Take s k m ∷ ok.events) table index new s p.statement p.scan p.work p.delivered) r.pending
            (λ p _ q. pending_own w ok.staged (Take s k m) ok.events legal_take s is_open.live live' (ap (λ (y : Local). y.begun) same_local) (ap (λ (y : Local). y.done) same_local) (ap (λ (y : Local). traces.effects y.done z.rows) same_local)
            table index grants table index new (λ st' change h'. held_more s k m grants new adds s table index change h'.behind) p.statement p.scan p.scan p.work p.delivered
            (λ search. if_some (IsSearching w ok.events table index grants s p.statement) (IsSearching w (Take s k m ∷ ok.events) table index new s p.statement) p.scan
            (λ scan _ y. record { scan_for = y.scan_for; passed = passed_more s k m grants new adds s table index scan y.passed }) search) q) h.pending;
        statement_room = h.statement_room;
        answer_room = h.answer_room;
      }

      own_after : IsSeat w (Take s k m ∷ ok.events) table index new s (counted m d)
      own_after = record { wish = own_old.wish; running = running_after d.running own_old.running }

      module _ (x : Seat) (x_is : x ≡ counted m d) (labels' : List Label) (pushed : labels' ≡ labels ++ label.Take s k m ∷ []) where
        pub take_runs : (xs : List Event) → IsRunOf xs v → IsRunOf (Take s k m ∷ xs) (shown_in w labels' entries (set seats i x))
        take_runs = runs_after (Take s k m) refl legal_take ok.run.settled refl refl (λ u. refl) x (ap seat_of x_is ∙ counted_seat m d) labels' pushed

        pub take_engine : (room' : ℕ) → live ≤ room' → IsEngine (shown_in w labels' entries (set seats i x)) table index new standing (set seats i x) live room' entry_room
        take_engine =
            engine_after (Take s k m) refl legal_take ok.run.settled refl refl (λ u. refl) x (ap seat_of x_is ∙ counted_seat m d) labels' pushed table index new
            (take_ties w.settings w ok.events s k code m table index grants new adds ok.ties) (subst (λ y. IsSeat w (Take s k m ∷ ok.events) table index new s y) (sym x_is) own_after)
