-- A commit and a rollback of an engine.
use Rattle.std.specs.Prelude.{map, is_some, ◌-◌}
use Rattle.std.specs.Option.{option_map}
use Rattle.std.proofs.Common.{◌≡◌, ℕ, zero, suc, ◌+◌, ◌≤◌, ◌<◌, Bool, true, false, cond, List, [], ◌∷◌, ◌++◌, length, get_or, set, Option, Some, None, refl, sym, ap, ◌∙◌, subst, arith, get_or-set_same, get_or-set_other}
use Rattle.std.proofs.lemmas.List.{get_or-map, map-set, length-set, length-append}
use Rattle.sg_cells.specs.declared.keys.Key.{Key}
use Rattle.sg_locks.specs.Grants.{Grant, RemovesSession}
use Rattle.sg_modes.specs.Sessions.{IsSession}
use Rattle.sg_modes.specs.Waits.{Wait, AreWaits, waits_after}
use Rattle.sg_plain.specs.Serial.{Entry}
use Rattle.sg_rows.specs.Table.{TableRow}
use Rattle.sg_cellrows.specs.CellTable.{CellRow}
use Rattle.sg_versions.specs.declared.version.WritesEnd.TheVariants.{Keep, Undo}
use Rattle.sg_versions.specs.Versions.{settled}
use Rattle.sg_trace.specs.declared.labels.Label.{Label}
use Rattle.sg_trace.specs.declared.labels.Label.TheVariants as label
use Rattle.sg_trace.specs.declared.labels.Cause.{Cause}
use Rattle.sg_trace.specs.declared.labels.Cause.TheVariants.{Asked, NoMemory}
use Rattle.sg_trace.specs.Traces.{Stage, Event, Begin, Ask, Take, Put, Victim, Answered, Commit, Rollback, Local, State, state}
use Rattle.sg_trace.specs.Traces as event
use Rattle.sg_trace.specs.Legal.{IsLegal, IsSettled, commits, entry_of, journal, waits, last_waiter}
use Rattle.sg_trace.specs.Legal as legal
use Rattle.sg_stores.specs.Held.{key_cmp}
use Rattle.sg_engine.specs.declared.shared.Running as raw
use Rattle.sg_engine.specs.declared.shared.Seat.{Seat}
use Rattle.sg_engine.specs.Shown.{Shown, Seated, Running, Refining, empty_seat, running_of, seated, seat_in, IsRunOf, HasNoneOpen, IsBetween, is_live_in, no_job}
use Rattle.sg_engine.specs.Inside.{seat_of, running_in, job_of, shown_in}
use Rattle.sg_engine.specs.Ends.{MayRollBack, EndsJob, entry_of_running, entry_kept, entry_at, quit}
use Rattle.sg_engine.specs.Ties.{IsEngine, is_running, running_count}
use Rattle.sg_engine.proofs.Middle.{Middle, middle_of, engine_of, cleared_settled, seat_is, live_some, end_middle}
use Rattle.sg_engine.proofs.Runs.{appends_by}
use Rattle.sg_engine.proofs.Seats.{count_most}

-- ---- jobs
jobs_length : (seats : List Seat) → length (map job_of seats) ≡ length seats
jobs_length [] = refl
jobs_length (x ∷ xs) = ap suc (jobs_length xs)

module _ (seats : List Seat) (s i : ℕ) (within : i < length seats) (mine : i + 1 ≡ s) (d : Seat) (w w' : Stage) (labels labels' : List Label) (entries entries' : List Entry) where
  abbrev jobs' : List Refining
  jobs' = map job_of (set seats i (quit d))

  -- the job of the session is gone
  pub ends_job : EndsJob s (shown_in w labels entries seats) (shown_in w' labels' entries' (set seats i (quit d)))
  ends_job = record {
    own =
        let at : s - 1 ≡ i = omega arith in
        let long : i < length (set seats i (quit d)) = (let l = length-set seats i (quit d) in omega (arith, l, within)) in
        ap (λ n. get_or jobs' n no_job) at ∙ (get_or-map job_of (set seats i (quit d)) i (quit d) no_job long ∙ ap job_of (get_or-set_same seats i (quit d) (quit d) within));
    others = λ u is ne.
        let low = is.0 in
        ap (λ xs. get_or xs (u - 1) no_job) (map-set job_of seats i (quit d)) ∙ get_or-set_other (map job_of seats) i (u - 1) (job_of (quit d)) no_job (λ e. ne (omega (arith, e, mine, low)));
  }

-- ---- how many committed
pub journal_count : (w : Stage) (es : List Event) → length (journal w es) ≡ commits es
journal_count w [] = refl
journal_count w (Commit s p ∷ es) = length-append (journal w es) (entry_of s ((state w es).of s) ∷ []) ∙ (let h = journal_count w es in omega (arith, h))
journal_count w (Begin u t ∷ es) = journal_count w es
journal_count w (Ask u n st ∷ es) = journal_count w es
journal_count w (Take u k m ∷ es) = journal_count w es
journal_count w (Put u k m ∷ es) = journal_count w es
journal_count w (event.Wait u k m b ∷ es) = journal_count w es
journal_count w (Victim u c ∷ es) = journal_count w es
journal_count w (Answered u a ∷ es) = journal_count w es
journal_count w (Rollback u c ∷ es) = journal_count w es

-- ---- what a seat tells
between_by : (x : Local) (b : Bool) → x.live ≡ b → HasNoneOpen (cond b (Some (running_of x)) None) → legal.IsBetween x
between_by x true e h = record { live = e; none_open = h }
between_by x false e h = absurd h

live_by : (x : Local) (b : Bool) → x.live ≡ b → is_some (cond b (Some (running_of x)) None) ≡ true → x.live ≡ true
live_by x true e h = e
live_by x false e h = absurd (cc)

entry_seat : (s begun : ℕ) (o : Option raw.Running) → entry_kept s begun o ≡ entry_of_running s begun (option_map running_in o)
entry_seat s begun None = refl
entry_seat s begun (Some r) = refl

entry_live : (s : ℕ) (x : Local) (b : Bool) → b ≡ true → entry_of_running s x.begun (cond b (Some (running_of x)) None) ≡ entry_of s x
entry_live s x true e = refl
entry_live s x false e = absurd (cc)

-- where a seat has a transaction, one runs
count_at : (xs : List Seated) (n : ℕ) → is_running (get_or xs n empty_seat) ≡ 1 → 1 ≤ running_count xs
count_at [] n h = absurd (cc)
count_at (x ∷ xs) zero h = omega (arith, h)
count_at (x ∷ xs) (suc n) h = let i = count_at xs n h in omega (arith, i)

some_runs : (begun : ℕ) (o : Option Running) → HasNoneOpen o → is_running (record { begun = begun; running = o }) ≡ 1
some_runs begun None h = absurd h
some_runs begun (Some r) h = refl

pub live_some_shown : (w : Stage) (labels : List Label) (entries : List Entry) (seats : List Seat) (table : List TableRow) (index : List CellRow) (grants : List (Grant Key)) (standing : List Wait) (live room entry_room : ℕ)
    → IsEngine (shown_in w labels entries seats) table index grants standing seats live room entry_room → (s : ℕ) → IsBetween (shown_in w labels entries seats) s → 1 ≤ live
live_some_shown w labels entries seats table index grants standing live room entry_room ok s h =
    let l = ok.live_is in
    let c = count_at (map seat_of seats) (s - 1) (some_runs (seat_in (map seat_of seats) s).begun (seat_in (map seat_of seats) s).running h) in
    omega (arith, l, c)

some_back : (o : Option raw.Running) → is_some (option_map running_in o) ≡ true → is_some o ≡ true
some_back None h = h
some_back (Some r) h = refl

module _ (w : Stage) (labels : List Label) (entries : List Entry) (seats : List Seat) (table : List TableRow) (index : List CellRow) (grants : List (Grant Key)) (standing : List Wait) (live room entry_room : ℕ)
    (ok : IsEngine (shown_in w labels entries seats) table index grants standing seats live room entry_room)
    (s i : ℕ) (session : IsSession s) (below : i < 64) (mine : i + 1 ≡ s) (d : Seat) (there : d ≡ get_or seats i d) where
  abbrev v : Shown
  v = shown_in w labels entries seats

  abbrev es : List Event
  es = ok.events

  abbrev z : State
  z = state w es

  m : Middle w es labels entries seats table index grants standing live room entry_room
  m = middle_of w labels entries seats table index grants standing live room entry_room ok

  within : i < length seats
  within = let l = m.long in omega (arith, l, below)

  shown_seat : seat_in v.seats s ≡ seated (z.of s)
  shown_seat = ok.run.shows.seats s session

  inside : seat_of d ≡ seated (z.of s)
  inside = seat_is w es labels entries seats table index grants standing live room entry_room m s i session below mine d there

  pub is_live : is_live_in v s ≡ true → (z.of s).live ≡ true
  is_live h = live_by (z.of s) (z.of s).live refl (ap (λ (x : Seated). is_some x.running) (sym shown_seat) ∙ h)

  is_between : IsBetween v s → legal.IsBetween (z.of s)
  is_between h = between_by (z.of s) (z.of s).live refl (subst (λ (x : Seated). HasNoneOpen x.running) shown_seat h)

  -- one is live
  pub live_some_of : (z.of s).live ≡ true → 1 ≤ live
  live_some_of on = let h = Rattle.sg_engine.proofs.Middle.one_less w es labels entries seats table index grants standing live room entry_room m s i session below mine d there on in omega (arith, h)

  pub running_some : (z.of s).live ≡ true → is_some d.running ≡ true
  running_some on =
      some_back d.running (ap (λ (x : Seated). is_some x.running) inside ∙ ap (λ b. is_some (cond b (Some (running_of (z.of s))) None)) on)

  pub live_most : live ≤ 64
  live_most = let a = ok.live_is in let b = ok.seats in let h = count_most (map seat_of seats) in omega (arith, a, b, h)

  module _ (labels' : List Label) (entries' : List Entry) (table' : List TableRow) (index' : List CellRow) (grants' : List (Grant Key)) (standing' : List Wait) (live' room' entry_room' : ℕ)
      (x : Seat) (left : x ≡ quit d) (released : RemovesSession key_cmp grants grants' s) (standing_is : standing' ≡ waits_after s standing) (are : AreWaits standing) (fewer : live ≡ live' + 1) (fits : live' ≤ room') (entries_fit : live' ≤ entry_room') where
    abbrev after_with : Seat → Shown
    after_with y = shown_in w labels' entries' (set seats i y)

    abbrev AfterIt : Seat → Type 0
    AfterIt y = IsEngine (after_with y) table' index' grants' standing' (set seats i y) live' room' entry_room'

    module _ (between : IsBetween v s) (pushed : labels' ≡ labels ++ label.Commit s (suc (length entries)) ∷ []) (entry : Entry) (added : entries' ≡ entries ++ entry ∷ []) (entry_is : entry ≡ entry_at s d)
        (table_ends : table' ≡ settled Keep s table) (index_ends : index' ≡ settled Keep s index) where
      abbrev e : Event
      e = Commit s (suc (length entries))

      legal' : IsLegal w (e ∷ es)
      legal' = (ok.run.legal, (is_between between, ap suc (ap (λ (xs : List Entry). length xs) ok.run.shows.journal ∙ journal_count w es)), ok.run.settled)

      settled' : IsSettled (e ∷ es)
      settled' = cleared_settled (waits es) s (last_waiter es) ok.run.settled

      kept_entry : entry ≡ entry_of s (z.of s)
      kept_entry = entry_is ∙ (entry_seat s d.begun d.running ∙ (ap (λ (x : Seated). entry_of_running s x.begun x.running) inside ∙ entry_live s (z.of s) (z.of s).live (is_between between).live))

      middle : Middle w (e ∷ es) labels' entries' (set seats i (quit d)) table' index' grants' standing' live' room' entry_room'
      middle =
          end_middle w es labels entries seats table index grants standing live room entry_room m s i session below mine d there Keep e refl refl refl (λ u. refl) refl legal' (is_between between).live
          labels' entries' table' index' grants' standing' live' room' entry_room' pushed (added ∙ (ap (λ x. entries ++ x ∷ []) kept_entry ∙ ap (λ (xs : List Entry). xs ++ entry_of s (z.of s) ∷ []) ok.run.shows.journal))
          table_ends index_ends released standing_is are fewer fits entries_fit

      pub commit_engine : AfterIt x
      commit_engine = subst AfterIt (sym left) (engine_of w labels' entries' (set seats i (quit d)) table' index' grants' standing' live' room' entry_room' (e ∷ es) middle settled')

      pub commit_runs : (xs : List Event) → IsRunOf xs v → IsRunOf (Commit s (suc (length entries)) ∷ xs) (after_with x)
      commit_runs xs run = subst (λ y. IsRunOf (e ∷ xs) (after_with y)) (sym left) (appends_by v (after_with (quit d)) ok.staged refl (e ∷ []) es ok.run (record { shows = middle.shows; legal = legal'; settled = settled' }) xs run)

    module _ (cause : Cause) (may : MayRollBack v s cause) (pushed : labels' ≡ labels ++ label.Rollback s cause ∷ []) (same : entries' ≡ entries) (table_ends : table' ≡ settled Undo s table) (index_ends : index' ≡ settled Undo s index) where
      fits_by : (c : Cause) → MayRollBack v s c → legal.Fits w es (Rollback s c)
      fits_by Asked h = is_between h
      fits_by NoMemory h = is_live h

      live_now : (c : Cause) → MayRollBack v s c → (z.of s).live ≡ true
      live_now Asked h = (is_between h).live
      live_now NoMemory h = is_live h

      legal_back : IsLegal w (Rollback s cause ∷ es)
      legal_back = (ok.run.legal, fits_by cause may, ok.run.settled)

      settled_back : IsSettled (Rollback s cause ∷ es)
      settled_back = cleared_settled (waits es) s (last_waiter es) ok.run.settled

      middle_back : Middle w (Rollback s cause ∷ es) labels' entries' (set seats i (quit d)) table' index' grants' standing' live' room' entry_room'
      middle_back =
          end_middle w es labels entries seats table index grants standing live room entry_room m s i session below mine d there Undo (Rollback s cause) refl refl refl (λ u. refl) refl legal_back (live_now cause may)
          labels' entries' table' index' grants' standing' live' room' entry_room' pushed (same ∙ ok.run.shows.journal) table_ends index_ends released standing_is are fewer fits entries_fit

      pub rollback_engine : AfterIt x
      rollback_engine = subst AfterIt (sym left) (engine_of w labels' entries' (set seats i (quit d)) table' index' grants' standing' live' room' entry_room' (Rollback s cause ∷ es) middle_back settled_back)

      pub rollback_runs : (xs : List Event) → IsRunOf xs v → IsRunOf (Rollback s cause ∷ xs) (after_with x)
      rollback_runs xs run = subst (λ y. IsRunOf (Rollback s cause ∷ xs) (after_with y)) (sym left) (appends_by v (after_with (quit d)) ok.staged refl (Rollback s cause ∷ []) es ok.run (record { shows = middle_back.shows; legal = legal_back; settled = settled_back }) xs run)

  pub live_of_may : (cause : Cause) → MayRollBack v s cause → (z.of s).live ≡ true
  live_of_may Asked h = (is_between h).live
  live_of_may NoMemory h = is_live h

  pub live_of_between : IsBetween v s → (z.of s).live ≡ true
  live_of_between h = (is_between h).live

  pub ends_job_of : (labels' : List Label) (entries' : List Entry) (x : Seat) → x ≡ quit d → EndsJob s v (shown_in w labels' entries' (set seats i x))
  ends_job_of labels' entries' x left = subst (λ y. EndsJob s v (shown_in w labels' entries' (set seats i y))) (sym left) (ends_job seats s i within mine d w w labels labels' entries entries')
