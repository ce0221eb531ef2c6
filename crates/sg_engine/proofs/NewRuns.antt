-- An engine after a session has put a key.
use Rattle.std.specs.Prelude.{IfSome, IsSome, is_some}
use Rattle.std.specs.Option.{option_map}
use Rattle.std.specs.Ordering.{is_eq}
use Rattle.std.specs.BTreeMap.{insert_entry}
use Rattle.std.proofs.Common.{◌≡◌, inl, ℕ, ◌+◌, ◌≤◌, ◌<◌, Bool, true, false, cond, List, [], ◌∷◌, ◌++◌, get_or, set, Option, Some, None, refl, sym, ap, ◌∙◌, subst}
use Rattle.sg_shape.specs.declared.shapes.Shape.{Shape}
use Rattle.sg_cells.specs.Cells.{Cell as Path}
use Rattle.sg_cells.specs.declared.marks.Mark.{Mark}
use Rattle.sg_cells.specs.declared.keys.Key.{Key}
use Rattle.sg_cells.specs.declared.keys.Key.TheVariants.{Row, RowEnd, Cell, CellEnd}
use Rattle.sg_locks.specs.Grants.{Grant, has_grant, is_same_mode, AddsGrant, IsUnblocked}
use Rattle.sg_locks.specs.Grants as locks
use Rattle.sg_modes.specs.declared.modes.Mode.{Mode}
use Rattle.sg_modes.specs.declared.modes.Mode.TheVariants.{RangeIN}
use Rattle.sg_modes.specs.Sessions.{IsSession, AreSessions, has_session}
use Rattle.sg_modes.specs.Waits.{Wait}
use Rattle.sg_plain.specs.declared.statements.Statement.{Statement}
use Rattle.sg_plain.specs.Serial.{Entry}
use Rattle.sg_versions.specs.Versions.{Versioned, visible, fresh}
use Rattle.sg_rows.specs.Table.{TableRow}
use Rattle.sg_rows.specs.Table as rows
use Rattle.sg_cellrows.specs.CellTable.{CellKey, CellRow, cell_key_cmp, version_at}
use Rattle.sg_cellrows.proofs.NextCells.{cell_key_total}
use Rattle.sg_trace.specs.declared.labels.Label.{Label}
use Rattle.sg_trace.specs.declared.labels.Label.TheVariants as label
use Rattle.sg_trace.specs.Keys.{is_write}
use Rattle.sg_trace.specs.Needs.{New, put_mode, first_unmet}
use Rattle.sg_trace.specs.Traces.{Stage, Event, Put, Local, State, state, after, IsPresent}
use Rattle.sg_trace.specs.Traces as traces
use Rattle.sg_trace.specs.Legal.{IsLegal, Puts, IsAct, IsOpen, needs_of, cost}
use Rattle.sg_stores.specs.Held.{key_cmp}
use Rattle.sg_stores.specs.Keys.{store_keys}
use Rattle.sg_stores.proofs.Keys.{row_there, cell_there}
use Rattle.sg_laws.specs.Reading.{IsLive}
use Rattle.sg_laws.proofs.Present.{has_key_is}
use Rattle.sg_laws.proofs.Kept.{Good, legal_good, needs_good, unmet_has, puts_for}
use Rattle.sg_laws.proofs.Needs.{NeedOk}
use Rattle.sg_writes.specs.declared.changes.Change.{Change}
use Rattle.sg_writes.specs.Changes.{IsBehindHeld}
use Rattle.sg_engine.specs.declared.shared.Pending.{Pending}
use Rattle.sg_engine.specs.declared.shared.Running.{Running}
use Rattle.sg_engine.specs.declared.shared.Seat.{Seat}
use Rattle.sg_engine.specs.Shown.{Shown, IsRunOf}
use Rattle.sg_engine.specs.Inside.{seat_of, running_in, job_of, job_in_running, job_in_pending, shown_in}
use Rattle.sg_engine.specs.Phases.{IsPending, IsRunning, IsSeat}
use Rattle.sg_engine.specs.Nexts.{IsNextAct, IsFree, IsNew, HasNew, cost_with, done_reading, with_new, writing}
use Rattle.sg_engine.specs.Ties.{IsCoded, Ties, IsEngine}
use Rattle.sg_engine.proofs.Events.{with_same}
use Rattle.sg_engine.proofs.Begins.{within_is}
use Rattle.sg_engine.proofs.Kept.{own_seat}
use Rattle.sg_engine.proofs.Puts.{at, as_before, unseen, put_row_ties, put_cell_ties}
use Rattle.sg_engine.proofs.Acts.{put_writes, absent_unheld, absent_free}
use Rattle.sg_engine.proofs.Conflicts.{conflict_is, unblocked}
use Rattle.sg_engine.proofs.Replied.{coded_key}
use Rattle.sg_engine.proofs.Standing.{cost_more}
use Rattle.sg_engine.proofs.Granted.{held_new, pending_own}
use Rattle.sg_engine.proofs.GrantRuns.{runs_after, engine_after}

-- ---- the seat
abbrev pending_in : Running → Option Statement
pending_in r = option_map (λ (p : Pending). p.statement) r.pending

same_statement : (o : Option Pending) → option_map (λ (p : Pending). p.statement) (option_map done_reading o) ≡ option_map (λ (p : Pending). p.statement) o
same_statement None = refl
same_statement (Some p) = refl

same_job : (o : Option Pending) → job_in_pending (option_map done_reading o) ≡ job_in_pending o
same_job None = refl
same_job (Some p) = refl

writing_shown : (m : Mode) (o : Option Running) → option_map running_in (option_map (with_new m) o) ≡ option_map running_in o
writing_shown m None = refl
writing_shown m (Some r) = ap (λ (q : Option Statement). Some (record { statements = r.statements.items; answers = r.answers.items; open_one = q })) (same_statement r.pending)

pub writing_seat : (m : Mode) (d : Seat) → seat_of (writing m d) ≡ seat_of d
writing_seat m d = ap (λ o. record { begun = d.begun; running = o }) (writing_shown m d.running)

writing_job_by : (m : Mode) (o : Option Running) → job_in_running (option_map (with_new m) o) ≡ job_in_running o
writing_job_by m None = refl
writing_job_by m (Some r) = same_job r.pending

pub writing_job : (m : Mode) (d : Seat) → job_of (writing m d) ≡ job_of d
writing_job m d = writing_job_by m d.running

some_mapped : {A B : Type 0} (f : A → B) (P : A → Type 0) (Q : B → Type 0) (o : Option A) → ((a : A) → P a → Q (f a)) → IfSome o P → IfSome (option_map f o) Q
some_mapped f P Q None h p = tt
some_mapped f P Q (Some a) h p = h a p

none_from : {A : Type 0} (o : Option A) → (is_some o ≡ true → ⊥) → o ≡ None
none_from None h = refl
none_from (Some a) h = absurd (h refl)

-- ---- the cells that are seen, and those that are there
module _ (s : ℕ) (key : CellKey) (index : List CellRow) (absent : version_at index key ≡ None) where
  abbrev more : List CellRow
  more = insert_entry cell_key_cmp index key (fresh s)

  seen_same : (u : ℕ) (c : Path) (j : ℕ) → visible u (version_at more (c, j)) ≡ visible u (version_at index (c, j))
  seen_same u c j = as_before cell_key_cmp cell_key_total s key index absent (visible u) (unseen Mark s u) (c, j)

  there_still : (c : Path) (j : ℕ) → IsSome (version_at index (c, j)) → IsSome (version_at more (c, j))
  there_still c j h = subst IsSome (sym (at cell_key_cmp cell_key_total s key index absent (c, j))) (by_test (is_eq (cell_key_cmp key (c, j))))
    where
      by_test : (b : Bool) → IsSome (cond b (Some (fresh s)) (version_at index (c, j)))
      by_test true = refl
      by_test false = h

module _ (w : Stage) (labels : List Label) (entries : List Entry) (seats : List Seat) (table : List TableRow) (index : List CellRow) (grants : List (Grant Key)) (standing : List Wait) (live room entry_room : ℕ)
    (ok : IsEngine (shown_in w labels entries seats) table index grants standing seats live room entry_room)
    (s i : ℕ) (session : IsSession s) (below : i < 64) (mine : i + 1 ≡ s) (d : Seat) (there : d ≡ get_or seats i d) (k next : Key) (m : Mode)
    (act : IsNextAct (shown_in w labels entries seats) s (Puts k next m)) (free : IsFree (shown_in w labels entries seats) s next RangeIN) where
  abbrev z : State
  z = state w ok.events

  abbrev v : Shown
  v = shown_in w labels entries seats

  own_old : IsSeat w ok.events table index grants s d
  own_old = own_seat w ok.events table index grants seats s i (within_is w labels entries seats table index grants standing live room entry_room ok s i session below mine d there) mine d there ok.kept

  abbrev st : Statement
  st = (act ok.events ok.run).0

  abbrev is_open : IsOpen w ok.events s st
  is_open = (act ok.events ok.run).1

  abbrev is_act : IsAct w z s st (Puts k next m)
  is_act = (act ok.events ok.run).2

  legal_put : IsLegal w (Put s k m ∷ ok.events)
  legal_put = (ok.run.legal, (st, is_open, (next, is_act, free ok.events ok.run)), ok.run.settled)

  good : Good w z
  good = legal_good w ok.staged ok.events ok.run.legal

  unmet : (first_unmet (z.of s).held (needs_of w z s st is_act.selected) ≡ Some (New k)) × (next ≡ Rattle.sg_trace.specs.Keys.next_key (traces.present_keys w z) k) × (m ≡ put_mode (z.of s).held next)
  unmet = puts_for w z s st k next m (first_unmet (z.of s).held (needs_of w z s st is_act.selected)) is_act.follows

  need_ok : NeedOk (IsPresent w.settings z) (New k)
  need_ok = unmet_has (NeedOk (IsPresent w.settings z)) (z.of s) (needs_of w z s st is_act.selected) (New k) (needs_good w z s st is_act.selected good is_act.selects) unmet.0

  code : IsCoded k
  code = coded_key k need_ok.2

  write : is_write m ≡ true
  write = ap is_write unmet.2 ∙ put_writes _

  pub new_not_held : has_grant key_cmp grants s k m ≡ false
  new_not_held = ok.ties.held s session k code m ∙ absent_unheld w z good k need_ok.0 (is_same_mode m) s

  pub new_nobody : (found : List ℕ) → AreSessions found → ((n : ℕ) → has_session found n ≡ locks.blocks key_cmp grants s k m n) → IsUnblocked key_cmp grants s k m
  new_nobody found are has =
      unblocked w ok.staged ok.events ok.run.legal table index grants ok.ties s k code m found has
      (conflict_is w ok.staged ok.events ok.run.legal table index grants ok.ties s k code m found are has ∙ absent_free w z good k need_ok.0 s m)

  -- ---- the key isn't stored
  row_absent : (row : ℕ) → k ≡ Row row → rows.version_at table row ≡ None
  row_absent row e =
      none_from (rows.version_at table row)
      (λ h. need_ok.0 (subst (IsPresent w.settings z) (sym e) ((ok.ties.keys (Row row)).0 (has_key_is (store_keys table index) (Row row) (row_there row table index ∙ h)))))

  cell_absent : (c : Path) (row : ℕ) → k ≡ Cell c row → version_at index (c, row) ≡ None
  cell_absent c row e =
      none_from (version_at index (c, row))
      (λ h. need_ok.0 (subst (IsPresent w.settings z) (sym e) ((ok.ties.keys (Cell c row)).0 (has_key_is (store_keys table index) (Cell c row) (cell_there c (subst IsCoded e code) row table index ok.ties.codes ∙ h)))))

  pub new_key : (a : Versioned ℕ Shape) (b : Versioned CellKey Mark) → a.rows ≡ table → b.rows ≡ index → 1 ≤ a.spare → 1 ≤ b.spare → IsNew a b k
  new_key a b table_is index_is room' room'' = by_key k refl
    where
      by_key : (j : Key) → k ≡ j → IsNew a b j
      by_key (Row row) e = (subst (λ (t : List TableRow). rows.version_at t row ≡ None) (sym table_is) (row_absent row e), room')
      by_key (Cell c row) e = (subst (λ (t : List CellRow). version_at t (c, row) ≡ None) (sym index_is) (cell_absent c row e), room'')
      by_key RowEnd e = need_ok.0 (subst (IsPresent w.settings z) (sym e) (inl refl))
      by_key CellEnd e = need_ok.0 (subst (IsPresent w.settings z) (sym e) (inl refl))

  module _ (new : List (Grant Key)) (adds : AddsGrant key_cmp grants new (record { session = s; key = k; mode = m })) (table' : List TableRow) (index' : List CellRow) (has : HasNew s k table index table' index') where
    ties_after : Ties w.settings (state w (Put s k m ∷ ok.events)) table' index' new
    ties_after = by_key k refl has
      where
        by_key : (j : Key) → k ≡ j → HasNew s j table index table' index' → Ties w.settings (state w (Put s k m ∷ ok.events)) table' index' new
        by_key (Row row) e h =
            subst (λ (t : List CellRow). Ties w.settings (state w (Put s k m ∷ ok.events)) table' t new) (sym h.1)
            (put_row_ties w.settings w ok.events s k code m grants new adds write table index ok.ties row e (row_absent row e) table' h.0)
        by_key (Cell c row) e h =
            subst (λ (t : List TableRow). Ties w.settings (state w (Put s k m ∷ ok.events)) t index' new) (sym h.0)
            (put_cell_ties w.settings w ok.events s k code m grants new adds write table index ok.ties c row e (cell_absent c row e) index' h.1)
        by_key RowEnd e h = absurd h
        by_key CellEnd e h = absurd h

    behind_after : (change : Change) → IsBehindHeld grants s table index change → IsBehindHeld new s table' index' change
    behind_after change b = by_key k refl has
      where
        by_key : (j : Key) → k ≡ j → HasNew s j table index table' index' → IsBehindHeld new s table' index' change
        by_key (Row row) e h = subst (λ (t : List CellRow). IsBehindHeld new s table' t change) (sym h.1) (held_new s k m grants new adds s index index (λ c j. refl) (λ c j x. x) table table' change b)
        by_key (Cell c row) e h =
            subst (λ (t : List CellRow). IsBehindHeld new s table' t change) (sym h.1)
            (held_new s k m grants new adds s index (insert_entry cell_key_cmp index (c, row) (fresh s)) (seen_same s (c, row) index (cell_absent c row e) s) (there_still s (c, row) index (cell_absent c row e)) table table' change b)
        by_key RowEnd e h = absurd h
        by_key CellEnd e h = absurd h

    same_local : (state w (Put s k m ∷ ok.events)).of s ≡ after (Put s k m) (z.of s)
    same_local = with_same z.of s (after (Put s k m) (z.of s))

    live' : IsLive w (Put s k m ∷ ok.events) s
    live' = ap (λ (y : Local). y.live) same_local ∙ is_open.live

    running_after : (r : Running) → IsRunning w ok.events table index grants s r → IsRunning w (Put s k m ∷ ok.events) table' index' new s (with_new m r)
    running_after r h = record {
      cost = ap (cost_with m) h.cost ∙ (sym (cost_more k m (z.of s).held) ∙ ap (λ (y : Local). cost y.held) (sym same_local));
      pending = some_mapped done_reading (λ (p : Pending). IsPending w ok.events table index grants s p.statement p.scan p.work p.delivered) (λ (p : Pending). IsPending w (Put s k m ∷ ok.events) table' index' new s p.statement p.scan p.work p.delivered) r.pending
          (λ p q. pending_own w ok.staged (Put s k m) ok.events legal_put s is_open.live live' (ap (λ (y : Local). y.begun) same_local) (ap (λ (y : Local). y.done) same_local) (ap (λ (y : Local). traces.effects y.done z.rows) same_local)
          table index grants table' index' new (λ st' change h'. behind_after change h'.behind) p.statement p.scan None p.work p.delivered (λ search. tt) q) h.pending;
      statement_room = some_mapped done_reading (λ (p : Pending). 1 ≤ r.statements.spare) (λ (p : Pending). 1 ≤ r.statements.spare) r.pending (λ p q. q) h.statement_room;
      answer_room = some_mapped done_reading (λ (p : Pending). 1 ≤ r.answers.spare) (λ (p : Pending). 1 ≤ r.answers.spare) r.pending (λ p q. q) h.answer_room;
    }

    own_after : IsSeat w (Put s k m ∷ ok.events) table' index' new s (writing m d)
    own_after = record { wish = own_old.wish; running = some_mapped (with_new m) (IsRunning w ok.events table index grants s) (IsRunning w (Put s k m ∷ ok.events) table' index' new s) d.running running_after own_old.running }

    module _ (x : Seat) (x_is : x ≡ writing m d) (labels' : List Label) (pushed : labels' ≡ labels ++ label.Put s k m ∷ []) where
      pub put_runs : (xs : List Event) → IsRunOf xs v → IsRunOf (Put s k m ∷ xs) (shown_in w labels' entries (set seats i x))
      put_runs =
          runs_after w labels entries seats table index grants standing live room entry_room ok s i session below mine d there (Put s k m) refl legal_put ok.run.settled refl refl (λ u. refl) x (ap seat_of x_is ∙ writing_seat m d) labels' pushed

      pub put_engine : (room' : ℕ) → live ≤ room' → IsEngine (shown_in w labels' entries (set seats i x)) table' index' new standing (set seats i x) live room' entry_room
      put_engine =
          engine_after w labels entries seats table index grants standing live room entry_room ok s i session below mine d there (Put s k m) refl legal_put ok.run.settled refl refl (λ u. refl) x (ap seat_of x_is ∙ writing_seat m d) labels' pushed
          table' index' new ties_after (subst (λ y. IsSeat w (Put s k m ∷ ok.events) table' index' new s y) (sym x_is) own_after)
