-- A session that is given a key: its seat, what it has met so far, and what is shown.
use Rattle.std.specs.Prelude.{IfSome, IsSome}
use Rattle.std.specs.List.{AllByRecursion}
use Rattle.std.proofs.Common.{◌≡◌, ℕ, suc, Bool, true, false, cond, List, [], ◌∷◌, length, take, slice_get, Option, Some, None, inl, inr, refl, sym, ap, ◌∙◌, subst}
use Rattle.std.proofs.lemmas.Bool.{or_right}
use Rattle.sg_cells.specs.Cells.{Cell as Path}
use Rattle.sg_cells.specs.Tess.{Entry}
use Rattle.sg_cells.specs.declared.keys.Key.{Key}
use Rattle.sg_cells.specs.declared.keys.Key.TheVariants.{Row, Cell}
use Rattle.sg_locks.specs.Grants.{Grant, has_grant, is_same_grant, AddsGrant}
use Rattle.sg_modes.specs.declared.modes.Mode.{Mode}
use Rattle.sg_modes.specs.declared.modes.Mode.TheVariants.{S, X}
use Rattle.sg_plain.specs.declared.statements.Statement.{Statement}
use Rattle.sg_plain.specs.declared.statements.Statement.TheVariants.{Insert, Update, Delete, Get, Select, Plan, Filter, DeleteWhere}
use Rattle.sg_plain.specs.Rows.{Rows}
use Rattle.sg_rows.specs.Table.{TableRow}
use Rattle.sg_versions.specs.Versions.{visible}
use Rattle.sg_cellrows.specs.CellTable.{CellRow, version_at}
use Rattle.sg_trace.specs.Keys.{meets}
use Rattle.sg_trace.specs.Needs.{Need, Lock, New, Selects, same_mark}
use Rattle.sg_trace.specs.Replies.{Reply}
use Rattle.sg_trace.specs.Traces.{Stage, Event, state, view}
use Rattle.sg_trace.specs.Legal.{IsStage, IsLegal}
use Rattle.sg_scan.specs.declared.scans.Scan.{Scan}
use Rattle.sg_scan.specs.Cursors.{IsPassed}
use Rattle.sg_stores.specs.Agreement.{mark_at}
use Rattle.sg_stores.specs.Held.{key_cmp, holds_where, is_held, first_unheld}
use Rattle.sg_writes.specs.declared.changes.Change.{Change}
use Rattle.sg_writes.specs.Moved.{mark_seen, is_same}
use Rattle.sg_writes.specs.Changes.{IsCellMet, IsRowBehind, IsRowHeld, IsBehindFor, IsBehindHeld}
use Rattle.sg_laws.specs.Reading.{IsGuarded, IsLive}
use Rattle.sg_reading.proofs.Readings.{guards_stay}
use Rattle.sg_engine.specs.declared.shared.Work.{Work}
use Rattle.sg_engine.specs.declared.shared.Work.TheVariants as work
use Rattle.sg_engine.specs.Phases.{AreLeft, HasRefinedAll, IsWriting, IsWork, IsSearching, IsPending}
use Rattle.sg_engine.proofs.Conflicts.{grant_some, grant_back}
use Rattle.sg_engine.proofs.Kept.{if_some}

-- ---- one grant more
module _ (s : ℕ) (k : Key) (m : Mode) (grants new : List (Grant Key)) (adds : AddsGrant key_cmp grants new (record { session = s; key = k; mode = m })) where
  more_held : (test : Mode → Bool) (u : ℕ) (j : Key) → holds_where test grants u j ≡ true → holds_where test new u j ≡ true
  more_held test u j h =
      let g = grant_some test j u grants h in
      grant_back test j u new g.0 g.1 (adds u j g.0 ∙ or_right (is_same_grant key_cmp u j g.0 (record { session = s; key = k; mode = m })) (has_grant key_cmp grants u j g.0) g.2)

  module _ (u : ℕ) where
    need_held : (n : Need) → is_held grants u n ≡ true → is_held new u n ≡ true
    need_held (Lock j l) h = more_held (meets l) u j h
    need_held (New j) h = h

    -- what is met stays met
    all_met : (ns : List Need) → first_unheld grants u ns ≡ None → first_unheld new u ns ≡ None
    all_met [] e = refl
    all_met (n ∷ ns) e = by_test (is_held grants u n) refl (all_met ns) e
      where
        by_test : (b : Bool) → is_held grants u n ≡ b → (first_unheld grants u ns ≡ None → first_unheld new u ns ≡ None) → cond b (first_unheld grants u ns) (Some n) ≡ None → first_unheld new u (n ∷ ns) ≡ None
        by_test true h later e = ap (λ b. cond b (first_unheld new u ns) (Some n)) (need_held n h) ∙ later e
        by_test false h later e = absurd (cc)

    pub passed_more : (table : List TableRow) (index : List CellRow) (scan : Scan) → IsPassed grants u table index scan → IsPassed new u table index scan
    passed_more table index scan h = record { place = h.place; there = h.there; met = all_met _ h.met }

    -- and so does what lies behind a change, where keys have come that nobody sees anything at
    module _ (index index' : List CellRow) (seen : (c : Path) (j : ℕ) → visible u (version_at index' (c, j)) ≡ visible u (version_at index (c, j))) (there : (c : Path) (j : ℕ) → IsSome (version_at index (c, j)) → IsSome (version_at index' (c, j))) where
      moved_back : (list : List Entry) (row : ℕ) (c : Path) → is_same (mark_seen index' u row) (mark_at list) c ≡ false → is_same (mark_seen index u row) (mark_at list) c ≡ false
      moved_back list row c moved = ap (λ o. same_mark o (mark_at list c)) (sym (seen c row)) ∙ moved

      cell_more : (row : ℕ) (c : Path) → IsCellMet grants u index row c → IsCellMet new u index' row c
      cell_more row c h = (there c row h.0, more_held (meets X) u (Cell c row) h.1)

      row_more : (list : List Entry) (row : ℕ) → IsRowHeld grants u index list row → IsRowHeld new u index' list row
      row_more list row h = record { row_held = more_held (meets X) u (Row row) h.row_held; cells_held = λ c code moved. cell_more row c (h.cells_held c code (moved_back list row c moved)) }

      rows_more : (list : List Entry) (rows : List ℕ) → AllByRecursion (IsRowHeld grants u index list) rows → AllByRecursion (IsRowHeld new u index' list) rows
      rows_more list [] h = tt
      rows_more list (row ∷ rows) h = (row_more list row h.0, rows_more list rows h.1)

      behind_more : (row : ℕ) (list : List Entry) (above : Option Path) → IsRowBehind grants u index row list above → IsRowBehind new u index' row list above
      behind_more row list above h = record {
        row_held = if_some (λ (_ : Path). holds_where (meets S) grants u (Row row) ≡ true) (λ (_ : Path). holds_where (meets S) new u (Row row) ≡ true) above (λ c _ x. more_held (meets S) u (Row row) x) h.row_held;
        cells_held = λ c code down moved. cell_more row c (h.cells_held c code down (moved_back list row c moved));
      }

      behind_for : (it : Change) (st : Statement) → IsBehindFor grants u index it st → IsBehindFor new u index' it st
      behind_for it (Insert j shape) h = behind_more j it.cells it.place.cell h
      behind_for it (Update j shape) h = behind_more j it.cells it.place.cell h
      behind_for it (Delete j) h = behind_more j it.cells it.place.cell h
      behind_for it (DeleteWhere q) h = record {
        rows_held = rows_more it.cells (take it.place.row it.selected) h.rows_held;
        row_behind = if_some (λ j. IsRowBehind grants u index j it.cells it.place.cell) (λ j. IsRowBehind new u index' j it.cells it.place.cell) (slice_get it.selected it.place.row) (λ j _ x. behind_more j it.cells it.place.cell x) h.row_behind;
      }
      behind_for it (Get j) h = tt
      behind_for it (Select q) h = tt
      behind_for it (Plan q) h = tt
      behind_for it (Filter shape) h = tt

      pub held_new : (table table' : List TableRow) (it : Change) → IsBehindHeld grants u table index it → IsBehindHeld new u table' index' it
      held_new table table' it h = behind_for it it.statement h

    pub held_more : (table : List TableRow) (index : List CellRow) (it : Change) → IsBehindHeld grants u table index it → IsBehindHeld new u table index it
    held_more table index it h = held_new index index (λ c j. refl) (λ c j h'. h') table table it h

-- ---- the session's own work, where it has begun, answered and seen the same
module _ (w : Stage) (staged : IsStage w) (e : Event) (es : List Event) (legal : IsLegal w (e ∷ es)) (u : ℕ) (live : IsLive w es u) (live' : IsLive w (e ∷ es) u)
    (begun_is : ((state w (e ∷ es)).of u).begun ≡ ((state w es).of u).begun) (done_is : ((state w (e ∷ es)).of u).done ≡ ((state w es).of u).done) (view_is : view (state w (e ∷ es)) u ≡ view (state w es) u)
    (table : List TableRow) (index : List CellRow) (grants : List (Grant Key)) (table' : List TableRow) (index' : List CellRow) (grants' : List (Grant Key)) where
  guarded_on : (st : Statement) → IsGuarded w es u st → IsGuarded w (e ∷ es) u st
  guarded_on st g = guards_stay w e es staged legal u live live' st g

  work_on : (behind : (st : Statement) (change : Change) → IsWriting w es table index grants u st change → IsBehindHeld grants' u table' index' change) (st : Statement) (it : Work)
      → IsWork w es table index grants u st it → IsWork w (e ∷ es) table' index' grants' u st it
  work_on behind st work.Unread h = tt
  work_on behind st (work.Awaits found job) h = record {
    name = record { session = h.name.session; transaction = h.name.transaction ∙ sym begun_is; statement = h.name.statement ∙ ap (λ ds. suc (length ds)) (sym done_is) };
    asks = h.asks;
    items = subst (λ (rs : Rows). AreLeft w.settings rs st job.items) (sym view_is) h.items;
    some = h.some;
    guarded = guarded_on st h.guarded;
    replies = λ ks is. if_some (Reply w.settings (view (state w es) u) st) (Reply w.settings (view (state w (e ∷ es)) u) st) _ (λ a _ r. subst (λ (rs : Rows). Reply w.settings rs st a) (sym view_is) r) (h.replies ks is);
  }
  work_on behind st (work.Refined found done) h = record {
    asks = h.asks;
    guarded = guarded_on st h.guarded;
    reply = if_some (Reply w.settings (view (state w es) u) st) (Reply w.settings (view (state w (e ∷ es)) u) st) _ (λ a _ r. subst (λ (rs : Rows). Reply w.settings rs st a) (sym view_is) r) h.reply;
  }
  work_on behind st (work.Writes change) h = record {
    writes = h.writes;
    change_for = h.change_for;
    behind = behind st change h;
    selects = subst (λ (rs : Rows). Selects rs st change.selected) (sym view_is) h.selects;
    guarded = λ reads. guarded_on st (h.guarded reads);
  }

  refined_on : (st : Statement) (it : Work) (delivered : Bool) → HasRefinedAll w es u st it delivered → HasRefinedAll w (e ∷ es) u st it delivered
  refined_on st work.Unread delivered h = tt
  refined_on st (work.Awaits found job) delivered h = tt
  refined_on st (work.Refined found done) delivered h = tt
  refined_on st (work.Writes change) delivered (inl had) = inl had
  refined_on st (work.Writes change) delivered (inr none) = inr (λ reads. subst (λ (rs : Rows). AreLeft w.settings rs st []) (sym view_is) (none reads))

  pub pending_own : (behind : (st : Statement) (change : Change) → IsWriting w es table index grants u st change → IsBehindHeld grants' u table' index' change)
      → (st : Statement) (scan scan' : Option Scan) (it : Work) (delivered : Bool) → (IfSome scan (IsSearching w es table index grants u st) → IfSome scan' (IsSearching w (e ∷ es) table' index' grants' u st))
      → IsPending w es table index grants u st scan it delivered → IsPending w (e ∷ es) table' index' grants' u st scan' it delivered
  pending_own behind st scan scan' it delivered search h = record { sound = h.sound; search = search h.search; work = work_on behind st it h.work; refined = refined_on st it delivered h.refined }
