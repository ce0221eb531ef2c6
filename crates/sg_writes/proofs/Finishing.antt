-- What a finished change leaves, from what is written.
use Rattle.std.specs.Prelude.{IsSome, not, is_some, All}
use Rattle.std.proofs.Common.{◌≡◌, ◌≢◌, ◌⊎◌, inl, inr, ℕ, ◌==◌, Bool, true, false, ◌&&◌, cond, eqb, eqb-true, List, Option, Some, None, refl, sym, ap, ◌∙◌, subst}
use mathlib.Core.Bool.{true≢false}
use Rattle.std.proofs.lemmas.Bool.{eq-eqb, ne_eqb}
use Rattle.std.specs.Ordering.{nat_cmp}
use Rattle.std.specs.List.{list_any}
use Rattle.std.specs.List.Sorted.{IsStrictlySortedBy}
use Rattle.std.specs.Map.{keys_of}
use Rattle.std.specs.Option.{option_map}
use Rattle.sg_shape.specs.declared.shapes.Shape.{Shape}
use Rattle.sg_cells.specs.Cells.{Cell, Grid}
use Rattle.sg_cells.specs.Tess.{Entry}
use Rattle.sg_cells.specs.declared.settings.Settings.{Settings}
use Rattle.sg_pages.specs.Stored.{HasRisingKeys}
use Rattle.sg_plain.specs.declared.statements.Query.{Query}
use Rattle.sg_plain.specs.declared.statements.Statement.{Statement}
use Rattle.sg_plain.specs.declared.statements.Statement.TheVariants.{Insert, Update, Delete, Get, Select, Plan, Filter, DeleteWhere}
use Rattle.sg_plain.specs.declared.statements.Answer.{Answer}
use Rattle.sg_plain.specs.declared.statements.Answer.TheVariants as answer
use Rattle.sg_plain.specs.Keys.{RisesFrom}
use Rattle.sg_plain.specs.Rows as plain
use Rattle.sg_plain.specs.Rows.{AreRows, shape_at, put, without_key, without_keys}
use Rattle.sg_plain.specs.Sat.{IsSoundStatement}
use Rattle.sg_plain.specs.Replies.{Means, effect}
use Rattle.sg_plain.proofs.Lookups.{AreRows-put, AreRows-without_key, AreRows-without_keys, shape_at-put_same, shape_at-put_other, shape_at-without_key_same, shape_at-without_key_other, shape_at-without_keys_kept, shape_at-without_keys_gone}
use Rattle.sg_versions.specs.declared.version.Version.{Version}
use Rattle.sg_versions.specs.Versions.{is_writer, visible, written}
use Rattle.sg_versions.specs.Writers.{writer_of}
use Rattle.sg_rows.specs.Table.{TableRow, AreSoundRows}
use Rattle.sg_rows.specs.Table as rows
use Rattle.sg_cellrows.specs.CellTable.{CellRow, version_at}
use Rattle.sg_trace.specs.Replies.{Reply}
use Rattle.sg_trace.specs.Needs.{Selects}
use Rattle.sg_stores.specs.Agreement.{mark_at, mark_of, committed_in, SeenAgree, seen_rows}
use Rattle.sg_writes.specs.declared.changes.Change.{Change}
use Rattle.sg_writes.specs.Moved.{mark_seen, is_same}
use Rattle.sg_writes.specs.Changes.{Writes, new_cells, IsChangeFor}
use Rattle.sg_writes.specs.Finished.{IsFree, IsReady, IsAlone, IsAloneFor, AreWritten, writes_row, new_shape, IsFinished, Finishes}
use Rattle.sg_stores.proofs.Picked.{same_from, seen_rise, seen_are_rows, shape_at-seen}
use Rattle.sg_writes.proofs.Writing.{row_seen, cell_seen, alike_written}

-- ---- one version
module _ {V : Type 0} (s : ℕ) (value : Option V) where
  committed_written : (o : Option (Version V)) → committed_in (option_map (written s value) o) ≡ committed_in o
  committed_written None = refl
  committed_written (Some v) = refl

  not_mine : (u : ℕ) → u ≢ s → (w : Option ℕ) → (w ≡ None) ⊎ (w ≡ Some s) → is_writer u w ≡ false
  not_mine u other w (inl e) = ap (is_writer u) e
  not_mine u other w (inr e) = ap (is_writer u) e ∙ ne_eqb u s other

  others_written : (u : ℕ) → u ≢ s → (o : Option (Version V)) → IsFree s o → visible u (option_map (written s value) o) ≡ visible u o
  others_written u other None free = refl
  others_written u other (Some v) free =
      ap (λ b. cond b value v.committed) (ne_eqb u s other) ∙ sym (ap (λ b. cond b v.live v.committed) (not_mine u other v.writer free.1))

-- the marks of the shape that is left
marks_are : (g : Option Grid) (st : Statement) → Writes st → (cell : Cell) → mark_at (new_cells g st) cell ≡ mark_of g (new_shape st) cell
marks_are None (Insert k shape) h cell = refl
marks_are (Some g) (Insert k shape) h cell = refl
marks_are None (Update k shape) h cell = refl
marks_are (Some g) (Update k shape) h cell = refl
marks_are None (Delete k) h cell = refl
marks_are (Some g) (Delete k) h cell = refl
marks_are None (DeleteWhere q) h cell = refl
marks_are (Some g) (DeleteWhere q) h cell = refl
marks_are g (Get k) h cell = absurd h
marks_are g (Select q) h cell = absurd h
marks_are g (Plan q) h cell = absurd h
marks_are g (Filter f) h cell = absurd h

apart_from : (k j : ℕ) → eqb k j ≡ false → k ≢ j
apart_from k j e same = absurd (true≢false (sym (eq-eqb k j same) ∙ e))

-- ---- the rows that a statement leaves
put_at : (rows : plain.Rows) (k : ℕ) (shape : Shape) (j : ℕ) → shape_at (put k shape rows) j ≡ cond (eqb k j) (Some shape) (shape_at rows j)
put_at rows k shape j = by_key (eqb k j) refl
  where
    by_key : (b : Bool) → eqb k j ≡ b → shape_at (put k shape rows) j ≡ cond b (Some shape) (shape_at rows j)
    by_key true e = subst (λ (i : ℕ). shape_at (put k shape rows) i ≡ Some shape) (eqb-true k j e) (shape_at-put_same rows k shape)
    by_key false e = shape_at-put_other rows k shape j (apart_from k j e)

gone_at : (rows : plain.Rows) (k j : ℕ) → shape_at (without_key k rows) j ≡ cond (eqb k j) None (shape_at rows j)
gone_at rows k j = by_key (eqb k j) refl
  where
    by_key : (b : Bool) → eqb k j ≡ b → shape_at (without_key k rows) j ≡ cond b None (shape_at rows j)
    by_key true e = subst (λ (i : ℕ). shape_at (without_key k rows) i ≡ None) (eqb-true k j e) (shape_at-without_key_same rows k)
    by_key false e = shape_at-without_key_other rows k j (apart_from k j e)

all_gone_at : (rows : plain.Rows) (ks : List ℕ) (j : ℕ) → shape_at (without_keys ks rows) j ≡ cond (list_any (λ k. k == j) ks) None (shape_at rows j)
all_gone_at rows ks j = by_key (list_any (λ k. k == j) ks) refl
  where
    by_key : (b : Bool) → list_any (λ k. k == j) ks ≡ b → shape_at (without_keys ks rows) j ≡ cond b None (shape_at rows j)
    by_key true e = shape_at-without_keys_gone rows ks j e
    by_key false e = shape_at-without_keys_kept rows ks j e

module _ (rows : plain.Rows) (are : AreRows rows) where
  effect_are : (st : Statement) (a : Answer) → IsSoundStatement st → Means rows st a → AreRows (effect st a rows)
  effect_are (Insert k shape) answer.Inserted h m = AreRows-put rows k shape are h
  effect_are (Insert k shape) answer.Duplicate h m = are
  effect_are (Insert k shape) _ h m = absurd m
  effect_are (Update k shape) answer.Done h m = AreRows-put rows k shape are h
  effect_are (Update k shape) answer.Missing h m = are
  effect_are (Update k shape) _ h m = absurd m
  effect_are (Delete k) answer.Done h m = AreRows-without_key rows k are
  effect_are (Delete k) answer.Missing h m = are
  effect_are (Delete k) _ h m = absurd m
  effect_are (DeleteWhere q) (answer.Deleted ks) h m = AreRows-without_keys rows ks are
  effect_are (DeleteWhere q) _ h m = absurd m
  effect_are (Get k) a h m = are
  effect_are (Select q) a h m = are
  effect_are (Plan q) a h m = are
  effect_are (Filter f) a h m = are

  pub effect_at : (st : Statement) (a : Answer) → Writes st → Means rows st a → (j : ℕ) → shape_at (effect st a rows) j ≡ cond (writes_row st a j) (new_shape st) (shape_at rows j)
  effect_at (Insert k shape) answer.Inserted h m j = put_at rows k shape j
  effect_at (Insert k shape) answer.Duplicate h m j = refl
  effect_at (Insert k shape) _ h m j = absurd m
  effect_at (Update k shape) answer.Done h m j = put_at rows k shape j
  effect_at (Update k shape) answer.Missing h m j = refl
  effect_at (Update k shape) _ h m j = absurd m
  effect_at (Delete k) answer.Done h m j = gone_at rows k j
  effect_at (Delete k) answer.Missing h m j = refl
  effect_at (Delete k) _ h m j = absurd m
  effect_at (DeleteWhere q) (answer.Deleted ks) h m j = all_gone_at rows ks j
  effect_at (DeleteWhere q) _ h m j = absurd m
  effect_at (Get k) a h m j = absurd h
  effect_at (Select q) a h m j = absurd h
  effect_at (Plan q) a h m j = absurd h
  effect_at (Filter f) a h m j = absurd h

reply_of : (c : Settings) (rows : plain.Rows) (st : Statement) (a : Answer) → Writes st → Means rows st a → Reply c rows st a
reply_of c rows (Insert k shape) a h m = m
reply_of c rows (Update k shape) a h m = m
reply_of c rows (Delete k) a h m = m
reply_of c rows (DeleteWhere q) a h m = m
reply_of c rows (Get k) a h m = absurd h
reply_of c rows (Select q) a h m = absurd h
reply_of c rows (Plan q) a h m = absurd h
reply_of c rows (Filter f) a h m = absurd h

-- a statement that writes and is none of these deletes where
module _ (t : Statement) (writes : Writes t) (no_insert : (k : ℕ) (shape : Shape) → t ≡ Insert k shape → ⊥) (no_update : (k : ℕ) (shape : Shape) → t ≡ Update k shape → ⊥) (no_delete : (k : ℕ) → t ≡ Delete k → ⊥) where
  pub is_removal : (q : Query) × (t ≡ DeleteWhere q)
  is_removal = by_statement t refl writes
    where
      by_statement : (u : Statement) → t ≡ u → Writes u → (q : Query) × (t ≡ DeleteWhere q)
      by_statement (Insert k shape) e h = absurd (no_insert k shape e)
      by_statement (Update k shape) e h = absurd (no_update k shape e)
      by_statement (Delete k) e h = absurd (no_delete k e)
      by_statement (DeleteWhere q) e h = (q, e)
      by_statement (Get k) e h = absurd h
      by_statement (Select q) e h = absurd h
      by_statement (Plan q) e h = absurd h
      by_statement (Filter f) e h = absurd h

-- and what it removes is ready
pub removal_ready : (s : ℕ) (table : List TableRow) (index : List CellRow) (it : Change) → (q : Query) × (it.statement ≡ DeleteWhere q) → IsAlone s table index it → All (IsReady s table index it.cells) it.selected
removal_ready s table index it removal alone = subst (IsAloneFor s table index it) removal.1 alone

module _ (s : ℕ) (table : List TableRow) (index : List CellRow) (rising : HasRisingKeys nat_cmp table) (sound : AreSoundRows table) (table' : List TableRow) (index' : List CellRow) where
  module _ (c : Settings) (st : Statement) (a : Answer) (writes : Writes st) (sound_st : IsSoundStatement st) (agree : SeenAgree c s table index) (means : Means (seen_rows s table) st a)
      (w : AreWritten s (writes_row st a) (new_shape st) (new_cells c.grid st) table index table' index') where
    seen_is : (k : ℕ) → visible s (rows.version_at table' k) ≡ cond (writes_row st a k) (new_shape st) (visible s (rows.version_at table k))
    seen_is k = row_seen s (new_shape st) (new_cells c.grid st) table index (writes_row st a) table' index' w k

    rising_then : HasRisingKeys nat_cmp table'
    rising_then = subst (IsStrictlySortedBy nat_cmp) (sym w.row_keys) rising

    are : AreRows (seen_rows s table)
    are = seen_are_rows s table rising sound

    -- row by row the session sees the effect
    effect_seen : seen_rows s table' ≡ effect st a (seen_rows s table)
    effect_seen =
        same_from 0 (seen_rows s table') (effect st a (seen_rows s table)) (seen_rise s table' rising_then) (effect_are (seen_rows s table) are st a sound_st means).rising
        (λ k. shape_at-seen s table' k rising_then ∙ (seen_is k ∙ (ap (cond (writes_row st a k) (new_shape st)) (sym (shape_at-seen s table k rising)) ∙ sym (effect_at (seen_rows s table) are st a writes means k))))

    -- and so in the cells
    agree_then : SeenAgree c s table' index'
    agree_then cell k =
        cell_seen s (new_shape st) (new_cells c.grid st) table index (writes_row st a) table' index' w cell k ∙ (by_row (writes_row st a k) ∙ ap (λ o. mark_of c.grid o cell) (sym (seen_is k)))
      where
        by_row : (b : Bool) → cond b (mark_at (new_cells c.grid st) cell) (visible s (version_at index (cell, k))) ≡ mark_of c.grid (cond b (new_shape st) (visible s (rows.version_at table k))) cell
        by_row true = marks_are c.grid st writes cell
        by_row false = agree cell k

    row_committed : (k : ℕ) → committed_in (rows.version_at table' k) ≡ committed_in (rows.version_at table k)
    row_committed k = ap committed_in (w.rows_are k) ∙ by_row (writes_row st a k)
      where
        by_row : (b : Bool) → committed_in (cond b (option_map (written s (new_shape st)) (rows.version_at table k)) (rows.version_at table k)) ≡ committed_in (rows.version_at table k)
        by_row true = committed_written s (new_shape st) (rows.version_at table k)
        by_row false = refl

    cell_committed : (cell : Cell) (k : ℕ) → committed_in (version_at index' (cell, k)) ≡ committed_in (version_at index (cell, k))
    cell_committed cell k = ap committed_in (w.cells_are cell k) ∙ by_row (writes_row st a k && not (is_same (mark_seen index s k) (mark_at (new_cells c.grid st)) cell))
      where
        by_row : (b : Bool) → committed_in (cond b (option_map (written s (mark_at (new_cells c.grid st) cell)) (version_at index (cell, k))) (version_at index (cell, k))) ≡ committed_in (version_at index (cell, k))
        by_row true = committed_written s (mark_at (new_cells c.grid st) cell) (version_at index (cell, k))
        by_row false = refl

    row_others : (u k : ℕ) → u ≢ s → visible u (rows.version_at table' k) ≡ visible u (rows.version_at table k)
    row_others u k other = ap (visible u) (w.rows_are k) ∙ by_row (writes_row st a k) refl
      where
        by_row : (b : Bool) → writes_row st a k ≡ b → visible u (cond b (option_map (written s (new_shape st)) (rows.version_at table k)) (rows.version_at table k)) ≡ visible u (rows.version_at table k)
        by_row true e = others_written s (new_shape st) u other (rows.version_at table k) (w.row_free k e)
        by_row false e = refl

    cell_others : (u : ℕ) (cell : Cell) (k : ℕ) → u ≢ s → visible u (version_at index' (cell, k)) ≡ visible u (version_at index (cell, k))
    cell_others u cell k other = ap (visible u) (w.cells_are cell k) ∙ by_tests (writes_row st a k) (is_same (mark_seen index s k) (mark_at (new_cells c.grid st)) cell) refl refl
      where
        by_tests : (b d : Bool) → writes_row st a k ≡ b → is_same (mark_seen index s k) (mark_at (new_cells c.grid st)) cell ≡ d
            → visible u (cond (b && not d) (option_map (written s (mark_at (new_cells c.grid st) cell)) (version_at index (cell, k))) (version_at index (cell, k))) ≡ visible u (version_at index (cell, k))
        by_tests true false e f = others_written s (mark_at (new_cells c.grid st) cell) u other (version_at index (cell, k)) (w.cell_free cell k e f)
        by_tests true true e f = refl
        by_tests false d e f = refl

    finished : IsFinished c st s table index table' index' a
    finished = record {
      reply = reply_of c (seen_rows s table) st a writes means;
      seen = effect_seen;
      agree = agree_then;
      written = w;
      committed = row_committed;
      cells_committed = cell_committed;
      others = row_others;
      cell_others = cell_others;
    }

  -- ---- the statements
  module _ (it : Change) (sound_it : IsSoundStatement it.statement) where
    whole : (a : Answer) (wrote : ℕ → Bool) (shape : Option Shape) → Writes it.statement → ((k : ℕ) → wrote k ≡ writes_row it.statement a k) → shape ≡ new_shape it.statement
        → (Selects (seen_rows s table) it.statement it.selected → Means (seen_rows s table) it.statement a) → AreWritten s wrote shape it.cells table index table' index' → Finishes s table index table' index' it a
    whole a wrote shape writes wrote_is shape_is means w = λ c st selected is settings agree selects.
        let cells_are = is.cells ∙ ap (new_cells c.grid) (sym is.statement) in
        let by_test = alike_written s shape it.cells table index wrote table' index' w (writes_row it.statement a) wrote_is in
        let of_shape = subst (λ (o : Option Shape). AreWritten s (writes_row it.statement a) o it.cells table index table' index') shape_is by_test in
        let of_cells = subst (λ (es : List Entry). AreWritten s (writes_row it.statement a) (new_shape it.statement) es table index table' index') cells_are of_shape in
        let selects_it = subst (λ (ks : List ℕ). Selects (seen_rows s table) it.statement ks) (sym is.selected) (subst (λ (t : Statement). Selects (seen_rows s table) t selected) (sym is.statement) selects) in
        subst (λ (t : Statement). IsFinished c t s table index table' index' a) is.statement (finished c it.statement a writes sound_it agree (means selects_it) of_cells)

    abbrev seen_at : ℕ → Option Shape
    seen_at k = visible s (rows.version_at table k)

    pub inserts : (k : ℕ) (shape : Shape) (a : Answer) → it.statement ≡ Insert k shape → a ≡ cond (is_some (seen_at k)) answer.Duplicate answer.Inserted
        → AreWritten s (λ j. not (is_some (seen_at k)) && eqb k j) (Some shape) it.cells table index table' index' → Finishes s table index table' index' it a
    inserts k shape a is answer_is w =
        whole a (λ j. not (is_some (seen_at k)) && eqb k j) (Some shape) (subst Writes (sym is) tt) (λ j. wrote (is_some (seen_at k)) j ∙ sym (ap (λ t. writes_row t a j) is ∙ ap (λ b. writes_row (Insert k shape) b j) answer_is)) (sym (ap new_shape is))
        (λ selects. subst (λ (t : Statement). Means (seen_rows s table) t a) (sym is) (subst (Means (seen_rows s table) (Insert k shape)) (sym answer_is) (means (seen_at k) (shape_at-seen s table k rising)))) w
      where
        wrote : (b : Bool) (j : ℕ) → (not b && eqb k j) ≡ writes_row (Insert k shape) (cond b answer.Duplicate answer.Inserted) j
        wrote true j = refl
        wrote false j = refl

        means : (o : Option Shape) → shape_at (seen_rows s table) k ≡ o → Means (seen_rows s table) (Insert k shape) (cond (is_some o) answer.Duplicate answer.Inserted)
        means None e = e
        means (Some x) e = subst IsSome (sym e) refl

    edit_wrote : (b : Bool) (k j : ℕ) (st : Statement) → ((i : ℕ) → writes_row st answer.Done i ≡ eqb k i) → ((i : ℕ) → writes_row st answer.Missing i ≡ false) → (b && eqb k j) ≡ writes_row st (cond b answer.Done answer.Missing) j
    edit_wrote true k j st done missing = sym (done j)
    edit_wrote false k j st done missing = sym (missing j)

    pub updates : (k : ℕ) (shape : Shape) (a : Answer) → it.statement ≡ Update k shape → a ≡ cond (is_some (seen_at k)) answer.Done answer.Missing
        → AreWritten s (λ j. is_some (seen_at k) && eqb k j) (Some shape) it.cells table index table' index' → Finishes s table index table' index' it a
    updates k shape a is answer_is w =
        whole a (λ j. is_some (seen_at k) && eqb k j) (Some shape) (subst Writes (sym is) tt) (λ j. edit_wrote (is_some (seen_at k)) k j (Update k shape) (λ i. refl) (λ i. refl) ∙ sym (ap (λ t. writes_row t a j) is ∙ ap (λ b. writes_row (Update k shape) b j) answer_is)) (sym (ap new_shape is))
        (λ selects. subst (λ (t : Statement). Means (seen_rows s table) t a) (sym is) (subst (Means (seen_rows s table) (Update k shape)) (sym answer_is) (means (seen_at k) (shape_at-seen s table k rising)))) w
      where
        means : (o : Option Shape) → shape_at (seen_rows s table) k ≡ o → Means (seen_rows s table) (Update k shape) (cond (is_some o) answer.Done answer.Missing)
        means None e = e
        means (Some x) e = subst IsSome (sym e) refl

    pub deletes : (k : ℕ) (a : Answer) → it.statement ≡ Delete k → a ≡ cond (is_some (seen_at k)) answer.Done answer.Missing
        → AreWritten s (λ j. is_some (seen_at k) && eqb k j) None it.cells table index table' index' → Finishes s table index table' index' it a
    deletes k a is answer_is w =
        whole a (λ j. is_some (seen_at k) && eqb k j) None (subst Writes (sym is) tt) (λ j. edit_wrote (is_some (seen_at k)) k j (Delete k) (λ i. refl) (λ i. refl) ∙ sym (ap (λ t. writes_row t a j) is ∙ ap (λ b. writes_row (Delete k) b j) answer_is)) (sym (ap new_shape is))
        (λ selects. subst (λ (t : Statement). Means (seen_rows s table) t a) (sym is) (subst (Means (seen_rows s table) (Delete k)) (sym answer_is) (means (seen_at k) (shape_at-seen s table k rising)))) w
      where
        means : (o : Option Shape) → shape_at (seen_rows s table) k ≡ o → Means (seen_rows s table) (Delete k) (cond (is_some o) answer.Done answer.Missing)
        means None e = e
        means (Some x) e = subst IsSome (sym e) refl

    pub removes : (a : Answer) → (q : Query) × (it.statement ≡ DeleteWhere q) → a ≡ answer.Deleted it.selected
        → AreWritten s (λ j. list_any (λ k. k == j) it.selected) None it.cells table index table' index' → Finishes s table index table' index' it a
    removes a removal answer_is w =
        let q = removal.0 in
        let e = removal.1 in
        whole a (λ j. list_any (λ k. k == j) it.selected) None (subst Writes (sym e) tt) (λ j. sym (ap (λ t. writes_row t a j) e ∙ ap (λ b. writes_row (DeleteWhere q) b j) answer_is)) (sym (ap new_shape e))
        (λ selects. subst (λ (t : Statement). Means (seen_rows s table) t a) (sym e) (subst (Means (seen_rows s table) (DeleteWhere q)) (sym answer_is) (subst (λ (t : Statement). Selects (seen_rows s table) t it.selected) e selects))) w
