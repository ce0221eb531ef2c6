-- Rows that are written, one after another.
use Rattle.std.specs.Prelude.{IsSome, not}
use Rattle.std.proofs.Common.{◌≡◌, ◌⊎◌, inl, inr, ℕ, ◌+◌, ◌==◌, Bool, true, false, ◌&&◌, ◌||◌, cond, eqb, eqb-true, take, List, [], ◌∷◌, ◌++◌, Option, Some, None, refl, sym, ap, ◌∙◌, subst}
use mathlib.Core.Bool.{true≢false}
use Rattle.std.proofs.lemmas.Bool.{eq-eqb}
use Rattle.std.specs.Option.{option_map}
use Rattle.std.specs.Ordering.{nat_cmp, is_eq}
use Rattle.std.specs.Cmp.{nat_cmp_total}
use Rattle.std.specs.BTreeMap.{is_at}
use Rattle.std.specs.Map.{keys_of}
use Rattle.std.specs.List.{list_any}
use Rattle.std.proofs.lemmas.List.Folds.{list_any-append}
use Rattle.sg_shape.specs.declared.shapes.Shape.{Shape}
use Rattle.sg_cells.specs.Cells.{Cell, IsCode}
use Rattle.sg_cells.specs.Tess.{Entry}
use Rattle.sg_cells.specs.declared.marks.Mark.{Mark}
use Rattle.sg_cells.specs.declared.marks.Mark.TheVariants.{Part, Cover}
use Rattle.sg_versions.specs.declared.version.Version.{Version}
use Rattle.sg_versions.specs.Versions.{visible, written, change_at}
use Rattle.sg_versions.specs.Writers.{writer_of}
use Rattle.sg_versions.proofs.Indexes.{lookup_written}
use Rattle.sg_rows.specs.Table.{TableRow}
use Rattle.sg_rows.specs.Table as rows
use Rattle.sg_cellrows.specs.CellTable.{CellRow, version_at}
use Rattle.sg_stores.specs.Agreement.{mark_at}
use Rattle.sg_locks.proofs.GrantLaws.{is_eq-nat_cmp}
use Rattle.sg_trace.specs.Needs.{same_mark}
use Rattle.sg_writes.specs.Moved.{mark_seen, is_same}
use Rattle.sg_writes.specs.Finished.{IsFree, IsReady, AreCellsWritten, AreWritten}
use Rattle.sg_stores.proofs.Rising.{keys_changed}
use Rattle.sg_writes.proofs.Moving.{same_refl}

-- ---- one version
module _ {V : Type 0} (s : ℕ) (value : Option V) where
  pub free_written : (o : Option (Version V)) → IsFree s o → IsFree s (option_map (written s value) o)
  free_written None free = free
  free_written (Some v) free = (refl, inr refl)

  twice : (o : Option (Version V)) → option_map (written s value) (option_map (written s value) o) ≡ option_map (written s value) o
  twice None = refl
  twice (Some v) = refl

  itself : eqb s s ≡ true
  itself = eq-eqb s s refl

  -- the session sees what it wrote
  pub seen_written : (o : Option (Version V)) → IsSome o → visible s (option_map (written s value) o) ≡ value
  seen_written None there = absurd (true≢false (sym there))
  seen_written (Some v) there = ap (λ b. cond b value v.committed) itself

pub same_is : (a b : Option Mark) → same_mark a b ≡ true → a ≡ b
same_is None None e = refl
same_is (Some Part) (Some Part) e = refl
same_is (Some Cover) (Some Cover) e = refl
same_is (Some Part) (Some Cover) e = absurd (true≢false (sym e))
same_is (Some Cover) (Some Part) e = absurd (true≢false (sym e))
same_is None (Some b) e = absurd (true≢false (sym e))
same_is (Some Part) None e = absurd (true≢false (sym e))
same_is (Some Cover) None e = absurd (true≢false (sym e))

module _ (s : ℕ) (shape : Option Shape) (list : List Entry) (table : List TableRow) (index : List CellRow) where
  abbrev still : ℕ → Cell → Bool
  still k c = is_same (mark_seen index s k) (mark_at list) c

  -- ---- one row
  module _ (k : ℕ) (ready : IsReady s table index list k) (table' : List TableRow) (index' : List CellRow)
      (is : table' ≡ change_at (is_at (nat_cmp k)) (written s shape) table) (cells : AreCellsWritten s k list index index') where
    row_at : (j : ℕ) → rows.version_at table' j ≡ cond (eqb k j) (option_map (written s shape) (rows.version_at table j)) (rows.version_at table j)
    row_at j =
        ap (λ (t : List TableRow). rows.version_at t j) is
        ∙ (lookup_written nat_cmp nat_cmp_total table k s shape j ready.row.0 ∙ ap (λ b. cond b (option_map (written s shape) (rows.version_at table j)) (rows.version_at table j)) (is_eq-nat_cmp k j))

    cell_at : (c : Cell) (j : ℕ) → version_at index' (c, j) ≡ cond (eqb k j && not (still j c)) (option_map (written s (mark_at list c)) (version_at index (c, j))) (version_at index (c, j))
    cell_at c j = cells.each c j ∙ ap (λ b. cond b (option_map (written s (mark_at list c)) (version_at index (c, j))) (version_at index (c, j))) (by_key (eqb k j) refl)
      where
        by_key : (b : Bool) → eqb k j ≡ b → (b && not (still k c)) ≡ (b && not (still j c))
        by_key false e = refl
        by_key true e = ap (λ i. not (still i c)) (eqb-true k j e)

    pub row_written : AreWritten s (eqb k) shape list table index table' index'
    row_written = record {
      rows_are = row_at;
      cells_are = cell_at;
      row_free = λ j e. subst (λ i. IsFree s (rows.version_at table i)) (eqb-true k j e) ready.row;
      cell_free = λ c j e moved. subst (λ i. still i c ≡ false → IsFree s (version_at index (c, i))) (eqb-true k j e) (cells.free c) moved;
      row_keys = ap keys_of is ∙ keys_changed (is_at (nat_cmp k)) (written s shape) table;
      cell_keys = cells.keys;
    }

  -- ---- several
  pub none_written : AreWritten s (λ k. false) shape list table index table index
  none_written = record {
    rows_are = λ k. refl;
    cells_are = λ c k. refl;
    row_free = λ k e. absurd (true≢false (sym e));
    cell_free = λ c k e moved. absurd (true≢false (sym e));
    row_keys = refl;
    cell_keys = refl;
  }

  module _ (wrote : ℕ → Bool) (table' : List TableRow) (index' : List CellRow) (w : AreWritten s wrote shape list table index table' index') where
    -- the same rows by another test
    pub alike_written : (test : ℕ → Bool) → ((k : ℕ) → wrote k ≡ test k) → AreWritten s test shape list table index table' index'
    alike_written test same = record {
      rows_are = λ k. w.rows_are k ∙ ap (λ b. cond b (option_map (written s shape) (rows.version_at table k)) (rows.version_at table k)) (same k);
      cells_are = λ c k. w.cells_are c k ∙ ap (λ b. cond (b && not (still k c)) (option_map (written s (mark_at list c)) (version_at index (c, k))) (version_at index (c, k))) (same k);
      row_free = λ k e. w.row_free k (same k ∙ e);
      cell_free = λ c k e moved. w.cell_free c k (same k ∙ e) moved;
      row_keys = w.row_keys;
      cell_keys = w.cell_keys;
    }

    -- what the session sees then
    pub row_seen : (k : ℕ) → visible s (rows.version_at table' k) ≡ cond (wrote k) shape (visible s (rows.version_at table k))
    row_seen k = ap (visible s) (w.rows_are k) ∙ by_test (wrote k) refl
      where
        by_test : (b : Bool) → wrote k ≡ b → visible s (cond b (option_map (written s shape) (rows.version_at table k)) (rows.version_at table k)) ≡ cond b shape (visible s (rows.version_at table k))
        by_test true e = seen_written s shape (rows.version_at table k) (w.row_free k e).0
        by_test false e = refl

    pub cell_seen : (c : Cell) (k : ℕ) → visible s (version_at index' (c, k)) ≡ cond (wrote k) (mark_at list c) (visible s (version_at index (c, k)))
    cell_seen c k = ap (visible s) (w.cells_are c k) ∙ by_test (wrote k) (still k c) refl refl
      where
        by_test : (b d : Bool) → wrote k ≡ b → still k c ≡ d
            → visible s (cond (b && not d) (option_map (written s (mark_at list c)) (version_at index (c, k))) (version_at index (c, k))) ≡ cond b (mark_at list c) (visible s (version_at index (c, k)))
        by_test false d e f = refl
        by_test true true e f = same_is (visible s (version_at index (c, k))) (mark_at list c) f
        by_test true false e f = seen_written s (mark_at list c) (version_at index (c, k)) (w.cell_free c k e f).0

    abbrev still_then : ℕ → Cell → Bool
    still_then k c = is_same (mark_seen index' s k) (mark_at list) c

    -- a written row has the marks of the list
    still_wrote : (c : Cell) (k : ℕ) → wrote k ≡ true → still_then k c ≡ true
    still_wrote c k e =
        ap (λ o. same_mark o (mark_at list c)) (cell_seen c k ∙ ap (λ b. cond b (mark_at list c) (visible s (version_at index (c, k)))) e) ∙ same_refl (mark_at list c)

    -- and each other its own
    row_other : (k : ℕ) → wrote k ≡ false → rows.version_at table' k ≡ rows.version_at table k
    row_other k e = w.rows_are k ∙ ap (λ b. cond b (option_map (written s shape) (rows.version_at table k)) (rows.version_at table k)) e

    cell_other : (c : Cell) (k : ℕ) → wrote k ≡ false → version_at index' (c, k) ≡ version_at index (c, k)
    cell_other c k e = w.cells_are c k ∙ ap (λ b. cond (b && not (still k c)) (option_map (written s (mark_at list c)) (version_at index (c, k))) (version_at index (c, k))) e

    still_other : (c : Cell) (k : ℕ) → wrote k ≡ false → still_then k c ≡ still k c
    still_other c k e = ap (λ o. same_mark (visible s o) (mark_at list c)) (cell_other c k e)

    -- a row that was ready is so still
    pub ready_later : (k : ℕ) → IsReady s table index list k → IsReady s table' index' list k
    ready_later k ready = by_test (wrote k) refl
      where
        by_test : (b : Bool) → wrote k ≡ b → IsReady s table' index' list k
        by_test true e = record {
          row = subst (IsFree s) (sym (w.rows_are k ∙ ap (λ b. cond b (option_map (written s shape) (rows.version_at table k)) (rows.version_at table k)) e)) (free_written s shape (rows.version_at table k) ready.row);
          cells = λ c code moved. absurd (true≢false (sym (still_wrote c k e) ∙ moved));
        }
        by_test false e = record {
          row = subst (IsFree s) (sym (row_other k e)) ready.row;
          cells = λ c code moved. subst (IsFree s) (sym (cell_other c k e)) (ready.cells c code (sym (still_other c k e) ∙ moved));
        }

    -- one row more
    module _ (key : ℕ) (table'' : List TableRow) (index'' : List CellRow) (v : AreWritten s (eqb key) shape list table' index' table'' index'') where
      rows_then : (k : ℕ) (b d : Bool) → wrote k ≡ b → eqb key k ≡ d → rows.version_at table'' k ≡ cond (b || d) (option_map (written s shape) (rows.version_at table k)) (rows.version_at table k)
      rows_then k b d e f =
          v.rows_are k ∙ (ap (λ b. cond b (option_map (written s shape) (rows.version_at table' k)) (rows.version_at table' k)) f ∙ (ap (λ o. cond d (option_map (written s shape) o) o) (w.rows_are k ∙ ap (λ b. cond b (option_map (written s shape) (rows.version_at table k)) (rows.version_at table k)) e) ∙ by_tests b d))
        where
          by_tests : (b d : Bool) → cond d (option_map (written s shape) (cond b (option_map (written s shape) (rows.version_at table k)) (rows.version_at table k))) (cond b (option_map (written s shape) (rows.version_at table k)) (rows.version_at table k))
              ≡ cond (b || d) (option_map (written s shape) (rows.version_at table k)) (rows.version_at table k)
          by_tests true true = twice s shape (rows.version_at table k)
          by_tests true false = refl
          by_tests false true = refl
          by_tests false false = refl

      abbrev left_at : Cell → ℕ → Option (Version Mark) → Bool → Option (Version Mark)
      left_at c k o b = cond b (option_map (written s (mark_at list c)) o) o

      nothing : (d : Bool) → (d && not true) ≡ false
      nothing true = refl
      nothing false = refl

      cells_then : (c : Cell) (k : ℕ) (b d : Bool) → wrote k ≡ b → eqb key k ≡ d → version_at index'' (c, k) ≡ left_at c k (version_at index (c, k)) ((b || d) && not (still k c))
      cells_then c k true d e f =
          v.cells_are c k ∙ (ap (left_at c k (version_at index' (c, k))) (ap (λ t. eqb key k && not t) (still_wrote c k e) ∙ nothing (eqb key k))
          ∙ (w.cells_are c k ∙ ap (λ b. left_at c k (version_at index (c, k)) (b && not (still k c))) e))
      cells_then c k false d e f =
          v.cells_are c k ∙ (ap (λ o. left_at c k o (eqb key k && not (still_then k c))) (cell_other c k e)
          ∙ ap (left_at c k (version_at index (c, k))) (ap (λ t. eqb key k && not t) (still_other c k e) ∙ ap (λ t. t && not (still k c)) f))

      free_then : (k : ℕ) (b : Bool) → wrote k ≡ b → (b || eqb key k) ≡ true → IsFree s (rows.version_at table k)
      free_then k true e h = w.row_free k e
      free_then k false e h = subst (IsFree s) (row_other k e) (v.row_free k h)

      cell_free_then : (c : Cell) (k : ℕ) (b : Bool) → wrote k ≡ b → (b || eqb key k) ≡ true → still k c ≡ false → IsFree s (version_at index (c, k))
      cell_free_then c k true e h moved = w.cell_free c k e moved
      cell_free_then c k false e h moved = subst (IsFree s) (cell_other c k e) (v.cell_free c k h (still_other c k e ∙ moved))

      pub written_more : AreWritten s (λ k. wrote k || eqb key k) shape list table index table'' index''
      written_more = record {
        rows_are = λ k. rows_then k (wrote k) (eqb key k) refl refl;
        cells_are = λ c k. cells_then c k (wrote k) (eqb key k) refl refl;
        row_free = λ k e. free_then k (wrote k) refl e;
        cell_free = λ c k e moved. cell_free_then c k (wrote k) refl e moved;
        row_keys = v.row_keys ∙ w.row_keys;
        cell_keys = v.cell_keys ∙ w.cell_keys;
      }

or_false : (a : Bool) → (a || false) ≡ a
or_false true = refl
or_false false = refl

-- the rows of a list, and one more
pub any_more : (ks more : List ℕ) (key : ℕ) → more ≡ ks ++ key ∷ [] → (k : ℕ) → (list_any (λ j. j == k) ks || eqb key k) ≡ list_any (λ j. j == k) more
any_more ks more key is k =
    sym (ap (list_any (λ j. j == k)) is ∙ (list_any-append (λ j. j == k) ks (key ∷ []) ∙ ap (λ b. list_any (λ j. j == k) ks || b) (or_false (eqb key k))))
