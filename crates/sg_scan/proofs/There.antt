-- The next pair of a range, and the next row of a table, are stored.
use Rattle.std.specs.Prelude.{filter}
use Rattle.std.proofs.Common.{◌≡◌, ℕ, Bool, true, false, ◌&&◌, cond, List, [], ◌∷◌, Option, Some, None, refl, sym, ap, subst, inl, inr}
use Rattle.sg_cells.specs.Cells.{Cell as Path}
use Rattle.sg_cells.specs.Laws.{Has}
use Rattle.sg_cells.specs.declared.keys.Key.TheVariants as key
use Rattle.sg_rows.specs.Table.{TableRow, rows_past}
use Rattle.sg_cellrows.specs.CellTable.{CellKey, CellRow}
use Rattle.sg_scan.specs.Hits.{IsNextRow, IsNextTableRow, rows_behind, is_reached, is_within}
use Rattle.sg_stores.specs.Keys.{table_keys, index_keys}

filter_first : {A : Type 0} (t : A → Bool) (xs : List A) (y : A) (ys : List A) → filter t xs ≡ y ∷ ys → Has xs y
filter_first t [] y ys e = absurd (cc)
filter_first t (x ∷ xs) y ys e = by_test (t x) (filter_first t xs y ys) e
  where
    by_test : (b : Bool) → (filter t xs ≡ y ∷ ys → Has xs y) → cond b (x ∷ filter t xs) (filter t xs) ≡ y ∷ ys → Has (x ∷ xs) y
    by_test true later e = let q : x ≡ y = cc in inl q
    by_test false later e = inr (later e)

pair_key : (index : List CellRow) (r : CellRow) → Has index r → Has (index_keys index) (key.Cell r.0.0 r.0.1)
pair_key [] r h = absurd h
pair_key (x ∷ xs) r (inl e) = inl (ap (λ (y : CellRow). key.Cell y.0.0 y.0.1) e)
pair_key (x ∷ xs) r (inr h) = inr (pair_key xs r h)

row_key_has : (table : List TableRow) (r : TableRow) → Has table r → Has (table_keys table) (key.Row r.0)
row_key_has [] r h = absurd h
row_key_has (x ∷ xs) r (inl e) = inl (ap (λ (y : TableRow). key.Row y.0) e)
row_key_has (x ∷ xs) r (inr h) = inr (row_key_has xs r h)

pub pair_there : (index : List CellRow) (first last : Path) (above : Option CellKey) (k : CellKey) → IsNextRow index first last above k → Has (index_keys index) (key.Cell k.0 k.1)
pair_there index first last above k next =
    pair_key index (k, next.version) (filter_first (λ (r : CellRow). is_reached first above r.0 && is_within last r.0) index (k, next.version) (rows_behind first last (Some k) index) next.rest_is)

pub row_there : (table : List TableRow) (above : Option ℕ) (k : ℕ) → IsNextTableRow table above k → Has (table_keys table) (key.Row k)
row_there table above k next = row_key_has table (k, next.version) (past_has above next.rest_is)
  where
    past_has : (above : Option ℕ) → rows_past above table ≡ (k, next.version) ∷ rows_past (Some k) table → Has table (k, next.version)
    past_has None e = subst (λ (xs : List TableRow). Has xs (k, next.version)) (sym e) (inl refl)
    past_has (Some a) e = filter_first _ table (k, next.version) (rows_past (Some k) table) e
