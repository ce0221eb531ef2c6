-- The same cell rows by the row's key first, those without any mark in a part of their own, and the next of one row.
use Rattle.std.specs.Prelude.{◌≡◌, ℕ, ◌<◌, Bool, true, false, ◌&&◌, cond, List, [], Option, Some, None, min, filter, length}
use Rattle.std.specs.declared.cmp.Ordering.{Ordering}
use Rattle.std.specs.Option.{is_none}
use Rattle.std.specs.Ordering.{nat_cmp, bool_cmp, is_eq, is_lt, is_le, ordering_then}
use Rattle.std.specs.Map.{lookup}
use Rattle.std.specs.BTreeMap.{is_at}
use Rattle.sg_cells.specs.Cells.{Cell}
use Rattle.sg_cells.specs.declared.marks.Mark.{Mark}
use Rattle.sg_versions.specs.declared.version.Version.{Version}
use Rattle.sg_versions.specs.Versions.{Versioned, visible}
use Rattle.sg_cellrows.specs.CellTable.{CellKey, CellRow, cell_cmp, version_at, is_past}

abbrev pub RowKey : Type 0
RowKey = ℕ × Cell

-- by the row's key, and then by the cell
abbrev pub row_key_cmp : RowKey → RowKey → Ordering
row_key_cmp x y = ordering_then (nat_cmp x.0 y.0) (cell_cmp x.1 y.1)

-- there is no mark, neither a committed one nor one written since
abbrev pub is_bare : Version Mark → Bool
is_bare v = is_none v.committed && is_none v.live

abbrev pub is_bare_at : Option (Version Mark) → Bool
is_bare_at None = true
is_bare_at (Some v) = is_bare v

-- whether the pair is bare, and the pair
abbrev pub PartKey : Type 0
PartKey = Bool × RowKey

abbrev pub RowCell : Type 0
RowCell = PartKey × Version Mark

-- the part of those with a mark comes first
abbrev pub part_key_cmp : PartKey → PartKey → Ordering
part_key_cmp x y = ordering_then (bool_cmp x.0 y.0) (row_key_cmp x.1 y.1)

-- what the pair has in one part
abbrev pub part_at : List RowCell → Bool → RowKey → Option (Version Mark)
part_at rows b k = lookup (is_at (part_key_cmp (b, k))) rows

-- of a pair that has this, what stands in one part
abbrev pub in_part : Bool → Option (Version Mark) → Option (Version Mark)
in_part b None = None
in_part b (Some v) = cond (is_eq (bool_cmp b (is_bare v))) (Some v) None

-- both orders have the same pairs, each in its part
abbrev pub IsMirrored : List CellRow → List RowCell → Type 0
IsMirrored by_cell by_row = (b : Bool) (c : Cell) (r : ℕ) → in_part b (version_at by_cell (c, r)) ≡ part_at by_row b (r, c)

-- what a pair with a mark has
abbrev pub version_in : List RowCell → RowKey → Option (Version Mark)
version_in rows k = part_at rows false k

-- as the first order has it, with room in both
abbrev pub seen_as : Versioned CellKey Mark → Versioned PartKey Mark → Versioned CellKey Mark
seen_as by_cell by_row = record { rows = by_cell.rows; spare = min by_cell.spare by_row.spare }

-- what the session sees of a row at a cell
abbrev pub seen_in : List RowCell → ℕ → ℕ → Cell → Option Mark
seen_in rows s r c = visible s (version_in rows (r, c))

-- behind the cell of the row, or from its first on, among those with a mark
abbrev pub is_behind : ℕ → Option Cell → PartKey → Bool
is_behind r None k = is_le (part_key_cmp (false, (r, [])) k)
is_behind r (Some c) k = is_lt (part_key_cmp (false, (r, c)) k)

-- the row's next cell with a mark above the given one, and what it has
pub record IsNextCell (rows : List RowCell) (r : ℕ) (above : Option Cell) (found : Cell × Version Mark) : Type 0 where
  pub beyond : is_past above found.0 ≡ true
  pub version_is : version_in rows (r, found.0) ≡ Some found.1
  pub none_between : (c : Cell) → is_past above c ≡ true → is_lt (cell_cmp c found.0) ≡ true → version_in rows (r, c) ≡ None
  pub fewer : length (filter (λ x. is_behind r (Some found.0) x.0) rows) < length (filter (λ x. is_behind r above x.0) rows)
