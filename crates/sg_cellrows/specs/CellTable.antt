-- Cell rows: a mark at each pair of a cell and a row's key, committed and as a session left it.
use Rattle.std.specs.Prelude.{◌≡◌, ℕ, Bool, true, List, Option, Some, None, IsSome}
use Rattle.std.specs.declared.cmp.Ordering.{Ordering}
use Rattle.std.specs.Ordering.{nat_cmp, is_lt, is_le, ordering_then}
use Rattle.std.specs.Map.{lookup}
use Rattle.std.specs.BTreeMap.{is_at}
use Rattle.sg_cells.specs.Cells.{Cell}
use Rattle.sg_cells.specs.contracts.cell.CellOrd.TheImpl as cells
use Rattle.sg_cells.specs.declared.keys.Key.{Key}
use Rattle.sg_cells.specs.declared.keys.Key.TheVariants as key
use Rattle.sg_cells.specs.declared.marks.Mark.{Mark}
use Rattle.sg_versions.specs.declared.version.Version.{Version}

-- a cell and the key of a row
abbrev pub CellKey : Type 0
CellKey = Cell × ℕ

abbrev pub CellRow : Type 0
CellRow = CellKey × Version Mark

abbrev pub cell_cmp : Cell → Cell → Ordering
cell_cmp = cells.ghosts.cmp

-- by the cell, and then by the row's key
abbrev pub cell_key_cmp : CellKey → CellKey → Ordering
cell_key_cmp x y = ordering_then (cell_cmp x.0 y.0) (nat_cmp x.1 y.1)

-- what the key has, none where it isn't there
abbrev pub version_at : List CellRow → CellKey → Option (Version Mark)
version_at rows k = lookup (is_at (cell_key_cmp k)) rows

-- the key of a cell row, and the end of the index where there is none
abbrev pub cell_key : Option CellRow → Key
cell_key None = key.CellEnd
cell_key (Some r) = key.Cell r.0.0 r.0.1

-- above the given cell, if one is given
abbrev pub is_past : Option Cell → Cell → Bool
is_past None c = true
is_past (Some a) c = is_lt (cell_cmp a c)

-- of the cells above the given one, the least at which a mark is seen, and that mark
pub record IsLeast (seen : Cell → Option Mark) (above : Option Cell) (found : Cell × Mark) : Type 0 where
  pub beyond : is_past above found.0 ≡ true
  pub seen_is : seen found.0 ≡ Some found.1
  pub least : (c : Cell) → is_past above c ≡ true → IsSome (seen c) → is_le (cell_cmp found.0 c) ≡ true
