-- A table's rows: the committed shape at each key, and what a session has written there since.
use Rattle.std.specs.Prelude.{ℕ, List, [], ◌∷◌, ◌++◌, filter, filter_map, Option, Some, None, IfSome}
use Rattle.std.specs.Option.{option_map}
use Rattle.std.specs.List.{AllByRecursion}
use Rattle.std.specs.Ordering.{nat_cmp, is_lt}
use Rattle.std.specs.Map.{lookup}
use Rattle.std.specs.BTreeMap.{is_at}
use Rattle.sg_shape.specs.declared.shapes.Shape.{Shape}
use Rattle.sg_shape.specs.Sound.{IsSound}
use Rattle.sg_plain.specs.Keys.{IsRising}
use Rattle.sg_plain.specs.Rows.{keys_of}
use Rattle.sg_cells.specs.declared.keys.Key.{Key}
use Rattle.sg_cells.specs.declared.keys.Key.TheVariants.{Row, RowEnd}
use Rattle.sg_versions.specs.declared.version.Version.{Version}
use Rattle.sg_versions.specs.Versions.{kept_value}

-- a key, and what it has
abbrev pub TableRow : Type 0
TableRow = ℕ × Version Shape

-- its shapes are sound
pub record IsSoundRow (r : TableRow) : Type 0 where
  pub committed : IfSome r.1.committed IsSound
  pub live : IfSome r.1.live IsSound

abbrev pub AreSoundRows : List TableRow → Type 0
AreSoundRows rows = AllByRecursion IsSoundRow rows

-- what the key has, none where it isn't there
abbrev pub version_at : List TableRow → ℕ → Option (Version Shape)
version_at rows k = lookup (is_at (nat_cmp k)) rows

-- the key of a row, and the end of the table where there is none
abbrev pub row_key : Option TableRow → Key
row_key None = RowEnd
row_key (Some r) = Row r.0

-- a row with a committed shape and no writer
abbrev pub loaded_row : ℕ × Shape → TableRow
loaded_row row = (row.0, kept_value row.1)

-- the key with the committed shape, if there is one
abbrev pub committed_row : TableRow → Option (ℕ × Shape)
committed_row r = option_map (λ shape. (r.0, shape)) r.1.committed

-- the committed shapes with their keys
abbrev pub committed_rows : List TableRow → List (ℕ × Shape)
committed_rows rows = filter_map committed_row rows

-- the rows above a key, or all
abbrev pub rows_past : Option ℕ → List TableRow → List TableRow
rows_past None rows = rows
rows_past (Some k) rows = filter (λ r. is_lt (nat_cmp k r.0)) rows

-- a sound shape whose key is above those of the rows before it
pub record IsNextRow (rows : List (ℕ × Shape)) (k : ℕ) (shape : Shape) : Type 0 where
  pub above : IsRising (keys_of rows ++ k ∷ [])
  pub sound : IsSound shape
