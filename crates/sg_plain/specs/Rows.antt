-- Rows: keys with their shapes.
use Rattle.std.specs.Prelude.{◌↔◌, ℕ, ◌==◌, nat_lt, List, [], ◌∷◌, ◌++◌, map, filter, All, Contains, if◌then◌else◌, Option, Some, None, IsSome, IsSomeAnd, not}
use Rattle.std.specs.List.{list_any}
use Rattle.sg_shape.specs.declared.shapes.Shape.{Shape}
use Rattle.sg_shape.specs.Sound.{IsSound}
use Rattle.sg_plain.specs.Keys.{IsRising}

abbrev pub Rows : Type 0
Rows = List (ℕ × Shape)

abbrev pub keys_of : Rows → List ℕ
keys_of rows = map (λ row. row.0) rows

-- the keys rise and the shapes are sound
pub record AreRows (rows : Rows) : Type 0 where
  pub rising : IsRising (keys_of rows)
  pub sound : All (λ row. IsSound row.1) rows

-- the shape at a key, none where no row has it
abbrev pub shape_at : Rows → ℕ → Option Shape
shape_at [] k = None
shape_at (row ∷ rows) k = if row.0 == k then Some row.1 else shape_at rows k

-- the rows with lesser keys, and those with greater ones
abbrev pub below : ℕ → Rows → Rows
below k rows = filter (λ row. nat_lt row.0 k) rows

abbrev pub above : ℕ → Rows → Rows
above k rows = filter (λ row. nat_lt k row.0) rows

-- with this shape at a key, new or in place of the one there
abbrev pub put : ℕ → Shape → Rows → Rows
put k s rows = below k rows ++ (k, s) ∷ above k rows

-- without the row at a key
abbrev pub without_key : ℕ → Rows → Rows
without_key k rows = below k rows ++ above k rows

-- without the rows at these keys
abbrev pub without_keys : List ℕ → Rows → Rows
without_keys ks rows = filter (λ row. not (list_any (λ k. k == row.0) ks)) rows

-- exactly the keys whose row's shape has P, rising
pub record IsKeysWith (P : Shape → Type 0) (rows : Rows) (ks : List ℕ) : Type 0 where
  pub rising : IsRising ks
  pub each : (k : ℕ) → Contains ks k ↔ IsSomeAnd (shape_at rows k) P

-- keys of rows, rising, among them each whose row's shape has P
pub record CoversKeysWith (P : Shape → Type 0) (rows : Rows) (ks : List ℕ) : Type 0 where
  pub rising : IsRising ks
  pub held : (k : ℕ) → Contains ks k → IsSome (shape_at rows k)
  pub covers : (k : ℕ) → IsSomeAnd (shape_at rows k) P → Contains ks k
