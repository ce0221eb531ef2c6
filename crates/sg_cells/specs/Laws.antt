-- The laws of cells over points.
use Rattle.std.specs.Prelude.{◌≡◌, ◌⊎◌, ℕ, zero, suc, ◌+◌, ◌-◌, ◌≤◌, ◌<◌, Bool, true, cond, ltb, List, [], ◌∷◌, ◌++◌, length, filter}
use Rattle.sg_shape.specs.Plane.{Point, Parts}
use Rattle.sg_shape.specs.Boxes.{in_box, has_point}
use Rattle.sg_hilbert.specs.Curve.{four_to}
use Rattle.sg_cells.specs.Cells.{Grid, Cell, IsPath, IsCode, box_of, cell_holds, split_of, id_of, last_of, filled}
use Rattle.sg_cells.specs.declared.marks.Mark.TheVariants.{Cover, Part}
use Rattle.sg_cells.specs.Tess.{Look, Entry, children, kids, round, rounds}
use Rattle.sg_cells.specs.Ranges.{cells_of}

abbrev pub ind : Bool → ℕ
ind b = cond b 1 0

-- the number of the cells of a list that hold the point, cell 0 as the outside
abbrev pub hits : Grid → Point → List Cell → ℕ
hits g p [] = 0
hits g p (c ∷ cs) = ind (cell_holds g c p) + hits g p cs

-- the same by boxes, where a cell of no places is the whole box
abbrev pub box_hits : Grid → Point → List Cell → ℕ
box_hits g p [] = 0
box_hits g p (c ∷ cs) = ind (in_box (box_of g c) p) + box_hits g p cs

abbrev pub children_of : Grid → Cell → List Cell
children_of g c = children c 0 (four_to (split_of g.sides c))

abbrev pub each_child : Grid → List Cell → List Cell
each_child g [] = []
each_child g (c ∷ cs) = children_of g c ++ each_child g cs

-- the cells of a level; level 0 is the whole box
abbrev pub level : Grid → ℕ → List Cell
level g zero = [] ∷ []
level g (suc k) = each_child g (level g k)

abbrev pub Has : {A : Type 0} → List A → A → Type 0
Has [] x = ⊥
Has (y ∷ ys) x = (y ≡ x) ⊎ Has ys x

-- The ids from lo to hi hold those of the cells and of all below them, in order and apart.
abbrev pub Spread : ℕ → ℕ → ℕ → List Cell → Type 0
Spread n lo hi [] = Unit {0}
Spread n lo hi (c ∷ cs) = (lo ≤ id_of n c) × ((last_of n c ≤ hi) × Spread n (suc (last_of n c)) hi cs)

abbrev pub IsDeep : Cell → Type 0
IsDeep [] = ⊥
IsDeep (d ∷ ds) = Unit {0}

-- a cell of the grid other than cell 0 that the shape meets, marked as it is covered
pub record IsEntry (g : Grid) (j : Look) (e : Entry) : Type 0 where
  pub is_deep : IsDeep e.0
  pub path : IsPath g.sides e.0
  pub met : j.meets (box_of g e.0) ≡ true
  pub mark : e.1 ≡ cond (j.covers (box_of g e.0)) Cover Part

abbrev pub AllEntries : Grid → Look → List Entry → Type 0
AllEntries g j [] = Unit {0}
AllEntries g j (e ∷ es) = IsEntry g j e × AllEntries g j es

-- Cells that stand for a shape, with ids of n levels.
pub record Stands (n : ℕ) (g : Grid) (k : Parts) (es : List Entry) : Type 0 where
  -- each point of the shape lies in exactly one of them
  pub once : (p : Point) → has_point k p ≡ true → hits g p (cells_of es) ≡ 1
  -- each has a point of the shape
  pub met : (e : Entry) → Has es e → (p : Point) × (cell_holds g e.0 p ≡ true) × (has_point k p ≡ true)
  -- Cover exactly where the shape covers it, cell 0 being Part
  pub cover : (e : Entry) → Has es e → e.1 ≡ Cover → (p : Point) → cell_holds g e.0 p ≡ true → has_point k p ≡ true
  pub covered : (e : Entry) → Has es e → IsDeep e.0 → ((p : Point) → cell_holds g e.0 p ≡ true → has_point k p ≡ true) → e.1 ≡ Cover
  pub outside_part : (e : Entry) → Has es e → e.0 ≡ [] → e.1 ≡ Part
  pub paths : (e : Entry) → Has es e → IsPath g.sides e.0
  -- ids rise, and none is an ancestor of another
  pub apart : Spread n 0 (filled n + n) (cells_of es)

-- the cells of a list but cell 0
abbrev pub inner : List Entry → List Entry
inner es = filter (λ e. ltb 0 (length e.0)) es

-- A cell stays for want of room. The round of its level comes to it with the cells before it as this round has left them
-- and those behind it as the round found them; its children in its place would make more cells than the limit.
pub record StaysForRoom (g : Grid) (j : Look) (limit : ℕ) (e : Entry) : Type 0 where
  pub before : List Entry
  pub behind : List Entry
  pub found : rounds g j limit 1 (length e.0 - 1) (kids g j []) ≡ before ++ e ∷ behind
  pub past : limit < length (round g j limit (length e.0) (length (before ++ e ∷ behind)) before) + length (kids g j e.0) + length behind

-- pairs from lo on that rise and don't overlap
abbrev pub Steps : ℕ → List (ℕ × ℕ) → Type 0
Steps lo [] = Unit {0}
Steps lo (p ∷ ps) = (lo ≤ p.0) × ((p.0 ≤ p.1) × Steps (suc p.1) ps)

-- a point that both shapes have
abbrev pub Common : Parts → Parts → Type 0
Common a b = (p : Point) × (has_point a p ≡ true) × (has_point b p ≡ true)

-- cells whose ids have a byte for each place
abbrev pub AllCodes : ℕ → List Cell → Type 0
AllCodes n [] = Unit {0}
AllCodes n (c ∷ cs) = IsCode n c × AllCodes n cs
