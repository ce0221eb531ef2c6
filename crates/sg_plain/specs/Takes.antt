-- What one row adds to a list of keys.
use Rattle.std.specs.Prelude.{◌≡◌, ◌⊎◌, ℕ, List, [], ◌∷◌, ◌++◌}
use Rattle.sg_shape.specs.declared.shapes.Shape.{Shape}

-- the row's key is added where its shape has P, and else nothing changes
abbrev pub Takes : (Shape → Type 0) → ℕ × Shape → List ℕ → List ℕ → Type 0
Takes P row old new = (P row.1 × (new ≡ old ++ row.0 ∷ [])) ⊎ ((¬ P row.1) × (new ≡ old))
