-- The sides that densities stand for.
use Rattle.std.specs.Prelude.{ℕ}
use Rattle.sg_cells.specs.declared.density.Density.{Density}
use Rattle.sg_cells.specs.declared.density.Density.TheVariants.{Low, Medium, High}

-- a side is 2 to this power
abbrev pub power : Density → ℕ
power Low = 2
power Medium = 3
power High = 4
