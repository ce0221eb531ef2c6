-- Which lock modes go together.
use Rattle.std.specs.Prelude.{ℕ, Bool, true, false, List, [], ◌∷◌, slice_index_or}
use Rattle.sg_modes.specs.declared.modes.Mode.{Mode}
use Rattle.sg_modes.specs.declared.modes.Mode.TheVariants.{S, U, X, RangeSS, RangeSU, RangeIN, RangeXX}

abbrev yes : Bool
yes = true

abbrev no : Bool
no = false

-- the place of a held mode in a row of the table
abbrev column_of : Mode → ℕ
column_of S = 0
column_of U = 1
column_of X = 2
column_of RangeSS = 3
column_of RangeSU = 4
column_of RangeIN = 5
column_of RangeXX = 6

-- the row of the mode that is asked for: beside which held modes it may be given
-- held:                 S     U     X    RangeSS RangeSU RangeIN RangeXX
abbrev row_of : Mode → List Bool
row_of S = yes ∷ yes ∷ no ∷ yes ∷ yes ∷ yes ∷ no ∷ []
row_of U = yes ∷ no ∷ no ∷ yes ∷ no ∷ yes ∷ no ∷ []
row_of X = no ∷ no ∷ no ∷ no ∷ no ∷ yes ∷ no ∷ []
row_of RangeSS = yes ∷ yes ∷ no ∷ yes ∷ yes ∷ no ∷ no ∷ []
row_of RangeSU = yes ∷ no ∷ no ∷ yes ∷ no ∷ no ∷ no ∷ []
row_of RangeIN = yes ∷ yes ∷ yes ∷ no ∷ no ∷ yes ∷ no ∷ []
row_of RangeXX = no ∷ no ∷ no ∷ no ∷ no ∷ no ∷ no ∷ []

-- a session may be given the asked mode on a key that another session holds in the held mode
abbrev pub is_compatible : Mode → Mode → Bool
is_compatible held asked = slice_index_or (row_of asked) (column_of held) no
