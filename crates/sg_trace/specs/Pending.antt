-- What is left to be tested of a query's candidates, and the keys that a query answers.
use Rattle.std.specs.Prelude.{◌≡◌, ℕ, ◌<◌, ◌==◌, Bool, not, cond, ◌&&◌, ◌||◌, List, [], ◌∷◌, ◌++◌, filter, Option, Some, None, IsSome}
use Rattle.std.specs.List.{list_any}
use Rattle.sg_shape.specs.declared.shapes.Shape.{Shape}
use Rattle.sg_plain.specs.Rows.{Rows, shape_at}

-- the key is in the list
abbrev pub has_key : List ℕ → ℕ → Bool
has_key keys k = list_any (λ x. x == k) keys

-- it is found, and nothing is known of it yet
abbrev pub is_pending : List ℕ → List ℕ → ℕ → Bool
is_pending found sure k = has_key found k && not (has_key sure k)

-- the rows at the pending keys
abbrev pub ArePending : Rows → List ℕ → List ℕ → Rows → Type 0
ArePending rows found sure items = (k : ℕ) → shape_at items k ≡ cond (is_pending found sure k) (shape_at rows k) None

-- of the keys that were found, those that are sure and those that passed the test
abbrev pub chosen : List ℕ → List ℕ → List ℕ → List ℕ
chosen sure passed found = filter (λ k. has_key sure k || has_key passed k) found

-- all rows have lesser keys
abbrev pub IsAboveAll : Rows → ℕ → Type 0
IsAboveAll rows key = (k : ℕ) → IsSome (shape_at rows k) → k < key

-- with a row at the end, if there is a shape
abbrev pub added : Option Shape → ℕ → Rows → Rows
added None key rows = rows
added (Some shape) key rows = rows ++ (key, shape) ∷ []

-- and if its key isn't known already
abbrev pub offered : Bool → Option Shape → ℕ → Rows → Rows
offered known shape key rows = cond known rows (added shape key rows)
