-- The ranges of ids in which a query looks for cells.
use Rattle.std.specs.Prelude.{ℕ, zero, suc, Bool, false, not, cond, ◌&&◌, ◌||◌, leb, List, [], ◌∷◌, ◌++◌, map}
use Rattle.sg_cells.specs.Cells.{Cell, contains, front, id_of, last_of}
use Rattle.sg_cells.specs.Tess.{Entry, is_cover}

-- the ancestors of a cell, from level 1 down
abbrev pub ancestors : Cell → List Cell
ancestors [] = []
ancestors (d ∷ []) = []
ancestors (d ∷ e ∷ es) = (d ∷ []) ∷ map (λ a. d ∷ a) (ancestors (e ∷ es))

abbrev pub is_ancestor : Cell → Cell → Bool
is_ancestor c q = contains c q && not (contains q c)

-- those of a list that are no ancestors of the cell before
abbrev pub fresh : Cell → List Cell → List Cell
fresh p [] = []
fresh p (a ∷ as') = cond (is_ancestor a p) (fresh p as') (a ∷ fresh p as')

abbrev pub alone : ℕ → List Cell → List (ℕ × ℕ)
alone n [] = []
alone n (a ∷ as') = (id_of n a, id_of n a) ∷ alone n as'

-- behind the cell p
abbrev pub ranges_after : ℕ → Cell → List Cell → List (ℕ × ℕ)
ranges_after n p [] = []
ranges_after n p (q ∷ qs) = alone n (fresh p (ancestors q)) ++ (id_of n q, last_of n q) ∷ ranges_after n q qs

-- n is the number of levels
abbrev pub ranges : ℕ → List Cell → List (ℕ × ℕ)
ranges n qs = ranges_after n [] qs

abbrev pub in_pairs : List (ℕ × ℕ) → ℕ → Bool
in_pairs [] c = false
in_pairs (p ∷ ps) c = (leb p.0 c && leb c p.1) || in_pairs ps c

-- one contains the other
abbrev pub related : Cell → Cell → Bool
related c q = contains c q || contains q c

abbrev pub related_any : Cell → List Cell → Bool
related_any c [] = false
related_any c (q ∷ qs) = related c q || related_any c qs

-- of a cell of a row and one of the query, the one that contains the other is covered by its shape; of equal ones, either
abbrev pub proves : Entry → Entry → Bool
proves r q = (contains q.0 r.0 && is_cover q.1) || (contains r.0 q.0 && is_cover r.1)

abbrev pub accepted : Entry → List Entry → Bool
accepted r [] = false
accepted r (q ∷ qs) = proves r q || accepted r qs

abbrev pub cells_of : List Entry → List Cell
cells_of [] = []
cells_of (e ∷ es) = e.0 ∷ cells_of es

-- a row with these cells is a candidate of a query with those, n being the number of levels
abbrev pub is_candidate : ℕ → List Entry → List Entry → Bool
is_candidate n [] qs = false
is_candidate n (r ∷ rs) qs = in_pairs (ranges n (cells_of qs)) (id_of n r.0) || is_candidate n rs qs

-- and by its cells alone it intersects the query
abbrev pub is_sure : List Entry → List Entry → Bool
is_sure [] qs = false
is_sure (r ∷ rs) qs = accepted r qs || is_sure rs qs

-- the first i places of a cell, and so on for n numbers of places
abbrev pub fronts : Cell → ℕ → ℕ → List Cell
fronts c i zero = []
fronts c i (suc n) = front i c ∷ fronts c (suc i) n
