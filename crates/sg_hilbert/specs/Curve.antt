-- The Hilbert curve through the spots of a square, column and row counted from the lower left. A square of
-- side 1 has one place. One of side 2 * n is four quarters of side n, each with the curve of side n in it,
-- turned so that it begins beside the end of the quarter before.
use Rattle.std.specs.Prelude.{◌≡◌, ◌⊎◌, ℕ, zero, suc, ◌+◌, ◌-◌, ◌*◌, ◌/◌, ◌%◌, ◌<◌, cond, ltb}

-- the side after k doublings of 1
abbrev pub two_to : ℕ → ℕ
two_to zero = 1
two_to (suc k) = 2 * two_to k

-- its number of places, the square of the side
abbrev pub four_to : ℕ → ℕ
four_to zero = 1
four_to (suc k) = 4 * four_to k

-- where a spot of the curve of side n lies once that curve fills the quarter q of side 2 * n: lower left, its
-- axes swapped; upper left and upper right, as it is; lower right, swapped and reversed in both axes
abbrev pub in_quarter : ℕ → ℕ → ℕ × ℕ → ℕ × ℕ
in_quarter zero n s = (s.1, s.0)
in_quarter (suc zero) n s = (s.0, s.1 + n)
in_quarter (suc (suc zero)) n s = (s.0 + n, s.1 + n)
in_quarter (suc (suc (suc q))) n s = (2 * n - 1 - s.1, n - 1 - s.0)

-- the column and the row of a place, after k doublings: the quarters are filled one after the other
abbrev pub spot_at : ℕ → ℕ → ℕ × ℕ
spot_at zero d = (0, 0)
spot_at (suc k) d = in_quarter (d / four_to k) (two_to k) (spot_at k (d % four_to k))

-- the place of a column and a row, after k doublings: the places of the quarters before, and the place in its own
abbrev pub place_at : ℕ → ℕ → ℕ → ℕ
place_at zero x y = 0
place_at (suc k) x y =
    cond (ltb x (two_to k))
    (cond (ltb y (two_to k)) (place_at k y x) (four_to k + place_at k x (y - two_to k)))
    (cond (ltb y (two_to k)) (3 * four_to k + place_at k (two_to k - 1 - y) (2 * two_to k - 1 - x)) (2 * four_to k + place_at k (x - two_to k) (y - two_to k)))

-- ---- the sides in use
abbrev pub IsSide : ℕ → Type 0
IsSide side = (side ≡ 4) ⊎ ((side ≡ 8) ⊎ (side ≡ 16))

-- how many doublings make a side of 4, 8 or 16
abbrev pub doublings : ℕ → ℕ
doublings side = cond (ltb side 8) 2 (cond (ltb side 16) 3 4)

-- ---- laws
-- these sides are what that many doublings make
abbrev pub DoublesToSide : Type 0
DoublesToSide = (side : ℕ) → IsSide side → two_to (doublings side) ≡ side

-- on every side there are as many places as spots
abbrev pub FillsSquare : Type 0
FillsSquare = (k : ℕ) → four_to k ≡ two_to k * two_to k

-- two spots share a side: same column and rows one apart, or same row and columns one apart
abbrev pub Beside : ℕ × ℕ → ℕ × ℕ → Type 0
Beside s t =
    ((s.0 ≡ t.0) × ((s.1 ≡ suc t.1) ⊎ (t.1 ≡ suc s.1)))
    ⊎ ((s.1 ≡ t.1) × ((s.0 ≡ suc t.0) ⊎ (t.0 ≡ suc s.0)))

-- each place but the last lies beside the next
abbrev pub IsUnbroken : Type 0
IsUnbroken = (k d : ℕ) → suc d < four_to k → Beside (spot_at k d) (spot_at k (suc d))

-- place 0 lies lower left
abbrev pub BeginsLowerLeft : Type 0
BeginsLowerLeft = (k : ℕ) → ((spot_at k 0).0 ≡ 0) × ((spot_at k 0).1 ≡ 0)

-- the last place lies lower right
abbrev pub EndsLowerRight : Type 0
EndsLowerRight = (k d : ℕ) → suc d ≡ four_to k → (suc (spot_at k d).0 ≡ two_to k) × ((spot_at k d).1 ≡ 0)
