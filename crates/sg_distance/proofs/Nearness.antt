-- Two points whose squared distance is below a number that need not be a square, or at most that.
use Rattle.std.proofs.Common.{◌≡◌, Bool, true, false}
use lib.IntN.{ℤ, pos, ◌+ℤ◌, ◌-ℤ◌, ◌*ℤ◌}
use lib.Signed.{◌<ℤ◌, ◌≤ℤ◌}
use Rattle.sg_shape.specs.Plane.{Point, Parts}
use Rattle.sg_distance.specs.Figure.{has}

-- below, or at most
abbrev pub Below : Bool → ℤ → ℤ → Type 0
Below true a b = a <ℤ b
Below false a b = a ≤ℤ b

-- the squared distance of (px / pn, py / pn) and (qx / qn, qy / qn) is below D, or at most
abbrev pub SquareWithinAt : Bool → ℤ → ℤ → ℤ → ℤ → ℤ → ℤ → ℤ → Type 0
SquareWithinAt strict D px py pn qx qy qn =
    Below strict ((px *ℤ qn -ℤ qx *ℤ pn) *ℤ (px *ℤ qn -ℤ qx *ℤ pn) +ℤ (py *ℤ qn -ℤ qy *ℤ pn) *ℤ (py *ℤ qn -ℤ qy *ℤ pn)) (D *ℤ ((pn *ℤ qn) *ℤ (pn *ℤ qn)))

abbrev pub SquareWithin : Bool → ℤ → Point → Point → Type 0
SquareWithin strict D p q = SquareWithinAt strict D p.x p.y (pos p.n) q.x q.y (pos q.n)

-- ---- where a point lies against an edge
-- along the edge from a to b, from a: 0 at a and the square of its length at b
abbrev pub along_at : ℤ → ℤ → ℤ → ℤ → ℤ → ℤ → ℤ → ℤ
along_at ax ay bx by x y n = (x -ℤ ax *ℤ n) *ℤ (bx -ℤ ax) +ℤ (y -ℤ ay *ℤ n) *ℤ (by -ℤ ay)

-- across it: above 0 on its left
abbrev pub across_at : ℤ → ℤ → ℤ → ℤ → ℤ → ℤ → ℤ → ℤ
across_at ax ay bx by x y n = (y -ℤ ay *ℤ n) *ℤ (bx -ℤ ax) -ℤ (x -ℤ ax *ℤ n) *ℤ (by -ℤ ay)

abbrev pub square_of : ℤ → ℤ → ℤ → ℤ → ℤ
square_of ax ay bx by = (bx -ℤ ax) *ℤ (bx -ℤ ax) +ℤ (by -ℤ ay) *ℤ (by -ℤ ay)

-- ---- two figures
-- some point of the one and some point of the other, each on an edge or inside by its parity
pub record NearByEdges (strict : Bool) (D : ℤ) (a b : Parts) : Type 0 where
  pub p : Point
  pub q : Point
  pub of_a : has a p ≡ true
  pub of_b : has b q ≡ true
  pub near : SquareWithin strict D p q
