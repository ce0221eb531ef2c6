-- A finite list of points that shows all that finitely many lines can tell apart.
use Rattle.std.specs.Prelude.{zero, suc, Bool, cond, List, [], ◌∷◌, ◌++◌, map, ℤ, pos, negsuc}
use lib.IntN.{◌+ℤ◌, ◌-ℤ◌, ◌*ℤ◌, neg_ℤ}
use lib.Signed.{lt_z}
use Rattle.std.specs.List.{list_any, flat_map}
use Rattle.std.proofs.Math.Nat.{zero-lt-suc}
use Rattle.sg_shape.specs.Plane.{Point}

-- a x + b y + c n
pub record Form : Type 0 where
  pub a : ℤ
  pub b : ℤ
  pub c : ℤ

abbrev pub value : Form → ℤ → ℤ → ℤ → ℤ
value f x y n = f.a *ℤ x +ℤ (f.b *ℤ y +ℤ f.c *ℤ n)

abbrev pub at : Form → Point → ℤ
at f p = value f p.x p.y (pos p.n)

-- x = (u y + v n) / w
pub record Line : Type 0 where
  pub u : ℤ
  pub v : ℤ
  pub w : ℤ

-- the form with its first number above 0, where that number isn't 0
abbrev pub upward : Form → List Form
upward f =
    cond (lt_z (pos 0) f.a) (f ∷ [])
    (cond (lt_z f.a (pos 0)) (record { a = neg_ℤ f.a; b = neg_ℤ f.b; c = neg_ℤ f.c } ∷ []) [])

-- the line x = 0; a line left of where the form is 0, and one right of it; and the middle of two such places
abbrev pub axis : Line
axis = record { u = pos 0; v = pos 0; w = pos 1 }

abbrev pub left_of : Form → Line
left_of f = record { u = neg_ℤ f.b; v = neg_ℤ f.c -ℤ f.a; w = f.a }

abbrev pub right_of : Form → Line
right_of f = record { u = neg_ℤ f.b; v = f.a -ℤ f.c; w = f.a }

abbrev pub middle : Form → Form → Line
middle f g = record { u = neg_ℤ (f.b *ℤ g.a +ℤ g.b *ℤ f.a); v = neg_ℤ (f.c *ℤ g.a +ℤ g.c *ℤ f.a); w = f.a *ℤ g.a +ℤ g.a *ℤ f.a }

abbrev pub lines_by : List Form → List Line
lines_by rs = axis ∷ (map left_of rs ++ (map right_of rs ++ flat_map (λ f. map (middle f) rs) rs))

abbrev pub lines : List Form → List Line
lines fs = lines_by (flat_map upward fs)

-- the form on the line, by the line's height
abbrev pub along : Line → Form → Form
along l f = record { a = f.a *ℤ l.u +ℤ f.b *ℤ l.w; b = pos 0; c = f.a *ℤ l.v +ℤ f.c *ℤ l.w }

-- the point (x / n, y / n), where n is above 0
abbrev pub point_at : ℤ → ℤ → ℤ → Point
point_at x y (pos zero) = record { x = x; y = y; n = suc zero; is_over = zero-lt-suc zero }
point_at x y (pos (suc m)) = record { x = x; y = y; n = suc m; is_over = zero-lt-suc m }
point_at x y (negsuc m) = record { x = x; y = y; n = suc zero; is_over = zero-lt-suc zero }

-- the point of the line at height v / w of the second line
abbrev pub point_on : Line → Line → Point
point_on l m = point_at (l.u *ℤ m.v +ℤ l.v *ℤ m.w) (l.w *ℤ m.v) (l.w *ℤ m.w)

abbrev pub samples : List Form → List Point
samples fs = flat_map (λ l. map (point_on l) (lines (map (along l) fs))) (lines fs)

-- some point passes the test, where the forms' signs decide the test
abbrev pub some_point : (Point → Bool) → List Form → Bool
some_point t fs = list_any t (samples fs)
