-- The names of a spot as a point, its status in a shape, and its own shape.
use Rattle.std.proofs.Common.{◌≡◌, arith, refl, sym, ap, ◌∙◌, subst, Bool, true, false, cond, List, [], ◌∷◌}
use mathlib.Core.Bool.{◌||◌}
use lib.IntN.{ℤ, pos, ◌+ℤ◌, ◌*ℤ◌, *ℤ-one, one}
use lib.Signed.{◌<ℤ◌}
use Rattle.sg_algebra.proofs.Ring.{sums, products}
use Rattle.sg_algebra.proofs.Comparisons.{left_true, right_true, both, eq-from_true, true-from_eq}
use Rattle.sg_plane.proofs.Lists.{Each}
use Rattle.sg_plane.proofs.Alike.{Alike, alike-sym, alike-scaled}
use Rattle.sg_plane.proofs.Statuses.{status-same}
use Rattle.sg_plane.specs.Forms.{forms}
use Rattle.sg_plane.specs.Samples.{Form, at as value_at}
use Rattle.sg_segment.specs.Sides.{point_at}
use Rattle.sg_shape.specs.declared.spots.Spot.{Spot}
use Rattle.sg_shape.specs.declared.shapes.Shape.{Shape}
use Rattle.sg_shape.specs.declared.shapes.Shape.TheVariants as shape
use Rattle.sg_shape.specs.Plane.{Point, In, Bd, Out, eq_z, is_at}
use Rattle.sg_shape.specs.Shapes.{parts_of, status_in}

pub times_one : (a : ℤ) → a *ℤ pos 1 ≡ a
unfolding one
times_one a = *ℤ-one a

scaled : (a b c x y n : ℤ) → (a *ℤ x +ℤ (b *ℤ y +ℤ c)) *ℤ n ≡ a *ℤ (x *ℤ n) +ℤ (b *ℤ (y *ℤ n) +ℤ c *ℤ n)
scaled a b c x y n = simp products (omega (arith, sums))

agrees : (s : Spot) (p : Point) → is_at s p ≡ true → (f : Form) → Alike (value_at f p) (value_at f (point_at s))
agrees s p h f =
    let x : p.x ≡ s.x *ℤ pos p.n = eq-from_true p.x (s.x *ℤ pos p.n) (left_true (eq_z p.x (s.x *ℤ pos p.n)) (eq_z p.y (s.y *ℤ pos p.n)) h) in
    let y : p.y ≡ s.y *ℤ pos p.n = eq-from_true p.y (s.y *ℤ pos p.n) (right_true (eq_z p.x (s.x *ℤ pos p.n)) (eq_z p.y (s.y *ℤ pos p.n)) h) in
    let v : ℤ = f.a *ℤ s.x +ℤ (f.b *ℤ s.y +ℤ f.c) in
    let here : value_at f (point_at s) ≡ v = ap (λ (z : ℤ). f.a *ℤ s.x +ℤ (f.b *ℤ s.y +ℤ z)) (times_one f.c) in
    let there : value_at f p ≡ v *ℤ pos p.n = (λ i. f.a *ℤ x i +ℤ (f.b *ℤ y i +ℤ f.c *ℤ pos p.n)) ∙ sym (scaled f.a f.b f.c s.x s.y (pos p.n)) in
    let over : pos 0 <ℤ pos p.n = omega (arith, sums, p.is_over) in
    subst (λ (z : ℤ). Alike z (value_at f (point_at s))) (sym there) (subst (λ (z : ℤ). Alike (v *ℤ pos p.n) z) (sym here) (alike-sym v (v *ℤ pos p.n) (alike-scaled v (pos p.n) over)))

each_form : (P : Form → Type 0) → ((f : Form) → P f) → (fs : List Form) → Each P fs
each_form P h [] = tt
each_form P h (f ∷ fs) = (h f, each_form P h fs)

-- a point has the status of the spot that it is
pub status_named : (k : Shape) (s : Spot) (p : Point) → is_at s p ≡ true → status_in k p ≡ status_in k (point_at s)
status_named k s p h = status-same p (point_at s) (parts_of k) (each_form (λ f. Alike (value_at f p) (value_at f (point_at s))) (agrees s p h) (forms (parts_of k)))

-- the spot is itself
pub self_at : (s : Spot) → is_at s (point_at s) ≡ true
self_at s = both (eq_z s.x (s.x *ℤ pos 1)) (eq_z s.y (s.y *ℤ pos 1)) (true-from_eq s.x (s.x *ℤ pos 1) (sym (times_one s.x))) (true-from_eq s.y (s.y *ℤ pos 1) (sym (times_one s.y)))

-- a point's own shape
pub point_status : (s : Spot) (p : Point) → status_in (shape.Point s) p ≡ cond (is_at s p) In Out
point_status s p = by (is_at s p)
  where
    by : (b : Bool) → cond (((b || false) || false) || (false || false)) In (cond (false || (false || false)) Bd Out) ≡ cond b In Out
    by true = refl
    by false = refl
