use Rattle.std.proofs.Common.{◌≡◌, sym, ap, ◌∙◌, true, ℕ}
use lib.IntN.{ℤ, pos, ◌*ℤ◌}
use Rattle.sg_algebra.proofs.Comparisons.{both, true-from_eq}
use Rattle.sg_shape.specs.declared.spots.Spot.{Spot}
use Rattle.sg_shape.specs.Plane.{eq_z, is_at}
use Rattle.sg_segment.specs.declared.places.Place.{Place}
use Rattle.sg_segment.specs.Statuses.{point_of}
use Rattle.sg_relate.proofs.Named.{status_named, times_one}
use Rattle.sg_relate.proofs.points.status_of.Goals as goal

-- the place over 1 is the spot
is_spot : (s : Spot) (p : Place) → p.x ≡ s.x → p.y ≡ s.y → p.n ≡ 1 → is_at s (point_of p) ≡ true
is_spot s p x y n =
    both (eq_z p.x (s.x *ℤ pos p.n)) (eq_z p.y (s.y *ℤ pos p.n)) (true-from_eq p.x (s.x *ℤ pos p.n) (x ∙ over s.x)) (true-from_eq p.y (s.y *ℤ pos p.n) (y ∙ over s.y))
  where
    over : (z : ℤ) → z ≡ z *ℤ pos p.n
    over z = sym (times_one z) ∙ ap (λ (m : ℕ). z *ℤ pos m) (sym n)

pub returns : goal.returns
returns c = c.status_at.ensures ∙ status_named c.args.shape.now c.args.spot (point_of c.place_of.result) (is_spot c.args.spot c.place_of.result c.place_of.ensures.x c.place_of.ensures.y c.place_of.ensures.n)
