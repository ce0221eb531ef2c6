-- What relates a point to a shape whose box allows it: the point's status in the shape.
use Rattle.std.proofs.Common.{ℕ, ◌≡◌, ◌<◌, arith, refl, sym, ap, ◌∙◌, subst, Bool, true, false, cond, [], ◌∷◌, zero, suc, ◌↔◌, IsTrue, get_or}
use Rattle.std.specs.Prelude.{Any}
use mathlib.Core.Logic.{◌⊎◌, inl, inr}
use lib.IntN.{ℤ, pos, ◌*ℤ◌}
use lib.Signed.{◌≤ℤ◌}
use Rattle.sg_algebra.proofs.Ring.{sums}
use Rattle.sg_algebra.proofs.Comparisons.{both, true-from_eq}
use Rattle.sg_segment.specs.Sides.{point_at}
use Rattle.sg_shape.specs.declared.bounds.Bounds.{Bounds}
use Rattle.sg_shape.specs.declared.matrices.Pred.{Pred}
use Rattle.sg_shape.specs.declared.matrices.Pred.TheVariants.{Intersects, Contains, Within, Equals, Touches}
use Rattle.sg_shape.specs.declared.shapes.Shape.{Shape}
use Rattle.sg_shape.specs.declared.shapes.Shape.TheVariants as shape
use Rattle.sg_shape.specs.declared.spots.Spot.{Spot}
use Rattle.sg_shape.specs.Bounds.{IsBounds}
use Rattle.sg_shape.specs.Boxes.{is_held}
use Rattle.sg_shape.specs.Grown.{PointIn}
use Rattle.sg_shape.specs.Matrix.{Meets, Relates}
use Rattle.sg_shape.specs.Plane.{Point, Status, In, Bd, Out, is_in, is_bd, eq_z, is_at}
use Rattle.sg_shape.specs.Shapes.{status_in}
use Rattle.sg_shape.specs.Sound.{IsSound}
use Rattle.sg_relate.specs.Boxes.{AreApart, LiesIn, MayRelate}
use Rattle.sg_relate.specs.Deciding.{relates_by}
use Rattle.sg_relate.proofs.Held.{points_in}
use Rattle.sg_relate.proofs.Named.{status_named, self_at, point_status}
use Rattle.sg_relate.proofs.Places.{in_larger}

-- ---- a point's box
only : (Q : Spot → Type 0) (s : Spot) → Any Q (s ∷ []) → Q s
only Q s q = by q.0 q.1 q.2 q.3 q.4
  where
    by : (n : ℕ) (t : Spot) → n < 1 → get_or (s ∷ []) n t ≡ t → Q t → Q s
    by zero t l e h = subst Q (sym e) h
    by (suc n) t l e h = absurd (omega arith)

in_own_box : (f : Bounds) (s : Spot) (p : Point) → IsBounds f (shape.Point s) → PointIn f p → is_at s p ≡ true
in_own_box f s p b i =
    both (eq_z p.x (s.x *ℤ pos p.n)) (eq_z p.y (s.y *ℤ pos p.n))
    (pinned p.x s.x f.xmin f.xmax (only (λ t. t.x ≡ f.xmin) s b.left) (only (λ t. t.x ≡ f.xmax) s b.right) i.left i.right)
    (pinned p.y s.y f.ymin f.ymax (only (λ t. t.y ≡ f.ymin) s b.below) (only (λ t. t.y ≡ f.ymax) s b.above) i.below i.above)
  where
    pinned : (v z low high : ℤ) → z ≡ low → z ≡ high → (low *ℤ pos p.n) ≤ℤ v → v ≤ℤ (high *ℤ pos p.n) → eq_z v (z *ℤ pos p.n) ≡ true
    pinned v z low high d e h k =
        let x : (z *ℤ pos p.n) ≤ℤ v = subst (λ (y : ℤ). (y *ℤ pos p.n) ≤ℤ v) (sym d) h in
        let y : v ≤ℤ (z *ℤ pos p.n) = subst (λ (y : ℤ). v ≤ℤ (y *ℤ pos p.n)) (sym e) k in
        true-from_eq v (z *ℤ pos p.n) (omega (arith, sums, x, y))

-- ---- the pairs of a point and a shape
module _ (s : Spot) (k : Shape) where
  abbrev own : Shape
  own = shape.Point s

  abbrev there : Status
  there = status_in k (point_at s)

  in_own : status_in own (point_at s) ≡ In
  in_own = point_status s (point_at s) ∙ ap (λ (b : Bool). cond b In Out) (self_at s)

  own_in : (p : Point) → status_in own p ≡ In → is_at s p ≡ true
  own_in p e = by (is_at s p) refl (sym (point_status s p) ∙ e)
    where
      by : (b : Bool) → is_at s p ≡ b → cond b In Out ≡ In → is_at s p ≡ true
      by true d h = d
      by false d h = absurd (cc)

  no_border : (j : Status) → Meets Bd j own k → ⊥
  no_border j q = by (is_at s q.0) (sym (point_status s q.0) ∙ q.1)
    where
      by : (b : Bool) → cond b In Out ≡ Bd → ⊥
      by true h = absurd (cc)
      by false h = absurd (cc)

  to_status : (j : Status) → Meets In j own k → there ≡ j
  to_status j q = sym (status_named k s q.0 (own_in q.0 q.1)) ∙ q.2

  from_status : (j : Status) → there ≡ j → Meets In j own k
  from_status j e = (point_at s, in_own, e)

  -- where the other shape lies in the point's box, none of its points lies elsewhere
  nothing_else : (f g : Bounds) → IsSound k → IsBounds f own → IsBounds g k → LiesIn g f → (j : Status) → is_held j ≡ true → Meets Out j own k → ⊥
  nothing_else f g sk b c l j h q =
      let i : PointIn g q.0 = points_in k g sk c.inside q.0 (ap is_held q.2 ∙ h) in
      let w : status_in own q.0 ≡ In = point_status s q.0 ∙ ap (λ (t : Bool). cond t In Out) (in_own_box f s q.0 b (in_larger g f q.0 l i)) in
      unequal (sym w ∙ q.1)
    where
      unequal : In ≡ Out → ⊥
      unequal e = absurd (cc)

  unlike : (i j : Status) → there ≡ i → there ≡ j → i ≡ j
  unlike i j d e = sym d ∙ e

  in_not_bd : In ≡ Bd → ⊥
  in_not_bd e = absurd (cc)

  in_not_out : In ≡ Out → ⊥
  in_not_out e = absurd (cc)

  status_is_in : (t : Status) → is_in t ≡ true → t ≡ In
  status_is_in In h = refl
  status_is_in Bd h = absurd (cc)
  status_is_in Out h = absurd (cc)

  status_is_bd : (t : Status) → is_bd t ≡ true → t ≡ Bd
  status_is_bd In h = absurd (cc)
  status_is_bd Bd h = refl
  status_is_bd Out h = absurd (cc)

  intersects : (t : Status) → there ≡ t → is_held t ≡ true → Relates Intersects own k
  intersects In e h = inl (from_status In e)
  intersects Bd e h = inr (inl (from_status Bd e))
  intersects Out e h = absurd (cc)

  held : Relates Intersects own k → is_held there ≡ true
  held (inl q) = ap is_held (to_status In q)
  held (inr (inl q)) = ap is_held (to_status Bd q)
  held (inr (inr (inl q))) = absurd (no_border In q)
  held (inr (inr (inr q))) = absurd (no_border Bd q)

  border : Meets In Bd own k ⊎ Meets Bd In own k ⊎ Meets Bd Bd own k → there ≡ Bd
  border (inl q) = to_status Bd q
  border (inr (inl q)) = absurd (no_border In q)
  border (inr (inr q)) = absurd (no_border Bd q)

  not_outside : there ≡ In → Meets In Out own k ⊎ Meets Bd Out own k → ⊥
  not_outside e (inl q) = in_not_out (unlike In Out e (to_status Out q))
  not_outside e (inr q) = no_border Out q

  not_elsewhere : (f g : Bounds) → IsSound k → IsBounds f own → IsBounds g k → LiesIn g f → Meets Out In own k ⊎ Meets Out Bd own k → ⊥
  not_elsewhere f g sk b c l (inl q) = nothing_else f g sk b c l In refl q
  not_elsewhere f g sk b c l (inr q) = nothing_else f g sk b c l Bd refl q

  not_different : (f g : Bounds) → IsSound k → IsBounds f own → IsBounds g k → LiesIn g f → there ≡ In → Meets In Out own k ⊎ Meets Bd Out own k ⊎ Meets Out In own k ⊎ Meets Out Bd own k → ⊥
  not_different f g sk b c l e (inl q) = not_outside e (inl q)
  not_different f g sk b c l e (inr (inl q)) = not_outside e (inr q)
  not_different f g sk b c l e (inr (inr q)) = not_elsewhere f g sk b c l q

  pub point_first : (pred : Pred) (f g : Bounds) → IsSound k → IsBounds f own → IsBounds g k → MayRelate pred f g → IsTrue (relates_by pred there) ↔ Relates pred own k
  point_first Intersects f g sk b c m = (intersects there refl, held)
  point_first Contains f g sk b c m = (
    λ h. let e = status_is_in there h in (from_status In e, not_elsewhere f g sk b c m),
    λ r. ap is_in (to_status In r.0),
  )
  point_first Within f g sk b c m = (
    λ h. let e = status_is_in there h in (from_status In e, not_outside e),
    λ r. ap is_in (to_status In r.0),
  )
  point_first Equals f g sk b c m = (
    λ h. let e = status_is_in there h in (from_status In e, not_different f g sk b c m.1 e),
    λ r. ap is_in (to_status In r.0),
  )
  point_first Touches f g sk b c m = (
    λ h. let e = status_is_bd there h in (inl (from_status Bd e), λ q. in_not_bd (unlike In Bd (to_status In q) e)),
    λ r. ap is_bd (border r.0),
  )

-- ---- the same the other way round
abbrev turned : Pred → Pred
turned Intersects = Intersects
turned Contains = Within
turned Within = Contains
turned Equals = Equals
turned Touches = Touches

turn : (i j : Status) (a b : Shape) → Meets i j a b → Meets j i b a
turn i j a b q = (q.0, q.2, q.1)

turned_relates : (pred : Pred) (a b : Shape) → Relates pred a b → Relates (turned pred) b a
turned_relates Intersects a b (inl q) = inl (turn In In a b q)
turned_relates Intersects a b (inr (inl q)) = inr (inr (inl (turn In Bd a b q)))
turned_relates Intersects a b (inr (inr (inl q))) = inr (inl (turn Bd In a b q))
turned_relates Intersects a b (inr (inr (inr q))) = inr (inr (inr (turn Bd Bd a b q)))
turned_relates Contains a b r = (turn In In a b r.0, λ m. r.1 (back m))
  where
    back : Meets In Out b a ⊎ Meets Bd Out b a → Meets Out In a b ⊎ Meets Out Bd a b
    back (inl q) = inl (turn In Out b a q)
    back (inr q) = inr (turn Bd Out b a q)
turned_relates Within a b r = (turn In In a b r.0, λ m. r.1 (back m))
  where
    back : Meets Out In b a ⊎ Meets Out Bd b a → Meets In Out a b ⊎ Meets Bd Out a b
    back (inl q) = inl (turn Out In b a q)
    back (inr q) = inr (turn Out Bd b a q)
turned_relates Equals a b r = (turn In In a b r.0, λ m. r.1 (back m))
  where
    back : Meets In Out b a ⊎ Meets Bd Out b a ⊎ Meets Out In b a ⊎ Meets Out Bd b a → Meets In Out a b ⊎ Meets Bd Out a b ⊎ Meets Out In a b ⊎ Meets Out Bd a b
    back (inl q) = inr (inr (inl (turn In Out b a q)))
    back (inr (inl q)) = inr (inr (inr (turn Bd Out b a q)))
    back (inr (inr (inl q))) = inl (turn Out In b a q)
    back (inr (inr (inr q))) = inr (inl (turn Out Bd b a q))
turned_relates Touches a b r = (forth r.0, λ q. r.1 (turn In In b a q))
  where
    forth : Meets In Bd a b ⊎ Meets Bd In a b ⊎ Meets Bd Bd a b → Meets In Bd b a ⊎ Meets Bd In b a ⊎ Meets Bd Bd b a
    forth (inl q) = inr (inl (turn In Bd a b q))
    forth (inr (inl q)) = inl (turn Bd In a b q)
    forth (inr (inr q)) = inr (inr (turn Bd Bd a b q))

apart_turned : (f g : Bounds) → ¬ AreApart f g → ¬ AreApart g f
apart_turned f g n (inl (inl h)) = n (inl (inr h))
apart_turned f g n (inl (inr h)) = n (inl (inl h))
apart_turned f g n (inr (inl h)) = n (inr (inr h))
apart_turned f g n (inr (inr h)) = n (inr (inl h))

pub point_second : (s : Spot) (k : Shape) (pred : Pred) (f g : Bounds) → IsSound k → IsBounds f k → IsBounds g (shape.Point s) → MayRelate pred f g → IsTrue (relates_by pred (status_in k (point_at s))) ↔ Relates pred k (shape.Point s)
point_second s k Intersects f g sk b c m = let e = point_first s k Intersects g f sk c b (apart_turned f g m) in (λ h. turned_relates Intersects (shape.Point s) k (e.0 h), λ r. e.1 (turned_relates Intersects k (shape.Point s) r))
point_second s k Contains f g sk b c m = let e = point_first s k Within g f sk c b m in (λ h. turned_relates Within (shape.Point s) k (e.0 h), λ r. e.1 (turned_relates Contains k (shape.Point s) r))
point_second s k Within f g sk b c m = let e = point_first s k Contains g f sk c b m in (λ h. turned_relates Contains (shape.Point s) k (e.0 h), λ r. e.1 (turned_relates Within k (shape.Point s) r))
point_second s k Equals f g sk b c m = let e = point_first s k Equals g f sk c b (m.1, m.0) in (λ h. turned_relates Equals (shape.Point s) k (e.0 h), λ r. e.1 (turned_relates Equals k (shape.Point s) r))
point_second s k Touches f g sk b c m = let e = point_first s k Touches g f sk c b (apart_turned f g m) in (λ h. turned_relates Touches (shape.Point s) k (e.0 h), λ r. e.1 (turned_relates Touches k (shape.Point s) r))
