-- Where boxes allow a relation, it speaks of points of their common places alone, and so holds of what does for the shapes
-- there as it holds of the shapes.
use Rattle.std.proofs.Common.{◌≡◌, refl, sym, ◌∙◌, Bool, true, ◌↔◌}
use Rattle.std.specs.List.{All, Contains}
use Rattle.std.proofs.lemmas.List.Elements.{All-contains, All-weaker}
use mathlib.Core.Bool.{◌&&◌, ◌||◌}
use mathlib.Core.Logic.{◌⊎◌, inl, inr}
use Rattle.sg_algebra.proofs.Comparisons.{left_true, right_true, either_true}
use Rattle.sg_shape.specs.declared.bounds.Bounds.{Bounds}
use Rattle.sg_shape.specs.declared.matrices.Pred.{Pred}
use Rattle.sg_shape.specs.declared.matrices.Pred.TheVariants.{Intersects, Contains as Contained, Within, Equals, Touches}
use Rattle.sg_shape.specs.declared.shapes.Shape.{Shape}
use Rattle.sg_shape.specs.Bounds.{IsInside, IsBounds}
use Rattle.sg_shape.specs.Boxes.{HasPoint, is_held}
use Rattle.sg_shape.specs.Grown.{PointIn}
use Rattle.sg_shape.specs.Matrix.{Meets, Relates}
use Rattle.sg_shape.specs.Plane.{Point, Status, In, Bd, Out}
use Rattle.sg_shape.specs.Shapes.{parts_of, spots, status_in}
use Rattle.sg_shape.specs.Sound.{IsSound}
use Rattle.sg_nearby.specs.Nearby.{SameIn, HasSpotsOf}
use Rattle.sg_relate.specs.Boxes.{MayRelate, LiesIn, common, closed}
use Rattle.sg_relate.specs.Deciding.{speaks_of, SpeaksWithin, StandsFor}
use Rattle.sg_relate.proofs.Held.{points_in}
use Rattle.sg_relate.proofs.Places.{in_larger, in_common, in_closed}

-- ---- the points that a relation speaks of
module _ (f g : Bounds) (p : Point) (s t : Bool) (u : s ≡ true → PointIn f p) (v : t ≡ true → PointIn g p) where
  of_both : (s && t) ≡ true → PointIn (common f g) p
  of_both h = in_common f g p (u (left_true s t h)) (v (right_true s t h))

  of_first : LiesIn f g → s ≡ true → PointIn (common f g) p
  of_first l h = let w = u h in in_common f g p w (in_larger f g p l w)

  of_second : LiesIn g f → t ≡ true → PointIn (common f g) p
  of_second l h = let w = v h in in_common f g p (in_larger g f p l w) w

  of_either : LiesIn f g → LiesIn g f → (s || t) ≡ true → PointIn (common f g) p
  of_either l m h = elim (either_true s t h) [ inl k ↦ of_first l k | inr k ↦ of_second m k ]

speaks_in : (pred : Pred) (f g : Bounds) (a b : Shape) → MayRelate pred f g → ((p : Point) → HasPoint (parts_of a) p → PointIn f p) → ((p : Point) → HasPoint (parts_of b) p → PointIn g p) → SpeaksWithin pred (common f g) a b
speaks_in Intersects f g a b m u v p h = of_both f g p (is_held (status_in a p)) (is_held (status_in b p)) (u p) (v p) h
speaks_in Contained f g a b m u v p h = of_second f g p (is_held (status_in a p)) (is_held (status_in b p)) (u p) (v p) m h
speaks_in Within f g a b m u v p h = of_first f g p (is_held (status_in a p)) (is_held (status_in b p)) (u p) (v p) m h
speaks_in Equals f g a b m u v p h = of_either f g p (is_held (status_in a p)) (is_held (status_in b p)) (u p) (v p) m.0 m.1 h
speaks_in Touches f g a b m u v p h = of_both f g p (is_held (status_in a p)) (is_held (status_in b p)) (u p) (v p) h

pub speaks_within : (pred : Pred) (f g : Bounds) (a b : Shape) → MayRelate pred f g → IsSound a → IsSound b → All (IsInside f) (spots a) → All (IsInside g) (spots b) → SpeaksWithin pred (common f g) a b
speaks_within pred f g a b m sa sb i j = speaks_in pred f g a b m (points_in a f sa i) (points_in b g sb j)

-- ---- a relation of other shapes that have the pairs of which it speaks
or_iff : {A B C D : Type 0} → A ↔ B → C ↔ D → (A ⊎ C) ↔ (B ⊎ D)
or_iff e f = (λ h. elim h [ inl x ↦ inl (e.0 x) | inr y ↦ inr (f.0 y) ], λ h. elim h [ inl x ↦ inl (e.1 x) | inr y ↦ inr (f.1 y) ])

and_iff : {A B C D : Type 0} → A ↔ B → C ↔ D → (A × C) ↔ (B × D)
and_iff e f = (λ h. (e.0 h.0, f.0 h.1), λ h. (e.1 h.0, f.1 h.1))

not_iff : {A B : Type 0} → A ↔ B → (¬ A) ↔ (¬ B)
not_iff e = (λ n x. n (e.1 x), λ n x. n (e.0 x))

SamePairs : Pred → Shape → Shape → Shape → Shape → Type 0
SamePairs pred k l a b = (i j : Status) → speaks_of pred i j ≡ true → Meets i j k l ↔ Meets i j a b

relates_alike : (pred : Pred) (k l a b : Shape) → SamePairs pred k l a b → Relates pred k l ↔ Relates pred a b
unfolding SamePairs
relates_alike Intersects k l a b e = or_iff (e In In refl) (or_iff (e In Bd refl) (or_iff (e Bd In refl) (e Bd Bd refl)))
relates_alike Contained k l a b e = and_iff (e In In refl) (not_iff (or_iff (e Out In refl) (e Out Bd refl)))
relates_alike Within k l a b e = and_iff (e In In refl) (not_iff (or_iff (e In Out refl) (e Bd Out refl)))
relates_alike Equals k l a b e = and_iff (e In In refl) (not_iff (or_iff (e In Out refl) (or_iff (e Bd Out refl) (or_iff (e Out In refl) (e Out Bd refl)))))
relates_alike Touches k l a b e = and_iff (or_iff (e In Bd refl) (or_iff (e Bd In refl) (e Bd Bd refl))) (not_iff (e In In refl))

same_pairs : (pred : Pred) (box : Bounds) (k l a b : Shape) → SpeaksWithin pred box k l → SpeaksWithin pred box a b → SameIn (closed box) k a → SameIn (closed box) l b → SamePairs pred k l a b
unfolding SamePairs
same_pairs pred box k l a b u v x y i j h = (
  λ q. let w = in_closed box q.0 (u q.0 ((λ t. speaks_of pred (q.1 t) (q.2 t)) ∙ h)) in (q.0, sym (x q.0 w) ∙ q.1, sym (y q.0 w) ∙ q.2),
  λ q. let w = in_closed box q.0 (v q.0 ((λ t. speaks_of pred (q.1 t) (q.2 t)) ∙ h)) in (q.0, x q.0 w ∙ q.1, y q.0 w ∙ q.2),
)

-- ---- what does for a shape
pub stands_itself : (f box : Bounds) (k : Shape) → IsSound k → IsBounds f k → StandsFor f box k k
stands_itself f box k s i = record { sound = s; within = i.inside; same = λ p h. refl }

pub stands_near : (f box : Bounds) (k near : Shape) → IsBounds f k → IsSound near → SameIn (closed box) near k → HasSpotsOf near k → StandsFor f box k near
stands_near f box k near i s x h = record {
  sound = s;
  within = All-weaker (Contains (spots k)) (IsInside f) (λ t c. All-contains (IsInside f) (spots k) t i.inside c) (spots near) h;
  same = x;
}

pub near_speaks : (pred : Pred) (f g : Bounds) (a b k l : Shape) → MayRelate pred f g → StandsFor f (common f g) a k → StandsFor g (common f g) b l → SpeaksWithin pred (common f g) k l
near_speaks pred f g a b k l m u v = speaks_within pred f g k l m u.sound v.sound u.within v.within

pub near_relates : (pred : Pred) (f g : Bounds) (a b k l : Shape) → MayRelate pred f g → IsSound a → IsSound b → IsBounds f a → IsBounds g b → StandsFor f (common f g) a k → StandsFor g (common f g) b l → Relates pred k l ↔ Relates pred a b
near_relates pred f g a b k l m sa sb fa gb u v =
    relates_alike pred k l a b
    (same_pairs pred (common f g) k l a b (near_speaks pred f g a b k l m u v) (speaks_within pred f g a b m sa sb fa.inside gb.inside) u.same v.same)
