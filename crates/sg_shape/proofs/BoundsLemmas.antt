-- The box of two lists of spots together; sound polygons have spots.
use Rattle.std.proofs.Common.{◌≡◌, ◌≢◌, ◌+◌, ℕ, Bool, nat_lt, ◌==◌, if◌then◌else◌, Option, Some, None, option_map, flat_map, true, false, cond, List, [], ◌∷◌, ◌++◌, length, ℤ, ◌≤ℤ◌, refl, subst, arith}
use Rattle.std.specs.Prelude.{Any, MatchOption}
use Rattle.std.specs.Int.{int_min, int_max}
use Rattle.std.specs.Prelude.{int_lt}
use Rattle.std.specs.List.{position_from}
use Rattle.std.proofs.lemmas.Grind.{common_steps}
use Rattle.std.proofs.Math.Dec.{eqb-suc-zero}
use Rattle.std.proofs.lemmas.Int.{ints, fold-int_min_bounds, fold-int_max_bounds}
use Rattle.std.proofs.lemmas.List.Elements.{All-append, All-weaker}
use Rattle.sg_shape.specs.declared.spots.Spot.{Spot}
use Rattle.sg_shape.specs.declared.bounds.Bounds.{Bounds}
use Rattle.sg_shape.specs.declared.shapes.Shape.{Shape}
use Rattle.sg_shape.specs.declared.shapes.Shape.TheVariants as shape
use Rattle.sg_shape.specs.declared.shapes.ShapeFault.{ShapeFault}
use Rattle.sg_shape.specs.declared.shapes.ShapeFault.TheVariants as fault
use Rattle.sg_shape.specs.Bounds.{Bounding, IsBounds, IsEmpty, IsInside, joined}
use Rattle.sg_shape.specs.Sound.{IsSound, is_short, or_else, too_few}

module _ {X : Type 0} (P : X → Type 0) where
  any-left : (xs ys : List X) → Any P xs → Any P (xs ++ ys)
  any-left xs ys h =
      let below = h.2 in
      let is = h.3 in
      (h.0, h.1, grind (arith, common_steps), grind (arith, common_steps), h.4)

  any-right : (xs ys : List X) → Any P ys → Any P (xs ++ ys)
  any-right xs ys h =
      let below = h.2 in
      let is = h.3 in
      (length xs + h.0, h.1, grind (arith, common_steps), grind (arith, common_steps), h.4)

-- the one of two numbers
either : (P : ℤ → Type 0) (t : Bool) (x y : ℤ) → P x → P y → P (cond t y x)
either P true x y p q = q
either P false x y p q = p

min_first : (a b : ℤ) → int_min a b ≤ℤ a
min_first a b = (fold-int_min_bounds a (b ∷ []) (int_min a b) refl).0

min_second : (a b : ℤ) → int_min a b ≤ℤ b
min_second a b = (fold-int_min_bounds a (b ∷ []) (int_min a b) refl).1 0 b (omega arith)

max_first : (a b : ℤ) → a ≤ℤ int_max a b
max_first a b = (fold-int_max_bounds a (b ∷ []) (int_max a b) refl).0

max_second : (a b : ℤ) → b ≤ℤ int_max a b
max_second a b = (fold-int_max_bounds a (b ∷ []) (int_max a b) refl).1 0 b (omega arith)

le-trans : (a b c : ℤ) → a ≤ℤ b → b ≤ℤ c → a ≤ℤ c
le-trans a b c h k = omega (arith, ints)

inside_first : (a b : Bounds) (s : Spot) → IsInside a s → IsInside (joined a b) s
inside_first a b s h = record {
  left = le-trans _ _ _ (min_first a.xmin b.xmin) h.left;
  right = le-trans _ _ _ h.right (max_first a.xmax b.xmax);
  below = le-trans _ _ _ (min_first a.ymin b.ymin) h.below;
  above = le-trans _ _ _ h.above (max_first a.ymax b.ymax);
}

inside_second : (a b : Bounds) (s : Spot) → IsInside b s → IsInside (joined a b) s
inside_second a b s h = record {
  left = le-trans _ _ _ (min_second a.xmin b.xmin) h.left;
  right = le-trans _ _ _ h.right (max_second a.xmax b.xmax);
  below = le-trans _ _ _ (min_second a.ymin b.ymin) h.below;
  above = le-trans _ _ _ h.above (max_second a.ymax b.ymax);
}

-- a side of one box is reached, and a side of the other, so that of the box of both is
lowest : (f : Spot → ℤ) (x y : ℤ) (xs ys : List Spot) → Any (λ s. f s ≡ x) xs → Any (λ s. f s ≡ y) ys → Any (λ s. f s ≡ int_min x y) (xs ++ ys)
lowest f x y xs ys h k =
    either (λ z. Any (λ s. f s ≡ z) (xs ++ ys)) (int_lt y x) x y (any-left (λ s. f s ≡ x) xs ys h) (any-right (λ s. f s ≡ y) xs ys k)

highest : (f : Spot → ℤ) (x y : ℤ) (xs ys : List Spot) → Any (λ s. f s ≡ x) xs → Any (λ s. f s ≡ y) ys → Any (λ s. f s ≡ int_max x y) (xs ++ ys)
highest f x y xs ys h k =
    either (λ z. Any (λ s. f s ≡ z) (xs ++ ys)) (int_lt y x) y x (any-right (λ s. f s ≡ y) xs ys k) (any-left (λ s. f s ≡ x) xs ys h)

pub Bounding-joined : (a b : Bounds) (xs ys : List Spot) → Bounding a xs → Bounding b ys → Bounding (joined a b) (xs ++ ys)
Bounding-joined a b xs ys h k = record {
  inside = All-append (IsInside (joined a b)) xs ys (All-weaker (IsInside a) (IsInside (joined a b)) (inside_first a b) xs h.inside) (All-weaker (IsInside b) (IsInside (joined a b)) (inside_second a b) ys k.inside);
  left = lowest (λ s. s.x) a.xmin b.xmin xs ys h.left k.left;
  right = highest (λ s. s.x) a.xmax b.xmax xs ys h.right k.right;
  below = lowest (λ s. s.y) a.ymin b.ymin xs ys h.below k.below;
  above = highest (λ s. s.y) a.ymax b.ymax xs ys h.above k.above;
}

-- ---- a sound polygon has spots
not_empty : (t : Bool) (o : Option ℕ) → t ≡ false → (if t then Some 0 else o) ≡ o
not_empty t o e = rw e refl

first_ring : (ring : List Spot) (rest : List (List Spot)) → too_few (shape.Polygon (ring ∷ rest)) ≡ position_from is_short 0 (ring ∷ rest)
first_ring ring rest = not_empty (length (ring ∷ rest) == 0) (position_from is_short 0 (ring ∷ rest)) (eqb-suc-zero (length rest))

fault_at : (t : Bool) (o : Option ℕ) (g : Option ShapeFault) → o ≡ Some 0 → (if t then Some fault.TooMany else or_else (option_map (λ ring. fault.TooFew ring) o) g) ≢ None
fault_at true o g e = λ k. cc
fault_at false o g e = rw e (λ k. cc)

pub has_spots : (rings : List (List Spot)) → IsSound (shape.Polygon rings) → flat_map (λ ring. ring) rings ≢ []
has_spots [] h e = cc
has_spots ([] ∷ rest) h e = fault_at (nat_lt 2048 (length (flat_map (λ ring. ring) rest))) _ _ (first_ring [] rest) h
has_spots ((s ∷ ss) ∷ rest) h e = cc

-- so it has a box
pub polygon_bounds : (o : Option Bounds) (s : Shape) (rings : List (List Spot)) → s ≡ shape.Polygon rings → IsSound s →
    MatchOption o (flat_map (λ ring. ring) rings ≡ []) (λ b. Bounding b (flat_map (λ ring. ring) rings)) → MatchOption o (IsEmpty s) (λ b. IsBounds b s)
polygon_bounds (Some b) s rings e h k = rw e k
polygon_bounds None s rings e h k = absurd (has_spots rings (subst IsSound e h) k)
