-- The box of a list of spots, and that a sound shape grows to one shape.
use Rattle.std.proofs.Common.{ℕ, zero, suc, ◌≡◌, arith, refl, sym, ap, ◌∙◌, subst, List, [], ◌∷◌, ◌++◌, append_assoc, append-nil, ℤ, ◌≤ℤ◌, inl, inr}
use Rattle.std.proofs.lemmas.Int.{ints}
use Rattle.std.specs.Prelude.{All, Any, ◌↔◌}
use Rattle.sg_shape.specs.declared.spots.Spot.{Spot}
use Rattle.sg_shape.specs.declared.bounds.Bounds.{Bounds}
use Rattle.sg_shape.specs.declared.shapes.Kind.{Kind}
use Rattle.sg_shape.specs.declared.shapes.Shape.{Shape}
use Rattle.sg_shape.specs.declared.shapes.Shape.TheVariants as shape
use Rattle.sg_shape.specs.Shapes.{spots}
use Rattle.sg_shape.specs.Bounds.{Bounding, IsBounds, IsEmpty, IsInside, joined}
use Rattle.sg_shape.specs.Grown.{IsGrown, as_shape, moved_out}
use Rattle.sg_shape.specs.Sound.{IsSound}
use Rattle.sg_shape.proofs.BoundsLemmas.{Bounding-joined, has_spots}
use Rattle.sg_cells.specs.Queries.{at_spot, bounds_with, grown_by, grown}
use Rattle.sg_cells.specs.Claims.{GrownIs}

-- ---- the box of spots
le-same : (z : ℤ) → z ≤ℤ z
le-same z = omega (arith, ints)

itself : (t : Spot) → IsInside (at_spot t) t
itself t = record { left = le-same t.x; right = le-same t.x; below = le-same t.y; above = le-same t.y }

first : (P : Spot → Type 0) (t : Spot) → P t → Any P (t ∷ [])
first P t h = (0, t, omega arith, refl, h)

one_spot : (t : Spot) → Bounding (at_spot t) (t ∷ [])
one_spot t = record { inside = all; left = first _ t refl; right = first _ t refl; below = first _ t refl; above = first _ t refl }
  where
    all : All (IsInside (at_spot t)) (t ∷ [])
    all zero d l = itself t
    all (suc n) d l = absurd (omega arith)

spots_with : (b : Bounds) (xs ss : List Spot) → Bounding b xs → Bounding (bounds_with b ss) (xs ++ ss)
spots_with b xs [] h = rw append-nil h
spots_with b xs (s ∷ ss) h =
    subst (Bounding (bounds_with (joined b (at_spot s)) ss)) (append_assoc xs (s ∷ []) ss) (spots_with (joined b (at_spot s)) (xs ++ s ∷ []) ss (Bounding-joined b (at_spot s) xs (s ∷ []) h (one_spot s)))

-- the box of a list that isn't empty
pub bounds_are : (t : Spot) (ts : List Spot) → Bounding (bounds_with (at_spot t) ts) (t ∷ ts)
bounds_are t ts = spots_with (at_spot t) (t ∷ []) ts (one_spot t)

-- ---- there is one
at_side : (P Q : Spot → Type 0) (ss : List Spot) (R : Type 0) → All P ss → Any Q ss → ((t : Spot) → P t → Q t → R) → R
at_side P Q ss R all some f = f some.1 (subst P some.3 (all some.0 some.1 some.2)) some.4

-- each of two boxes of the same spots holds the other's sides
record Within (b c : Bounds) : Type 0 where
  left : b.xmin ≤ℤ c.xmin
  right : c.xmax ≤ℤ b.xmax
  below : b.ymin ≤ℤ c.ymin
  above : c.ymax ≤ℤ b.ymax

holds : (b c : Bounds) (ss : List Spot) → Bounding b ss → Bounding c ss → Within b c
holds b c ss i j = record {
  left = at_side (IsInside b) (λ t. t.x ≡ c.xmin) ss (b.xmin ≤ℤ c.xmin) i.inside j.left (λ t h e. subst (λ (v : ℤ). b.xmin ≤ℤ v) e h.left);
  right = at_side (IsInside b) (λ t. t.x ≡ c.xmax) ss (c.xmax ≤ℤ b.xmax) i.inside j.right (λ t h e. subst (λ (v : ℤ). v ≤ℤ b.xmax) e h.right);
  below = at_side (IsInside b) (λ t. t.y ≡ c.ymin) ss (b.ymin ≤ℤ c.ymin) i.inside j.below (λ t h e. subst (λ (v : ℤ). b.ymin ≤ℤ v) e h.below);
  above = at_side (IsInside b) (λ t. t.y ≡ c.ymax) ss (c.ymax ≤ℤ b.ymax) i.inside j.above (λ t h e. subst (λ (v : ℤ). v ≤ℤ b.ymax) e h.above);
}

antisym : {x y : ℤ} → x ≤ℤ y → y ≤ℤ x → x ≡ y
antisym {x} {y} h l = omega (arith, ints)

pub Bounding-unique : (b c : Bounds) (ss : List Spot) → Bounding b ss → Bounding c ss → b ≡ c
Bounding-unique b c ss i j =
    let h = holds b c ss i j in
    let k = holds c b ss j i in
    same (antisym h.left k.left) (antisym h.below k.below) (antisym k.right h.right) (antisym k.above h.above)
  where
    same : b.xmin ≡ c.xmin → b.ymin ≡ c.ymin → b.xmax ≡ c.xmax → b.ymax ≡ c.ymax → b ≡ c
    same e f g h = λ i. record { xmin = e i; ymin = f i; xmax = g i; ymax = h i }

-- ---- a sound shape without spots is written EMPTY
pub empty_of : (s : Shape) → IsSound s → spots s ≡ [] → IsEmpty s
empty_of (shape.Empty kind) h e = (kind, refl)
empty_of (shape.Point spot) h e = absurd (cc)
empty_of (shape.Line []) h e = absurd (cc)
empty_of (shape.Line (s ∷ ss)) h e = absurd (cc)
empty_of (shape.Polygon rings) h e = absurd (has_spots rings h e)

-- ---- growing
no_side : (b : Bounds) (s : Shape) → spots s ≡ [] → IsBounds b s → ⊥
no_side b s e i = let h = subst (Any (λ t. t.x ≡ b.xmin)) e i.left in let l = h.2 in omega arith

no_spot : (kind : Kind) (s : Shape) (t : Spot) (ts : List Spot) → spots s ≡ t ∷ ts → s ≡ shape.Empty kind → ⊥
no_spot kind s t ts e k = let z : [] ≡ t ∷ ts = sym (ap spots k) ∙ e in cc

grown_is : (s g : Shape) (d : ℕ) (ss : List Spot) → IsSound s → spots s ≡ ss → IsGrown s d g ↔ (g ≡ grown_by d s ss)
grown_is s g d [] h e = (there, back)
  where
    there : IsGrown s d g → g ≡ s
    there (inl k) = k.2 ∙ sym k.1
    there (inr k) = absurd (no_side k.0 s e k.1)

    back : g ≡ s → IsGrown s d g
    back q = let k = empty_of s h e in inl (k.0, k.1, q ∙ k.1)
grown_is s g d (t ∷ ts) h e = (there, back)
  where
    there : IsGrown s d g → g ≡ as_shape (moved_out (bounds_with (at_spot t) ts) d)
    there (inl k) = absurd (no_spot k.0 s t ts e k.1)
    there (inr k) = k.2 ∙ ap (λ (b : Bounds). as_shape (moved_out b d)) (Bounding-unique k.0 (bounds_with (at_spot t) ts) (t ∷ ts) (subst (Bounding k.0) e k.1) (bounds_are t ts))

    back : g ≡ as_shape (moved_out (bounds_with (at_spot t) ts) d) → IsGrown s d g
    back q = inr (bounds_with (at_spot t) ts, subst (Bounding (bounds_with (at_spot t) ts)) (sym e) (bounds_are t ts), q)

pub grown_right : GrownIs
unfolding grown
grown_right s g d h = grown_is s g d (spots s) h refl
