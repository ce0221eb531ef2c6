-- The coordinates of a sound shape, of its bounds, and of those moved out, lie within the limits.
use Rattle.std.proofs.Common.{ℕ, ◌≡◌, ◌+◌, ◌≤◌, arith, refl, sym, subst, Bool, true, false, cond, List, [], ◌∷◌, length, suc, zero, nat_lt, Option, None, Some, option_map, nat_abs, ℤ, pos, neg_ℤ, ◌+ℤ◌, ◌-ℤ◌, int_lt, int_eq, Result, Ok, Err, IfOk}
use Rattle.std.proofs.lemmas.Int.{ints}
use Rattle.std.proofs.lemmas.Bool.{and_parts, and_from}
use Rattle.std.specs.List.{All, Any, position_from}
use Rattle.std.specs.Int.{int_min, int_max}
use mathlib.Core.Bool.{◌&&◌, not}
use borrow.Author.Differences.{lt-true, lt-false}
use lib.Signed.{◌≤ℤ◌, le_z, lt_z}
use Rattle.sg_shape.proofs.Equal.{le-from_true, true-from_le, true-from_eq}
use Rattle.sg_shape.specs.Shapes.{spots}
use Rattle.sg_shape.specs.Sound.{IsSound, coord_ok, is_out, first_out, too_few, ring_open, or_else}
use Rattle.sg_shape.specs.Bounds.{IsBounds}
use Rattle.sg_shape.specs.Grown.{moved_out, as_shape, by_sides}
use Rattle.sg_shape.specs.declared.spots.Spot.{Spot}
use Rattle.sg_shape.specs.declared.bounds.Bounds.{Bounds}
use Rattle.sg_shape.specs.declared.shapes.Shape.{Shape}
use Rattle.sg_shape.specs.declared.shapes.ShapeFault.TheVariants as fault

-- ---- spots
none_out : (k : Shape) → IsSound k → first_out k ≡ None
none_out k s = by_parts (nat_lt 2048 (length (spots k))) (too_few k) (ring_open k) (first_out k) refl s
  where
    by_parts : (t : Bool) (a b c : Option ℕ) → first_out k ≡ c →
        (cond t (Some fault.TooMany) (or_else (option_map (λ ring. fault.TooFew ring) a) (or_else (option_map (λ ring. fault.RingOpen ring) b) (option_map (λ at. fault.CoordOut at) c)))) ≡ None → first_out k ≡ None
    by_parts true a b c e h = absurd (cc)
    by_parts false (Some x) b c e h = absurd (cc)
    by_parts false None (Some x) c e h = absurd (cc)
    by_parts false None None (Some x) e h = absurd (cc)
    by_parts false None None None e h = e

passes_none : (i : ℕ) (xs : List Spot) → position_from is_out i xs ≡ None → All (λ s. is_out s ≡ false) xs
passes_none i [] h = λ n d l. absurd (omega arith)
passes_none i (x ∷ xs) h = by_test (passes_none (i + 1) xs) (is_out x) refl h
  where
    cons : is_out x ≡ false → All (λ s. is_out s ≡ false) xs → All (λ s. is_out s ≡ false) (x ∷ xs)
    cons e r zero d l = e
    cons e r (suc n) d l = r n d (omega arith)

    by_test : (position_from is_out (i + 1) xs ≡ None → All (λ s. is_out s ≡ false) xs) → (b : Bool) → is_out x ≡ b → cond b (Some i) (position_from is_out (i + 1) xs) ≡ None → All (λ s. is_out s ≡ false) (x ∷ xs)
    by_test r true e h = absurd (cc)
    by_test r false e h = cons e (r h)

both_ok : (s : Spot) → is_out s ≡ false → (coord_ok s.x ≡ true) × (coord_ok s.y ≡ true)
both_ok s h = and_parts (coord_ok s.x) (coord_ok s.y) (is_true (coord_ok s.x && coord_ok s.y) h)
  where
    is_true : (b : Bool) → not b ≡ false → b ≡ true
    is_true true e = refl
    is_true false e = absurd (cc)

-- ---- bounds
pub record IsBoxIn (b : Bounds) : Type 0 where
  pub left : coord_ok b.xmin ≡ true
  pub right : coord_ok b.xmax ≡ true
  pub below : coord_ok b.ymin ≡ true
  pub above : coord_ok b.ymax ≡ true

pub bounds_in : (k : Shape) (b : Bounds) → IsSound k → IsBounds b k → IsBoxIn b
bounds_in k b s i = record {
  left = of_x b.xmin i.left;
  right = of_x b.xmax i.right;
  below = of_y b.ymin i.below;
  above = of_y b.ymax i.above;
}
  where
    all : All (λ t. is_out t ≡ false) (spots k)
    all = passes_none 0 (spots k) (none_out k s)

    of_x : (z : ℤ) → Any (λ t. t.x ≡ z) (spots k) → coord_ok z ≡ true
    of_x z a = subst (λ v. coord_ok v ≡ true) a.4 (both_ok a.1 (subst (λ t. is_out t ≡ false) a.3 (all a.0 a.1 a.2))).0

    of_y : (z : ℤ) → Any (λ t. t.y ≡ z) (spots k) → coord_ok z ≡ true
    of_y z a = subst (λ v. coord_ok v ≡ true) a.4 (both_ok a.1 (subst (λ t. is_out t ≡ false) a.3 (all a.0 a.1 a.2))).1

-- ---- sizes
pub at_least : (z : ℤ) → coord_ok z ≡ true → neg_ℤ (pos 16000000) ≤ℤ z
at_least z t = le-from_true (neg_ℤ (pos 16000000)) z (and_parts (le_z (neg_ℤ (pos 16000000)) z) (le_z z (pos 16000000)) t).0

pub at_most : (z : ℤ) → coord_ok z ≡ true → z ≤ℤ pos 16000000
at_most z t = le-from_true z (pos 16000000) (and_parts (le_z (neg_ℤ (pos 16000000)) z) (le_z z (pos 16000000)) t).1

within : (z : ℤ) → neg_ℤ (pos 16000000) ≤ℤ z → z ≤ℤ pos 16000000 → coord_ok z ≡ true
within z a b = and_from (le_z (neg_ℤ (pos 16000000)) z) (le_z z (pos 16000000)) (true-from_le (neg_ℤ (pos 16000000)) z a) (true-from_le z (pos 16000000) b)

pub size_of : (z : ℤ) → coord_ok z ≡ true → nat_abs z ≤ 16000000
size_of z t = let a = at_least z t in let b = at_most z t in omega (arith, ints)

-- ---- moved out
down_in : (z : ℤ) (d : ℕ) → coord_ok z ≡ true → coord_ok (int_max (z -ℤ pos d) (neg_ℤ (pos 16000000))) ≡ true
down_in z d t = by_test (int_lt (neg_ℤ (pos 16000000)) (z -ℤ pos d)) refl
  where
    by_test : (b : Bool) → int_lt (neg_ℤ (pos 16000000)) (z -ℤ pos d) ≡ b → coord_ok (cond b (z -ℤ pos d) (neg_ℤ (pos 16000000))) ≡ true
    by_test true e = let a = at_most z t in within (z -ℤ pos d) (omega (arith, ints, lt-true (neg_ℤ (pos 16000000)) (z -ℤ pos d) e)) (omega (arith, ints))
    by_test false e = refl

up_in : (z : ℤ) (d : ℕ) → coord_ok z ≡ true → coord_ok (int_min (z +ℤ pos d) (pos 16000000)) ≡ true
up_in z d t = by_test (int_lt (pos 16000000) (z +ℤ pos d)) refl
  where
    by_test : (b : Bool) → int_lt (pos 16000000) (z +ℤ pos d) ≡ b → coord_ok (cond b (pos 16000000) (z +ℤ pos d)) ≡ true
    by_test true e = refl
    by_test false e = let a = at_least z t in within (z +ℤ pos d) (omega (arith, ints)) (omega (arith, ints, lt-false (pos 16000000) (z +ℤ pos d) e))

pub moved_in : (b : Bounds) (d : ℕ) → IsBoxIn b → IsBoxIn (moved_out b d)
moved_in b d i = record {
  left = down_in b.xmin d i.left;
  right = up_in b.xmax d i.right;
  below = down_in b.ymin d i.below;
  above = up_in b.ymax d i.above;
}

-- ---- a box within the limits is a sound shape
sound_sides : (t u : Bool) (b : Bounds) → IsBoxIn b → IsSound (by_sides t u b)
sound_sides true true b i = rw (i.left, i.below) refl
sound_sides true false b i = rw (i.left, i.right, i.below, i.above) refl
sound_sides false true b i = rw (i.left, i.right, i.below, i.above) refl
sound_sides false false b i = rw (true-from_eq b.xmin b.xmin refl, true-from_eq b.ymin b.ymin refl, i.left, i.right, i.below, i.above) refl

pub grown_sound : (k : Shape) (b : Bounds) (d : ℕ) → IsSound k → IsBounds b k → IsSound (as_shape (moved_out b d))
grown_sound k b d s i = sound_sides (int_eq (moved_out b d).xmin (moved_out b d).xmax) (int_eq (moved_out b d).ymin (moved_out b d).ymax) (moved_out b d) (moved_in b d (bounds_in k b s i))

pub ok_sound : {E : Type 0} (r : Result Shape E) (b : Bounds) → IfOk r (λ s. s ≡ as_shape b) → IsSound (as_shape b) → IfOk r (λ s. IsSound s)
ok_sound (Ok s) b e h = subst IsSound (sym e) h
ok_sound (Err x) b e h = tt
