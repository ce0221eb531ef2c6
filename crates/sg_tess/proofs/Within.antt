-- All points of a sound shape lie within its bounds, so that a box away from these isn't met.
use Rattle.std.proofs.Common.{ℕ, zero, suc, ◌≡◌, ◌≤◌, ◌+◌, arith, refl, sym, ap, ◌∙◌, subst, Bool, true, false, cond, List, [], ◌∷◌, ◌++◌, length, ◌==◌, nat_lt, Option, None, Some, option_map, inl, inr, ◌⊎◌}
use Rattle.std.specs.List.{All, position_from, flat_map}
use mathlib.Core.Bool.{◌&&◌, ◌||◌, not}
use lib.IntN.{ℤ, pos, ◌*ℤ◌}
use lib.Signed.{◌<ℤ◌, ◌≤ℤ◌, lt_z, le_z}
use Rattle.sg_algebra.proofs.Ring.{sums, nonneg_diff-mul}
use Rattle.sg_algebra.proofs.Comparisons.{le-from_true, true-from_le, lt-from_true, true-from_lt, le-from_false, lt-from_false, left_true, right_true, both, either_true, or_left, or_right, is_false}
use Rattle.sg_plane.proofs.Lists.{Each, each_append}
use Rattle.sg_plane.proofs.Bounds.{Inside, Within, within}
use Rattle.sg_plane.proofs.Decided.{meets_box-iff}
use Rattle.sg_plane.specs.Decisions.{meets_box}
use Rattle.sg_plane.specs.Reach.{is_closed, spots_of}
use Rattle.sg_shape.specs.declared.spots.Spot.{Spot}
use Rattle.sg_shape.specs.declared.bounds.Bounds.{Bounds}
use Rattle.sg_shape.specs.declared.cells.CellBox.{CellBox}
use Rattle.sg_shape.specs.declared.shapes.Shape.{Shape}
use Rattle.sg_shape.specs.declared.shapes.Shape.TheVariants as shape
use Rattle.sg_shape.specs.declared.shapes.ShapeFault.TheVariants as fault
use Rattle.sg_shape.specs.Plane.{Point, same_spot, last_of}
use Rattle.sg_shape.specs.Shapes.{parts_of, spots}
use Rattle.sg_shape.specs.Sound.{IsSound, is_open, too_few, ring_open, first_out, or_else}
use Rattle.sg_shape.specs.Bounds.{IsBounds, IsInside}
use Rattle.sg_shape.specs.Boxes.{HasPoint, InBox, MeetsBox}
use Rattle.sg_shape.specs.Boxes as boxes
use Rattle.sg_tess.specs.Sights.{overlaps, is_near}

-- ---- the rings of a sound shape are closed
no_open_ring : (k : Shape) → IsSound k → ring_open k ≡ None
no_open_ring k s = by_parts (nat_lt 2048 (length (spots k))) (too_few k) (ring_open k) (first_out k) refl s
  where
    by_parts : (t : Bool) (a b c : Option ℕ) → ring_open k ≡ b →
        (cond t (Some fault.TooMany) (or_else (option_map (λ ring. fault.TooFew ring) a) (or_else (option_map (λ ring. fault.RingOpen ring) b) (option_map (λ at. fault.CoordOut at) c)))) ≡ None → ring_open k ≡ None
    by_parts true a b c eb e = absurd (cc)
    by_parts false (Some x) b c eb e = absurd (cc)
    by_parts false None (Some x) c eb e = absurd (cc)
    by_parts false None None c eb e = eb

closed_one : (ring : List Spot) → is_open ring ≡ false → is_closed ring ≡ true
closed_one [] h = refl
closed_one (s ∷ ss) h = is_true (same_spot s (last_of s ss)) h
  where
    is_true : (b : Bool) → not b ≡ false → b ≡ true
    is_true true e = refl
    is_true false e = absurd (cc)

all_closed : (i : ℕ) (rings : List (List Spot)) → position_from is_open i rings ≡ None → Each (λ r. is_closed r ≡ true) rings
all_closed i [] h = tt
all_closed i (r ∷ rs) h = by_test (all_closed (i + 1) rs) (is_open r) refl h
  where
    by_test : (position_from is_open (i + 1) rs ≡ None → Each (λ r. is_closed r ≡ true) rs) → (b : Bool) → is_open r ≡ b → cond b (Some i) (position_from is_open (i + 1) rs) ≡ None → Each (λ r. is_closed r ≡ true) (r ∷ rs)
    by_test f true e h = absurd (cc)
    by_test f false e h = (closed_one r e, f h)

closed_areas : (k : Shape) → ring_open k ≡ None → Each (λ a. Each (λ r. is_closed r ≡ true) a) (parts_of k).areas
closed_areas (shape.Empty kind) h = (tt, tt)
closed_areas (shape.Point t) h = (tt, tt)
closed_areas (shape.Line path) h = (tt, tt)
closed_areas (shape.Polygon rings) h = (all_closed 0 rings h, tt)

-- ---- all spots lie within the bounds
each_of : (P : Spot → Type 0) (ss : List Spot) → All P ss → Each P ss
each_of P [] h = tt
each_of P (s ∷ ss) h = (h 0 s (omega arith), each_of P ss (λ n d l. h (suc n) d (omega arith)))

each_spot : (P : Spot → Type 0) (k : Shape) → All P (spots k) → Each P (spots_of (parts_of k))
each_spot P (shape.Empty kind) h = tt
each_spot P (shape.Point s) h = (h 0 s (omega arith), tt)
each_spot P (shape.Line path) h = each_append P (path ++ []) [] (each_append P path [] (each_of P path h) tt) tt
each_spot P (shape.Polygon rings) h = each_append P (flat_map (λ r. r) rings) [] (each_of P (flat_map (λ r. r) rings) h) tt

inside_all : (b : Bounds) (k : Shape) (p : Point) → IsBounds b k → All (Inside b.xmin b.xmax b.ymin b.ymax p) (spots k)
inside_all b k p i n d l =
    let h : IsInside b (Rattle.std.proofs.Common.get_or (spots k) n d) = i.inside n d l in
    record { left = h.left; right = h.right; low = h.below; high = h.above }

-- each point lies within the bounds
pub point_within : (k : Shape) (b : Bounds) → IsSound k → IsBounds b k → (p : Point) → HasPoint (parts_of k) p → Within b.xmin b.xmax b.ymin b.ymax p
point_within k b s i p h =
    within b.xmin b.xmax b.ymin b.ymax p (parts_of k)
    (each_spot (Inside b.xmin b.xmax b.ymin b.ymax p) k (inside_all b k p i))
    (closed_areas k (no_open_ring k s)) h

-- ---- boxes away from the bounds
unscaled-le : (a b : ℤ) (n : ℕ) → 1 ≤ n → (a *ℤ pos n) ≤ℤ (b *ℤ pos n) → a ≤ℤ b
unscaled-le a b n h k = by_test (le_z a b) refl
  where
    by_test : (t : Bool) → le_z a b ≡ t → a ≤ℤ b
    by_test true e = le-from_true a b e
    by_test false e =
        let l : b <ℤ a = lt-from_false a b e in
        let m : (b *ℤ pos n) <ℤ (a *ℤ pos n) = Rattle.sg_algebra.proofs.Ring.lt-mul_right b a (pos n) (omega (arith, sums)) l in
        absurd (let z : ⊥ = omega (arith, sums) in z)

unscaled-lt : (a b : ℤ) (n : ℕ) → 1 ≤ n → (a *ℤ pos n) <ℤ (b *ℤ pos n) → a <ℤ b
unscaled-lt a b n h k = by_test (lt_z a b) refl
  where
    by_test : (t : Bool) → lt_z a b ≡ t → a <ℤ b
    by_test true e = lt-from_true a b e
    by_test false e =
        let l : b ≤ℤ a = le-from_false a b e in
        let m : (b *ℤ pos n) ≤ℤ (a *ℤ pos n) = nonneg_diff-mul b a (pos n) (omega (arith, sums)) l in
        absurd (let z : ⊥ = omega (arith, sums) in z)

-- a place between both ends, at v / n
common_place : (low high least most v : ℤ) (n : ℕ) (closed : Bool) → 1 ≤ n → (least *ℤ pos n) ≤ℤ v → v ≤ℤ (most *ℤ pos n) → boxes.within low high closed v n ≡ true → overlaps low high closed least most ≡ true
common_place low high least most v n closed h l m e =
    both (le_z low most) (lt_z least high || (closed && le_z least high))
    (true-from_le low most (unscaled-le low most n h (let k : (low *ℤ pos n) ≤ℤ v = le-from_true (low *ℤ pos n) v (left_true (le_z (low *ℤ pos n) v) (lt_z v (high *ℤ pos n) || (closed && le_z v (high *ℤ pos n))) e) in omega (arith, sums))))
    (ends (either_true (lt_z v (high *ℤ pos n)) (closed && le_z v (high *ℤ pos n)) (right_true (le_z (low *ℤ pos n) v) (lt_z v (high *ℤ pos n) || (closed && le_z v (high *ℤ pos n))) e)))
  where
    ends : (lt_z v (high *ℤ pos n) ≡ true) ⊎ ((closed && le_z v (high *ℤ pos n)) ≡ true) → (lt_z least high || (closed && le_z least high)) ≡ true
    ends (inl f) =
        let k : v <ℤ (high *ℤ pos n) = lt-from_true v (high *ℤ pos n) f in
        or_left (lt_z least high) (closed && le_z least high) (true-from_lt least high (unscaled-lt least high n h (omega (arith, sums))))
    ends (inr f) =
        let k : v ≤ℤ (high *ℤ pos n) = le-from_true v (high *ℤ pos n) (right_true closed (le_z v (high *ℤ pos n)) f) in
        or_right (lt_z least high) (closed && le_z least high)
        (both closed (le_z least high) (left_true closed (le_z v (high *ℤ pos n)) f) (true-from_le least high (unscaled-le least high n h (omega (arith, sums)))))

near_of_point : (c : CellBox) (b : Bounds) (p : Point) → Within b.xmin b.xmax b.ymin b.ymax p → InBox c p → is_near c b ≡ true
near_of_point c b p w i =
    both (overlaps c.xlow c.xhigh c.closed_x b.xmin b.xmax) (overlaps c.ylow c.yhigh c.closed_y b.ymin b.ymax)
    (common_place c.xlow c.xhigh b.xmin b.xmax p.x p.n c.closed_x p.is_over w.left w.right (left_true (boxes.within c.xlow c.xhigh c.closed_x p.x p.n) (boxes.within c.ylow c.yhigh c.closed_y p.y p.n) i))
    (common_place c.ylow c.yhigh b.ymin b.ymax p.y p.n c.closed_y p.is_over w.low w.high (right_true (boxes.within c.xlow c.xhigh c.closed_x p.x p.n) (boxes.within c.ylow c.yhigh c.closed_y p.y p.n) i))

-- a box without a common place with the bounds isn't met
pub far_unmet : (k : Shape) (b : Bounds) (c : CellBox) → IsSound k → IsBounds b k → is_near c b ≡ false → false ≡ meets_box k c
far_unmet k b c s i n =
    sym (is_false (meets_box k c) (λ t.
    let m : MeetsBox k c = (meets_box-iff k c).0 t in
    let e : is_near c b ≡ true = near_of_point c b m.0 (point_within k b s i m.0 m.1) m.2 in
    absurd (let z : true ≡ false = sym e ∙ n in cc)))
