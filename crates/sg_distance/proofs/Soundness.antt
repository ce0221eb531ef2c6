-- A sound shape's lines are joined, its rings are closed, and its spots lie within the limits.
use Rattle.std.proofs.Common.{ℕ, ◌≡◌, ◌+◌, ◌≤◌, arith, refl, sym, ap, ◌∙◌, subst, Bool, true, false, cond, List, [], ◌∷◌, ◌++◌, length, get_or, length-append, suc, zero, ◌==◌, nat_lt, Option, None, Some, option_map, ℤ}
use Rattle.std.proofs.lemmas.List.{append-nil, get_or_append_left, get_or-append-add}
use Rattle.std.specs.List.{All, position_from, flat_map}
use mathlib.Core.Bool.{not}
use Rattle.sg_algebra.proofs.Comparisons.{left_true, right_true, eq-from_true}
use Rattle.sg_shape.specs.Limits.{IsIn}
use Rattle.sg_segment.proofs.Sound.{spots_in as in_spots}
use Rattle.sg_distance.specs.Figure.{chains, Joined, Closed, AllClosed, Sound}
use Rattle.sg_distance.specs.Shapes.{lines_of}
use Rattle.sg_shape.specs.Plane.{eq_z, same_spot, last_of}
use Rattle.sg_shape.specs.Shapes.{parts_of, spots}
use Rattle.sg_shape.specs.Sound.{IsSound, is_open, is_short, too_few, ring_open, first_out, or_else}
use Rattle.sg_shape.specs.declared.spots.Spot.{Spot}
use Rattle.sg_shape.specs.declared.shapes.Shape.{Shape}
use Rattle.sg_shape.specs.declared.shapes.Shape.TheVariants as shape
use Rattle.sg_shape.specs.declared.shapes.ShapeFault.TheVariants as fault

-- ---- a sound shape has none of the faults
pub record Faultless (k : Shape) : Type 0 where
  pub few : too_few k ≡ None
  pub open_ring : ring_open k ≡ None

faultless : (k : Shape) → IsSound k → Faultless k
faultless k s = by_parts (nat_lt 2048 (length (spots k))) (too_few k) (ring_open k) (first_out k) refl refl s
  where
    by_parts : (t : Bool) (a b c : Option ℕ) → too_few k ≡ a → ring_open k ≡ b →
        (cond t (Some fault.TooMany) (or_else (option_map (λ ring. fault.TooFew ring) a) (or_else (option_map (λ ring. fault.RingOpen ring) b) (option_map (λ at. fault.CoordOut at) c)))) ≡ None → Faultless k
    by_parts true a b c ea eb e = absurd (cc)
    by_parts false (Some x) b c ea eb e = absurd (cc)
    by_parts false None (Some x) c ea eb e = absurd (cc)
    by_parts false None None (Some x) ea eb e = absurd (cc)
    by_parts false None None None ea eb e = record { few = ea; open_ring = eb }

pub all_none : {X : Type 0} (P : X → Type 0) → All P []
all_none P = λ n d l. absurd (omega arith)

pub all_cons : {X : Type 0} (P : X → Type 0) (x : X) (xs : List X) → P x → All P xs → All P (x ∷ xs)
all_cons P x xs h hs zero d l = h
all_cons P x xs h hs (suc n) d l = hs n d (omega arith)

-- no element passes
none_passes : {X : Type 0} (t : X → Bool) (i : ℕ) (xs : List X) → position_from t i xs ≡ None → All (λ x. t x ≡ false) xs
none_passes t i [] h = all_none (λ x. t x ≡ false)
none_passes t i (x ∷ xs) h = by_test (none_passes t (i + 1) xs) (t x) refl h
  where
    by_test : (position_from t (i + 1) xs ≡ None → All (λ y. t y ≡ false) xs) → (b : Bool) → t x ≡ b → cond b (Some i) (position_from t (i + 1) xs) ≡ None → All (λ y. t y ≡ false) (x ∷ xs)
    by_test r true e h = absurd (cc)
    by_test r false e h = all_cons (λ y. t y ≡ false) x xs e (r h)

-- ---- lines are joined
two_spots : (path : List Spot) (ls : List (List Spot)) → 2 ≤ length path → Joined ls → Joined (path ∷ ls)
two_spots [] ls h j = absurd (omega arith)
two_spots (s ∷ []) ls h j = absurd (omega arith)
two_spots (s ∷ t ∷ ss) ls h j = j

not_below : (m n : ℕ) → nat_lt m n ≡ false → n ≤ m
not_below m n h = grind arith

rings_joined : (rings : List (List Spot)) → All (λ ring. is_short ring ≡ false) rings → Joined rings
rings_joined [] h = tt
rings_joined (r ∷ rs) h =
    let l : 4 ≤ length r = not_below (length r) 4 (h 0 [] (omega arith)) in
    two_spots r rs (omega arith) (rings_joined rs (λ n d k. h (suc n) d (omega arith)))

pub lines_joined : (k : Shape) → IsSound k → Joined (lines_of k)
lines_joined k s = by_kind k (faultless k s).few
  where
    line : (path : List Spot) (b : Bool) → nat_lt (length path) 2 ≡ b → cond {A = Option ℕ} b (Some 0) None ≡ None → Joined (path ∷ [])
    line path true e h = absurd (cc)
    line path false e h = two_spots path [] (not_below (length path) 2 e) tt

    polygon : (rings : List (List Spot)) (b : Bool) → cond b (Some 0) (position_from is_short 0 rings) ≡ None → Joined rings
    polygon rings true h = absurd (cc)
    polygon rings false h = rings_joined rings (none_passes is_short 0 rings h)

    by_kind : (k : Shape) → too_few k ≡ None → Joined (lines_of k)
    by_kind (shape.Empty kind) h = tt
    by_kind (shape.Point t) h = tt
    by_kind (shape.Line path) h = line path (nat_lt (length path) 2) refl h
    by_kind (shape.Polygon rings) h = polygon rings (length rings == 0) h

-- ---- rings are closed
same_ends : (s t : Spot) → not (same_spot s t) ≡ false → t ≡ s
same_ends s t h =
    let e : same_spot s t ≡ true = is_true (same_spot s t) h in
    let x : s.x ≡ t.x = eq-from_true s.x t.x (left_true (eq_z s.x t.x) (eq_z s.y t.y) e) in
    let y : s.y ≡ t.y = eq-from_true s.y t.y (right_true (eq_z s.x t.x) (eq_z s.y t.y) e) in
    together x y
  where
    is_true : (b : Bool) → not b ≡ false → b ≡ true
    is_true true e = refl
    is_true false e = absurd (cc)

    together : s.x ≡ t.x → s.y ≡ t.y → t ≡ s
    together x y = ap (λ (a : ℤ). record { x = a; y = t.y }) (sym x) ∙ ap (λ (b : ℤ). record { x = s.x; y = b }) (sym y)

rings_closed : (rings : List (List Spot)) → All (λ ring. is_open ring ≡ false) rings → Closed rings
rings_closed [] h = tt
rings_closed ([] ∷ rs) h = rings_closed rs (λ n d k. h (suc n) d (omega arith))
rings_closed ((s ∷ ss) ∷ rs) h = (same_ends s (last_of s ss) (h 0 [] (omega arith)), rings_closed rs (λ n d k. h (suc n) d (omega arith)))

-- ---- all spots
all_left : (P : Spot → Type 0) (xs ys : List Spot) → All P (xs ++ ys) → All P xs
all_left P xs ys h n d l = subst P (get_or_append_left xs ys d n l) (h n d (omega (arith, length-append xs ys)))

all_right : (P : Spot → Type 0) (xs ys : List Spot) → All P (xs ++ ys) → All P ys
all_right P xs ys h n d l = subst P (get_or-append-add xs ys n d) (h (length xs + n) d (omega (arith, length-append xs ys)))

all_rings : (P : Spot → Type 0) (rings : List (List Spot)) → All P (flat_map (λ ring. ring) rings) → All (All P) rings
all_rings P [] h = all_none (All P)
all_rings P (r ∷ rs) h = all_cons (All P) r rs (all_left P r (flat_map (λ ring. ring) rs) h) (all_rings P rs (all_right P r (flat_map (λ ring. ring) rs) h))

-- what holds of all spots holds of those of all lines and rings
pub on_lines : (P : Spot → Type 0) (k : Shape) → All P (spots k) → All (All P) (lines_of k)
on_lines P (shape.Empty kind) h = all_none (All P)
on_lines P (shape.Point s) h =
    let k : P s = h 0 s (omega arith) in
    all_cons (All P) (s ∷ s ∷ []) [] (all_cons P s (s ∷ []) k (all_cons P s [] k (all_none P))) (all_none (All P))
on_lines P (shape.Line path) h = all_cons (All P) path [] h (all_none (All P))
on_lines P (shape.Polygon rings) h = all_rings P rings h

pub spots_in : (k : Shape) → IsSound k → All (All IsIn) (lines_of k)
spots_in k s = on_lines IsIn k (in_spots k s)

-- ---- as figures
pub chains_are : (k : Shape) → chains (parts_of k) ≡ lines_of k
chains_are (shape.Empty kind) = refl
chains_are (shape.Point s) = refl
chains_are (shape.Line path) = refl
chains_are (shape.Polygon rings) = append-nil rings

pub sound_of : (k : Shape) → IsSound k → Sound (parts_of k)
sound_of k s = record { joined = subst Joined (sym (chains_are k)) (lines_joined k s); closed = by_kind k (faultless k s).open_ring }
  where
    by_kind : (k : Shape) → ring_open k ≡ None → AllClosed (parts_of k).areas
    by_kind (shape.Empty kind) h = (tt, tt)
    by_kind (shape.Point t) h = (tt, tt)
    by_kind (shape.Line path) h = (tt, tt)
    by_kind (shape.Polygon rings) h = (rings_closed rings (none_passes is_open 0 rings h), tt)
