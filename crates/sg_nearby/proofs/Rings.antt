-- Rings that are replaced one after another by such as do for them in a box.
use Rattle.std.proofs.Common.{ℕ, ◌≡◌, ◌+◌, ◌<◌, ◌≤◌, arith, refl, sym, ap, ◌∙◌, subst, Bool, true, false, cond, List, [], ◌∷◌, ◌++◌, length, get_or, drop, ◌==◌, nat_lt, Option, None, Some, option_map, append_assoc, inl, inr, ◌⊎◌}
use Rattle.std.specs.List.{All, Contains, position_from, flat_map, list_any}
use Rattle.std.proofs.lemmas.List.{length-append, drop_more, drop_all}
use Rattle.std.proofs.lemmas.List.Elements.{All-contains, All-contains_itself, All-weaker}
use mathlib.Core.Bool.{◌||◌}
use Rattle.sg_segment.proofs.Parity.{parity-append}
use Rattle.sg_segment.specs.Statuses.{xor, parity}
use Rattle.sg_distance.specs.Figure.{on_any}
use Rattle.sg_plane.proofs.Lists.{Each, each_append, each_left, each_right}
use Rattle.sg_shape.specs.declared.cells.CellBox.{CellBox}
use Rattle.sg_shape.specs.declared.spots.Spot.{Spot}
use Rattle.sg_shape.specs.declared.spots.Edge.{Edge}
use Rattle.sg_shape.specs.declared.shapes.Shape.TheVariants as shape
use Rattle.sg_shape.specs.declared.shapes.ShapeFault.TheVariants as fault
use Rattle.sg_shape.specs.Plane.{Point, In, Bd, Out, on_edge, crosses_ray, edges, edges_of}
use Rattle.sg_shape.specs.Boxes.{in_box}
use Rattle.sg_shape.specs.Sound.{IsSound, is_out, is_open, is_short, or_else}
use Rattle.sg_nearby.specs.Nearby.{SameIn, HasSpotsOf, IsThin}
use Rattle.sg_nearby.proofs.Points.{area_is, line_is}
use Rattle.sg_nearby.proofs.Thinning.{each_of, all_of}

abbrev Fits : Spot → Type 0
Fits s = is_out s ≡ false

-- ---- no element passes
none_passes : {X : Type 0} (t : X → Bool) (i : ℕ) (xs : List X) → position_from t i xs ≡ None → Each (λ x. t x ≡ false) xs
none_passes t i [] h = tt
none_passes t i (x ∷ xs) h = by_test (none_passes t (i + 1) xs) (t x) refl h
  where
    by_test : (position_from t (i + 1) xs ≡ None → Each (λ y. t y ≡ false) xs) → (b : Bool) → t x ≡ b → cond b (Some i) (position_from t (i + 1) xs) ≡ None → (t x ≡ false) × Each (λ y. t y ≡ false) xs
    by_test r true e h = absurd (cc)
    by_test r false e h = (e, r h)

passes_none : {X : Type 0} (t : X → Bool) (i : ℕ) (xs : List X) → Each (λ x. t x ≡ false) xs → position_from t i xs ≡ None
passes_none t i [] h = refl
passes_none t i (x ∷ xs) h = rw h.0 (passes_none t (i + 1) xs h.1)

-- ---- sound polygons, part by part
pub record Good (rings : List (List Spot)) : Type 0 where
  pub few : nat_lt 2048 (length (flat_map (λ ring. ring) rings)) ≡ false
  pub some : (length rings == 0) ≡ false
  pub long : Each (λ ring. is_short ring ≡ false) rings
  pub closed : Each (λ ring. is_open ring ≡ false) rings
  pub within : Each Fits (flat_map (λ ring. ring) rings)

good_of : (rings : List (List Spot)) → IsSound (shape.Polygon rings) → Good rings
good_of rings s = by_parts (nat_lt 2048 (length (flat_map (λ ring. ring) rings))) (length rings == 0) (position_from is_short 0 rings) (position_from is_open 0 rings) (position_from is_out 0 (flat_map (λ ring. ring) rings)) refl refl refl refl refl s
  where
    by_parts : (t u : Bool) (a b c : Option ℕ) → nat_lt 2048 (length (flat_map (λ ring. ring) rings)) ≡ t → (length rings == 0) ≡ u → position_from is_short 0 rings ≡ a → position_from is_open 0 rings ≡ b → position_from is_out 0 (flat_map (λ ring. ring) rings) ≡ c →
        (cond t (Some fault.TooMany) (or_else (option_map (λ ring. fault.TooFew ring) (cond u (Some 0) a)) (or_else (option_map (λ ring. fault.RingOpen ring) b) (option_map (λ at. fault.CoordOut at) c)))) ≡ None → Good rings
    by_parts true u a b c et eu ea eb ec h = absurd (cc)
    by_parts false true a b c et eu ea eb ec h = absurd (cc)
    by_parts false false (Some x) b c et eu ea eb ec h = absurd (cc)
    by_parts false false None (Some x) c et eu ea eb ec h = absurd (cc)
    by_parts false false None None (Some x) et eu ea eb ec h = absurd (cc)
    by_parts false false None None None et eu ea eb ec h = record { few = et; some = eu; long = none_passes is_short 0 rings ea; closed = none_passes is_open 0 rings eb; within = none_passes is_out 0 (flat_map (λ ring. ring) rings) ec }

sound_of : (rings : List (List Spot)) → Good rings → IsSound (shape.Polygon rings)
sound_of rings g = rw (g.few, g.some, passes_none is_short 0 rings g.long, passes_none is_open 0 rings g.closed, passes_none is_out 0 (flat_map (λ ring. ring) rings) g.within) refl

-- ---- one ring for another
flat_at : (xs ys : List (List Spot)) (r : List Spot) → flat_map (λ ring. ring) (xs ++ r ∷ ys) ≡ flat_map (λ ring. ring) xs ++ (r ++ flat_map (λ ring. ring) ys)
flat_at [] ys r = refl
flat_at (x ∷ xs) ys r = ap (λ (z : List Spot). x ++ z) (flat_at xs ys r) ∙ sym (append_assoc x (flat_map (λ ring. ring) xs) (r ++ flat_map (λ ring. ring) ys))

each_at : {X : Type 0} (P : X → Type 0) (xs ys : List X) (r s : X) → Each P (xs ++ r ∷ ys) → (P r → P s) → Each P (xs ++ s ∷ ys)
each_at P [] ys r s h f = (f h.0, h.1)
each_at P (x ∷ xs) ys r s h f = (h.0, each_at P xs ys r s h.1 f)

each_is : {X : Type 0} (P : X → Type 0) (xs ys : List X) (r : X) → Each P (xs ++ r ∷ ys) → P r
each_is P [] ys r h = h.0
each_is P (x ∷ xs) ys r h = each_is P xs ys r h.1

as_many : (xs ys : List (List Spot)) (r s : List Spot) → length (xs ++ r ∷ ys) ≡ length (xs ++ s ∷ ys)
as_many xs ys r s = length-append xs (r ∷ ys) ∙ sym (length-append xs (s ∷ ys))

not_above : (m n : ℕ) → nat_lt m n ≡ false → n ≤ m
not_above m n h = grind arith

at_most : (m n : ℕ) → n ≤ m → nat_lt m n ≡ false
at_most m n h = grind arith

good_at : (c : CellBox) (xs ys : List (List Spot)) (r s : List Spot) → Good (xs ++ r ∷ ys) → IsThin c r s → Good (xs ++ s ∷ ys)
good_at c xs ys r s g t =
    let all = flat_map (λ ring. ring) xs in
    let rest = flat_map (λ ring. ring) ys in
    let before : length (flat_map (λ ring. ring) (xs ++ r ∷ ys)) ≡ length all + (length r + length rest) = ap length (flat_at xs ys r) ∙ length-append all (r ++ rest) ∙ ap (λ (n : ℕ). length all + n) (length-append r rest) in
    let after : length (flat_map (λ ring. ring) (xs ++ s ∷ ys)) ≡ length all + (length s + length rest) = ap length (flat_at xs ys s) ∙ length-append all (s ++ rest) ∙ ap (λ (n : ℕ). length all + n) (length-append s rest) in
    let few : length (flat_map (λ ring. ring) (xs ++ r ∷ ys)) ≤ 2048 = not_above 2048 (length (flat_map (λ ring. ring) (xs ++ r ∷ ys))) g.few in
    let fewer : length s ≤ length r = t.most in
    let w : Each Fits (all ++ (r ++ rest)) = subst (Each Fits) (flat_at xs ys r) g.within in
    record {
      few = at_most 2048 (length (flat_map (λ ring. ring) (xs ++ s ∷ ys))) (omega arith);
      some = ap (λ (n : ℕ). n == 0) (as_many xs ys s r) ∙ g.some;
      long = each_at (λ ring. is_short ring ≡ false) xs ys r s g.long (λ e. by_length e t.least);
      closed = each_at (λ ring. is_open ring ≡ false) xs ys r s g.closed (λ e. t.ends ∙ e);
      within = subst (Each Fits) (sym (flat_at xs ys s))
          (each_append Fits all (s ++ rest) (each_left Fits all (r ++ rest) w) (each_append Fits s rest (each_of Fits s t.within) (each_right Fits r rest (each_right Fits all (r ++ rest) w))));
    }
  where
    by_length : is_short r ≡ false → (length s ≡ length r) ⊎ (4 ≤ length s) → is_short s ≡ false
    by_length e (inl l) = ap (λ (n : ℕ). nat_lt n 4) l ∙ e
    by_length e (inr l) = at_most (length s) 4 l

any-append : (f : Edge → Bool) (es fs : List Edge) → list_any f (es ++ fs) ≡ (list_any f es || list_any f fs)
any-append f [] fs = refl
any-append f (e ∷ es) fs = ap (λ (b : Bool). f e || b) (any-append f es fs) ∙ or_assoc (f e) (list_any f es) (list_any f fs)
  where
    or_assoc : (a b c : Bool) → (a || (b || c)) ≡ ((a || b) || c)
    or_assoc true b c = refl
    or_assoc false b c = refl

on_at : (p : Point) (xs ys : List (List Spot)) (r s : List Spot) → on_any (edges s) p ≡ on_any (edges r) p → on_any (edges_of (xs ++ s ∷ ys)) p ≡ on_any (edges_of (xs ++ r ∷ ys)) p
on_at p [] ys r s e =
    any-append (λ e. on_edge e p) (edges s) (edges_of ys) ∙ ap (λ (b : Bool). b || on_any (edges_of ys) p) e ∙ sym (any-append (λ e. on_edge e p) (edges r) (edges_of ys))
on_at p (x ∷ xs) ys r s e =
    any-append (λ e. on_edge e p) (edges x) (edges_of (xs ++ s ∷ ys)) ∙ ap (λ (b : Bool). on_any (edges x) p || b) (on_at p xs ys r s e) ∙ sym (any-append (λ e. on_edge e p) (edges x) (edges_of (xs ++ r ∷ ys)))

odd_at : (p : Point) (xs ys : List (List Spot)) (r s : List Spot) → parity (edges s) p ≡ parity (edges r) p → parity (edges_of (xs ++ s ∷ ys)) p ≡ parity (edges_of (xs ++ r ∷ ys)) p
odd_at p [] ys r s e = parity-append (edges s) (edges_of ys) p ∙ ap (λ (b : Bool). xor b (parity (edges_of ys) p)) e ∙ sym (parity-append (edges r) (edges_of ys) p)
odd_at p (x ∷ xs) ys r s e = parity-append (edges x) (edges_of (xs ++ s ∷ ys)) p ∙ ap (λ (b : Bool). xor (parity (edges x) p) b) (odd_at p xs ys r s e) ∙ sym (parity-append (edges x) (edges_of (xs ++ r ∷ ys)) p)

-- ---- the rings so far, with those still to come, do for all
pub record Replaced (c : CellBox) (now all : List (List Spot)) : Type 0 where
  pub good : Good now
  pub on : (p : Point) → in_box c p ≡ true → on_any (edges_of now) p ≡ on_any (edges_of all) p
  pub odd : (p : Point) → in_box c p ≡ true → parity (edges_of now) p ≡ parity (edges_of all) p
  pub among : Each (Contains (flat_map (λ ring. ring) all)) (flat_map (λ ring. ring) now)

pub replaced_first : (c : CellBox) (rings : List (List Spot)) → IsSound (shape.Polygon rings) → Replaced c ([] ++ drop 0 rings) rings
replaced_first c rings s = record {
  good = good_of rings s;
  on = λ p h. refl;
  odd = λ p h. refl;
  among = (let all = flat_map (λ ring. ring) rings in each_of (Contains all) all (All-contains_itself all));
}

-- the spots of the one ring are the other's
among_at : (P : Spot → Type 0) (xs ys : List (List Spot)) (r s : List Spot) → All (Contains r) s → Each P (flat_map (λ ring. ring) (xs ++ r ∷ ys)) → Each P (flat_map (λ ring. ring) (xs ++ s ∷ ys))
among_at P xs ys r s t h =
    let before = flat_map (λ ring. ring) xs in
    let behind = flat_map (λ ring. ring) ys in
    let w : Each P (before ++ (r ++ behind)) = subst (Each P) (flat_at xs ys r) h in
    let v : Each P (r ++ behind) = each_right P before (r ++ behind) w in
    let of_r : All P r = all_of P r (each_left P r behind v) in
    subst (Each P) (sym (flat_at xs ys s))
    (each_append P before (s ++ behind) (each_left P before (r ++ behind) w)
    (each_append P s behind (each_of P s (All-weaker (Contains r) P (λ x k. All-contains P r x of_r k) s t)) (each_right P r behind v)))

replaced_at : (c : CellBox) (xs ys all : List (List Spot)) (r s : List Spot) → IsThin c r s → Replaced c (xs ++ r ∷ ys) all → Replaced c (xs ++ s ∷ ys) all
replaced_at c xs ys all r s t k = record {
  good = good_at c xs ys r s k.good t;
  on = λ p h. on_at p xs ys r s (t.on p h) ∙ k.on p h;
  odd = λ p h. odd_at p xs ys r s (t.odd p h) ∙ k.odd p h;
  among = among_at (Contains (flat_map (λ ring. ring) all)) xs ys r s t.among k.among;
}

next : (rings : List (List Spot)) (i : ℕ) (r : List Spot) → i < length rings → r ≡ get_or rings i r → drop i rings ≡ r ∷ drop (i + 1) rings
next rings i r h e = drop_more rings i r h ∙ ap (λ (z : List Spot). z ∷ drop (i + 1) rings) (sym e)

-- the ring at the place is one of a sound polygon
pub at_ring : (c : CellBox) (rings list : List (List Spot)) (i : ℕ) (r : List Spot) → i < length rings → r ≡ get_or rings i r → Replaced c (list ++ drop i rings) rings → (2 ≤ length r) × All Fits r
at_ring c rings list i r h e k =
    let g : Good (list ++ r ∷ drop (i + 1) rings) = subst (λ (z : List (List Spot)). Good (list ++ z)) (next rings i r h e) k.good in
    let s : is_short r ≡ false = each_is (λ ring. is_short ring ≡ false) list (drop (i + 1) rings) r g.long in
    let l : 4 ≤ length r = not_above (length r) 4 s in
    let w : Each Fits (flat_map (λ ring. ring) list ++ (r ++ flat_map (λ ring. ring) (drop (i + 1) rings))) = subst (Each Fits) (flat_at list (drop (i + 1) rings) r) g.within in
    (omega arith, all_of Fits r (each_left Fits r (flat_map (λ ring. ring) (drop (i + 1) rings)) (each_right Fits (flat_map (λ ring. ring) list) (r ++ flat_map (λ ring. ring) (drop (i + 1) rings)) w)))

pub replaced_more : (c : CellBox) (rings list more : List (List Spot)) (i : ℕ) (r s : List Spot) → i < length rings → r ≡ get_or rings i r → IsThin c r s → more ≡ list ++ s ∷ [] → Replaced c (list ++ drop i rings) rings → Replaced c (more ++ drop (i + 1) rings) rings
replaced_more c rings list more i r s h e t m k =
    subst (λ (z : List (List Spot)). Replaced c z rings) (sym (append_assoc list (s ∷ []) (drop (i + 1) rings)) ∙ ap (λ (z : List (List Spot)). z ++ drop (i + 1) rings) (sym m))
    (replaced_at c list (drop (i + 1) rings) rings r s t (subst (λ (z : List (List Spot)). Replaced c (list ++ z) rings) (next rings i r h e) k))

append_nil : (xs : List (List Spot)) → xs ++ [] ≡ xs
append_nil [] = refl
append_nil (x ∷ xs) = ap (λ r. x ∷ r) (append_nil xs)

replaced_all : (c : CellBox) (rings list : List (List Spot)) (i : ℕ) → length rings ≤ i → Replaced c (list ++ drop i rings) rings → Replaced c list rings
replaced_all c rings list i h k = subst (λ (z : List (List Spot)). Replaced c z rings) (ap (λ (z : List (List Spot)). list ++ z) (drop_all i rings h) ∙ append_nil list) k

pub same_rings : (c : CellBox) (rings list : List (List Spot)) (i : ℕ) → length rings ≤ i → Replaced c (list ++ drop i rings) rings → SameIn c (shape.Polygon list) (shape.Polygon rings)
same_rings c rings list i h k p w =
    let r = replaced_all c rings list i h k in
    area_is list p ∙ (λ j. cond (r.on p w j) Bd (cond (r.odd p w j) In Out)) ∙ sym (area_is rings p)

pub sound_rings : (c : CellBox) (rings list : List (List Spot)) (i : ℕ) → length rings ≤ i → Replaced c (list ++ drop i rings) rings → IsSound (shape.Polygon list)
sound_rings c rings list i h k = sound_of list (replaced_all c rings list i h k).good

pub spots_of_rings : (c : CellBox) (rings list : List (List Spot)) (i : ℕ) → length rings ≤ i → Replaced c (list ++ drop i rings) rings → HasSpotsOf (shape.Polygon list) (shape.Polygon rings)
spots_of_rings c rings list i h k =
    all_of (Contains (flat_map (λ ring. ring) rings)) (flat_map (λ ring. ring) list) (replaced_all c rings list i h k).among

-- ---- lines
record GoodLine (path : List Spot) : Type 0 where
  few : nat_lt 2048 (length path) ≡ false
  long : nat_lt (length path) 2 ≡ false
  within : Each Fits path

good_line : (path : List Spot) → IsSound (shape.Line path) → GoodLine path
good_line path s = by_parts (nat_lt 2048 (length path)) (nat_lt (length path) 2) (position_from is_out 0 path) refl refl refl s
  where
    by_parts : (t u : Bool) (c : Option ℕ) → nat_lt 2048 (length path) ≡ t → nat_lt (length path) 2 ≡ u → position_from is_out 0 path ≡ c →
        (cond t (Some fault.TooMany) (or_else (option_map (λ ring. fault.TooFew ring) (cond u (Some 0) None)) (or_else (option_map (λ ring. fault.RingOpen ring) None) (option_map (λ at. fault.CoordOut at) c)))) ≡ None → GoodLine path
    by_parts true u c et eu ec h = absurd (cc)
    by_parts false true c et eu ec h = absurd (cc)
    by_parts false false (Some x) et eu ec h = absurd (cc)
    by_parts false false None et eu ec h = record { few = et; long = eu; within = none_passes is_out 0 path ec }

pub line_parts : (path : List Spot) → IsSound (shape.Line path) → (2 ≤ length path) × All Fits path
line_parts path s = let g = good_line path s in (not_above (length path) 2 g.long, all_of Fits path g.within)

pub sound_line : (c : CellBox) (path thin : List Spot) → IsSound (shape.Line path) → IsThin c path thin → IsSound (shape.Line thin)
sound_line c path thin s t =
    let g = good_line path s in
    let l : 2 ≤ length path = not_above (length path) 2 g.long in
    let m : length path ≤ 2048 = not_above 2048 (length path) g.few in
    let n : length thin ≤ length path = t.most in
    rw (at_most 2048 (length thin) (omega arith), at_most (length thin) 2 (by_length l t.least), passes_none is_out 0 thin (each_of Fits thin t.within)) refl
  where
    by_length : 2 ≤ length path → (length thin ≡ length path) ⊎ (4 ≤ length thin) → 2 ≤ length thin
    by_length h (inl l) = omega arith
    by_length h (inr l) = omega arith

pub same_line : (c : CellBox) (path thin : List Spot) → IsThin c path thin → SameIn c (shape.Line thin) (shape.Line path)
same_line c path thin t p w = line_is thin p ∙ (λ j. cond (t.tips p j) Bd (cond (t.on p w j) In Out)) ∙ sym (line_is path p)
