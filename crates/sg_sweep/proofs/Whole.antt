-- The sweep from below all spots to above them: what was met up to a height, and the matrix at the end.
use Rattle.std.proofs.Common.{◌≡◌, ◌≤◌, arith, refl, sym, ◌∙◌, Bool, true, false, List, [], ◌∷◌, IsTrue, unsigned_abs, lit≤, ap}
use Rattle.std.specs.Prelude.{◌↔◌}
use mathlib.Core.Logic.{inl, inr}
use lib.IntN.{ℤ, pos, negsuc, ◌*ℤ◌, *ℤ-one, one}
use lib.Signed.{◌<ℤ◌, ◌≤ℤ◌}
use Rattle.std.proofs.lemmas.Int.{ints}
use Rattle.sg_algebra.proofs.Ring.{sums, products, nonneg_diff-mul, lt-mul_right}
use Rattle.sg_algebra.proofs.Cancelling.{lt-cancel_right}
use Rattle.sg_algebra.proofs.Comparisons.{left_true, right_true, either_true}
use mathlib.Core.Bool.{◌&&◌, ◌||◌}
use Rattle.sg_heights.specs.Layers.{One, both_layers}
use Rattle.sg_heights.specs.Tallies.{entry}
use Rattle.sg_shape.specs.Plane.{Point, Parts, Status, In, Bd, Out, status}
use Rattle.sg_shape.specs.Shapes.{parts_of}
use Rattle.sg_shape.specs.declared.matrices.Matrix.{Matrix}
use Rattle.sg_shape.specs.declared.shapes.Shape.{Shape}
use Rattle.sg_shape.specs.declared.shapes.Shape.TheVariants as shape
use Rattle.sg_sweep.specs.declared.pieces.Piece.{Piece}
use Rattle.sg_sweep.specs.Pieces.{Tag, tags, tags_from}
use Rattle.sg_sweep.specs.Fronts.{Stands}
use Rattle.sg_sweep.proofs.Front.{each-map}
use Rattle.sg_heights.specs.Stops.{total}
use Rattle.std.proofs.Common.{◌++◌}
use Rattle.sg_sweep.specs.Aims.{only_outside, no_pairs, has_some}
use Rattle.sg_sweep.specs.Decided.{SomeBoth}
use Rattle.sg_sweep.specs.Rungs.{Each, ends, NoneAbove, Covers, PartsMeet, has, has_all}
use Rattle.sg_sweep.proofs.Rising.{outside_low, outside_high}
use Rattle.sg_distance.specs.Figure.{Closed, AllClosed}
use Rattle.sg_distance.proofs.Soundness.{sound_of}
use Rattle.sg_shape.specs.Sound.{IsSound}

pub times_one : (a : ℤ) → a *ℤ pos 1 ≡ a
unfolding one
times_one a = *ℤ-one a

-- a height below all spots
abbrev pub bottom_height : ℤ
bottom_height = negsuc 16000000

abbrev pub BothOut : Status → Status → Type 0
BothOut i j = (i ≡ Out) × (j ≡ Out)

-- ---- at the bottom
above_bottom : (z : ℤ) → unsigned_abs z ≤ 16000000 → bottom_height <ℤ z
above_bottom z h = omega (arith, ints)

spots_above : (ps : List Piece) → Each (λ z. bottom_height <ℤ z) (ends (tags ps))
spots_above [] = tt
spots_above (p ∷ ps) = (above_bottom p.edge.from.y p.fits.from.y, (above_bottom p.edge.to.y p.fits.to.y, spots_above ps))

pub over : (p : Point) → pos 0 <ℤ pos p.n
over p = omega (arith, sums, p.is_over)

low_point : (a b : Parts) (ps : List Piece) → Covers a b (tags ps) → (p : Point) → (p.y *ℤ pos 1) ≤ℤ (bottom_height *ℤ pos p.n) → (status a p ≡ Out) × (status b p ≡ Out)
low_point a b ps c p h =
    outside_low a b (tags ps) c p
    (each-map (λ z. bottom_height <ℤ z) (λ z. p.y <ℤ (z *ℤ pos p.n)) (ends (tags ps))
    (λ z k.
    let u : (bottom_height *ℤ pos p.n) <ℤ (z *ℤ pos p.n) = lt-mul_right bottom_height z (pos p.n) (over p) k in
    let e : p.y *ℤ pos 1 ≡ p.y = times_one p.y in
    omega (arith, sums)) (spots_above ps))

-- before the sweep only the outside of both is known
pub only-out : (i j : Status) → IsTrue (entry i j only_outside) ↔ BothOut i j
only-out i j = (to i j, λ h. rw (h.0, h.1) refl)
  where
    to : (i j : Status) → IsTrue (entry i j only_outside) → BothOut i j
    to Out Out h = (refl, refl)
    to In In h = absurd (cc)
    to In Bd h = absurd (cc)
    to In Out h = absurd (cc)
    to Bd In h = absurd (cc)
    to Bd Bd h = absurd (cc)
    to Bd Out h = absurd (cc)
    to Out In h = absurd (cc)
    to Out Bd h = absurd (cc)

-- ---- at the top
pub high_point : (a b : Parts) (all act wait : List Tag) (t d : ℤ) → pos 0 <ℤ d → Covers a b all → Stands all act wait t d → NoneAbove (act ++ wait) t d → (p : Point) → (t *ℤ pos p.n) <ℤ (p.y *ℤ d) → (status a p ≡ Out) × (status b p ≡ Out)
high_point a b all act wait t d pd c s n p h =
    outside_high a b all act wait t d c s p
    (each-map (λ z. (z *ℤ d) ≤ℤ t) (λ z. (z *ℤ pos p.n) <ℤ p.y) (ends (act ++ wait)) below n) below
  where
    below : (z : ℤ) → (z *ℤ d) ≤ℤ t → (z *ℤ pos p.n) <ℤ p.y
    below z k =
        let u : ((z *ℤ d) *ℤ pos p.n) ≤ℤ (t *ℤ pos p.n) = nonneg_diff-mul (z *ℤ d) t (pos p.n) (omega (arith, sums, p.is_over)) k in
        let e : (z *ℤ d) *ℤ pos p.n ≡ (z *ℤ pos p.n) *ℤ d = simp products in
        lt-cancel_right (z *ℤ pos p.n) p.y d pd (omega (arith, sums))

not_above_self : (z : ℤ) → z ≤ℤ z
not_above_self z = omega (arith, sums)

abbrev pub bottom_point : Point
bottom_point = record { x = pos 0; y = bottom_height; n = 1; is_over = lit≤ tt }

-- some point lies outside both
pub out-met : (a b : Parts) (ps : List Piece) → Covers a b (tags ps) → (i j : Status) → BothOut i j → PartsMeet i j a b
out-met a b ps c i j h = let r = low_point a b ps c bottom_point (not_above_self (bottom_height *ℤ pos 1)) in (bottom_point, r.0 ∙ sym h.0, r.1 ∙ sym h.1)

-- no entry is set in a matrix without pairs
pub none-decides : (m : Matrix) → SomeBoth m no_pairs → ⊥
none-decides m (In, In, x, y) = absurd (cc)
none-decides m (In, Bd, x, y) = absurd (cc)
none-decides m (In, Out, x, y) = absurd (cc)
none-decides m (Bd, In, x, y) = absurd (cc)
none-decides m (Bd, Bd, x, y) = absurd (cc)
none-decides m (Bd, Out, x, y) = absurd (cc)
none-decides m (Out, In, x, y) = absurd (cc)
none-decides m (Out, Bd, x, y) = absurd (cc)
none-decides m (Out, Out, x, y) = absurd (cc)

-- ---- before the top
three : (a b c : Bool) → (a && (b && c)) ≡ true → (a ≡ true) × (b ≡ true) × (c ≡ true)
three a b c e = let r = right_true a (b && c) e in (left_true a (b && c) e, left_true b c r, right_true b c r)

has-entry : (x y : Bool) → has x y ≡ true → IsTrue y → IsTrue x
has-entry true y e h = refl
has-entry false true e h = absurd (cc)
has-entry false false e h = h

pub full-entry : (m w : Matrix) → has_all m w ≡ true → (i j : Status) → IsTrue (entry i j w) → IsTrue (entry i j m)
full-entry m w e =
    let r = three (has m.ii w.ii && (has m.ib w.ib && has m.io w.io)) (has m.bi w.bi && (has m.bb w.bb && has m.bo w.bo)) (has m.oi w.oi && (has m.ob w.ob && has m.oo w.oo)) e in
    by_rows (three (has m.ii w.ii) (has m.ib w.ib) (has m.io w.io) r.0) (three (has m.bi w.bi) (has m.bb w.bb) (has m.bo w.bo) r.1) (three (has m.oi w.oi) (has m.ob w.ob) (has m.oo w.oo) r.2)
  where
    by_rows : (has m.ii w.ii ≡ true) × (has m.ib w.ib ≡ true) × (has m.io w.io ≡ true) → (has m.bi w.bi ≡ true) × (has m.bb w.bb ≡ true) × (has m.bo w.bo ≡ true) →
        (has m.oi w.oi ≡ true) × (has m.ob w.ob ≡ true) × (has m.oo w.oo ≡ true) → (i j : Status) → IsTrue (entry i j w) → IsTrue (entry i j m)
    by_rows r s t In In = has-entry m.ii w.ii r.0
    by_rows r s t In Bd = has-entry m.ib w.ib r.1
    by_rows r s t In Out = has-entry m.io w.io r.2
    by_rows r s t Bd In = has-entry m.bi w.bi s.0
    by_rows r s t Bd Bd = has-entry m.bb w.bb s.1
    by_rows r s t Bd Out = has-entry m.bo w.bo s.2
    by_rows r s t Out In = has-entry m.oi w.oi t.0
    by_rows r s t Out Bd = has-entry m.ob w.ob t.1
    by_rows r s t Out Out = has-entry m.oo w.oo t.2

-- some entry is set in both
pub some-entry : (m w : Matrix) → has_some m w ≡ true → SomeBoth m w
some-entry m w e =
    elim (either_true ((m.ii && w.ii) || ((m.ib && w.ib) || (m.io && w.io))) (((m.bi && w.bi) || ((m.bb && w.bb) || (m.bo && w.bo))) || ((m.oi && w.oi) || ((m.ob && w.ob) || (m.oo && w.oo)))) e) [
      | inl h ↦ row In h
      | inr h ↦ elim (either_true ((m.bi && w.bi) || ((m.bb && w.bb) || (m.bo && w.bo))) ((m.oi && w.oi) || ((m.ob && w.ob) || (m.oo && w.oo))) h) [ inl k ↦ row Bd k | inr k ↦ row Out k ]
    ]
  where
    cell : (i j : Status) → (entry i j m && entry i j w) ≡ true → SomeBoth m w
    cell i j h = (i, j, left_true (entry i j m) (entry i j w) h, right_true (entry i j m) (entry i j w) h)

    row : (i : Status) → ((entry i In m && entry i In w) || ((entry i Bd m && entry i Bd w) || (entry i Out m && entry i Out w))) ≡ true → SomeBoth m w
    row i h =
        elim (either_true (entry i In m && entry i In w) ((entry i Bd m && entry i Bd w) || (entry i Out m && entry i Out w)) h) [
          | inl k ↦ cell i In k
          | inr k ↦ elim (either_true (entry i Bd m && entry i Bd w) (entry i Out m && entry i Out w) k) [ inl l ↦ cell i Bd l | inr l ↦ cell i Out l ]
        ]

-- ---- two shapes
one_area : (s : Shape) → One (parts_of s)
one_area (shape.Empty kind) = ([], refl)
one_area (shape.Point spot) = ([], refl)
one_area (shape.Line path) = ([], refl)
one_area (shape.Polygon rings) = (rings, refl)

area_closed : (s : Shape) → AllClosed (parts_of s).areas → Closed (one_area s).0
unfolding one_area
area_closed (shape.Empty kind) h = tt
area_closed (shape.Point spot) h = tt
area_closed (shape.Line path) h = tt
area_closed (shape.Polygon rings) h = h.0

pub shapes_covered : (a b : Shape) (qs ps : List Piece) → IsSound a → IsSound b → qs ≡ ps → tags ps ≡ tags_from 0 (both_layers (parts_of a) (parts_of b)) → Covers (parts_of a) (parts_of b) (tags qs)
shapes_covered a b qs ps sa sb g e = record {
  first = one_area a;
  second = one_area b;
  edges = λ f. ap (λ (xs : List Piece). total f (tags xs)) g ∙ ap (total f) e;
  first_closed = area_closed a (sound_of a sa).closed;
  second_closed = area_closed b (sound_of b sb).closed;
}
