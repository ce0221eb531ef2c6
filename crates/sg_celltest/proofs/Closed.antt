-- What the matrix of a cell's polygon tells of the cell with all its edges.
use Rattle.std.proofs.Common.{◌≡◌, arith, refl, sym, ap, ◌∙◌, subst, Bool, true, false, not, int_eq, [], ◌∷◌, ℕ, inl, inr, ◌⊎◌}
use Rattle.std.specs.Prelude.{◌↔◌, IsTrue}
use Rattle.std.proofs.lemmas.Bool.Decides.{Decides-int_eq}
use mathlib.Core.Bool.{◌&&◌, ◌||◌}
use lib.IntN.{ℤ, pos, ◌*ℤ◌}
use lib.Signed.{◌<ℤ◌, lt_z, le_z}
use Rattle.sg_algebra.proofs.Ring.{sums}
use Rattle.sg_algebra.proofs.Comparisons.{true-from_le, lt-from_true, same_test, left_true, right_true, both, either_true, or_left, or_right, is_false}
use Rattle.sg_shape.specs.declared.bounds.Bounds.{Bounds}
use Rattle.sg_shape.specs.declared.cells.CellBox.{CellBox}
use Rattle.sg_shape.specs.declared.matrices.Matrix.{Matrix}
use Rattle.sg_shape.specs.declared.shapes.Shape.{Shape}
use Rattle.sg_shape.specs.declared.shapes.Shape.TheVariants as shape
use Rattle.sg_shape.specs.Plane.{Point, Status, In, Bd, Out}
use Rattle.sg_shape.specs.Shapes.{status_in}
use Rattle.sg_shape.specs.Matrix.{Meets, IsMatrix}
use Rattle.sg_shape.specs.Boxes.{is_held, within, in_box, IsCellBox}
use Rattle.sg_shape.specs.Grown.{as_shape}
use Rattle.sg_celltest.specs.declared.spans.Span.{Span}
use Rattle.sg_celltest.specs.Pieces.{IsPiece, Misses, closed}
use Rattle.sg_celltest.proofs.Rectangle.{ring_of}
use Rattle.sg_celltest.proofs.Insides.{box_held}

-- the ends of a cell
abbrev pub ends : CellBox → Bounds
ends c = record { xmin = c.xlow; ymin = c.ylow; xmax = c.xhigh; ymax = c.yhigh }

pub made : (c : CellBox) (b : Bounds) (xs ys : Span) → b ≡ record { xmin = xs.low; ymin = ys.low; xmax = xs.high; ymax = ys.high } → xs ≡ record { low = c.xlow; high = c.xhigh } → ys ≡ record { low = c.ylow; high = c.yhigh } → b ≡ ends c
made c b xs ys e f g = e ∙ (λ i. record { xmin = (f i).low; ymin = (g i).low; xmax = (f i).high; ymax = (g i).high })

pub ends_piece : (c : CellBox) → IsCellBox c → IsPiece (ends c)
ends_piece c i =
    let a = i.across in
    let u = i.up in
    record { across = omega (arith, sums); up = omega (arith, sums); left = i.left; right = i.right; bottom = i.bottom; top = i.top }

pub closed_piece : (c : CellBox) (b : Bounds) (xs ys : Span) → IsCellBox c → b ≡ record { xmin = xs.low; ymin = ys.low; xmax = xs.high; ymax = ys.high } → xs ≡ record { low = c.xlow; high = c.xhigh } → ys ≡ record { low = c.ylow; high = c.yhigh } → IsPiece b
closed_piece c b xs ys i e f g = subst IsPiece (sym (made c b xs ys e f g)) (ends_piece c i)

-- ---- the points of the polygon
differ : (a b : ℤ) → a <ℤ b → int_eq a b ≡ false
differ a b h = is_false (int_eq a b) (λ t. let q : a ≡ b = (Decides-int_eq a b).0 t in absurd (let z : ⊥ = omega (arith, sums) in z))

polygon_is : (c : CellBox) → IsCellBox c → as_shape (ends c) ≡ shape.Polygon (ring_of c.xlow c.ylow c.xhigh c.yhigh ∷ [])
polygon_is c i = rw (differ c.xlow c.xhigh i.across, differ c.ylow c.yhigh i.up) refl

low_or_high : (low high v : ℤ) (n : ℕ) → within low high true v n ≡ (le_z (low *ℤ pos n) v && le_z v (high *ℤ pos n))
low_or_high low high v n = ap (λ b. le_z (low *ℤ pos n) v && b) (same_test
    (λ e. elim (either_true (lt_z v (high *ℤ pos n)) (true && le_z v (high *ℤ pos n)) e) [
      | inl k ↦ let l = lt-from_true v (high *ℤ pos n) k in true-from_le v (high *ℤ pos n) (omega (arith, sums, l))
      | inr k ↦ k
    ])
    (λ e. or_right (lt_z v (high *ℤ pos n)) (true && le_z v (high *ℤ pos n)) e))

two : (a b x y : Bool) → a ≡ x → b ≡ y → (a && b) ≡ (x && y)
two a b x y e f = λ i. e i && f i

held_is : (c : CellBox) (p : Point) → IsCellBox c → is_held (status_in (as_shape (ends c)) p) ≡ in_box (closed c) p
held_is c p i =
    ap (λ (s : Shape). is_held (status_in s p)) (polygon_is c i)
    ∙ (box_held c.xlow c.ylow c.xhigh c.yhigh p i.across i.up
    ∙ sym (two (within c.xlow c.xhigh true p.x p.n) (within c.ylow c.yhigh true p.y p.n) (le_z (c.xlow *ℤ pos p.n) p.x && le_z p.x (c.xhigh *ℤ pos p.n)) (le_z (c.ylow *ℤ pos p.n) p.y && le_z p.y (c.yhigh *ℤ pos p.n))
    (low_or_high c.xlow c.xhigh p.x p.n) (low_or_high c.ylow c.yhigh p.y p.n)))

-- ---- the matrix
in_or_bd : (s : Status) → is_held s ≡ true → (s ≡ In) ⊎ (s ≡ Bd)
in_or_bd In h = inl refl
in_or_bd Bd h = inr refl
in_or_bd Out h = absurd (cc)

is_out : (s : Status) → not (is_held s) ≡ true → s ≡ Out
is_out In h = absurd (cc)
is_out Bd h = absurd (cc)
is_out Out h = refl

module _ (s : Shape) (c : CellBox) (i : IsCellBox c) where
  inner : (k j : Status) → is_held k ≡ true → Meets k j (as_shape (ends c)) s → (p : Point) × (in_box (closed c) p ≡ true) × (status_in s p ≡ j)
  inner k j h m = (m.0, sym (held_is c m.0 i) ∙ (ap is_held m.1 ∙ h), m.2)

  solid_held : (p : Point) → in_box (closed c) p ≡ true → (status_in (as_shape (ends c)) p ≡ In) ⊎ (status_in (as_shape (ends c)) p ≡ Bd)
  solid_held p h = in_or_bd (status_in (as_shape (ends c)) p) (held_is c p i ∙ h)

  by_matrix : (m : Matrix) → IsMatrix m (as_shape (ends c)) s → ((m.io || m.bo) ≡ true) ↔ Misses s (in_box (closed c))
  by_matrix m k = (
    λ t. elim (either_true m.io m.bo t) [
      | inl e ↦ let q = inner In Out refl (k.io.0 e) in (q.0, q.1, ap (λ j. not (is_held j)) q.2)
      | inr e ↦ let q = inner Bd Out refl (k.bo.0 e) in (q.0, q.1, ap (λ j. not (is_held j)) q.2)
    ],
    λ f. elim (solid_held f.0 f.1) [
      | inl a ↦ or_left m.io m.bo (k.io.1 (f.0, a, is_out (status_in s f.0) f.2))
      | inr a ↦ or_right m.io m.bo (k.bo.1 (f.0, a, is_out (status_in s f.0) f.2))
    ],
  )

pub closed_is : (s solid : Shape) (c : CellBox) (m : Matrix) (r : Bool) → IsCellBox c → solid ≡ as_shape (ends c) → IsMatrix m solid s → r ≡ (m.io || m.bo) → IsTrue r ↔ Misses s (in_box (closed c))
closed_is s solid c m r i e k q =
    let f = by_matrix s c i m (subst (λ (t : Shape). IsMatrix m t s) e k) in
    (λ t. f.0 (sym q ∙ t), λ h. q ∙ f.1 h)

-- ---- what isn't in the closed box isn't in the cell
wider : (low high v : ℤ) (n : ℕ) (shut : Bool) → within low high shut v n ≡ true → within low high true v n ≡ true
wider low high v n shut h =
    both (le_z (low *ℤ pos n) v) (lt_z v (high *ℤ pos n) || (true && le_z v (high *ℤ pos n))) (left_true (le_z (low *ℤ pos n) v) (lt_z v (high *ℤ pos n) || (shut && le_z v (high *ℤ pos n))) h)
    (elim (either_true (lt_z v (high *ℤ pos n)) (shut && le_z v (high *ℤ pos n)) (right_true (le_z (low *ℤ pos n) v) (lt_z v (high *ℤ pos n) || (shut && le_z v (high *ℤ pos n))) h)) [
      | inl k ↦ or_left (lt_z v (high *ℤ pos n)) (true && le_z v (high *ℤ pos n)) k
      | inr k ↦ or_right (lt_z v (high *ℤ pos n)) (true && le_z v (high *ℤ pos n)) (right_true shut (le_z v (high *ℤ pos n)) k)
    ])

in_closed : (c : CellBox) (p : Point) → in_box c p ≡ true → in_box (closed c) p ≡ true
in_closed c p h =
    both (within c.xlow c.xhigh true p.x p.n) (within c.ylow c.yhigh true p.y p.n)
    (wider c.xlow c.xhigh p.x p.n c.closed_x (left_true (within c.xlow c.xhigh c.closed_x p.x p.n) (within c.ylow c.yhigh c.closed_y p.y p.n) h))
    (wider c.ylow c.yhigh p.y p.n c.closed_y (right_true (within c.xlow c.xhigh c.closed_x p.x p.n) (within c.ylow c.yhigh c.closed_y p.y p.n) h))

pub none_closed : (r : Bool) (s : Shape) (c : CellBox) → (IsTrue r ↔ Misses s (in_box (closed c))) → r ≡ false → IsTrue false ↔ Misses s (in_box c)
none_closed r s c h e = (λ z. absurd (cc), λ f. absurd (let t : r ≡ true = h.1 (f.0, in_closed c f.0 f.1, f.2) in let z : true ≡ false = sym t ∙ e in cc))
