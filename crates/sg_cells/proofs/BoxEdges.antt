-- Empty cells, the edges' range, and that no shape within bounds covers cell 0.
use Rattle.std.proofs.Common.{ℕ, suc, ◌≡◌, ◌+◌, ◌*◌, ◌/◌, ◌<◌, ◌≤◌, arith, sym, ap, ◌∙◌, Bool, true, false, eqb, inl, inr, ◌⊎◌}
use mathlib.Core.Bool.{◌||◌}
use lib.IntN.{ℤ, pos, ◌+ℤ◌, ◌*ℤ◌}
use lib.Signed.{◌<ℤ◌, ◌≤ℤ◌, lt_z, le_z}
use native.Mathlib.Nat.{mul-div_cancel_left}
use Rattle.std.proofs.lemmas.Bool.{ne_eqb, false_from_ne_true}
use Rattle.std.proofs.lemmas.Nat.{div_below}
use Rattle.sg_algebra.proofs.Ring.{sums, products}
use Rattle.sg_algebra.proofs.Comparisons.{le-from_true, true-from_le, lt-from_true, true-from_lt, left_true, right_true, both, either_true, or_left}
use Rattle.sg_cells.proofs.Spans.{edge_rises, in_column}
use Rattle.sg_cells.proofs.Split.{Sits}
use Rattle.sg_cells.specs.Cells.{Grid, Block, edge, box_at}
use Rattle.sg_shape.specs.Boxes.{in_box}
use Rattle.sg_cells.proofs.Spans.{spans}
use Rattle.sg_shape.specs.declared.cells.CellBox.{CellBox}
use Rattle.sg_shape.specs.Plane.{Point}

-- ---- the edges lie in the box
edge_first : (low : ℤ) (size n : ℕ) → edge low size n 0 ≡ low
edge_first low size n =
    let z : 0 * size / n ≡ 0 = grind arith in
    let e = ap (λ k. low +ℤ pos k) z in
    omega (arith, sums)

edge_last : (low : ℤ) (size n : ℕ) → 0 < n → edge low size n n ≡ low +ℤ pos size
edge_last low size n h = ap (λ k. low +ℤ pos k) (mul-div_cancel_left size h)

pub record InBox (low : ℤ) (size : ℕ) (z : ℤ) : Type 0 where
  pub above : low ≤ℤ z
  pub below : z ≤ℤ (low +ℤ pos size)

pub edge_in : (low : ℤ) (size n j : ℕ) → 0 < n → j ≤ n → InBox low size (edge low size n j)
edge_in low size n j h l =
    let a = edge_rises low size n 0 j h (omega arith) in
    let b = edge_rises low size n j n h l in
    let e = edge_first low size n in
    let f = edge_last low size n h in
    record { above = omega (arith, sums); below = omega (arith, sums) }

-- ---- the last column has_point a part of the box
last_wide : (size n j : ℕ) → 1 ≤ size → suc j ≡ n → j * size / n < size
last_wide size n j h e = div_below (j * size) n size (omega arith) (let q : j * size + size ≡ size * n = rw (sym e) (grind arith) in omega arith)

spans_empty : (low : ℤ) (x : ℤ) (n : ℕ) → spans false low low x n ≡ false
spans_empty low x n = false_from_ne_true (spans false low low x n) (λ e. bad e)
  where
    bad : spans false low low x n ≡ true → ⊥
    bad e =
        let l = le-from_true (low *ℤ pos n) x (left_true (le_z (low *ℤ pos n) x) (lt_z x (low *ℤ pos n) || false) e) in
        elim (either_true (lt_z x (low *ℤ pos n)) false (right_true (le_z (low *ℤ pos n) x) (lt_z x (low *ℤ pos n) || false) e)) [
          | inl k ↦ let u = lt-from_true x (low *ℤ pos n) k in omega (arith, sums)
          | inr k ↦ absurd (cc)
        ]

open_of_empty : (low : ℤ) (size n c : ℕ) → 1 ≤ size → c < n → edge low size n c ≡ edge low size n (suc c) → eqb (suc c) n ≡ false
open_of_empty low size n c h l e =
    ne_eqb (suc c) n (λ q.
    let w = last_wide size n c h q in
    let f : edge low size n (suc c) ≡ low +ℤ pos size = ap (edge low size n) q ∙ edge_last low size n (omega arith) in
    omega (arith, sums))

-- A column without width holds nothing.
pub empty_column : (low : ℤ) (size n c d : ℕ) (x : ℤ) → 1 ≤ size → c < n → edge low size n c ≡ edge low size n (suc c) → in_column low size n c x d ≡ false
empty_column low size n c d x h l e =
    let q = open_of_empty low size n c h l e in
    rw (q, ← e) (spans_empty (edge low size n c) x d)

pub empty_box : (g : Grid) (b : Block) (p : Point) → 1 ≤ g.width → 1 ≤ g.height → Sits b → ((box_at g b).xlow ≡ (box_at g b).xhigh) ⊎ ((box_at g b).ylow ≡ (box_at g b).yhigh) → in_box (box_at g b) p ≡ false
empty_box g b p wide high s (inl e) =
    let z = empty_column g.west g.width b.across b.column p.n p.x wide s.column e in
    false_from_ne_true (in_box (box_at g b) p) (λ t. clash _ (left_true (in_column g.west g.width b.across b.column p.x p.n) (in_column g.south g.height b.across b.row p.y p.n) t) z)
  where
    clash : (b : Bool) → b ≡ true → b ≡ false → ⊥
    clash b u v = cc
empty_box g b p wide high s (inr e) =
    let z = empty_column g.south g.height b.across b.row p.n p.y high s.row e in
    false_from_ne_true (in_box (box_at g b) p) (λ t. clash _ (right_true (in_column g.west g.width b.across b.column p.x p.n) (in_column g.south g.height b.across b.row p.y p.n) t) z)
  where
    clash : (b : Bool) → b ≡ true → b ≡ false → ⊥
    clash b u v = cc

-- Every other box holds its low corner.
span_low : (closed : Bool) (low high : ℤ) → low <ℤ high → spans closed low high (low *ℤ pos 1) 1 ≡ true
span_low closed low high h =
    let l : (low *ℤ pos 1) ≤ℤ (low *ℤ pos 1) = omega (arith, sums) in
    let m : (low *ℤ pos 1) <ℤ (high *ℤ pos 1) = times_one low high h in
    both (le_z (low *ℤ pos 1) (low *ℤ pos 1)) _ (true-from_le _ _ l) (or_left (lt_z (low *ℤ pos 1) (high *ℤ pos 1)) _ (true-from_lt _ _ m))
  where
    times_one : (a b : ℤ) → a <ℤ b → (a *ℤ pos 1) <ℤ (b *ℤ pos 1)
    times_one a b h = Rattle.sg_algebra.proofs.Ring.lt-mul_right a b (pos 1) (omega (arith, sums)) h

pub corner_of : CellBox → Point
corner_of b = record { x = b.xlow *ℤ pos 1; y = b.ylow *ℤ pos 1; n = 1; is_over = omega arith }

pub corner_held : (b : CellBox) → b.xlow <ℤ b.xhigh → b.ylow <ℤ b.yhigh → in_box b (corner_of b) ≡ true
unfolding corner_of
corner_held b h k = both (spans b.closed_x b.xlow b.xhigh (b.xlow *ℤ pos 1) 1) (spans b.closed_y b.ylow b.yhigh (b.ylow *ℤ pos 1) 1) (span_low b.closed_x b.xlow b.xhigh h) (span_low b.closed_y b.ylow b.yhigh k)
