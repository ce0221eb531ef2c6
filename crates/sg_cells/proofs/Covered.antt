-- The box of a cell that isn't empty lies within the limits.
use Rattle.std.proofs.Common.{ℕ, suc, ◌≡◌, ◌<◌, ◌≤◌, arith, refl, sym, ap, ◌∙◌, subst, Bool, true, false, length, inl, inr, ◌⊎◌}
use mathlib.Core.Bool.{◌&&◌}
use lib.IntN.{ℤ, pos, negsuc, ◌+ℤ◌}
use lib.Signed.{◌≤ℤ◌, lt_z, le_z}
use Rattle.sg_shape.specs.declared.cells.CellBox.{CellBox}
use Rattle.sg_shape.specs.Sound.{coord_ok}
use Rattle.sg_shape.specs.Boxes.{IsCellBox}
use Rattle.sg_algebra.proofs.Ring.{sums}
use Rattle.sg_algebra.proofs.Comparisons.{le-from_true, true-from_le, lt-from_true, le-from_false, left_true, right_true, both}
use Rattle.sg_cells.specs.Cells.{Grid, Block, Cell, IsGrid, edge, box_at, box_of, block_from, root, front}
use Rattle.sg_cells.specs.Grids.{HasNoBox}
use Rattle.sg_cells.proofs.Split.{Sits}
use Rattle.sg_cells.proofs.Spans.{edge_rises}
use Rattle.sg_cells.proofs.BoxEdges.{edge_in}
use Rattle.sg_cells.proofs.Lattices.{front_all, same_box}

between_ok : (low high z : ℤ) → coord_ok low ≡ true → coord_ok high ≡ true → low ≤ℤ z → z ≤ℤ high → coord_ok z ≡ true
between_ok low high z a b h k =
    let l = le-from_true (negsuc 15999999) low (left_true (le_z (negsuc 15999999) low) (le_z low (pos 16000000)) a) in
    let r = le-from_true high (pos 16000000) (right_true (le_z (negsuc 15999999) high) (le_z high (pos 16000000)) b) in
    both (le_z (negsuc 15999999) z) (le_z z (pos 16000000)) (true-from_le (negsuc 15999999) z (omega (arith, sums))) (true-from_le z (pos 16000000) (omega (arith, sums)))

edge_ok : (low : ℤ) (size n j : ℕ) → coord_ok low ≡ true → coord_ok (low +ℤ pos size) ≡ true → 0 < n → j ≤ n → coord_ok (edge low size n j) ≡ true
edge_ok low size n j a b h l = let i = edge_in low size n j h l in between_ok low (low +ℤ pos size) (edge low size n j) a b i.above i.below

-- a block's box, where neither side has length 0
pub found_ok : (g : Grid) (b : Block) → IsGrid g → Sits b → (lt_z (box_at g b).xlow (box_at g b).xhigh && lt_z (box_at g b).ylow (box_at g b).yhigh) ≡ true → IsCellBox (box_at g b)
found_ok g b h s e = record {
  across = lt-from_true (box_at g b).xlow (box_at g b).xhigh (left_true (lt_z (box_at g b).xlow (box_at g b).xhigh) (lt_z (box_at g b).ylow (box_at g b).yhigh) e);
  up = lt-from_true (box_at g b).ylow (box_at g b).yhigh (right_true (lt_z (box_at g b).xlow (box_at g b).xhigh) (lt_z (box_at g b).ylow (box_at g b).yhigh) e);
  left = edge_ok g.west g.width b.across b.column h.left h.right (let c = s.column in omega arith) (let c = s.column in omega arith);
  right = edge_ok g.west g.width b.across (suc b.column) h.left h.right (let c = s.column in omega arith) s.column;
  bottom = edge_ok g.south g.height b.across b.row h.bottom h.top (let c = s.row in omega arith) (let c = s.row in omega arith);
  top = edge_ok g.south g.height b.across (suc b.row) h.bottom h.top (let c = s.row in omega arith) s.row;
}

-- and else one side has
pub found_none : (g : Grid) (b : Block) → Sits b → (lt_z (box_at g b).xlow (box_at g b).xhigh && lt_z (box_at g b).ylow (box_at g b).yhigh) ≡ false → ((box_at g b).xlow ≡ (box_at g b).xhigh) ⊎ ((box_at g b).ylow ≡ (box_at g b).yhigh)
found_none g b s e = go (lt_z (box_at g b).xlow (box_at g b).xhigh) refl (lt_z (box_at g b).ylow (box_at g b).yhigh) refl
  where
    go : (p : Bool) → lt_z (box_at g b).xlow (box_at g b).xhigh ≡ p → (q : Bool) → lt_z (box_at g b).ylow (box_at g b).yhigh ≡ q → ((box_at g b).xlow ≡ (box_at g b).xhigh) ⊎ ((box_at g b).ylow ≡ (box_at g b).yhigh)
    go false p q r =
        let c = s.column in
        let l = le-from_false (box_at g b).xlow (box_at g b).xhigh p in
        let m = edge_rises g.west g.width b.across b.column (suc b.column) (omega arith) (omega arith) in
        inl (omega (arith, sums))
    go true p false r =
        let c = s.row in
        let l = le-from_false (box_at g b).ylow (box_at g b).yhigh r in
        let m = edge_rises g.south g.height b.across b.row (suc b.row) (omega arith) (omega arith) in
        inr (omega (arith, sums))
    go true p true r = absurd (let z : true ≡ false = sym (both _ _ p r) ∙ e in cc)

-- ---- the block of a cell
pub record Lies (g : Grid) (c : Cell) (x y z : ℕ) : Type 0 where
  pub across : x ≡ (block_from g.sides c root).across
  pub column : y ≡ (block_from g.sides c root).column
  pub row : z ≡ (block_from g.sides c root).row

pub lies : (g : Grid) (c : Cell) (level x y z : ℕ) → level ≡ length c → x ≡ (block_from g.sides (front level c) root).across → y ≡ (block_from g.sides (front level c) root).column → z ≡ (block_from g.sides (front level c) root).row → Lies g c x y z
lies g c level x y z e p q r =
    let f : front level c ≡ c = ap (λ n. front n c) e ∙ front_all c in
    record {
      across = p ∙ ap (λ d. (block_from g.sides d root).across) f;
      column = q ∙ ap (λ d. (block_from g.sides d root).column) f;
      row = r ∙ ap (λ d. (block_from g.sides d root).row) f;
    }

pub lies_box : (g : Grid) (c : Cell) (x y z : ℕ) → Lies g c x y z → box_at g (record { across = x; column = y; row = z }) ≡ box_of g c
lies_box g c x y z l = same_box g (block_from g.sides c root) x y z l.across l.column l.row

pub none_of : (g : Grid) (c : Cell) (b : CellBox) → b ≡ box_of g c → (b.xlow ≡ b.xhigh) ⊎ (b.ylow ≡ b.yhigh) → HasNoBox g c
none_of g c b e h = inr (subst (λ (b : CellBox). (b.xlow ≡ b.xhigh) ⊎ (b.ylow ≡ b.yhigh)) e h)

-- whether a box has area, by what is asked of an equal one
pub area : (b : CellBox) (b' : CellBox) (r s : Bool) → b ≡ b' → r ≡ (lt_z b.xlow b.xhigh && lt_z b.ylow b.yhigh) → r ≡ s → (lt_z b'.xlow b'.xhigh && lt_z b'.ylow b'.yhigh) ≡ s
area b b' r s e f g = sym (ap (λ (b : CellBox). lt_z b.xlow b.xhigh && lt_z b.ylow b.yhigh) e) ∙ (sym f ∙ g)
