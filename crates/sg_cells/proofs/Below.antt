-- The block of a cell's child by the block of the cell.
use Rattle.std.proofs.Common.{ℕ, ◌≡◌, ◌≤◌, ◌<◌, ◌+◌, ◌-◌, ◌*◌, arith, refl, sym, ap, ◌∙◌, List, [], ◌∷◌, ◌++◌, length}
use Rattle.std.specs.Prelude.{slice_index}
use Rattle.sg_hilbert.specs.Curve.{two_to, four_to, spot_at}
use Rattle.sg_hilbert.proofs.Sides.{squares}
use Rattle.sg_cells.specs.declared.blocks.Block as lots
use Rattle.sg_cells.specs.Grids.{IsBlock}
use Rattle.sg_cells.specs.Cells.{Grid, Block, Cell, IsGrid, IsPath, block_from, front, root, split_of}
use Rattle.sg_cells.proofs.Counts.{few_columns}
use Rattle.sg_cells.proofs.Covered.{Lies}
use Rattle.sg_cells.proofs.Lattices.{front_all}
use Rattle.sg_cells.proofs.Split.{Sits, Sits-cell, block_child}
use Rattle.sg_cells.proofs.Tessellates.{path_child}

-- the side of the level below a cell
pub split_at : (ks : List ℕ) (c : Cell) → length c < length ks → split_of ks c ≡ slice_index ks (length c)
split_at [] c h = absurd (omega arith)
split_at (k ∷ ks) [] h = refl
split_at (k ∷ ks) (d ∷ ds) h = split_at ks ds (omega arith)

pub split_here : (ks : List ℕ) (c : Cell) (level n : ℕ) → length c < length ks → level ≡ length c → n ≡ slice_index ks (level + 1 - 1) → n ≡ split_of ks c
split_here ks c level n h l e =
    let i : level + 1 - 1 ≡ length c = omega arith in
    e ∙ (ap (λ i. slice_index ks i) i ∙ sym (split_at ks c h))

pub side_here : (ks : List ℕ) (c : Cell) (level side : ℕ) → length c < length ks → level ≡ length c → side ≡ two_to (slice_index ks (level + 1 - 1)) → side ≡ two_to (split_of ks c)
side_here ks c level side h l e = e ∙ ap two_to (split_here ks c level (slice_index ks (level + 1 - 1)) h l refl)

-- a place among the children lies on the square of the side
pub place_here : (ks : List ℕ) (c : Cell) (place side : ℕ) → side ≡ two_to (split_of ks c) → place < four_to (split_of ks c) → place < side * side
place_here ks c place side e h =
    let q = squares (split_of ks c) in
    let s : side * side ≡ two_to (split_of ks c) * two_to (split_of ks c) = ap (λ x. x * x) e in
    omega arith

module _ (g : Grid) (c : Cell) (place a x y side : ℕ) (p : a ≡ (block_from g.sides c root).across) (q : x ≡ (block_from g.sides c root).column) (r : y ≡ (block_from g.sides c root).row) (s : side ≡ two_to (split_of g.sides c)) where
  -- the child's block
  pub lies_child : (k i j m : ℕ) (spot : ℕ × ℕ) → k ≡ split_of g.sides c → spot ≡ spot_at k place → i ≡ a * side → j ≡ x * side + spot.0 → m ≡ y * side + spot.1 → Lies g (c ++ place ∷ []) i j m
  lies_child k i j m spot e f u v w =
      let b = block_from g.sides c root in
      let t : spot ≡ spot_at (split_of g.sides c) place = f ∙ ap (λ n. spot_at n place) e in
      let z : block_from g.sides (c ++ place ∷ []) root ≡ Rattle.sg_cells.specs.Cells.into (split_of g.sides c) place b = block_child g.sides c place root in
      record {
        across = u ∙ ((λ i. p i * s i) ∙ sym (ap (λ (b : Block). b.across) z));
        column = v ∙ ((λ i. q i * s i + (t i).0) ∙ sym (ap (λ (b : Block). b.column) z));
        row = w ∙ ((λ i. r i * s i + (t i).1) ∙ sym (ap (λ (b : Block). b.row) z));
      }

  -- and its level has few columns
  pub few_below : IsGrid g → IsPath g.sides c → length c < length g.sides → place < four_to (split_of g.sides c) → a * side ≤ 262144
  few_below h k l m =
      let f = few_columns g.sides (c ++ place ∷ []) (length (c ++ place ∷ [])) h.levels h.sides (path_child g.sides c place k l m) in
      let w : (block_from g.sides (front (length (c ++ place ∷ [])) (c ++ place ∷ [])) root).across ≡ (block_from g.sides (c ++ place ∷ []) root).across = ap (λ d. (block_from g.sides d root).across) (front_all (c ++ place ∷ [])) in
      let z : (block_from g.sides (c ++ place ∷ []) root).across ≡ (block_from g.sides c root).across * two_to (split_of g.sides c) = ap (λ (b : Block). b.across) (block_child g.sides c place root) in
      let n : a * side ≡ (block_from g.sides c root).across * two_to (split_of g.sides c) = (λ i. p i * s i) in
      omega arith

-- a cell's block lies within its lattice
pub lies_sits : (g : Grid) (c : Cell) (x y z : ℕ) → Lies g c x y z → Sits (record { across = x; column = y; row = z })
lies_sits g c x y z l =
    let s = Sits-cell g c in
    let a = l.across in
    let b = l.column in
    let d = l.row in
    let p = s.column in
    let q = s.row in
    record { column = omega arith; row = omega arith }

pub in_columns : (g : Grid) (c : Cell) (b : lots.Block) → IsBlock g c b → b.column < b.across
in_columns g c b h = (lies_sits g c b.across b.column b.row (record { across = h.across; column = h.column; row = h.row })).column

pub in_rows : (g : Grid) (c : Cell) (b : lots.Block) → IsBlock g c b → b.row < b.across
in_rows g c b h = (lies_sits g c b.across b.column b.row (record { across = h.across; column = h.column; row = h.row })).row
