-- Children in columns or rows that have no common place with the bounds.
use Rattle.std.proofs.Common.{ℕ, zero, suc, ◌≡◌, ◌≤◌, ◌<◌, ◌+◌, ◌-◌, ◌*◌, arith, refl, sym, ap, ◌∙◌, Bool, true, false, not, cond, [], ◌∷◌, ◌++◌, Some, None, leb, ltb, eqb, inl, inr, ◌⊎◌}
use mathlib.Core.Bool.{◌&&◌}
use Rattle.sg_hilbert.specs.Curve.{two_to, spot_at, doublings}
use Rattle.sg_hilbert.proofs.Undo.{spot_fits}
use Rattle.sg_shape.specs.declared.bounds.Bounds.{Bounds}
use Rattle.sg_shape.specs.declared.cells.CellBox.{CellBox}
use Rattle.sg_shape.specs.declared.shapes.Shape.{Shape}
use Rattle.sg_shape.specs.Bounds.{IsBounds}
use Rattle.sg_shape.specs.Sound.{IsSound}
use Rattle.sg_plane.specs.Decisions.{covers_box}
use Rattle.sg_cells.specs.declared.marks.Mark.TheVariants.{Part, Cover}
use Rattle.sg_cells.specs.Cells.{Grid, Cell, Block, box_at, box_of, block_from, root, split_of, edge}
use Rattle.sg_cells.specs.Tess.{look_at}
use Rattle.sg_cells.proofs.Split.{block_child}
use Rattle.sg_tess.specs.declared.reaches.Reach.{Reach}
use Rattle.sg_tess.specs.Sights.{Far, IsReach, is_near, mark_by, overlaps}
use Rattle.sg_tess.proofs.Within.{far_unmet}

-- a child's box by its column, and by its row
abbrev across : CellBox → Bounds → Bool
across c b = overlaps c.xlow c.xhigh c.closed_x b.xmin b.xmax

abbrev up : CellBox → Bounds → Bool
up c b = overlaps c.ylow c.yhigh c.closed_y b.ymin b.ymax

module _ (g : Grid) (c : Cell) (b : Bounds) where
  abbrev k : ℕ
  k = split_of g.sides c

  abbrev own : Block
  own = block_from g.sides c root

  column_near : ℕ → Bool
  column_near x =
      overlaps (edge g.west g.width (own.across * two_to k) (own.column * two_to k + x)) (edge g.west g.width (own.across * two_to k) (suc (own.column * two_to k + x)))
      (eqb (suc (own.column * two_to k + x)) (own.across * two_to k)) b.xmin b.xmax

  row_near : ℕ → Bool
  row_near y =
      overlaps (edge g.south g.height (own.across * two_to k) (own.row * two_to k + y)) (edge g.south g.height (own.across * two_to k) (suc (own.row * two_to k + y)))
      (eqb (suc (own.row * two_to k + y)) (own.across * two_to k)) b.ymin b.ymax

  by_column : (d : ℕ) → across (box_of g (c ++ d ∷ [])) b ≡ column_near (spot_at k d).0
  unfolding column_near
  by_column d = ap (λ (w : Block). across (box_at g w) b) (block_child g.sides c d root)

  by_row : (d : ℕ) → up (box_of g (c ++ d ∷ [])) b ≡ row_near (spot_at k d).1
  unfolding row_near
  by_row d = ap (λ (w : Block). up (box_at g w) b) (block_child g.sides c d root)

  not_true : (t : Bool) → not t ≡ true → t ≡ false
  not_true true h = absurd (cc)
  not_true false h = refl

  first_false : (s t : Bool) → s ≡ false → (s && t) ≡ false
  first_false s t h = rw h refl

  second_false : (s t : Bool) → t ≡ false → (s && t) ≡ false
  second_false true t h = h
  second_false false t h = refl

  -- one child of the column lies left or right of the bounds, and so all do
  pub column_far : (found : CellBox) (low : Cell) (side place column : ℕ) (near : Bool) → found ≡ box_of g low → low ≡ c ++ place ∷ [] → spot_at (doublings side) place ≡ (column, 0) → doublings side ≡ k →
      near ≡ across found b → not near ≡ true → Far g c b (λ s. s.0 ≡ column)
  column_far found low side place column near f l s q n t d h e =
      let at : (spot_at k place).0 ≡ column = ap (λ (j : ℕ). (spot_at j place).0) (sym q) ∙ ap (λ (z : ℕ × ℕ). z.0) s in
      let one : across (box_of g (c ++ place ∷ [])) b ≡ false = sym (ap (λ (w : CellBox). across w b) (f ∙ ap (box_of g) l)) ∙ (sym n ∙ not_true near t) in
      first_false (across (box_of g (c ++ d ∷ [])) b) (up (box_of g (c ++ d ∷ [])) b) (by_column d ∙ (ap column_near (e ∙ sym at) ∙ (sym (by_column place) ∙ one)))

  pub row_far : (found : CellBox) (first : Cell) (side place row : ℕ) (near : Bool) → found ≡ box_of g first → first ≡ c ++ place ∷ [] → spot_at (doublings side) place ≡ (0, row) → doublings side ≡ k →
      near ≡ up found b → not near ≡ true → Far g c b (λ s. s.1 ≡ row)
  row_far found first side place row near f l s q n t d h e =
      let at : (spot_at k place).1 ≡ row = ap (λ (j : ℕ). (spot_at j place).1) (sym q) ∙ ap (λ (z : ℕ × ℕ). z.1) s in
      let one : up (box_of g (c ++ place ∷ [])) b ≡ false = sym (ap (λ (w : CellBox). up w b) (f ∙ ap (box_of g) l)) ∙ (sym n ∙ not_true near t) in
      second_false (across (box_of g (c ++ d ∷ [])) b) (up (box_of g (c ++ d ∷ [])) b) (by_row d ∙ (ap row_near (e ∙ sym at) ∙ (sym (by_row place) ∙ one)))

  -- ---- column by column, and row by row
  cases : (x y : ℕ) → x < y + 1 → (x < y) ⊎ (x ≡ y)
  cases x zero h = inr (omega arith)
  cases zero (suc y) h = inl (omega arith)
  cases (suc x) (suc y) h = elim (cases x y (omega arith)) [ inl l ↦ inl (omega arith) | inr e ↦ inr (ap suc e) ]

  pub left_first : Far g c b (λ s. s.0 < 0)
  left_first d h l = absurd (omega arith)

  pub left_more : (x : ℕ) → Far g c b (λ s. s.0 < x) → Far g c b (λ s. s.0 ≡ x) → Far g c b (λ s. s.0 < x + 1)
  left_more x f n d h l = elim (cases (spot_at k d).0 x l) [ inl m ↦ f d h m | inr e ↦ n d h e ]

  pub bottom_first : Far g c b (λ s. s.1 < 0)
  bottom_first d h l = absurd (omega arith)

  pub bottom_more : (y : ℕ) → Far g c b (λ s. s.1 < y) → Far g c b (λ s. s.1 ≡ y) → Far g c b (λ s. s.1 < y + 1)
  bottom_more y f n d h l = elim (cases (spot_at k d).1 y l) [ inl m ↦ f d h m | inr e ↦ n d h e ]

  pub right_first : (x : ℕ) → x ≡ two_to k → Far g c b (λ s. x ≤ s.0)
  right_first x e d h l = let f = (spot_fits k d).0 in absurd (omega arith)

  pub right_more : (x : ℕ) → 0 < x → Far g c b (λ s. x ≤ s.0) → Far g c b (λ s. s.0 ≡ x - 1) → Far g c b (λ s. x - 1 ≤ s.0)
  right_more x o f n d h l = elim (cases (x - 1) (spot_at k d).0 (omega arith)) [ inl m ↦ f d h (omega arith) | inr e ↦ n d h (sym e) ]

  pub top_first : (y : ℕ) → y ≡ two_to k → Far g c b (λ s. y ≤ s.1)
  top_first y e d h l = let f = (spot_fits k d).1 in absurd (omega arith)

  pub top_more : (y : ℕ) → 0 < y → Far g c b (λ s. y ≤ s.1) → Far g c b (λ s. s.1 ≡ y - 1) → Far g c b (λ s. y - 1 ≤ s.1)
  top_more y o f n d h l = elim (cases (y - 1) (spot_at k d).1 (omega arith)) [ inl m ↦ f d h (omega arith) | inr e ↦ n d h (sym e) ]

  -- ---- all four sides
  below_it : (m n : ℕ) → leb m n ≡ false → n < m
  below_it m n h = grind arith

  not_below : (m n : ℕ) → ltb m n ≡ false → n ≤ m
  not_below m n h = grind arith

  pub reached : (r : Reach) → Far g c b (λ s. s.0 < r.left) → Far g c b (λ s. r.right ≤ s.0) → Far g c b (λ s. s.1 < r.bottom) → Far g c b (λ s. r.top ≤ s.1) → IsReach g c b r
  reached r l m n o d h e = by_tests (leb r.left x) (ltb x r.right) (leb r.bottom y) (ltb y r.top) refl refl refl refl e
    where
      x : ℕ
      x = (spot_at k d).0

      y : ℕ
      y = (spot_at k d).1

      by_tests : (p q s t : Bool) → leb r.left (spot_at k d).0 ≡ p → ltb (spot_at k d).0 r.right ≡ q → leb r.bottom (spot_at k d).1 ≡ s → ltb (spot_at k d).1 r.top ≡ t → (p && (q && (s && t))) ≡ false → is_near (box_of g (c ++ d ∷ [])) b ≡ false
      by_tests false q s t ep eq es et z = l d h (below_it r.left (spot_at k d).0 ep)
      by_tests true false s t ep eq es et z = m d h (not_below (spot_at k d).0 r.right eq)
      by_tests true true false t ep eq es et z = n d h (below_it r.bottom (spot_at k d).1 es)
      by_tests true true true false ep eq es et z = o d h (not_below (spot_at k d).1 r.top et)
      by_tests true true true true ep eq es et z = absurd (cc)

-- a child out of reach isn't met
pub unreached : (g : Grid) (s : Shape) (b : Bounds) (c : Cell) (d : ℕ) → IsSound s → IsBounds b s → is_near (box_of g (c ++ d ∷ [])) b ≡ false → None ≡ mark_by (look_at s) (box_of g (c ++ d ∷ []))
unreached g s b c d k i n = ap (λ (m : Bool). cond m (Some (cond (covers_box s (box_of g (c ++ d ∷ []))) Cover Part)) None) (far_unmet s b (box_of g (c ++ d ∷ [])) k i n)
