-- The children of a block split its points.
use Rattle.std.proofs.Common.{ℕ, zero, suc, ◌≡◌, ◌+◌, ◌*◌, ◌<◌, ◌≤◌, arith, refl, sym, ap, ◌∙◌, Bool, true, false, List, [], ◌∷◌, ◌++◌, inl, inr}
use Rattle.std.proofs.lemmas.Bool.{cases_Bool, cases_eq, false_from_ne_true}
use Rattle.std.proofs.lemmas.Nat.{mul-le}
use Rattle.sg_algebra.proofs.Comparisons.{left_true, right_true, both}
use Rattle.sg_hilbert.proofs.Undo.{two_pos, spot_fits, spot_injective, spot_place}
use Rattle.sg_cells.proofs.Spans.{in_column, one_column, inner_column, outer_column}
use Rattle.sg_hilbert.specs.Curve.{two_to, four_to, spot_at, place_at}
use Rattle.sg_cells.specs.Cells.{Grid, Block, Cell, box_at, box_of, root, into, block_from, split_of, cell_holds, whole}
use Rattle.sg_cells.specs.Tess.{children}
use Rattle.sg_cells.specs.Laws.{ind, box_hits, children_of, each_child, level}
use Rattle.sg_shape.specs.Boxes.{in_box}
use Rattle.sg_shape.specs.Plane.{Point}

-- the block is one of its lattice
pub record Sits (b : Block) : Type 0 where
  pub column : b.column < b.across
  pub row : b.row < b.across

pub Sits-root : Sits root
Sits-root = record { column = omega arith; row = omega arith }

place_below : (n s c j : ℕ) → c < n → j < s → c * s + j < n * s
place_below n s c j h l = let q = mul-le (suc c) s n s h (omega arith) in omega arith

pub Sits-into : (k d : ℕ) (b : Block) → Sits b → Sits (into k d b)
Sits-into k d b s =
    let f = spot_fits k d in
    record {
      column = place_below b.across (two_to k) b.column (spot_at k d).0 s.column f.0;
      row = place_below b.across (two_to k) b.row (spot_at k d).1 s.row f.1;
    }

pub Sits-from : (ks : List ℕ) (c : Cell) (b : Block) → Sits b → Sits (block_from ks c b)
Sits-from ks [] b s = s
Sits-from [] (d ∷ ds) b s = Sits-from [] ds (into 0 d b) (Sits-into 0 d b s)
Sits-from (k ∷ ks) (d ∷ ds) b s = Sits-from ks ds (into k d b) (Sits-into k d b s)

pub record Child (g : Grid) (b : Block) (k : ℕ) (p : Point) : Type 0 where
  pub place : ℕ
  pub is_below : place < four_to k
  pub has : in_box (box_at g (into k place b)) p ≡ true

pub inner : (g : Grid) (b : Block) (k : ℕ) (p : Point) → Sits b → in_box (box_at g b) p ≡ true → Child g b k p
inner g b k p s e =
    let ex = left_true (in_column g.west g.width b.across b.column p.x p.n) (in_column g.south g.height b.across b.row p.y p.n) e in
    let ey = right_true (in_column g.west g.width b.across b.column p.x p.n) (in_column g.south g.height b.across b.row p.y p.n) e in
    let u = inner_column g.west g.width b.across (two_to k) b.column p.n p.x (two_pos k) s.column ex in
    let v = inner_column g.south g.height b.across (two_to k) b.row p.n p.y (two_pos k) s.row ey in
    let w = spot_place k u.place v.place u.is_below v.is_below in
    record {
      place = place_at k u.place v.place;
      is_below = w.is_below;
      has = both
          (in_column g.west g.width (b.across * two_to k) (b.column * two_to k + (spot_at k (place_at k u.place v.place)).0) p.x p.n)
          (in_column g.south g.height (b.across * two_to k) (b.row * two_to k + (spot_at k (place_at k u.place v.place)).1) p.y p.n)
          (rw w.column u.has) (rw w.row v.has);
    }

pub outer : (g : Grid) (b : Block) (k d : ℕ) (p : Point) → Sits b → in_box (box_at g (into k d b)) p ≡ true → in_box (box_at g b) p ≡ true
outer g b k d p s e =
    let f = spot_fits k d in
    let cx = in_column g.west g.width (b.across * two_to k) (b.column * two_to k + (spot_at k d).0) p.x p.n in
    let cy = in_column g.south g.height (b.across * two_to k) (b.row * two_to k + (spot_at k d).1) p.y p.n in
    both
    (in_column g.west g.width b.across b.column p.x p.n)
    (in_column g.south g.height b.across b.row p.y p.n)
    (outer_column g.west g.width b.across (two_to k) b.column p.n (spot_at k d).0 p.x s.column f.0 (left_true cx cy e))
    (outer_column g.south g.height b.across (two_to k) b.row p.n (spot_at k d).1 p.y s.row f.1 (right_true cx cy e))

cancel : (a j k : ℕ) → a + j ≡ a + k → j ≡ k
cancel a j k e = omega arith

pub one_child : (g : Grid) (b : Block) (k d e : ℕ) (p : Point) → Sits b → d < four_to k → e < four_to k → in_box (box_at g (into k d b)) p ≡ true → in_box (box_at g (into k e b)) p ≡ true → d ≡ e
one_child g b k d e p s hd he x y =
    let n = b.across * two_to k in
    let sd = Sits-into k d b s in
    let se = Sits-into k e b s in
    let cd = in_column g.west g.width n (b.column * two_to k + (spot_at k d).0) p.x p.n in
    let rd = in_column g.south g.height n (b.row * two_to k + (spot_at k d).1) p.y p.n in
    let ce = in_column g.west g.width n (b.column * two_to k + (spot_at k e).0) p.x p.n in
    let re = in_column g.south g.height n (b.row * two_to k + (spot_at k e).1) p.y p.n in
    let c = one_column g.west g.width n (b.column * two_to k + (spot_at k d).0) (b.column * two_to k + (spot_at k e).0) p.n p.x sd.column se.column (left_true cd rd x) (left_true ce re y) in
    let r = one_column g.south g.height n (b.row * two_to k + (spot_at k d).1) (b.row * two_to k + (spot_at k e).1) p.n p.y sd.row se.row (right_true cd rd x) (right_true ce re y) in
    spot_injective k d e hd he (cancel (b.column * two_to k) _ _ c) (cancel (b.row * two_to k) _ _ r)

-- ---- cells
pub block_child : (ks : List ℕ) (c : Cell) (d : ℕ) (b : Block) → block_from ks (c ++ d ∷ []) b ≡ into (split_of ks c) d (block_from ks c b)
block_child [] [] d b = refl
block_child (k ∷ ks) [] d b = refl
block_child [] (e ∷ es) d b = block_child [] es d (into 0 e b)
block_child (k ∷ ks) (e ∷ es) d b = block_child ks es d (into k e b)

pub child_holds : (g : Grid) (c : Cell) (d : ℕ) (p : Point) → cell_holds g (c ++ d ∷ []) p ≡ in_box (box_of g (c ++ d ∷ [])) p
child_holds g [] d p = refl
child_holds g (e ∷ es) d p = refl

abbrev pub child_box : Grid → Cell → ℕ → Point → Bool
child_box g c d p = in_box (box_at g (into (split_of g.sides c) d (block_from g.sides c root))) p

box_child : (g : Grid) (c : Cell) (d : ℕ) (p : Point) → in_box (box_of g (c ++ d ∷ [])) p ≡ child_box g c d p
box_child g c d p = ap (λ b. in_box (box_at g b) p) (block_child g.sides c d root)

hits_none : (g : Grid) (c : Cell) (p : Point) (d n : ℕ) → ((j : ℕ) → d ≤ j → j < d + n → in_box (box_of g (c ++ j ∷ [])) p ≡ false) → box_hits g p (children c d n) ≡ 0
hits_none g c p d zero h = refl
hits_none g c p d (suc n) h = let ih = hits_none g c p (suc d) n (λ j l m. h j (omega arith) (omega arith)) in rw (h d (omega arith) (omega arith)) (omega arith)

hits_one : (g : Grid) (c : Cell) (p : Point) (a d n : ℕ) → d ≤ a → a < d + n → in_box (box_of g (c ++ a ∷ [])) p ≡ true → ((j : ℕ) → d ≤ j → j < d + n → in_box (box_of g (c ++ j ∷ [])) p ≡ true → j ≡ a) → box_hits g p (children c d n) ≡ 1
hits_one g c p a d zero l m e u = absurd (omega arith)
hits_one g c p a d (suc n) l m e u =
    elim (cases_eq d a) [
      | inl q ↦
          let here : in_box (box_of g (c ++ d ∷ [])) p ≡ true = rw q e in
          let rest : box_hits g p (children c (suc d) n) ≡ 0 = hits_none g c p (suc d) n (λ j x y. false_from_ne_true _ (λ t. let z = u j (omega arith) (omega arith) t in omega arith)) in
          rw here (omega arith)
      | inr q ↦
          let here : in_box (box_of g (c ++ d ∷ [])) p ≡ false = false_from_ne_true _ (λ t. q (u d (omega arith) (omega arith) t)) in
          let rest : box_hits g p (children c (suc d) n) ≡ 1 = hits_one g c p a (suc d) n (omega arith) (omega arith) e (λ j x y t. u j (omega arith) (omega arith) t) in
          rw here (omega arith)
    ]

pub Sits-cell : (g : Grid) (c : Cell) → Sits (block_from g.sides c root)
Sits-cell g c = Sits-from g.sides c root Sits-root

-- Of a cell's children exactly one holds a point of the cell, and none holds another point.
pub children_split : (g : Grid) (c : Cell) (p : Point) → box_hits g p (children_of g c) ≡ ind (in_box (box_of g c) p)
children_split g c p =
    elim (cases_Bool (in_box (box_of g c) p)) [
      | inl e ↦
          let w = inner g b k p (Sits-cell g c) e in
          rw e
          (hits_one g c p w.place 0 (four_to k) (omega arith) (let m = w.is_below in omega arith) (box_child g c w.place p ∙ w.has)
          (λ j l m t. one_child g b k j w.place p (Sits-cell g c) (omega arith) w.is_below (sym (box_child g c j p) ∙ t) w.has))
      | inr e ↦
          rw e (hits_none g c p 0 (four_to k) (λ j l m. false_from_ne_true _ (λ t. differ _ (outer g b k j p (Sits-cell g c) (sym (box_child g c j p) ∙ t)) e)))
    ]
  where
    k : ℕ
    k = split_of g.sides c

    b : Block
    b = block_from g.sides c root

    differ : (s : Bool) → s ≡ true → s ≡ false → ⊥
    differ s u v = cc

pub box_hits-append : (g : Grid) (p : Point) (xs ys : List Cell) → box_hits g p (xs ++ ys) ≡ box_hits g p xs + box_hits g p ys
box_hits-append g p [] ys = omega arith
box_hits-append g p (x ∷ xs) ys = let ih = box_hits-append g p xs ys in omega arith

each_hits : (g : Grid) (p : Point) (cs : List Cell) → box_hits g p (each_child g cs) ≡ box_hits g p cs
each_hits g p [] = refl
each_hits g p (c ∷ cs) =
    let a = box_hits-append g p (children_of g c) (each_child g cs) in
    let s = children_split g c p in
    let ih = each_hits g p cs in
    omega arith

-- Of the cells of a level exactly one holds a point of the closed box, and none holds another point.
pub level_splits : (g : Grid) (k : ℕ) (p : Point) → box_hits g p (level g k) ≡ ind (in_box (whole g) p)
level_splits g zero p = omega arith
level_splits g (suc k) p = each_hits g p (level g k) ∙ level_splits g k p
