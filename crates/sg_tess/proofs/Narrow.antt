-- A shape in which the points of a cell have the same statuses meets and covers the same children of it.
use Rattle.std.proofs.Common.{ℕ, zero, suc, ◌≡◌, refl, sym, ap, ◌∙◌, true, cond, [], ◌∷◌, ◌++◌}
use Rattle.sg_algebra.proofs.Comparisons.{same_test}
use Rattle.sg_plane.proofs.Decided.{meets_box-iff, covers_box-iff}
use Rattle.sg_plane.specs.Decisions.{meets_box, covers_box}
use Rattle.sg_nearby.specs.Nearby.{SameIn}
use Rattle.sg_shape.specs.declared.cells.CellBox.{CellBox}
use Rattle.sg_shape.specs.declared.shapes.Shape.{Shape}
use Rattle.sg_shape.specs.Plane.{Point}
use Rattle.sg_shape.specs.Boxes.{in_box, is_held, MeetsBox, CoversBox}
use Rattle.sg_cells.specs.declared.marks.Mark.TheVariants.{Part, Cover}
use Rattle.sg_cells.specs.Cells.{Grid, Cell, box_at, box_of, block_from, root, split_of}
use Rattle.sg_cells.specs.Tess.{look_at, met, children, kids}
use Rattle.sg_cells.proofs.Split.{outer, block_child, Sits-cell}
use Rattle.sg_hilbert.specs.Curve.{four_to}

-- the points of a child are the parent's
child_in : (g : Grid) (c : Cell) (d : ℕ) (p : Point) → in_box (box_of g (c ++ d ∷ [])) p ≡ true → in_box (box_of g c) p ≡ true
child_in g c d p h = outer g (block_from g.sides c root) (split_of g.sides c) d p (Sits-cell g c) (sym (ap (λ b. in_box (box_at g b) p) (block_child g.sides c d root)) ∙ h)

module _ (c : CellBox) (a b : Shape) (s : SameIn c a b) (e : CellBox) (i : (p : Point) → in_box e p ≡ true → in_box c p ≡ true) where
  same_meets : meets_box a e ≡ meets_box b e
  same_meets =
      same_test
      (λ t. let m : MeetsBox a e = (meets_box-iff a e).0 t in (meets_box-iff b e).1 (m.0, sym (ap is_held (s m.0 (i m.0 m.2))) ∙ m.1, m.2))
      (λ t. let m : MeetsBox b e = (meets_box-iff b e).0 t in (meets_box-iff a e).1 (m.0, ap is_held (s m.0 (i m.0 m.2)) ∙ m.1, m.2))

  same_covers : covers_box a e ≡ covers_box b e
  same_covers =
      same_test
      (λ t. let f : CoversBox a e = (covers_box-iff a e).0 t in (covers_box-iff b e).1 (λ p h. sym (ap is_held (s p (i p h))) ∙ f p h))
      (λ t. let f : CoversBox b e = (covers_box-iff b e).0 t in (covers_box-iff a e).1 (λ p h. ap is_held (s p (i p h)) ∙ f p h))

met_same : (g : Grid) (c : Cell) (a b : Shape) → SameIn (box_of g c) a b → (d n : ℕ) → met g (look_at a) (children c d n) ≡ met g (look_at b) (children c d n)
met_same g c a b s d zero = refl
met_same g c a b s d (suc n) =
    let box = box_of g (c ++ d ∷ []) in
    let m : meets_box a box ≡ meets_box b box = same_meets (box_of g c) a b s box (child_in g c d) in
    let k : covers_box a box ≡ covers_box b box = same_covers (box_of g c) a b s box (child_in g c d) in
    let ih = met_same g c a b s (suc d) n in
    λ j. cond (m j) ((c ++ d ∷ [], cond (k j) Cover Part) ∷ ih j) (ih j)

pub same_kids : (g : Grid) (c : Cell) (a b : Shape) → SameIn (box_of g c) a b → kids g (look_at a) c ≡ kids g (look_at b) c
same_kids g c a b s = met_same g c a b s 0 (four_to (split_of g.sides c))
