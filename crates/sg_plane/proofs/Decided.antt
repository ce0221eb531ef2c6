-- The decisions decide what they say.
use Rattle.std.proofs.Common.{◌≡◌, refl, sym, ap, ◌∙◌, subst, Bool, true, false, not, List, ◌++◌}
use Rattle.std.specs.Prelude.{◌↔◌, IsTrue}
use mathlib.Core.Bool.{◌&&◌}
use Rattle.sg_algebra.proofs.Comparisons.{left_true, right_true, both, same_test, is_false}
use Rattle.sg_shape.specs.declared.cells.CellBox.{CellBox}
use Rattle.sg_shape.specs.declared.matrices.Matrix.{Matrix}
use Rattle.sg_shape.specs.declared.shapes.Shape.{Shape}
use Rattle.sg_shape.specs.Plane.{Point, Status, In, Bd, Out}
use Rattle.sg_shape.specs.Shapes.{parts_of, status_in}
use Rattle.sg_shape.specs.Matrix.{Meets, IsMatrix}
use Rattle.sg_shape.specs.Boxes.{in_box, is_held, has_point}
use Rattle.sg_plane.specs.Samples.{Form, at, some_point}
use Rattle.sg_plane.specs.Forms.{forms, box_forms}
use Rattle.sg_plane.specs.Decisions.{same_status, meets, matrix_of, has_points, meets_box, covers_box, leaves_box}
use Rattle.sg_plane.specs.Claims.{MeetsDecided, MatrixDecided, RelatedDecided, PointsDecided, MeetsBoxDecided, CoversBoxDecided, LeavesBoxDecided}
use Rattle.sg_shape.proofs.Patterns.{fits_is-Relates}
use Rattle.sg_plane.proofs.Lists.{each_left, each_right}
use Rattle.sg_plane.proofs.Alike.{Alike}
use Rattle.sg_plane.proofs.Samples.{SameSigns, Decides, some_point_iff}
use Rattle.sg_plane.proofs.Statuses.{status-same, box-same}

same-is : (i j : Status) → same_status i j ≡ true → i ≡ j
same-is In In e = refl
same-is Bd Bd e = refl
same-is Out Out e = refl
same-is In Bd e = absurd (cc)
same-is In Out e = absurd (cc)
same-is Bd In e = absurd (cc)
same-is Bd Out e = absurd (cc)
same-is Out In e = absurd (cc)
same-is Out Bd e = absurd (cc)

is-same : (i : Status) → same_status i i ≡ true
is-same In = refl
is-same Bd = refl
is-same Out = refl

left_same : (p q : Point) (fs gs : List Form) → SameSigns (fs ++ gs) p q → SameSigns fs p q
left_same p q fs gs h = each_left (λ f. Alike (at f p) (at f q)) fs gs h

right_same : (p q : Point) (fs gs : List Form) → SameSigns (fs ++ gs) p q → SameSigns gs p q
right_same p q fs gs h = each_right (λ f. Alike (at f p) (at f q)) fs gs h

pub meets-iff : MeetsDecided
unfolding meets
meets-iff i j a b =
    let t : Point → Bool = λ p. same_status (status_in a p) i && same_status (status_in b p) j in
    let d : Decides (forms (parts_of a) ++ forms (parts_of b)) t =
    λ p q h. rw (status-same p q (parts_of a) (left_same p q (forms (parts_of a)) (forms (parts_of b)) h), status-same p q (parts_of b) (right_same p q (forms (parts_of a)) (forms (parts_of b)) h)) refl in
    let e : (some_point t (forms (parts_of a) ++ forms (parts_of b)) ≡ true) ↔ (p : Point) × (t p ≡ true) = some_point_iff t (forms (parts_of a) ++ forms (parts_of b)) d in (
      λ h. let r : (p : Point) × (t p ≡ true) = e.0 h in
          (r.0, same-is (status_in a r.0) i (left_true (same_status (status_in a r.0) i) (same_status (status_in b r.0) j) r.1), same-is (status_in b r.0) j (right_true (same_status (status_in a r.0) i) (same_status (status_in b r.0) j) r.1)),
      λ m. e.1 (m.0, both (same_status (status_in a m.0) i) (same_status (status_in b m.0) j) (ap (λ (s : Status). same_status s i) m.1 ∙ is-same i) (ap (λ (s : Status). same_status s j) m.2 ∙ is-same j)),
    )

-- an entry that code answers by the law of a judge is the decision
pub entry-is : (i j : Status) (a b : Shape) (e : Bool) → (IsTrue e ↔ Meets i j a b) → e ≡ meets i j a b
entry-is i j a b e h = same_test (λ t. (meets-iff i j a b).1 (h.0 t)) (λ t. h.1 ((meets-iff i j a b).0 t))

-- ---- the matrix
decided : (a b : Shape) → IsMatrix (matrix_of a b) a b
decided a b = record {
  ii = meets-iff In In a b;
  ib = meets-iff In Bd a b;
  io = meets-iff In Out a b;
  bi = meets-iff Bd In a b;
  bb = meets-iff Bd Bd a b;
  bo = meets-iff Bd Out a b;
  oi = meets-iff Out In a b;
  ob = meets-iff Out Bd a b;
  oo = meets-iff Out Out a b;
}

same_matrix : (m : Matrix) (a b : Shape) → IsMatrix m a b → m ≡ matrix_of a b
same_matrix m a b h = λ i. record {
  ii = entry-is In In a b m.ii h.ii i;
  ib = entry-is In Bd a b m.ib h.ib i;
  io = entry-is In Out a b m.io h.io i;
  bi = entry-is Bd In a b m.bi h.bi i;
  bb = entry-is Bd Bd a b m.bb h.bb i;
  bo = entry-is Bd Out a b m.bo h.bo i;
  oi = entry-is Out In a b m.oi h.oi i;
  ob = entry-is Out Bd a b m.ob h.ob i;
  oo = entry-is Out Out a b m.oo h.oo i;
}

pub matrix-iff : MatrixDecided
matrix-iff m a b = (same_matrix m a b, λ e. subst (λ (m : Matrix). IsMatrix m a b) (sym e) (decided a b))

pub related-iff : RelatedDecided
related-iff pred a b = fits_is-Relates pred (matrix_of a b) a b (decided a b)

-- a test that the status and the place in the box decide
by_both : (k : Shape) (c : CellBox) (f : Bool → Bool → Bool) → Decides (forms (parts_of k) ++ box_forms c) (λ p. f (has_point (parts_of k) p) (in_box c p))
by_both k c f p q h = rw (status-same p q (parts_of k) (left_same p q (forms (parts_of k)) (box_forms c) h), box-same p q c (right_same p q (forms (parts_of k)) (box_forms c) h)) refl

pub not_true : (b : Bool) → not b ≡ true → b ≡ false
not_true true e = absurd (cc)
not_true false e = refl

pub not_false : (b : Bool) → b ≡ false → not b ≡ true
not_false b e = rw e refl

pub is_or_not : (b : Bool) → (b ≡ false → ⊥) → b ≡ true
is_or_not true f = refl
is_or_not false f = absurd (f refl)

pub has_points-iff : PointsDecided
unfolding has_points
has_points-iff k = some_point_iff (has_point (parts_of k)) (forms (parts_of k)) (λ p q h. ap is_held (status-same p q (parts_of k) h))

pub meets_box-iff : MeetsBoxDecided
unfolding meets_box
meets_box-iff k c =
    let e : (some_point (λ p. has_point (parts_of k) p && in_box c p) (forms (parts_of k) ++ box_forms c) ≡ true) ↔ (p : Point) × ((has_point (parts_of k) p && in_box c p) ≡ true) =
    some_point_iff (λ p. has_point (parts_of k) p && in_box c p) (forms (parts_of k) ++ box_forms c) (by_both k c (λ s t. s && t)) in (
      λ h. let r : (p : Point) × ((has_point (parts_of k) p && in_box c p) ≡ true) = e.0 h in (r.0, left_true (has_point (parts_of k) r.0) (in_box c r.0) r.1, right_true (has_point (parts_of k) r.0) (in_box c r.0) r.1),
      λ m. e.1 (m.0, both (has_point (parts_of k) m.0) (in_box c m.0) m.1 m.2),
    )

pub leaves_box-iff : LeavesBoxDecided
unfolding leaves_box
leaves_box-iff k c =
    let e : (some_point (λ p. has_point (parts_of k) p && not (in_box c p)) (forms (parts_of k) ++ box_forms c) ≡ true) ↔ (p : Point) × ((has_point (parts_of k) p && not (in_box c p)) ≡ true) =
    some_point_iff (λ p. has_point (parts_of k) p && not (in_box c p)) (forms (parts_of k) ++ box_forms c) (by_both k c (λ s t. s && not t)) in (
      λ h. let r : (p : Point) × ((has_point (parts_of k) p && not (in_box c p)) ≡ true) = e.0 h in
          (r.0, left_true (has_point (parts_of k) r.0) (not (in_box c r.0)) r.1, not_true (in_box c r.0) (right_true (has_point (parts_of k) r.0) (not (in_box c r.0)) r.1)),
      λ m. e.1 (m.0, both (has_point (parts_of k) m.0) (not (in_box c m.0)) m.1 (not_false (in_box c m.0) m.2)),
    )

pub covers_box-iff : CoversBoxDecided
unfolding covers_box
covers_box-iff k c =
    let t : Point → Bool = λ p. in_box c p && not (has_point (parts_of k) p) in
    let e : (some_point t (forms (parts_of k) ++ box_forms c) ≡ true) ↔ (p : Point) × (t p ≡ true) = some_point_iff t (forms (parts_of k) ++ box_forms c) (by_both k c (λ s u. u && not s)) in (
      λ h p i. is_or_not (has_point (parts_of k) p) (λ g.
          let u : some_point t (forms (parts_of k) ++ box_forms c) ≡ true = e.1 (p, both (in_box c p) (not (has_point (parts_of k) p)) i (not_false (has_point (parts_of k) p) g)) in
          let v : some_point t (forms (parts_of k) ++ box_forms c) ≡ false = not_true (some_point t (forms (parts_of k) ++ box_forms c)) h in
          absurd (let w : true ≡ false = sym u ∙ v in cc)),
      λ f. not_false (some_point t (forms (parts_of k) ++ box_forms c)) (is_false (some_point t (forms (parts_of k) ++ box_forms c)) (λ u.
          let r : (p : Point) × (t p ≡ true) = e.0 u in
          let a : has_point (parts_of k) r.0 ≡ true = f r.0 (left_true (in_box c r.0) (not (has_point (parts_of k) r.0)) r.1) in
          let b : has_point (parts_of k) r.0 ≡ false = not_true (has_point (parts_of k) r.0) (right_true (in_box c r.0) (not (has_point (parts_of k) r.0)) r.1) in
          absurd (let w : true ≡ false = sym a ∙ b in cc))),
    )
