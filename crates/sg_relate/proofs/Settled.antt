-- A relation is settled by the points that it speaks of, or by a pair that decides.
use Rattle.std.proofs.Common.{◌≡◌, refl, ◌∙◌, true, ◌↔◌, IsTrue}
use Rattle.std.proofs.lemmas.Bool.Decides.{Decides-or, Decides-and, Decides-not}
use mathlib.Core.Logic.{◌⊎◌, inl, inr}
use Rattle.sg_heights.specs.Tallies.{entry}
use Rattle.sg_shape.specs.declared.bounds.Bounds.{Bounds}
use Rattle.sg_shape.specs.declared.matrices.Matrix.{Matrix}
use Rattle.sg_shape.specs.declared.matrices.Pred.{Pred}
use Rattle.sg_shape.specs.declared.matrices.Pred.TheVariants.{Intersects, Contains, Within, Equals, Touches}
use Rattle.sg_shape.specs.declared.shapes.Shape.{Shape}
use Rattle.sg_shape.specs.Matrix.{Meets, Relates, fits}
use Rattle.sg_shape.specs.Plane.{Point, Status, In, Bd, Out}
use Rattle.sg_shape.specs.Shapes.{status_in}
use Rattle.sg_sweep.specs.Decided.{SomeBoth, LiesWithin, IsDecided}
use Rattle.sg_relate.specs.Deciding.{deciding, speaks_of, SpeaksWithin}

-- ---- one that decides
-- a set entry that decides settles the relation: common points intersect, and the others are ruled out
first_wins : (P : Status → Status → Type 0) (i j : Status) → IsTrue (entry i j (deciding Intersects)) → P i j → P In In ⊎ P In Bd ⊎ P Bd In ⊎ P Bd Bd
first_wins P In In h p = inl p
first_wins P In Bd h p = inr (inl p)
first_wins P Bd In h p = inr (inr (inl p))
first_wins P Bd Bd h p = inr (inr (inr p))
first_wins P In Out h p = absurd (cc)
first_wins P Bd Out h p = absurd (cc)
first_wins P Out In h p = absurd (cc)
first_wins P Out Bd h p = absurd (cc)
first_wins P Out Out h p = absurd (cc)

second_leaves : (P : Status → Status → Type 0) (i j : Status) → IsTrue (entry i j (deciding Contains)) → P i j → P Out In ⊎ P Out Bd
second_leaves P Out In h p = inl p
second_leaves P Out Bd h p = inr p
second_leaves P In In h p = absurd (cc)
second_leaves P In Bd h p = absurd (cc)
second_leaves P In Out h p = absurd (cc)
second_leaves P Bd In h p = absurd (cc)
second_leaves P Bd Bd h p = absurd (cc)
second_leaves P Bd Out h p = absurd (cc)
second_leaves P Out Out h p = absurd (cc)

first_leaves : (P : Status → Status → Type 0) (i j : Status) → IsTrue (entry i j (deciding Within)) → P i j → P In Out ⊎ P Bd Out
first_leaves P In Out h p = inl p
first_leaves P Bd Out h p = inr p
first_leaves P In In h p = absurd (cc)
first_leaves P In Bd h p = absurd (cc)
first_leaves P Bd In h p = absurd (cc)
first_leaves P Bd Bd h p = absurd (cc)
first_leaves P Out In h p = absurd (cc)
first_leaves P Out Bd h p = absurd (cc)
first_leaves P Out Out h p = absurd (cc)

either_leaves : (P : Status → Status → Type 0) (i j : Status) → IsTrue (entry i j (deciding Equals)) → P i j → P In Out ⊎ P Bd Out ⊎ P Out In ⊎ P Out Bd
either_leaves P In Out h p = inl p
either_leaves P Bd Out h p = inr (inl p)
either_leaves P Out In h p = inr (inr (inl p))
either_leaves P Out Bd h p = inr (inr (inr p))
either_leaves P In In h p = absurd (cc)
either_leaves P In Bd h p = absurd (cc)
either_leaves P Bd In h p = absurd (cc)
either_leaves P Bd Bd h p = absurd (cc)
either_leaves P Out Out h p = absurd (cc)

insides_meet : (P : Status → Status → Type 0) (i j : Status) → IsTrue (entry i j (deciding Touches)) → P i j → P In In
insides_meet P In In h p = p
insides_meet P In Bd h p = absurd (cc)
insides_meet P In Out h p = absurd (cc)
insides_meet P Bd In h p = absurd (cc)
insides_meet P Bd Bd h p = absurd (cc)
insides_meet P Bd Out h p = absurd (cc)
insides_meet P Out In h p = absurd (cc)
insides_meet P Out Bd h p = absurd (cc)
insides_meet P Out Out h p = absurd (cc)

abbrev Set : Matrix → Status → Status → Type 0
Set m i j = IsTrue (entry i j m)

-- an entry is set where it is met
same : (m : Matrix) (i j : Status) → Set m i j ↔ Set m i j
same m i j = (λ h. h, λ h. h)

nothing_holds : (P Q : Type 0) → (P → ⊥) → (Q → ⊥) → P ↔ Q
nothing_holds P Q f g = (λ p. absurd (f p), λ q. absurd (g q))

-- ---- the relation, by the points of the box's heights
module _ (a b : Shape) (box : Bounds) where
  abbrev All : Matrix → Type 0
  All m = (i j : Status) (p : Point) → LiesWithin box.ymin box.ymax p → status_in a p ≡ i → status_in b p ≡ j → Set m i j

  -- an entry of points that the relation speaks of is exact
  exact : (pred : Pred) (m : Matrix) → SpeaksWithin pred box a b → IsDecided box.ymin box.ymax (deciding pred) a b m → All m → (i j : Status) → speaks_of pred i j ≡ true → Set m i j ↔ Meets i j a b
  exact pred m u d all i j h = (
    d.met i j,
    λ q. let w = u q.0 ((λ t. speaks_of pred (q.1 t) (q.2 t)) ∙ h) in all i j q.0 (w.below, w.above) q.1 q.2,
  )

  by-all : (pred : Pred) (m : Matrix) → SpeaksWithin pred box a b → IsDecided box.ymin box.ymax (deciding pred) a b m → SomeBoth m (deciding pred) ⊎ All m → IsTrue (fits pred m) ↔ Relates pred a b
  by-all Intersects m u d (inl s) = (
    (λ h. first_wins (λ i j. Meets i j a b) s.0 s.1 s.3 (d.met s.0 s.1 s.2)),
    (λ h. (Decides-or m.ii _ (same m In In) (Decides-or m.ib _ (same m In Bd) (Decides-or m.bi m.bb (same m Bd In) (same m Bd Bd)))).1 (first_wins (Set m) s.0 s.1 s.3 s.2)),
  )
  by-all Intersects m u d (inr all) =
      let e = exact Intersects m u d all in
      Decides-or m.ii _ (e In In refl) (Decides-or m.ib _ (e In Bd refl) (Decides-or m.bi m.bb (e Bd In refl) (e Bd Bd refl)))
  by-all Contains m u d (inl s) =
      nothing_holds (IsTrue (fits Contains m)) (Relates Contains a b)
      (λ h. ((Decides-and m.ii _ (same m In In) (Decides-not _ (Decides-or m.oi m.ob (same m Out In) (same m Out Bd)))).0 h).1 (second_leaves (Set m) s.0 s.1 s.3 s.2))
      (λ h. h.1 (second_leaves (λ i j. Meets i j a b) s.0 s.1 s.3 (d.met s.0 s.1 s.2)))
  by-all Contains m u d (inr all) =
      let e = exact Contains m u d all in
      Decides-and m.ii _ (e In In refl) (Decides-not _ (Decides-or m.oi m.ob (e Out In refl) (e Out Bd refl)))
  by-all Within m u d (inl s) =
      nothing_holds (IsTrue (fits Within m)) (Relates Within a b)
      (λ h. ((Decides-and m.ii _ (same m In In) (Decides-not _ (Decides-or m.io m.bo (same m In Out) (same m Bd Out)))).0 h).1 (first_leaves (Set m) s.0 s.1 s.3 s.2))
      (λ h. h.1 (first_leaves (λ i j. Meets i j a b) s.0 s.1 s.3 (d.met s.0 s.1 s.2)))
  by-all Within m u d (inr all) =
      let e = exact Within m u d all in
      Decides-and m.ii _ (e In In refl) (Decides-not _ (Decides-or m.io m.bo (e In Out refl) (e Bd Out refl)))
  by-all Equals m u d (inl s) =
      nothing_holds (IsTrue (fits Equals m)) (Relates Equals a b)
      (λ h. ((Decides-and m.ii _ (same m In In)
      (Decides-not _ (Decides-or m.io _ (same m In Out) (Decides-or m.bo _ (same m Bd Out) (Decides-or m.oi m.ob (same m Out In) (same m Out Bd)))))).0 h).1 (either_leaves (Set m) s.0 s.1 s.3 s.2))
      (λ h. h.1 (either_leaves (λ i j. Meets i j a b) s.0 s.1 s.3 (d.met s.0 s.1 s.2)))
  by-all Equals m u d (inr all) =
      let e = exact Equals m u d all in
      Decides-and m.ii _ (e In In refl) (Decides-not _ (Decides-or m.io _ (e In Out refl) (Decides-or m.bo _ (e Bd Out refl) (Decides-or m.oi m.ob (e Out In refl) (e Out Bd refl)))))
  by-all Touches m u d (inl s) =
      nothing_holds (IsTrue (fits Touches m)) (Relates Touches a b)
      (λ h. ((Decides-and _ _ (Decides-or m.ib _ (same m In Bd) (Decides-or m.bi m.bb (same m Bd In) (same m Bd Bd))) (Decides-not m.ii (same m In In))).0 h).1 (insides_meet (Set m) s.0 s.1 s.3 s.2))
      (λ h. h.1 (insides_meet (λ i j. Meets i j a b) s.0 s.1 s.3 (d.met s.0 s.1 s.2)))
  by-all Touches m u d (inr all) =
      let e = exact Touches m u d all in
      Decides-and _ _ (Decides-or m.ib _ (e In Bd refl) (Decides-or m.bi m.bb (e Bd In refl) (e Bd Bd refl))) (Decides-not m.ii (e In In refl))

  pub settled : (pred : Pred) (m : Matrix) → SpeaksWithin pred box a b → IsDecided box.ymin box.ymax (deciding pred) a b m → IsTrue (fits pred m) ↔ Relates pred a b
  settled pred m u d = by-all pred m u d d.all
