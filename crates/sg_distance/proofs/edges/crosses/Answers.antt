use Rattle.std.proofs.Common.{◌≡◌, sym, ◌∙◌, refl, Bool, true, false, ℤ}
use Rattle.sg_distance.proofs.Fitting.{clean}
use mathlib.Core.Bool.{◌&&◌, not}
use Rattle.sg_distance.specs.Edges.{one_side, two_sides}
use Rattle.sg_segment.specs.Sides.{cross}
use Rattle.sg_distance.proofs.edges.crosses.Goals as goal

together_is : (r : Bool) (z w z' w' : ℤ) → r ≡ one_side z' w' → z' ≡ z → w' ≡ w → (b : Bool) → r ≡ b → one_side z w ≡ b
together_is r z w z' w' e f g b h = rw (← f, ← g) (sym e ∙ h)

joined : (r : Bool) (x y : ℤ) (x' y' : ℤ) (t : Bool) → r ≡ two_sides x' y' → x' ≡ x → y' ≡ y → t ≡ false → r ≡ (two_sides x y && not t)
joined r x y x' y' t e f g h = rw (h, ← f, ← g, e) (and_true (two_sides x' y'))
  where
    and_true : (b : Bool) → b ≡ (b && true)
    and_true true = refl
    and_true false = refl

none : (s t : Bool) → t ≡ true → false ≡ (s && not t)
none true t e = rw e refl
none false t e = refl

pub returns-then-together : goal.returns-then-together
returns-then-together c =
    none (two_sides (cross c.args.e.from c.args.e.to c.args.f.from) (cross c.args.e.from c.args.e.to c.args.f.to)) (one_side (cross c.args.f.from c.args.f.to c.args.e.from) (cross c.args.f.from c.args.f.to c.args.e.to))
    (together_is c.together.result (cross c.args.f.from c.args.f.to c.args.e.from) (cross c.args.f.from c.args.f.to c.args.e.to) _ _ c.together.ensures
    (clean c.orient.result (cross c.args.f.from c.args.f.to c.args.e.from) (record { sfits = c.orient.type_inv }) c.orient.ensures.value)
    (clean c.orient-2.result (cross c.args.f.from c.args.f.to c.args.e.to) (record { sfits = c.orient-2.type_inv }) c.orient-2.ensures.value) true c.if-together.true)

pub returns : goal.returns
returns c =
    joined c.apart.result (cross c.args.e.from c.args.e.to c.args.f.from) (cross c.args.e.from c.args.e.to c.args.f.to) _ _ (one_side (cross c.args.f.from c.args.f.to c.args.e.from) (cross c.args.f.from c.args.f.to c.args.e.to))
    c.apart.ensures
    (clean c.orient-3.result (cross c.args.e.from c.args.e.to c.args.f.from) (record { sfits = c.orient-3.type_inv }) c.orient-3.ensures.value)
    (clean c.orient-4.result (cross c.args.e.from c.args.e.to c.args.f.to) (record { sfits = c.orient-4.type_inv }) c.orient-4.ensures.value)
    (together_is c.together.result (cross c.args.f.from c.args.f.to c.args.e.from) (cross c.args.f.from c.args.f.to c.args.e.to) _ _ c.together.ensures
    (clean c.orient.result (cross c.args.f.from c.args.f.to c.args.e.from) (record { sfits = c.orient.type_inv }) c.orient.ensures.value)
    (clean c.orient-2.result (cross c.args.f.from c.args.f.to c.args.e.to) (record { sfits = c.orient-2.type_inv }) c.orient-2.ensures.value) false c.if-together.false)
