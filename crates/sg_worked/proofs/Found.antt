-- Rows of which none intersects the point (5, 5).
use Rattle.std.proofs.Common.{◌≡◌, ℕ, Bool, true, false, cond, List, [], ◌∷◌, eqb, ◌<◌, refl, pos, Some, None, arith, ℤ}
use Rattle.std.specs.Prelude.{Contains, IsSomeAnd}
use Rattle.sg_shape.specs.declared.shapes.Shape.{Shape}
use Rattle.sg_shape.specs.declared.matrices.Pred.TheVariants.{Intersects}
use Rattle.sg_plane.specs.Decisions.{related, meets}
use Rattle.sg_plane.proofs.Decided.{related-iff}
use Rattle.sg_plain.specs.Rows.{Rows, IsKeysWith, shape_at}
use Rattle.sg_plain.specs.Sat.{Satisfies}
use Rattle.sg_worked.specs.Worked.{at, near_five}

no_key : (k : ℕ) → Contains [] k → ⊥
no_key k c = let l : c.0 < 0 = c.1 in omega arith

pub nothing_found : IsKeysWith (Satisfies near_five) [] []
nothing_found = record { rising = tt; each = λ k. ((λ c. absurd (no_key k c)), λ h. absurd h) }

apart_0 : related Intersects (at (pos 0)) (at (pos 5)) ≡ false
unfolding at meets
apart_0 = refl

apart_6 : related Intersects (at (pos 6)) (at (pos 5)) ≡ false
unfolding at meets
apart_6 = refl

far_0 : Satisfies near_five (at (pos 0)) → ⊥
far_0 h = let t : related Intersects (at (pos 0)) (at (pos 5)) ≡ true = (related-iff Intersects (at (pos 0)) (at (pos 5))).1 h in let f = apart_0 in cc

far_6 : Satisfies near_five (at (pos 6)) → ⊥
far_6 h = let t : related Intersects (at (pos 6)) (at (pos 5)) ≡ true = (related-iff Intersects (at (pos 6)) (at (pos 5))).1 h in let f = apart_6 in cc

one_of : (b : Bool) → IsSomeAnd (cond b (Some (at (pos 0))) None) (Satisfies near_five) → ⊥
one_of true h = far_0 h
one_of false h = h

two_of : (a b : Bool) → IsSomeAnd (cond a (Some (at (pos 6))) (cond b (Some (at (pos 0))) None)) (Satisfies near_five) → ⊥
two_of true b h = far_6 h
two_of false b h = one_of b h

pub none_of_nine : IsKeysWith (Satisfies near_five) ((9, at (pos 0)) ∷ []) []
unfolding near_five
none_of_nine = record { rising = tt; each = λ k. ((λ c. absurd (no_key k c)), λ h. absurd (one_of (eqb 9 k) h)) }

pub none_of_both : IsKeysWith (Satisfies near_five) ((6, at (pos 6)) ∷ (9, at (pos 0)) ∷ []) []
unfolding near_five
none_of_both = record { rising = tt; each = λ k. ((λ c. absurd (no_key k c)), λ h. absurd (two_of (eqb 6 k) (eqb 9 k) h)) }
