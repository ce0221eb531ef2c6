-- Traces in which nobody waits in a circle: nobody waits, or one session waits for another that waits for nobody.
use Rattle.std.proofs.Common.{◌≡◌, ◌≢◌, ℕ, zero, suc, Bool, true, false, ◌||◌, List, [], ◌∷◌, eqb, refl, subst, inl, inr}
use Rattle.std.proofs.lemmas.Bool.{eqb-true, or_cases}
use Rattle.sg_modes.specs.Sessions.{has_session}
use Rattle.sg_modes.specs.Waits.{NoCycle, Chain}

pub no_waits : (f : ℕ → List ℕ) (s : ℕ) → f s ≡ [] → NoCycle f s
no_waits f s e y n m l = let q : has_session [] y ≡ true = subst (λ xs. has_session xs y ≡ true) e m in absurd (cc)

pub one_wait : (f : ℕ → List ℕ) (s u : ℕ) → f s ≡ u ∷ [] → f u ≡ [] → u ≢ s → NoCycle f s
one_wait f s u e free ne y n m l =
    let q : (eqb y u || false) ≡ true = subst (λ xs. has_session xs y ≡ true) e m in
    elim (or_cases (eqb y u) false q) [ inl h ↦ ends n (subst (λ v. Chain f n v s) (eqb-true y u h) l) | inr h ↦ absurd (cc) ]
  where
    ends : (n : ℕ) → Chain f n u s → ⊥
    ends zero l = ne l
    ends (suc n) l = let q : has_session [] l.0 ≡ true = subst (λ xs. has_session xs l.0 ≡ true) free l.1 in cc
