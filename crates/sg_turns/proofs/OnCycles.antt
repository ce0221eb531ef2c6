-- Each member of a cycle of waits waits, by a chain, for itself.
use Rattle.std.proofs.Common.{◌≡◌, ℕ, zero, suc, Bool, true, false, ◌||◌, List, [], ◌∷◌, eqb, refl, sym, ◌∙◌, subst, eqb-true}
use Rattle.sg_modes.specs.Sessions.{has_session}
use Rattle.sg_modes.specs.Waits.{Chain, IsNextMember, AreNextMembers, IsCycle}
use Rattle.sg_trace.specs.Traces.{Stage, Event}
use Rattle.sg_trace.specs.Legal.{IsChosen, waits, last_waiter}
use Rattle.sg_turns.specs.Claims.{AreOnCycles}

-- x leads to z
abbrev Leads : (ℕ → List ℕ) → ℕ → ℕ → Type 0
Leads f x z = (n : ℕ) × Chain f n x z

-- chains that meet are one
joined : (f : ℕ → List ℕ) (n : ℕ) (x y z : ℕ) → Chain f n x y → Leads f y z → Leads f x z
joined f zero x y z a b = subst (λ (v : ℕ). Leads f v z) (sym a) b
joined f (suc n) x y z a b = let r = joined f n a.0 y z a.2 b in (suc r.0, (a.0, a.1, r.1))

-- the chain on which u comes back to itself
abbrev Returns : (ℕ → List ℕ) → ℕ → Type 0
Returns f u = (n : ℕ) × Chain f (suc n) u u

-- x is reached from s, and what comes after it leads to s
around : (f : ℕ → List ℕ) (s x y : ℕ) → Leads f s x → IsNextMember f s x y → Returns f x
around f s x y to a = let r = joined f a.steps y s x a.leads.chain to in (r.0, (y, a.waits, r.1))

members : (f : ℕ → List ℕ) (s x : ℕ) (ys : List ℕ) → Leads f s x → AreNextMembers f s x ys → (u : ℕ) → has_session (x ∷ ys) u ≡ true → Returns f u
members f s x [] to h u e = go (eqb u x) refl e
  where
    go : (b : Bool) → eqb u x ≡ b → (b || false) ≡ true → Returns f u
    go true q e = subst (λ (v : ℕ). Returns f v) (sym (eqb-true u x q)) (around f s x s to h)
    go false q e = absurd (cc)
members f s x (y ∷ ys) to h u e =
    let further : Leads f s y = joined f to.0 s x y to.1 (1, (y, h.0.waits, refl)) in
    go (members f s y ys further h.2 u) (eqb u x) refl e
  where
    go : (has_session (y ∷ ys) u ≡ true → Returns f u) → (b : Bool) → eqb u x ≡ b → (b || has_session (y ∷ ys) u) ≡ true → Returns f u
    go rest true q e = subst (λ (v : ℕ). Returns f v) (sym (eqb-true u x q)) (around f s x y to h.0)
    go rest false q e = rest e

of_cycle : (f : ℕ → List ℕ) (s : ℕ) (order : List ℕ) → IsCycle f s order → (u : ℕ) → has_session order u ≡ true → Returns f u
of_cycle f s [] h u e = absurd (cc)
of_cycle f s (x ∷ xs) h u e = members f s x xs (0, sym h.0) (subst (λ (v : ℕ). AreNextMembers f s v xs) (sym h.0) h.1) u e

pub on_cycles : (w : Stage) (es : List Event) (v : ℕ) (c : List ℕ) → IsChosen w es v c → AreOnCycles es c
on_cycles w es v c h u e = of_cycle (waits es) (last_waiter es) h.is_cycle.order h.is_cycle.cycle u (sym (h.is_cycle.members u) ∙ e)
