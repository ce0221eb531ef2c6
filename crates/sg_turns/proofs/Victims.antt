-- A victim is live; what a held key meets; and the first need that isn't met isn't.
use Rattle.std.proofs.Common.{◌≡◌, ℕ, Bool, true, false, cond, ◌&&◌, ◌||◌, ◌⊎◌, List, [], ◌∷◌, Some, refl, sym, ap, ◌∙◌, subst, inl, inr}
use Rattle.std.proofs.lemmas.Bool.{and_from}
use Rattle.sg_cells.specs.Laws.{Has}
use Rattle.sg_cells.specs.declared.keys.Key.{Key}
use Rattle.sg_modes.specs.declared.modes.Mode.{Mode}
use Rattle.sg_modes.specs.Sessions.{has_session}
use Rattle.sg_plain.specs.declared.statements.Statement.{Statement}
use Rattle.sg_trace.specs.Keys.{same_key}
use Rattle.sg_trace.specs.Needs.{Held, Need, holds_by, is_met, first_unmet}
use Rattle.sg_trace.specs.Traces.{Local, Stage, Event, state}
use Rattle.sg_trace.specs.Legal.{IsLegal, IsChosen, waits}
use Rattle.sg_laws.proofs.Present.{same_key_refl}
use Rattle.sg_turns.proofs.Cycles.{chosen_waits}
use Rattle.sg_turns.proofs.Driven.{waits_open}

-- a needed mode meets itself, but for RangeX-X and RangeI-N, which no need names
pub holds_all : (p : Mode → Bool) (hs : List Held) (k : Key) (m : Mode) → Has hs (k, m) → p m ≡ true → holds_by p hs k ≡ true
holds_all p [] k m h e = absurd h
holds_all p (a ∷ hs) k m (inl q) e =
    let t = same_key_refl k in
    let here : (same_key a.0 k && p a.1) ≡ true = subst (λ (r : Held). (same_key r.0 k && p r.1) ≡ true) (sym q) (and_from (same_key k k) (p m) t e) in
    rw here refl
holds_all p (a ∷ hs) k m (inr i) e = let t = holds_all p hs k m i e in rw t (go (same_key a.0 k && p a.1))
  where
    go : (b : Bool) → (b || true) ≡ true
    go true = refl
    go false = refl

pub first_is_unmet : (x : Local) (ns : List Need) (n : Need) → first_unmet x.held ns ≡ Some n → is_met x.held n ≡ false
first_is_unmet x [] n e = cc
first_is_unmet x (y ∷ ys) n e = go (first_is_unmet x ys n) (is_met x.held y) refl e
  where
    go : (first_unmet x.held ys ≡ Some n → is_met x.held n ≡ false) → (b : Bool) → is_met x.held y ≡ b → cond b (first_unmet x.held ys) (Some y) ≡ Some n → is_met x.held n ≡ false
    go ih true q e = ih e
    go ih false q e = let e' : y ≡ n = cc in subst (λ z. is_met x.held z ≡ false) e' q

-- a victim waits, and so it is live
pub victim_live : (w : Stage) (ls : List Event) → IsLegal w ls → (v : ℕ) (c : List ℕ) → IsChosen w ls v c → ((state w ls).of v).live ≡ true
victim_live w ls l v c h = go (waits_open w ls l v)
  where
    go : (waits ls v ≡ []) ⊎ ((((state w ls).of v).live ≡ true) × ((st : Statement) × (((state w ls).of v).open_one ≡ Some st))) → ((state w ls).of v).live ≡ true
    go (inl e) = let y = chosen_waits w ls v c h in absurd (let t : false ≡ true = ap (λ xs. has_session xs y.0) (sym e) ∙ y.1 in cc)
    go (inr o) = o.0
