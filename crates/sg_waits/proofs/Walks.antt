-- The walk along the cycle.
use Rattle.std.proofs.Common.{ℕ, ◌≡◌, ◌≤◌, arith, refl, sym, ap, ◌∙◌, subst, Bool, true, false, suc, List, [], ◌∷◌, eqb, eqb-true, eq-eqb, Some, None, slice_get, filter}
use mathlib.Core.Bool.{◌||◌}
use Rattle.std.specs.List.{list_any}
use Rattle.sg_modes.proofs.BoolLaws.{clash, or_none}
use Rattle.sg_modes.specs.Sessions.{IsSession, AreSessions, has_session, with_session}
use Rattle.sg_modes.proofs.SessionLaws.{has_session-with, AreSessions-with, member_is_session}
use Rattle.sg_modes.specs.Waits.{AreNextMembers, IsCycle, IsCycleSet}
use Rattle.sg_waits.specs.Search.{within, Layer, Ahead}
use Rattle.sg_waits.proofs.Finds.{Found, any_found, Least, least_first, first_in, first_none, filter_none}
use Rattle.sg_waits.proofs.Chains.{next_is, ahead_more, ahead_other, layer_any}

-- a cycle whose members are those and these
pub record Whole (f : ℕ → List ℕ) (s : ℕ) (members ys : List ℕ) : Type 0 where
  pub order : List ℕ
  pub cycle : IsCycle f s order
  pub both : (n : ℕ) → has_session order n ≡ (has_session members n || has_session ys n)

-- whatever completes the cycle from here completes it with the members so far
pub record Way (f : ℕ → List ℕ) (s steps : ℕ) (members : List ℕ) (at left : ℕ) : Type 0 where
  pub set : AreSessions members
  pub few : left ≤ steps
  pub ahead : Ahead f s at left
  pub completes : (ys : List ℕ) → AreNextMembers f s at ys → Whole f s members ys

pub way_first : (f : ℕ → List ℕ) (s steps : ℕ) (members : List ℕ) → IsSession s → members ≡ with_session [] s → Ahead f s s steps → Way f s steps members s steps
way_first f s steps members h e a = subst (λ (ns : List ℕ). Way f s steps ns s steps) (sym e) (record {
  set = AreSessions-with [] s tt h;
  few = omega arith;
  ahead = a;
  completes = λ ys n. record { order = s ∷ ys; cycle = (refl, n); both = λ n. ap (λ (b : Bool). b || has_session ys n) (sym (or_none (eqb n s))) };
})

least_in_layer : (f : ℕ → List ℕ) (s at n y : ℕ) (layer : List ℕ) → Layer f s n layer → AreSessions (filter (λ z. has_session layer z) (f at)) → slice_get (filter (λ z. has_session layer z) (f at)) 0 ≡ Some y → Least (within f s n) (f at) y
least_in_layer f s at n y layer l h e = let m : Least (λ z. has_session layer z) (f at) y = least_first (λ z. has_session layer z) (f at) y h e in
    record { is_in = m.is_in; holds = sym (l.is y) ∙ m.holds; least = λ z i k. m.least z i (l.is z ∙ k) }

pub way_more : (f : ℕ → List ℕ) (s steps : ℕ) (members more : List ℕ) (at left rest y : ℕ) (layer : List ℕ) → left ≡ suc rest → Way f s steps members at left → Layer f s left layer → AreSessions (filter (λ z. has_session layer z) (f at)) →
    slice_get (filter (λ z. has_session layer z) (f at)) 0 ≡ Some y → more ≡ with_session members y → Way f s steps more y rest
way_more f s steps members more at left rest y layer q w l h e m =
    subst (λ (ns : List ℕ). Way f s steps ns y rest) (sym m)
    (go (subst (λ (n : ℕ). Way f s steps members at n) q w) (subst (λ (n : ℕ). Least (within f s n) (f at) y) q (least_in_layer f s at left y layer l h e)))
  where
    turn : (a b c : Bool) → (a || (b || c)) ≡ ((b || a) || c)
    turn true true c = refl
    turn true false c = refl
    turn false true c = refl
    turn false false c = refl

    go : Way f s steps members at (suc rest) → Least (within f s (suc rest)) (f at) y → Way f s steps (with_session members y) y rest
    go w m = record {
      set = AreSessions-with members y w.set (member_is_session (filter (λ z. has_session layer z) (f at)) y h (first_in (filter (λ z. has_session layer z) (f at)) y e));
      few = (let b : suc rest ≤ steps = w.few in omega arith);
      ahead = ahead_more f s at rest y w.ahead m.is_in m.holds;
      completes = λ ys n. let o : Whole f s members (y ∷ ys) = w.completes (y ∷ ys) (next_is f s at (suc rest) y w.ahead m, ahead_other f s at rest y w.ahead m.is_in, n) in
          record {
            order = o.order;
            cycle = o.cycle;
            both = λ n. o.both n ∙ turn (has_session members n) (eqb n y) (has_session ys n) ∙ ap (λ (b : Bool). b || has_session ys n) (sym (has_session-with members y n));
          };
    }

-- there is a next member
pub way_next : (f : ℕ → List ℕ) (s steps : ℕ) (members : List ℕ) (at left : ℕ) (layer : List ℕ) → Way f s steps members at left → Layer f s left layer → slice_get (filter (λ z. has_session layer z) (f at)) 0 ≡ None → ⊥
way_next f s steps members at left layer w l e =
    clash (list_any (within f s left) (f at)) w.ahead.leads (sym (layer_any f s left layer l at) ∙ filter_none (λ z. has_session layer z) (f at) (first_none (filter (λ z. has_session layer z) (f at)) e))

pub way_last : (f : ℕ → List ℕ) (s steps : ℕ) (members : List ℕ) (at left : ℕ) → left ≡ 0 → Way f s steps members at left → IsCycleSet f s members
way_last f s steps members at left q w = go (subst (λ (n : ℕ). Way f s steps members at n) q w)
  where
    go : Way f s steps members at 0 → IsCycleSet f s members
    go w = let y : Found (within f s 0) (f at) = any_found (within f s 0) (f at) w.ahead.leads in
        let e : y.member ≡ s = eqb-true y.member s y.holds in
        let o : Whole f s members [] = w.completes [] (next_is f s at 0 s w.ahead (record {
          is_in = subst (λ (z : ℕ). has_session (f at) z ≡ true) e y.is_in;
          holds = eq-eqb s s refl;
          least = λ z i k. let r : z ≡ s = eqb-true z s k in omega arith;
        })) in
        record { order = o.order; cycle = o.cycle; members = λ n. sym (or_none (has_session members n)) ∙ sym (o.both n) }
