-- What some, the first or no member of a list passes.
use Rattle.std.proofs.Common.{ℕ, ◌≡◌, ◌≢◌, ◌+◌, ◌<◌, ◌≤◌, arith, refl, sym, ap, ◌∙◌, subst, Bool, true, false, List, [], ◌∷◌, length, eqb, eqb-true, eq-eqb, inl, inr, Some, None, slice_get, filter}
use mathlib.Core.Bool.{◌||◌, ◌&&◌}
use mathlib.Core.Logic.{◌⊎◌}
use Rattle.std.specs.List.{list_any}
use Rattle.sg_modes.proofs.BoolLaws.{true_or_false, clash, or_left, or_right, either, ne-eqb}
use Rattle.sg_modes.specs.Sessions.{RisingAbove, AreSessions, has_session}
use Rattle.sg_modes.proofs.SessionLaws.{has_session-bounds, has_session-filter}

pub has_head : (x : ℕ) (xs : List ℕ) → has_session (x ∷ xs) x ≡ true
has_head x xs = or_left (eqb x x) (has_session xs x) (eq-eqb x x refl)

-- some member passes
pub record Found (p : ℕ → Bool) (xs : List ℕ) : Type 0 where
  pub member : ℕ
  pub is_in : has_session xs member ≡ true
  pub holds : p member ≡ true

pub any_found : (p : ℕ → Bool) (xs : List ℕ) → list_any p xs ≡ true → Found p xs
any_found p [] h = absurd (cc)
any_found p (x ∷ xs) h = elim (either (p x) (list_any p xs) h) [
  | inl t ↦ record { member = x; is_in = has_head x xs; holds = t }
  | inr t ↦ let r : Found p xs = any_found p xs t in record { member = r.member; is_in = or_right (eqb r.member x) (has_session xs r.member) r.is_in; holds = r.holds }
]

pub any_here : (p : ℕ → Bool) (xs : List ℕ) (y : ℕ) → has_session xs y ≡ true → p y ≡ true → list_any p xs ≡ true
any_here p [] y h e = h
any_here p (x ∷ xs) y h e = elim (either (eqb y x) (has_session xs y) h) [
  | inl l ↦ or_left (p x) (list_any p xs) (subst (λ (z : ℕ). p z ≡ true) (eqb-true y x l) e)
  | inr r ↦ or_right (p x) (list_any p xs) (any_here p xs y r e)
]

pub same_any : (p q : ℕ → Bool) → ((y : ℕ) → p y ≡ q y) → (xs : List ℕ) → list_any p xs ≡ list_any q xs
same_any p q e [] = refl
same_any p q e (x ∷ xs) = both (e x) (same_any p q e xs)
  where
    both : {a b c d : Bool} → a ≡ c → b ≡ d → (a || b) ≡ (c || d)
    both {a} {b} {c} {d} e f = rw (e, f) refl

-- the members that pass are none exactly where no member passes
pub filter_none : (p : ℕ → Bool) (xs : List ℕ) → filter p xs ≡ [] → list_any p xs ≡ false
filter_none p xs e = elim (true_or_false (list_any p xs)) [
  | inr f ↦ f
  | inl t ↦ absurd (let r : Found p xs = any_found p xs t in
      clash (has_session (filter p xs) r.member) (has_session-filter p xs r.member ∙ both r.is_in r.holds) (ap (λ (ns : List ℕ). has_session ns r.member) e))
]
  where
    both : {a b : Bool} → a ≡ true → b ≡ true → (a && b) ≡ true
    both {a} {b} e f = rw (e, f) refl

pub filter_some : (p : ℕ → Bool) (xs : List ℕ) → filter p xs ≢ [] → list_any p xs ≡ true
filter_some p xs n = go (filter p xs) refl n
  where
    pass : (y : ℕ) → has_session (filter p xs) y ≡ true → (has_session xs y ≡ true) × (p y ≡ true)
    pass y h = parts (has_session xs y) (p y) (sym (has_session-filter p xs y) ∙ h)
      where
        parts : (a b : Bool) → (a && b) ≡ true → (a ≡ true) × (b ≡ true)
        parts true b e = (refl, e)
        parts false b e = absurd (cc)

    go : (ns : List ℕ) → filter p xs ≡ ns → ns ≢ [] → list_any p xs ≡ true
    go [] e n = absurd (n refl)
    go (y ∷ ns) e n = let r = pass y (ap (λ (ks : List ℕ). has_session ks y) e ∙ has_head y ns) in any_here p xs y r.0 r.1

-- the least member that passes
pub record Least (p : ℕ → Bool) (xs : List ℕ) (y : ℕ) : Type 0 where
  pub is_in : has_session xs y ≡ true
  pub holds : p y ≡ true
  pub least : (z : ℕ) → has_session xs z ≡ true → p z ≡ true → y ≤ z

first_least : (ns : List ℕ) (y z : ℕ) → AreSessions ns → slice_get ns 0 ≡ Some y → has_session ns z ≡ true → y ≤ z
first_least [] y z h e m = absurd (cc)
first_least (n ∷ ns) y z h e m = let q : n ≡ y = cc in elim (either (eqb z n) (has_session ns z) m) [
  | inl t ↦ let r : z ≡ n = eqb-true z n t in omega arith
  | inr t ↦ let b = has_session-bounds ns n z h.2 t in let l : n < z = b.0 in omega arith
]

pub first_in : (ns : List ℕ) (y : ℕ) → slice_get ns 0 ≡ Some y → has_session ns y ≡ true
first_in [] y e = absurd (cc)
first_in (n ∷ ns) y e = let q : n ≡ y = cc in subst (λ (z : ℕ). has_session (n ∷ ns) z ≡ true) q (has_head n ns)

pub least_first : (p : ℕ → Bool) (xs : List ℕ) (y : ℕ) → AreSessions (filter p xs) → slice_get (filter p xs) 0 ≡ Some y → Least p xs y
least_first p xs y h e = let r = parts (has_session xs y) (p y) (sym (has_session-filter p xs y) ∙ first_in (filter p xs) y e) in record {
  is_in = r.0;
  holds = r.1;
  least = λ z m k. first_least (filter p xs) y z h e (has_session-filter p xs z ∙ both m k);
}
  where
    parts : (a b : Bool) → (a && b) ≡ true → (a ≡ true) × (b ≡ true)
    parts true b e = (refl, e)
    parts false b e = absurd (cc)

    both : {a b : Bool} → a ≡ true → b ≡ true → (a && b) ≡ true
    both {a} {b} e f = rw (e, f) refl

pub first_none : (ns : List ℕ) → slice_get ns 0 ≡ None → ns ≡ []
first_none [] e = refl
first_none (n ∷ ns) e = absurd (cc)

-- a set within another is that set or shorter
pub grows : (ns ms : List ℕ) (low : ℕ) → RisingAbove low ns → RisingAbove low ms → ((x : ℕ) → has_session ns x ≡ true → has_session ms x ≡ true) → (ns ≡ ms) ⊎ (length ns < length ms)
grows [] [] low h k f = inl refl
grows [] (m ∷ ms) low h k f = inr (omega arith)
grows (n ∷ ns) [] low h k f = absurd (clash (has_session [] n) (f n (has_head n ns)) refl)
grows (n ∷ ns) (m ∷ ms) low h k f = elim (true_or_false (eqb n m)) [
  | inl t ↦ let q : n ≡ m = eqb-true n m t in
      elim (grows ns ms m (subst (λ (z : ℕ). RisingAbove z ns) q h.2) k.2 (λ x i. past x m (let b = has_session-bounds ns n x h.2 i in let l : n < x = b.0 in omega arith) (f x (or_right (eqb x n) (has_session ns x) i)))) [
        | inl e ↦ inl (joined q e)
        | inr l ↦ inr (omega arith)
      ]
  | inr t ↦ let above : m < n = (let b = has_session-bounds ms m n k.2 (rest n m t (f n (has_head n ns))) in b.0) in
      elim (grows (n ∷ ns) ms m (above, h.1, h.2) k.2 (λ x i. past x m (let b : (m < x) × (x ≤ 64) = has_session-bounds (n ∷ ns) m x (above, h.1, h.2) i in b.0) (f x i))) [
        | inl e ↦ inr (let l : length (n ∷ ns) ≡ length ms = ap length e in omega arith)
        | inr l ↦ inr (omega arith)
      ]
]
  where
    rest : (x m : ℕ) → eqb x m ≡ false → has_session (m ∷ ms) x ≡ true → has_session ms x ≡ true
    rest x m e h = subst (λ (b : Bool). (b || has_session ms x) ≡ true) e h

    past : (x m : ℕ) → m < x → has_session (m ∷ ms) x ≡ true → has_session ms x ≡ true
    past x m l h = rest x m (ne-eqb x m (omega arith)) h

    joined : n ≡ m → ns ≡ ms → (n ∷ ns) ≡ (m ∷ ms)
    joined q e = cc

-- a set has at most 64 members
pub few_sessions : (ns : List ℕ) (low : ℕ) → RisingAbove low ns → low ≤ 64 → length ns + low ≤ 64
few_sessions [] low h l = omega arith
few_sessions (n ∷ ns) low h l = let a : low < n = h.0 in let r : length ns + n ≤ 64 = few_sessions ns n h.2 h.1 in omega arith
