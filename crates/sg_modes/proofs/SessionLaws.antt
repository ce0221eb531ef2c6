-- Laws of sets of sessions.
use Rattle.std.specs.Prelude.{◌≡◌, ℕ, ◌<◌, ◌≤◌, Bool, true, false, not, ◌&&◌, ◌||◌, ◌⊎◌, cond, List, [], ◌∷◌, eqb, ltb, refl, Some, slice_get, filter}
use Rattle.std.proofs.Common.{sym, ap, ◌∙◌, subst, inl, inr, arith, eqb-true, eq-eqb}
use Rattle.sg_modes.specs.Sessions.{IsSession, RisingAbove, AreSessions, has_session, with_session, without_session}
use Rattle.sg_modes.proofs.BoolLaws.{true_or_false, clash, either, or_left, or_swap, or_same, ne-eqb, eqb-false, ltb-lt, ltb-le, by_test}

-- a set above a number is above each lower number
pub RisingAbove-lower : (ns : List ℕ) (low least : ℕ) → RisingAbove low ns → least ≤ low → RisingAbove least ns
RisingAbove-lower [] low least h l = tt
RisingAbove-lower (n ∷ ns) low least h l = let a : low < n = h.0 in (omega arith, h.1, h.2)

-- a member lies within the bounds
pub has_session-bounds : (ns : List ℕ) (low s : ℕ) → RisingAbove low ns → has_session ns s ≡ true → (low < s) × (s ≤ 64)
has_session-bounds [] low s h e = absurd (cc)
has_session-bounds (n ∷ ns) low s h e = elim (either (eqb s n) (has_session ns s) e) [
  | inl t ↦ let q : s ≡ n = eqb-true s n t in let a : low < n = h.0 in let b : n ≤ 64 = h.1 in (omega arith, omega arith)
  | inr t ↦ has_session-bounds ns low s (let a : low < n = h.0 in RisingAbove-lower ns n low h.2 (omega arith)) t
]

-- each member is a session
pub member_is_session : (ns : List ℕ) (s : ℕ) → AreSessions ns → has_session ns s ≡ true → IsSession s
member_is_session ns s h e = let b = has_session-bounds ns 0 s h e in let l : 0 < s = b.0 in (omega arith, b.1)

pub has_session-below : (ns : List ℕ) (low s : ℕ) → RisingAbove low ns → s ≤ low → has_session ns s ≡ false
has_session-below ns low s h l = elim (true_or_false (has_session ns s)) [
  | inr f ↦ f
  | inl t ↦ absurd (let b = has_session-bounds ns low s h t in let m : low < s = b.0 in omega arith)
]

head_is : (n : ℕ) (ns : List ℕ) → has_session (n ∷ ns) n ≡ true
head_is n ns = or_left (eqb n n) (has_session ns n) (eq-eqb n n refl)

-- two sets with the same members are one
pub same_sessions : (ns ms : List ℕ) (low : ℕ) → RisingAbove low ns → RisingAbove low ms → ((s : ℕ) → low < s → s ≤ 64 → has_session ns s ≡ has_session ms s) → ns ≡ ms
same_sessions [] [] low h k e = refl
same_sessions [] (m ∷ ms) low h k e = absurd (clash (has_session (m ∷ ms) m) (head_is m ms) (sym (e m k.0 k.1)))
same_sessions (n ∷ ns) [] low h k e = absurd (clash (has_session (n ∷ ns) n) (head_is n ns) (e n h.0 h.1))
same_sessions (n ∷ ns) (m ∷ ms) low h k e = elim (apart n m) [
  | inl q ↦ joined q (same_sessions ns ms n h.2 (subst (λ (z : ℕ). RisingAbove z ms) (sym q) k.2) (rest q))
  | inr (inl l) ↦ absurd (clash (has_session (m ∷ ms) n) (sym (e n h.0 h.1) ∙ head_is n ns) (missing n m ms l k.2))
  | inr (inr l) ↦ absurd (clash (has_session (n ∷ ns) m) (e m k.0 k.1 ∙ head_is m ms) (missing m n ns l h.2))
]
  where
    apart : (n m : ℕ) → (n ≡ m) ⊎ ((n < m) ⊎ (m < n))
    apart n m = grind arith

    missing : (n m : ℕ) (ms : List ℕ) → n < m → RisingAbove m ms → has_session (m ∷ ms) n ≡ false
    missing n m ms l h = rw (ne-eqb n m (omega arith)) (has_session-below ms m n h (omega arith))

    joined : n ≡ m → ns ≡ ms → (n ∷ ns) ≡ (m ∷ ms)
    joined q r = cc

    rest : n ≡ m → (s : ℕ) → n < s → s ≤ 64 → has_session ns s ≡ has_session ms s
    rest q s l b = let a : low < n = h.0 in
        sym (later n ns s l) ∙ e s (omega arith) b ∙ subst (λ (z : ℕ). has_session (z ∷ ms) s ≡ has_session ms s) q (later n ms s l)
      where
        later : (n : ℕ) (ns : List ℕ) (s : ℕ) → n < s → has_session (n ∷ ns) s ≡ has_session ns s
        later n ns s l = rw (ne-eqb s n (omega arith)) refl

-- ---- one session more
pub has_session-with : (ns : List ℕ) (s n : ℕ) → has_session (with_session ns s) n ≡ (eqb n s || has_session ns n)
has_session-with [] s n = refl
has_session-with (m ∷ ns) s n =
    by_test (λ ks. has_session ks n ≡ (eqb n s || has_session (m ∷ ns) n)) (ltb s m) (s ∷ m ∷ ns) (cond (eqb s m) (m ∷ ns) (m ∷ with_session ns s)) (λ t. refl)
    (λ f. by_test (λ ks. has_session ks n ≡ (eqb n s || has_session (m ∷ ns) n)) (eqb s m) (m ∷ ns) (m ∷ with_session ns s)
    (λ t. let q : s ≡ m = eqb-true s m t in subst (λ (z : ℕ). has_session (m ∷ ns) n ≡ (eqb n z || has_session (m ∷ ns) n)) (sym q) (sym (or_same (eqb n m) (has_session ns n))))
    (λ g. ap (λ b. eqb n m || b) (has_session-with ns s n) ∙ or_swap (eqb n m) (eqb n s) (has_session ns n)))

pub RisingAbove-with : (ns : List ℕ) (low s : ℕ) → RisingAbove low ns → low < s → s ≤ 64 → RisingAbove low (with_session ns s)
RisingAbove-with [] low s h l b = (l, b, tt)
RisingAbove-with (m ∷ ns) low s h l b =
    by_test (λ ks. RisingAbove low ks) (ltb s m) (s ∷ m ∷ ns) (cond (eqb s m) (m ∷ ns) (m ∷ with_session ns s)) (λ t. (l, b, (ltb-lt s m t, h.1, h.2)))
    (λ f. by_test (λ ks. RisingAbove low ks) (eqb s m) (m ∷ ns) (m ∷ with_session ns s) (λ t. h)
    (λ g. (h.0, h.1, RisingAbove-with ns m s h.2 (after s m (ltb-le s m f) (eqb-false s m g)) b)))
  where
    after : (s m : ℕ) → m ≤ s → (s ≡ m → ⊥) → m < s
    after s m l n = grind arith

pub AreSessions-with : (ns : List ℕ) (s : ℕ) → AreSessions ns → IsSession s → AreSessions (with_session ns s)
AreSessions-with ns s h k = let l : 1 ≤ s = k.0 in RisingAbove-with ns 0 s h (omega arith) k.1

-- ---- one session less
pub has_session-without : (ns : List ℕ) (low s n : ℕ) → RisingAbove low ns → has_session (without_session ns s) n ≡ (not (eqb n s) && has_session ns n)
has_session-without [] low s n h = sym (and_none (not (eqb n s)))
  where
    and_none : (b : Bool) → (b && false) ≡ false
    and_none true = refl
    and_none false = refl
has_session-without (m ∷ ns) low s n h =
    by_test (λ ks. has_session ks n ≡ (not (eqb n s) && has_session (m ∷ ns) n)) (eqb s m) ns (m ∷ without_session ns s)
    (λ t. let q : s ≡ m = eqb-true s m t in subst (λ (z : ℕ). has_session ns n ≡ (not (eqb n z) && has_session (m ∷ ns) n)) (sym q) (gone (eqb n m) (λ e. has_session-below ns m n h.2 (let o : n ≡ m = eqb-true n m e in omega arith))))
    (λ f. ap (λ b. eqb n m || b) (has_session-without ns m s n h.2) ∙ kept (eqb n m) (eqb n s) (has_session ns n) (λ e. ap not (ne-eqb n s (λ o. eqb-false s m f (sym o ∙ eqb-true n m e)))))
  where
    gone : (b : Bool) → (b ≡ true → has_session ns n ≡ false) → has_session ns n ≡ (not b && (b || has_session ns n))
    gone true f = f refl
    gone false f = refl

    kept : (a b c : Bool) → (a ≡ true → not b ≡ true) → (a || (not b && c)) ≡ (not b && (a || c))
    kept true b c f = rw (f refl) refl
    kept false b c f = refl

pub RisingAbove-without : (ns : List ℕ) (low s : ℕ) → RisingAbove low ns → RisingAbove low (without_session ns s)
RisingAbove-without [] low s h = tt
RisingAbove-without (m ∷ ns) low s h =
    by_test (λ ks. RisingAbove low ks) (eqb s m) ns (m ∷ without_session ns s) (λ t. let a : low < m = h.0 in RisingAbove-lower ns m low h.2 (omega arith))
    (λ f. (h.0, h.1, RisingAbove-without ns m s h.2))

pub AreSessions-without : (ns : List ℕ) (s : ℕ) → AreSessions ns → AreSessions (without_session ns s)
AreSessions-without ns s h = RisingAbove-without ns 0 s h

-- ---- the sessions that pass a test
pub has_session-filter : (p : ℕ → Bool) (ns : List ℕ) (n : ℕ) → has_session (filter p ns) n ≡ (has_session ns n && p n)
has_session-filter p [] n = refl
has_session-filter p (m ∷ ns) n = by_test (λ ks. has_session ks n ≡ (has_session (m ∷ ns) n && p n)) (p m) (m ∷ filter p ns) (filter p ns)
    (λ t. ap (λ b. eqb n m || b) (has_session-filter p ns n) ∙ taken (eqb n m) (has_session ns n) (p n) (λ e. ap p (eqb-true n m e) ∙ t))
    (λ f. has_session-filter p ns n ∙ left (eqb n m) (has_session ns n) (p n) (λ e. ap p (eqb-true n m e) ∙ f))
  where
    taken : (a b c : Bool) → (a ≡ true → c ≡ true) → (a || (b && c)) ≡ ((a || b) && c)
    taken true b c f = sym (f refl)
    taken false b c f = refl

    left : (a b c : Bool) → (a ≡ true → c ≡ false) → (b && c) ≡ ((a || b) && c)
    left true b c f = rw (f refl) (and_none b)
      where
        and_none : (b : Bool) → (b && false) ≡ false
        and_none true = refl
        and_none false = refl
    left false b c f = refl

pub RisingAbove-filter : (p : ℕ → Bool) (ns : List ℕ) (low : ℕ) → RisingAbove low ns → RisingAbove low (filter p ns)
RisingAbove-filter p [] low h = tt
RisingAbove-filter p (m ∷ ns) low h = by_test (λ ks. RisingAbove low ks) (p m) (m ∷ filter p ns) (filter p ns) (λ t. (h.0, h.1, RisingAbove-filter p ns m h.2))
    (λ f. let a : low < m = h.0 in RisingAbove-lower (filter p ns) m low (RisingAbove-filter p ns m h.2) (omega arith))

-- the set is its first session and the rest
pub without_first : (ns : List ℕ) (s : ℕ) → slice_get ns 0 ≡ Some s → ns ≡ (s ∷ without_session ns s)
without_first [] s e = absurd (cc)
without_first (n ∷ ns) s e = let q : n ≡ s = cc in
    by_test (λ ks. (n ∷ ns) ≡ (s ∷ ks)) (eqb s n) ns (n ∷ without_session ns s) (λ t. cc) (λ f. absurd (clash (eqb s n) (eq-eqb s n (sym q)) f))
