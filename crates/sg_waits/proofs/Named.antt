-- Standing waits by the blockers of each session.
use Rattle.std.proofs.Common.{ℕ, ◌≡◌, ◌≢◌, ◌+◌, ◌-◌, ◌<◌, ◌≤◌, arith, refl, sym, ap, ◌∙◌, subst, Bool, true, false, not, cond, zero, suc, List, [], ◌∷◌, length, eqb, eqb-true, eq-eqb, inl, inr, slice_index_or, slice_set, replicate}
use mathlib.Core.Bool.{◌||◌}
use mathlib.Core.Logic.{◌⊎◌}
use Rattle.sg_modes.proofs.BoolLaws.{true_or_false, clash, ne-eqb, eqb-false}
use Rattle.sg_modes.specs.Sessions.{IsSession, has_session}
use Rattle.sg_modes.specs.Waits.{Wait, is_waiting, blockers_of, RisingWaits, AreWaits, with_wait, waits_after}
use Rattle.sg_modes.proofs.WaitLaws.{RisingWaits-lower, blockers_of-below, blockers_of-above, same_waits, blockers_of-with, RisingWaits-with, blockers_of-after, RisingWaits-after, is_waiting-blockers, blockers-is_waiting}
use Rattle.sg_waits.specs.Standing.{standing_above, standing, NamesOthers}

-- the blockers of each session fit: there are at most 64, and none names its own
pub standing-RisingWaits : (named : List (List ℕ)) (low : ℕ) → low + length named ≤ 64 → NamesOthers named low → RisingWaits low (standing_above named low)
standing-RisingWaits [] low h o = tt
standing-RisingWaits ([] ∷ rest) low h o = RisingWaits-lower (standing_above rest (suc low)) (suc low) low (standing-RisingWaits rest (suc low) (omega arith) o.1) (omega arith)
standing-RisingWaits ((b ∷ bs) ∷ rest) low h o = (omega arith, omega arith, (λ e. absurd (cc)), o.0, standing-RisingWaits rest (suc low) (omega arith) o.1)

pub blockers_of-standing_above : (named : List (List ℕ)) (low i : ℕ) → low + length named ≤ 64 → NamesOthers named low → blockers_of (standing_above named low) (suc (low + i)) ≡ slice_index_or named i []
blockers_of-standing_above [] low i h o = refl
blockers_of-standing_above ([] ∷ rest) low zero h o = blockers_of-below (standing_above rest (suc low)) (suc low) (suc (low + 0)) (standing-RisingWaits rest (suc low) (omega arith) o.1) (omega arith)
blockers_of-standing_above ([] ∷ rest) low (suc i) h o = let q : suc (low + suc i) ≡ suc (suc low + i) = omega arith in
    ap (λ (s : ℕ). blockers_of (standing_above rest (suc low)) s) q ∙ blockers_of-standing_above rest (suc low) i (omega arith) o.1
blockers_of-standing_above ((b ∷ bs) ∷ rest) low zero h o = rw (eq-eqb (suc (low + 0)) (suc low) (omega arith)) refl
blockers_of-standing_above ((b ∷ bs) ∷ rest) low (suc i) h o = let q : suc (low + suc i) ≡ suc (suc low + i) = omega arith in
    rw (ne-eqb (suc (low + suc i)) (suc low) (omega arith)) (ap (λ (s : ℕ). blockers_of (standing_above rest (suc low)) s) q ∙ blockers_of-standing_above rest (suc low) i (omega arith) o.1)

pub standing-AreWaits : (named : List (List ℕ)) → length named ≡ 64 → NamesOthers named 0 → AreWaits (standing named)
unfolding standing
standing-AreWaits named l o = standing-RisingWaits named 0 (omega arith) o

-- a session's blockers stand at its place
pub blockers_of-standing : (named : List (List ℕ)) (s i : ℕ) → length named ≡ 64 → NamesOthers named 0 → i + 1 ≡ s → blockers_of (standing named) s ≡ slice_index_or named i []
unfolding standing
blockers_of-standing named s i l o q = let e : suc (0 + i) ≡ s = omega arith in
    subst (λ (z : ℕ). blockers_of (standing_above named 0) z ≡ slice_index_or named i []) e (blockers_of-standing_above named 0 i (omega arith) o)

-- ---- lists by place
pub index_same : (xs : List (List ℕ)) (k : ℕ) (v : List ℕ) → k < length xs → slice_index_or (slice_set xs k v) k [] ≡ v
index_same [] k v h = absurd (omega arith)
index_same (x ∷ xs) zero v h = refl
index_same (x ∷ xs) (suc k) v h = index_same xs k v (omega arith)

pub index_other : (xs : List (List ℕ)) (k i : ℕ) (v : List ℕ) → i ≢ k → slice_index_or (slice_set xs k v) i [] ≡ slice_index_or xs i []
index_other [] k i v h = refl
index_other (x ∷ xs) zero zero v h = absurd (h refl)
index_other (x ∷ xs) zero (suc i) v h = refl
index_other (x ∷ xs) (suc k) zero v h = refl
index_other (x ∷ xs) (suc k) (suc i) v h = index_other xs k i v (λ e. h (ap suc e))

-- a place within the list has no default
pub index_within : (xs : List (List ℕ)) (i : ℕ) (d e : List ℕ) → i < length xs → slice_index_or xs i d ≡ slice_index_or xs i e
index_within [] i d e h = absurd (omega arith)
index_within (x ∷ xs) zero d e h = refl
index_within (x ∷ xs) (suc i) d e h = index_within xs i d e (omega arith)

pub length-set : (xs : List (List ℕ)) (k : ℕ) (v : List ℕ) → length (slice_set xs k v) ≡ length xs
length-set [] k v = refl
length-set (x ∷ xs) zero v = refl
length-set (x ∷ xs) (suc k) v = ap suc (length-set xs k v)

-- by place, no session is its own blocker
pub NamesOthers-by_place : (named : List (List ℕ)) (low : ℕ) → ((i : ℕ) → has_session (slice_index_or named i []) (suc (low + i)) ≡ false) → NamesOthers named low
NamesOthers-by_place [] low f = tt
NamesOthers-by_place (bs ∷ rest) low f = let z : suc (low + 0) ≡ suc low = omega arith in
    (subst (λ (s : ℕ). has_session bs s ≡ false) z (f 0), NamesOthers-by_place rest (suc low) (λ i. let q : suc (low + suc i) ≡ suc (suc low + i) = omega arith in subst (λ (s : ℕ). has_session (slice_index_or rest i []) s ≡ false) q (f (suc i))))

pub by_place-NamesOthers : (named : List (List ℕ)) (low : ℕ) → NamesOthers named low → (i : ℕ) → has_session (slice_index_or named i []) (suc (low + i)) ≡ false
by_place-NamesOthers [] low o i = refl
by_place-NamesOthers (bs ∷ rest) low o zero = let z : suc low ≡ suc (low + 0) = omega arith in subst (λ (s : ℕ). has_session bs s ≡ false) z o.0
by_place-NamesOthers (bs ∷ rest) low o (suc i) = let q : suc (suc low + i) ≡ suc (low + suc i) = omega arith in subst (λ (s : ℕ). has_session (slice_index_or rest i []) s ≡ false) q (by_place-NamesOthers rest (suc low) o.1 i)

names_others : (named : List (List ℕ)) → NamesOthers named 0 → (s i : ℕ) → i + 1 ≡ s → has_session (slice_index_or named i []) s ≡ false
names_others named o s i q = let e : suc (0 + i) ≡ s = omega arith in subst (λ (z : ℕ). has_session (slice_index_or named i []) z ≡ false) e (by_place-NamesOthers named 0 o i)

others_by_place : (named : List (List ℕ)) → ((s i : ℕ) → i + 1 ≡ s → has_session (slice_index_or named i []) s ≡ false) → NamesOthers named 0
others_by_place named f = NamesOthers-by_place named 0 (λ i. f (suc (0 + i)) i (omega arith))

-- ---- one wait more
pub NamesOthers-set : (named : List (List ℕ)) (k s : ℕ) (bs : List ℕ) → k < length named → k + 1 ≡ s → NamesOthers named 0 → has_session bs s ≡ false → NamesOthers (slice_set named k bs) 0
NamesOthers-set named k s bs h q o e = others_by_place (slice_set named k bs) (λ u i p. elim (true_or_false (eqb i k)) [
  | inl t ↦ let r : i ≡ k = eqb-true i k t in
      subst (λ (z : ℕ). has_session (slice_index_or (slice_set named k bs) z []) u ≡ false) (sym r) (subst (λ (ns : List ℕ). has_session ns u ≡ false) (sym (index_same named k bs h)) (let m : s ≡ u = omega arith in subst (λ (z : ℕ). has_session bs z ≡ false) m e))
  | inr f ↦ subst (λ (ns : List ℕ). has_session ns u ≡ false) (sym (index_other named k i bs (eqb-false i k f))) (names_others named o u i p)
])

pub standing-set : (named : List (List ℕ)) (k s : ℕ) (bs : List ℕ) → length named ≡ 64 → NamesOthers named 0 → k < 64 → k + 1 ≡ s → bs ≢ [] → has_session bs s ≡ false → is_waiting (standing named) s ≡ false →
    standing (slice_set named k bs) ≡ with_wait (standing named) (record { session = s; blockers = bs })
standing-set named k s bs l o h q n e w =
    let ls : length (slice_set named k bs) ≡ 64 = length-set named k bs ∙ l in
    let os : NamesOthers (slice_set named k bs) 0 = NamesOthers-set named k s bs (omega arith) q o e in
    let wait : Wait = record { session = s; blockers = bs } in
    same_waits (standing (slice_set named k bs)) (with_wait (standing named) wait) 0 (standing-AreWaits (slice_set named k bs) ls os)
    (RisingWaits-with (standing named) 0 wait (standing-AreWaits named l o) w (omega arith) (omega arith) n e)
    (λ u a b. let p : u - 1 + 1 ≡ u = omega arith in
    blockers_of-standing (slice_set named k bs) u (u - 1) ls os p ∙ at u (u - 1) p ∙ sym (blockers_of-with (standing named) wait u w))
  where
    at : (u i : ℕ) → i + 1 ≡ u → slice_index_or (slice_set named k bs) i [] ≡ cond (eqb u s) bs (blockers_of (standing named) u)
    at u i p = elim (true_or_false (eqb u s)) [
      | inl t ↦ let r : u ≡ s = eqb-true u s t in let m : k ≡ i = omega arith in rw t (subst (λ (z : ℕ). slice_index_or (slice_set named k bs) z [] ≡ bs) m (index_same named k bs (omega arith)))
      | inr f ↦ let r : i ≢ k = (λ z. eqb-false u s f (omega arith)) in rw f (index_other named k i bs r ∙ sym (blockers_of-standing named u i l o p))
    ]

-- ---- the waits after a session's end
pub record Cleared (named left : List (List ℕ)) (s : ℕ) : Type 0 where
  pub same_length : length left ≡ length named
  pub each : (i u : ℕ) → i + 1 ≡ u → slice_index_or left i [] ≡ cond (eqb s u || has_session (slice_index_or named i []) s) [] (slice_index_or named i [])

pub Cleared-NamesOthers : (named left : List (List ℕ)) (s : ℕ) → NamesOthers named 0 → Cleared named left s → NamesOthers left 0
Cleared-NamesOthers named left s o c = others_by_place left (λ u i q. subst (λ (ns : List ℕ). has_session ns u ≡ false) (sym (c.each i u q)) (go u i (eqb s u || has_session (slice_index_or named i []) s) (names_others named o u i q)))
  where
    go : (u i : ℕ) (b : Bool) → has_session (slice_index_or named i []) u ≡ false → has_session (cond b [] (slice_index_or named i [])) u ≡ false
    go u i true e = refl
    go u i false e = e

pub standing-cleared : (named left : List (List ℕ)) (s : ℕ) → length named ≡ 64 → NamesOthers named 0 → Cleared named left s → standing left ≡ waits_after s (standing named)
standing-cleared named left s l o c =
    let ll : length left ≡ 64 = c.same_length ∙ l in
    let ol : NamesOthers left 0 = Cleared-NamesOthers named left s o c in
    let w : AreWaits (standing named) = standing-AreWaits named l o in
    same_waits (standing left) (waits_after s (standing named)) 0 (standing-AreWaits left ll ol) (RisingWaits-after (standing named) 0 s w)
    (λ u a b. let p : u - 1 + 1 ≡ u = omega arith in
    blockers_of-standing left u (u - 1) ll ol p ∙ c.each (u - 1) u p
    ∙ ap (λ (bs : List ℕ). cond (eqb s u || has_session bs s) [] bs) (sym (blockers_of-standing named u (u - 1) l o p))
    ∙ sym (blockers_of-after (standing named) 0 s u w))

-- clears the session's own place, and then each place that names it
pub Cleared-two : (named left : List (List ℕ)) (none : List ℕ) (k s : ℕ) → k < length named → k + 1 ≡ s → none ≡ [] → length left ≡ length (slice_set named k none) →
    ((i : ℕ) → slice_index_or left i [] ≡ cond (has_session (slice_index_or (slice_set named k none) i []) s) [] (slice_index_or (slice_set named k none) i [])) → Cleared named left s
Cleared-two named left none k s h q z l f = go (subst (λ (v : List ℕ). length left ≡ length (slice_set named k v)) z l)
    (subst (λ (v : List ℕ). (i : ℕ) → slice_index_or left i [] ≡ cond (has_session (slice_index_or (slice_set named k v) i []) s) [] (slice_index_or (slice_set named k v) i [])) z f)
  where
    go : length left ≡ length (slice_set named k []) → ((i : ℕ) → slice_index_or left i [] ≡ cond (has_session (slice_index_or (slice_set named k []) i []) s) [] (slice_index_or (slice_set named k []) i [])) → Cleared named left s
    go l f = record {
      same_length = l ∙ length-set named k [];
      each = λ i u p. f i ∙ elim (true_or_false (eqb s u)) [
        | inl t ↦ let r : s ≡ u = eqb-true s u t in let m : k ≡ i = omega arith in
            rw t (subst (λ (z : ℕ). cond (has_session (slice_index_or (slice_set named k []) z []) s) [] (slice_index_or (slice_set named k []) z []) ≡ []) m (rw (index_same named k [] h) refl))
        | inr g ↦ let r : i ≢ k = (λ z. eqb-false s u g (omega arith)) in rw (g, index_other named k i [] r) refl
      ];
    }

-- ---- no waits
standing_above-none : (n low : ℕ) → standing_above (replicate n []) low ≡ []
standing_above-none zero low = refl
standing_above-none (suc n) low = standing_above-none n (suc low)

pub standing-none : standing (replicate 64 []) ≡ []
unfolding standing
standing-none = standing_above-none 64 0

pub NamesOthers-none : (n low : ℕ) → NamesOthers (replicate n []) low
NamesOthers-none zero low = tt
NamesOthers-none (suc n) low = (refl, NamesOthers-none n (suc low))

-- nobody waits at no session
pub nobody : (ws : List Wait) (x : ℕ) → AreWaits ws → (IsSession x → ⊥) → blockers_of ws x ≡ []
nobody ws x w n = elim (zero_or_high x n) [
  | inl l ↦ blockers_of-below ws 0 x w l
  | inr l ↦ blockers_of-above ws 0 x w l
]
  where
    zero_or_high : (x : ℕ) → ((1 ≤ x) × (x ≤ 64) → ⊥) → (x ≤ 0) ⊎ (64 < x)
    zero_or_high x n = elim (low_or x) [ inl l ↦ inl l | inr m ↦ elim m [ inl l ↦ inr l | inr b ↦ absurd (n b) ] ]
      where
        low_or : (x : ℕ) → (x ≤ 0) ⊎ ((64 < x) ⊎ ((1 ≤ x) × (x ≤ 64)))
        low_or x = elim (split x 0) [
          | inl l ↦ inl l
          | inr m ↦ elim (split x 64) [ inl l ↦ inr (inr (omega arith, l)) | inr k ↦ inr (inl k) ]
        ]
          where
            split : (x y : ℕ) → (x ≤ y) ⊎ (y < x)
            split x y = grind arith

-- a session waits unless it has no blockers
pub waits_test : (ws : List Wait) (s : ℕ) (empty : Bool) → AreWaits ws → (empty ≡ true → blockers_of ws s ≡ []) → (blockers_of ws s ≡ [] → empty ≡ true) → not empty ≡ is_waiting ws s
waits_test ws s true h f g = sym (blockers-is_waiting ws 0 s h (f refl))
waits_test ws s false h f g = elim (true_or_false (is_waiting ws s)) [
  | inl t ↦ sym t
  | inr e ↦ absurd (clash false (g (is_waiting-blockers ws 0 s h e)) refl)
]
