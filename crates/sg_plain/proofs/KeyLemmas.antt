-- Lists of keys that rise.
use Rattle.std.proofs.Common.{◌≡◌, ℕ, ◌+◌, ◌==◌, true, false, ◌≤◌, ◌<◌, ◌⊎◌, List, [], ◌∷◌, ◌++◌, length, get_or, take, drop, zero, suc, arith, inl, inr, refl, sym, ap, ap₂, ◌∙◌, subst}
use Rattle.std.specs.List.{list_any}
use Rattle.std.proofs.lemmas.Bool.{or_left, or_right, or_from, eq-eqb, ne_eqb}
use Rattle.std.proofs.lemmas.List.{take_more}
use Rattle.std.specs.Prelude.{Contains}
use Rattle.sg_plain.specs.Keys.{RisesFrom, IsRising}

pub RisesFrom-lower : (low high : ℕ) (ks : List ℕ) → low ≤ high → RisesFrom high ks → RisesFrom low ks
RisesFrom-lower low high [] le h = tt
RisesFrom-lower low high (k ∷ ks) le h = (omega arith, h.1)

-- a part of a list that rises
pub rising_without : (low : ℕ) (xs : List ℕ) (k : ℕ) (ks : List ℕ) → RisesFrom low (xs ++ k ∷ ks) → RisesFrom low (xs ++ ks)
rising_without low [] k ks h = RisesFrom-lower low (k + 1) ks (omega arith) h.1
rising_without low (x ∷ xs) k ks h = (h.0, rising_without (x + 1) xs k ks h.1)

pub rising_front : (low : ℕ) (xs : List ℕ) (k : ℕ) (ks : List ℕ) → RisesFrom low (xs ++ k ∷ ks) → RisesFrom low (xs ++ k ∷ [])
rising_front low [] k ks h = (h.0, tt)
rising_front low (x ∷ xs) k ks h = (h.0, rising_front (x + 1) xs k ks h.1)

-- a key above all others goes to the end
pub RisesFrom-push : (low : ℕ) (ks : List ℕ) (k : ℕ) → RisesFrom low ks → low ≤ k → ((i : ℕ) → i < length ks → get_or ks i 0 < k) → RisesFrom low (ks ++ k ∷ [])
RisesFrom-push low [] k h le lesser = (le, tt)
RisesFrom-push low (x ∷ xs) k h le lesser =
    let head : x < k = lesser 0 (omega arith) in
    (h.0, RisesFrom-push (x + 1) xs k h.1 (omega arith) (λ i within. lesser (suc i) (omega arith)))

pub at_least : (low : ℕ) (ks : List ℕ) (i : ℕ) → RisesFrom low ks → i < length ks → low ≤ get_or ks i 0
at_least low [] i h within = absurd (omega arith)
at_least low (x ∷ xs) zero h within = h.0
at_least low (x ∷ xs) (suc i) h within = let le = at_least (x + 1) xs i h.1 (omega arith) in omega (arith, h.0)

-- later keys are greater
pub greater_later : (low : ℕ) (ks : List ℕ) (i j : ℕ) → RisesFrom low ks → i < j → j < length ks → get_or ks i 0 < get_or ks j 0
greater_later low [] i j h lt within = absurd (omega arith)
greater_later low (x ∷ xs) zero (suc j) h lt within = let le = at_least (x + 1) xs j h.1 (omega arith) in omega arith
greater_later low (x ∷ xs) (suc i) (suc j) h lt within = greater_later (x + 1) xs i j h.1 (omega arith) (omega arith)
greater_later low (x ∷ xs) i zero h lt within = absurd (omega arith)

-- a front of a list that rises, and the next key
pub rising_take : (low : ℕ) (ks : List ℕ) (i : ℕ) → RisesFrom low ks → RisesFrom low (take i ks)
rising_take low ks zero h = tt
rising_take low [] (suc i) h = tt
rising_take low (k ∷ ks) (suc i) h = (h.0, rising_take (k + 1) ks i h.1)

pub rising_drop : (low : ℕ) (ks : List ℕ) (i : ℕ) → RisesFrom low ks → RisesFrom low (drop i ks)
rising_drop low ks zero h = h
rising_drop low [] (suc i) h = tt
rising_drop low (k ∷ ks) (suc i) h = RisesFrom-lower low (k + 1) (drop i ks) (omega (arith, h.0)) (rising_drop (k + 1) ks i h.1)

pub rising_next : (ks : List ℕ) (i k : ℕ) → IsRising ks → i < length ks → k ≡ get_or ks i 0 → IsRising (take i ks ++ k ∷ [])
rising_next ks i k h within e =
    subst IsRising (take_more ks i 0 within ∙ ap (λ (x : ℕ). take i ks ++ x ∷ []) (sym e)) (rising_take 0 ks (i + 1) h)

-- ---- the keys of a list, by recursion
abbrev pub Has : List ℕ → ℕ → Type 0
Has [] k = ⊥
Has (x ∷ xs) k = (x ≡ k) ⊎ Has xs k

Has-at : (xs : List ℕ) (k i : ℕ) → i < length xs → get_or xs i k ≡ k → Has xs k
Has-at [] k i within e = absurd (omega arith)
Has-at (x ∷ xs) k zero within e = inl e
Has-at (x ∷ xs) k (suc i) within e = inr (Has-at xs k i (omega arith) e)

pub Has-from_Contains : (xs : List ℕ) (k : ℕ) → Contains xs k → Has xs k
Has-from_Contains xs k c = Has-at xs k c.0 c.1 c.2

pub Contains-from_Has : (xs : List ℕ) (k : ℕ) → Has xs k → Contains xs k
Contains-from_Has [] k h = absurd h
Contains-from_Has (x ∷ xs) k (inl e) = (0, omega arith, e)
Contains-from_Has (x ∷ xs) k (inr h) = let c = Contains-from_Has xs k h in (suc c.0, omega (arith, c.1), c.2)

pub Has_at_least : (low : ℕ) (xs : List ℕ) (k : ℕ) → RisesFrom low xs → Has xs k → low ≤ k
Has_at_least low [] k r h = absurd h
Has_at_least low (x ∷ xs) k r (inl e) = omega arith
Has_at_least low (x ∷ xs) k r (inr h) = let le = Has_at_least (x + 1) xs k r.1 h in omega arith

-- a key of a list that isn't its first is one of the rest
pub Has-rest : (x : ℕ) (xs : List ℕ) (k : ℕ) → x + 1 ≤ k → Has (x ∷ xs) k → Has xs k
Has-rest x xs k lt (inl e) = absurd (omega arith)
Has-rest x xs k lt (inr h) = h

-- whether a list has a key, as a test
pub any_has : (xs : List ℕ) (k : ℕ) → Has xs k → list_any (λ x. x == k) xs ≡ true
any_has [] k h = absurd h
any_has (x ∷ xs) k (inl e) = or_left (x == k) (list_any (λ y. y == k) xs) (eq-eqb x k e)
any_has (x ∷ xs) k (inr h) = or_right (x == k) (list_any (λ y. y == k) xs) (any_has xs k h)

pub any_none : (xs : List ℕ) (k : ℕ) → (Has xs k → ⊥) → list_any (λ x. x == k) xs ≡ false
any_none [] k none = refl
any_none (x ∷ xs) k none = or_from (x == k) (list_any (λ y. y == k) xs) (ne_eqb x k (λ e. none (inl e))) (any_none xs k (λ h. none (inr h)))

-- lists that rise and have the same keys are equal
pub same_rising : (low high : ℕ) (xs ys : List ℕ) → RisesFrom low xs → RisesFrom high ys →
    ((k : ℕ) → Has xs k → Has ys k) → ((k : ℕ) → Has ys k → Has xs k) → xs ≡ ys
same_rising low high [] [] r s to from = refl
same_rising low high [] (y ∷ ys) r s to from = absurd (from y (inl refl))
same_rising low high (x ∷ xs) [] r s to from = absurd (to x (inl refl))
same_rising low high (x ∷ xs) (y ∷ ys) r s to from =
    let up : y ≤ x = Has_at_least y (y ∷ ys) x (omega arith, s.1) (to x (inl refl)) in
    let down : x ≤ y = Has_at_least x (x ∷ xs) y (omega arith, r.1) (from y (inl refl)) in
    let first : x ≡ y = omega arith in
    let rest : xs ≡ ys = same_rising (x + 1) (y + 1) xs ys r.1 s.1
    (λ k h. let le = Has_at_least (x + 1) xs k r.1 h in Has-rest y ys k (omega arith) (to k (inr h)))
    (λ k h. let le = Has_at_least (y + 1) ys k s.1 h in Has-rest x xs k (omega arith) (from k (inr h))) in
    ap₂ (λ (a : ℕ) (as' : List ℕ). a ∷ as') first rest
