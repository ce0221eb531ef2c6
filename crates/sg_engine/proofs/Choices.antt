-- Keys found, sure and passed.
use Rattle.std.proofs.Common.{◌≡◌, ℕ, suc, ◌+◌, ◌≤◌, ◌<◌, ◌⊎◌, false, ◌||◌, List, [], ◌∷◌, ◌++◌, length, take, get_or, arith, inl, inr, ap}
use Rattle.std.proofs.lemmas.Bool.{cond_both}
use Rattle.sg_plain.specs.Keys.{RisesFrom, IsRising}
use Rattle.sg_plain.proofs.KeyLemmas.{Has, RisesFrom-lower, any_none, greater_later, rising_next}
use Rattle.sg_trace.specs.Pending.{has_key, chosen}

Has-place : (xs : List ℕ) (k : ℕ) → Has xs k → (i : ℕ) × (i < length xs) × (get_or xs i 0 ≡ k)
Has-place [] k h = absurd h
Has-place (x ∷ xs) k (inl e) = (0, omega arith, e)
Has-place (x ∷ xs) k (inr h) = let p = Has-place xs k h in (suc p.0, omega (arith, p.1), p.2)

-- keys that rise don't fall
pub never_falls : (xs : List ℕ) (i j : ℕ) → IsRising xs → i ≤ j → j < length xs → get_or xs i 0 ≤ get_or xs j 0
never_falls xs i j rising le within = elim (sides i j le) [
  | inl same ↦ le_from (ap (λ (n : ℕ). get_or xs n 0) same)
  | inr lt ↦ let l = greater_later 0 xs i j rising lt within in omega arith
]
  where
    sides : (i j : ℕ) → i ≤ j → (i ≡ j) ⊎ (i < j)
    sides i j le = grind arith

    le_from : {a b : ℕ} → a ≡ b → a ≤ b
    le_from e = omega arith

-- no key stands where it would have to
pub has_key-gap : (xs : List ℕ) (k i : ℕ) → ((j : ℕ) → j < i → get_or xs j 0 < k) → ((j : ℕ) → i ≤ j → j < length xs → k < get_or xs j 0) → has_key xs k ≡ false
has_key-gap xs k i lesser greater = any_none xs k (λ h. let p = Has-place xs k h in elim (side p.0 i) [
  | inl lt ↦ absurd (let l = lesser p.0 lt in omega (arith, p.2))
  | inr le ↦ absurd (let l = greater p.0 le p.1 in omega (arith, p.2))
])
  where
    side : (j i : ℕ) → (j < i) ⊎ (i ≤ j)
    side j i = grind arith

-- ---- keys chosen of a list that rises
chosen_rise : (low : ℕ) (sure passed xs : List ℕ) (k : ℕ) → RisesFrom low (xs ++ k ∷ []) → RisesFrom low (chosen sure passed xs ++ k ∷ [])
chosen_rise low sure passed [] k h = h
chosen_rise low sure passed (x ∷ xs) k h =
    cond_both (has_key sure x || has_key passed x) (x ∷ chosen sure passed xs) (chosen sure passed xs) (λ ys. RisesFrom low (ys ++ k ∷ []))
    (λ _. (h.0, chosen_rise (x + 1) sure passed xs k h.1))
    (λ _. RisesFrom-lower low (x + 1) (chosen sure passed xs ++ k ∷ []) (omega (arith, h.0)) (chosen_rise (x + 1) sure passed xs k h.1))

-- the next key goes behind those chosen
pub chosen_next : (sure passed xs : List ℕ) (i k : ℕ) → IsRising xs → i < length xs → k ≡ get_or xs i 0 → IsRising (chosen sure passed (take i xs) ++ k ∷ [])
chosen_next sure passed xs i k rising within e = chosen_rise 0 sure passed (take i xs) k (rising_next xs i k rising within e)
