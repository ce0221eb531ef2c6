-- What the lock table meets is what the session holds.
use Rattle.std.specs.Prelude.{◌||◌}
use Rattle.std.proofs.Common.{◌≡◌, ℕ, Bool, true, false, ◌&&◌, cond, List, [], ◌∷◌, Some, refl, sym, ap, ◌∙◌}
use Rattle.std.specs.List.{AllByRecursion}
use Rattle.sg_cells.specs.declared.keys.Key.{Key}
use Rattle.sg_locks.specs.Grants.{Grant, has_grant, is_same_mode}
use Rattle.sg_modes.specs.declared.modes.Mode.{Mode}
use Rattle.sg_modes.specs.declared.modes.Mode.TheVariants.{S, U, X, RangeSS, RangeSU, RangeIN, RangeXX}
use Rattle.sg_trace.specs.Keys.{meets, same_key}
use Rattle.sg_trace.specs.Needs.{Held, Need, Lock, New, holds_by, is_met, first_unmet}
use Rattle.sg_stores.specs.Held.{key_cmp, holds_where, is_held, first_unheld}
use Rattle.sg_stores.proofs.Helds.{by_s, by_u, by_x, by_ss, by_su, by_in, by_xx}
use Rattle.sg_engine.specs.Ties.{IsCoded}

-- ---- tests of held modes
either : (a p q x y : Bool) → ((a && (p || q)) || (x || y)) ≡ (((a && p) || x) || ((a && q) || y))
either true true q x y = refl
either true false true true y = refl
either true false true false y = refl
either true false false x y = refl
either false p q x y = refl

held_or : (p q : Mode → Bool) (hs : List Held) (k : Key) → holds_by (λ m. p m || q m) hs k ≡ (holds_by p hs k || holds_by q hs k)
held_or p q [] k = refl
held_or p q (h ∷ hs) k =
    ap (λ b. (same_key h.0 k && (p h.1 || q h.1)) || b) (held_or p q hs k) ∙ either (same_key h.0 k) (p h.1) (q h.1) (holds_by p hs k) (holds_by q hs k)

held_alike : (p q : Mode → Bool) (hs : List Held) (k : Key) → ((m : Mode) → p m ≡ q m) → holds_by p hs k ≡ holds_by q hs k
held_alike p q [] k e = refl
held_alike p q (h ∷ hs) k e = ap (λ b. (same_key h.0 k && b) || holds_by p hs k) (e h.1) ∙ ap (λ b. (same_key h.0 k && q h.1) || b) (held_alike p q hs k e)

nothing : (a x : Bool) → x ≡ false → ((a && false) || x) ≡ false
nothing true x e = e
nothing false x e = e

held_none : (hs : List Held) (k : Key) → holds_by (λ m. false) hs k ≡ false
held_none [] k = refl
held_none (h ∷ hs) k = nothing (same_key h.0 k) (holds_by (λ m. false) hs k) (held_none hs k)

-- ---- which modes meet which
meets_s : (m : Mode) → (is_same_mode S m || meets X m) ≡ meets S m
meets_s S = refl
meets_s U = refl
meets_s X = refl
meets_s RangeSS = refl
meets_s RangeSU = refl
meets_s RangeIN = refl
meets_s RangeXX = refl

meets_u : (m : Mode) → (is_same_mode U m || meets X m) ≡ meets U m
meets_u S = refl
meets_u U = refl
meets_u X = refl
meets_u RangeSS = refl
meets_u RangeSU = refl
meets_u RangeIN = refl
meets_u RangeXX = refl

meets_x : (m : Mode) → (is_same_mode X m || is_same_mode RangeXX m) ≡ meets X m
meets_x S = refl
meets_x U = refl
meets_x X = refl
meets_x RangeSS = refl
meets_x RangeSU = refl
meets_x RangeIN = refl
meets_x RangeXX = refl

meets_ss : (m : Mode) → is_same_mode RangeSS m ≡ meets RangeSS m
meets_ss S = refl
meets_ss U = refl
meets_ss X = refl
meets_ss RangeSS = refl
meets_ss RangeSU = refl
meets_ss RangeIN = refl
meets_ss RangeXX = refl

meets_su : (m : Mode) → is_same_mode RangeSU m ≡ meets RangeSU m
meets_su S = refl
meets_su U = refl
meets_su X = refl
meets_su RangeSS = refl
meets_su RangeSU = refl
meets_su RangeIN = refl
meets_su RangeXX = refl

-- ---- one need
module _ (grants : List (Grant Key)) (s : ℕ) (held : List Held) (k : Key) (tied : (m : Mode) → has_grant key_cmp grants s k m ≡ holds_by (is_same_mode m) held k) where
  same_x : holds_where (meets X) grants s k ≡ holds_by (meets X) held k
  same_x =
      sym (by_x grants s k) ∙ (ap (λ b. b || has_grant key_cmp grants s k RangeXX) (tied X) ∙ (ap (λ b. holds_by (is_same_mode X) held k || b) (tied RangeXX)
      ∙ (sym (held_or (is_same_mode X) (is_same_mode RangeXX) held k) ∙ held_alike (λ m. is_same_mode X m || is_same_mode RangeXX m) (meets X) held k meets_x)))

  pub same_test : (m : Mode) → holds_where (meets m) grants s k ≡ holds_by (meets m) held k
  same_test S =
      sym (by_s grants s k) ∙ (ap (λ b. b || holds_where (meets X) grants s k) (tied S) ∙ (ap (λ b. holds_by (is_same_mode S) held k || b) same_x
      ∙ (sym (held_or (is_same_mode S) (meets X) held k) ∙ held_alike (λ m. is_same_mode S m || meets X m) (meets S) held k meets_s)))
  same_test U =
      sym (by_u grants s k) ∙ (ap (λ b. b || holds_where (meets X) grants s k) (tied U) ∙ (ap (λ b. holds_by (is_same_mode U) held k || b) same_x
      ∙ (sym (held_or (is_same_mode U) (meets X) held k) ∙ held_alike (λ m. is_same_mode U m || meets X m) (meets U) held k meets_u)))
  same_test X = same_x
  same_test RangeSS = sym (by_ss grants s k) ∙ (tied RangeSS ∙ held_alike (is_same_mode RangeSS) (meets RangeSS) held k meets_ss)
  same_test RangeSU = sym (by_su grants s k) ∙ (tied RangeSU ∙ held_alike (is_same_mode RangeSU) (meets RangeSU) held k meets_su)
  same_test RangeIN = sym (by_in grants s k) ∙ sym (held_alike (meets RangeIN) (λ m. false) held k (λ m. refl) ∙ held_none held k)
  same_test RangeXX = sym (by_xx grants s k) ∙ sym (held_alike (meets RangeXX) (λ m. false) held k (λ m. refl) ∙ held_none held k)

-- ---- lists of needs whose keys have codes
abbrev pub IsCodedNeed : Need → Type 0
IsCodedNeed (Lock k m) = IsCoded k
IsCodedNeed (New k) = IsCoded k

module _ (grants : List (Grant Key)) (s : ℕ) (held : List Held) (tied : (k : Key) → IsCoded k → (m : Mode) → has_grant key_cmp grants s k m ≡ holds_by (is_same_mode m) held k) where
  same_need : (n : Need) → IsCodedNeed n → is_held grants s n ≡ is_met held n
  same_need (Lock k m) h = same_test grants s held k (tied k h) m
  same_need (New k) h = refl

  pub same_first : (ns : List Need) → AllByRecursion IsCodedNeed ns → first_unheld grants s ns ≡ first_unmet held ns
  same_first [] h = refl
  same_first (n ∷ ns) h = ap (λ b. cond b (first_unheld grants s ns) (Some n)) (same_need n h.0) ∙ ap (λ o. cond (is_met held n) o (Some n)) (same_first ns h.1)
