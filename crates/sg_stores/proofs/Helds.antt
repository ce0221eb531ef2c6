-- Needs that grants meet: the modes that meet one, and lists of needs of which the first part is met.
use Rattle.std.specs.Prelude.{is_some}
use Rattle.std.proofs.Common.{◌≡◌, ℕ, Bool, true, false, ◌&&◌, ◌||◌, cond, List, [], ◌∷◌, ◌++◌, eqb, Option, Some, None, refl, sym, ap, ◌∙◌}
use Rattle.std.specs.Ordering.{is_eq}
use Rattle.std.specs.Option.{option_map}
use Rattle.sg_cells.specs.declared.keys.Key.{Key}
use Rattle.sg_modes.specs.declared.modes.Mode.{Mode}
use Rattle.sg_modes.specs.declared.modes.Mode.TheVariants.{S, U, X, RangeSS, RangeSU, RangeIN, RangeXX}
use Rattle.sg_locks.specs.Grants.{Grant, is_same_mode}
use Rattle.sg_trace.specs.Keys.{meets}
use Rattle.sg_trace.specs.Needs.{Need}
use Rattle.sg_stores.specs.Held.{key_cmp, holds_where, is_held, first_unheld, lock_need}

-- ---- modes
either : (a b p q x y : Bool) → (a && (b && (p || q)) || (x || y)) ≡ ((a && (b && p) || x) || (a && (b && q) || y))
either false b p q x y = refl
either true false p q x y = refl
either true true true q x y = refl
either true true false true true y = refl
either true true false true false y = refl
either true true false false x y = refl

pub holds_or : (p q : Mode → Bool) (grants : List (Grant Key)) (s : ℕ) (k : Key) → holds_where (λ m. p m || q m) grants s k ≡ (holds_where p grants s k || holds_where q grants s k)
holds_or p q [] s k = refl
holds_or p q (g ∷ gs) s k =
    ap (λ b. eqb s g.session && (is_eq (key_cmp k g.key) && (p g.mode || q g.mode)) || b) (holds_or p q gs s k)
    ∙ either (eqb s g.session) (is_eq (key_cmp k g.key)) (p g.mode) (q g.mode) (holds_where p gs s k) (holds_where q gs s k)

nothing : (a b x : Bool) → x ≡ false → (a && (b && false) || x) ≡ false
nothing false b x e = e
nothing true false x e = e
nothing true true x e = e

pub holds_none : (grants : List (Grant Key)) (s : ℕ) (k : Key) → holds_where (λ m. false) grants s k ≡ false
holds_none [] s k = refl
holds_none (g ∷ gs) s k = nothing (eqb s g.session) (is_eq (key_cmp k g.key)) (holds_where (λ m. false) gs s k) (holds_none gs s k)

-- tests that are alike
pub holds_alike : (p q : Mode → Bool) (grants : List (Grant Key)) (s : ℕ) (k : Key) → ((m : Mode) → p m ≡ q m) → holds_where p grants s k ≡ holds_where q grants s k
holds_alike p q [] s k h = refl
holds_alike p q (g ∷ gs) s k h =
    ap (λ b. eqb s g.session && (is_eq (key_cmp k g.key) && b) || holds_where p gs s k) (h g.mode)
    ∙ ap (λ b. eqb s g.session && (is_eq (key_cmp k g.key) && q g.mode) || b) (holds_alike p q gs s k h)

meets_s : (m : Mode) → (is_same_mode S m || meets X m) ≡ meets S m
meets_s S = refl
meets_s U = refl
meets_s X = refl
meets_s RangeSS = refl
meets_s RangeSU = refl
meets_s RangeIN = refl
meets_s RangeXX = refl

meets_u : (m : Mode) → (is_same_mode U m || meets X m) ≡ meets U m
meets_u S = refl
meets_u U = refl
meets_u X = refl
meets_u RangeSS = refl
meets_u RangeSU = refl
meets_u RangeIN = refl
meets_u RangeXX = refl

meets_x : (m : Mode) → (is_same_mode X m || is_same_mode RangeXX m) ≡ meets X m
meets_x S = refl
meets_x U = refl
meets_x X = refl
meets_x RangeSS = refl
meets_x RangeSU = refl
meets_x RangeIN = refl
meets_x RangeXX = refl

meets_ss : (m : Mode) → is_same_mode RangeSS m ≡ meets RangeSS m
meets_ss S = refl
meets_ss U = refl
meets_ss X = refl
meets_ss RangeSS = refl
meets_ss RangeSU = refl
meets_ss RangeIN = refl
meets_ss RangeXX = refl

meets_su : (m : Mode) → is_same_mode RangeSU m ≡ meets RangeSU m
meets_su S = refl
meets_su U = refl
meets_su X = refl
meets_su RangeSS = refl
meets_su RangeSU = refl
meets_su RangeIN = refl
meets_su RangeXX = refl

module _ (grants : List (Grant Key)) (s : ℕ) (k : Key) where
  abbrev one : Mode → Bool
  one m = holds_where (is_same_mode m) grants s k

  two : (m n : Mode) → holds_where (λ h. is_same_mode m h || is_same_mode n h) grants s k ≡ (one m || one n)
  two m n = holds_or (is_same_mode m) (is_same_mode n) grants s k

  pub by_s : (one S || holds_where (meets X) grants s k) ≡ holds_where (meets S) grants s k
  by_s = sym (holds_or (is_same_mode S) (meets X) grants s k) ∙ holds_alike (λ h. is_same_mode S h || meets X h) (meets S) grants s k meets_s

  pub by_u : (one U || holds_where (meets X) grants s k) ≡ holds_where (meets U) grants s k
  by_u = sym (holds_or (is_same_mode U) (meets X) grants s k) ∙ holds_alike (λ h. is_same_mode U h || meets X h) (meets U) grants s k meets_u

  pub by_x : (one X || one RangeXX) ≡ holds_where (meets X) grants s k
  by_x = sym (two X RangeXX) ∙ holds_alike (λ h. is_same_mode X h || is_same_mode RangeXX h) (meets X) grants s k meets_x

  pub by_ss : one RangeSS ≡ holds_where (meets RangeSS) grants s k
  by_ss = holds_alike (is_same_mode RangeSS) (meets RangeSS) grants s k meets_ss

  pub by_su : one RangeSU ≡ holds_where (meets RangeSU) grants s k
  by_su = holds_alike (is_same_mode RangeSU) (meets RangeSU) grants s k meets_su

  pub by_in : false ≡ holds_where (meets RangeIN) grants s k
  by_in = sym (holds_none grants s k)

  pub by_xx : false ≡ holds_where (meets RangeXX) grants s k
  by_xx = sym (holds_none grants s k)

-- ---- lists of needs
module _ (grants : List (Grant Key)) (s : ℕ) where
  -- where the first part is met
  pub unheld_after : (xs ys : List Need) → first_unheld grants s xs ≡ None → first_unheld grants s (xs ++ ys) ≡ first_unheld grants s ys
  unheld_after [] ys e = refl
  unheld_after (x ∷ xs) ys e = by_test (is_held grants s x) (unheld_after xs ys) e
    where
      by_test : (b : Bool) → (first_unheld grants s xs ≡ None → first_unheld grants s (xs ++ ys) ≡ first_unheld grants s ys)
          → cond b (first_unheld grants s xs) (Some x) ≡ None → cond b (first_unheld grants s (xs ++ ys)) (Some x) ≡ first_unheld grants s ys
      by_test true later e = later e
      by_test false later e = absurd (cc)

  -- and where it isn't
  pub unheld_first : (xs ys : List Need) (n : Need) → first_unheld grants s xs ≡ Some n → first_unheld grants s (xs ++ ys) ≡ Some n
  unheld_first [] ys n e = absurd (cc)
  unheld_first (x ∷ xs) ys n e = by_test (is_held grants s x) (unheld_first xs ys n) e
    where
      by_test : (b : Bool) → (first_unheld grants s xs ≡ Some n → first_unheld grants s (xs ++ ys) ≡ Some n)
          → cond b (first_unheld grants s xs) (Some x) ≡ Some n → cond b (first_unheld grants s (xs ++ ys)) (Some x) ≡ Some n
      by_test true later e = later e
      by_test false later e = e

  pub unheld_none : (xs ys : List Need) → first_unheld grants s xs ≡ None → first_unheld grants s ys ≡ None → first_unheld grants s (xs ++ ys) ≡ None
  unheld_none xs ys e f = unheld_after xs ys e ∙ f

  some_lock : (o : Option (Key × Mode)) (x : Option Need) → option_map lock_need o ≡ x → (o ≡ None → ⊥) → (n : Need) × (x ≡ Some n)
  some_lock None x e h = absurd (h refl)
  some_lock (Some p) x e h = (lock_need p, sym e)

  -- a need that was found in the first part is that of the whole
  pub found_first : (o : Option (Key × Mode)) (xs ys : List Need) → option_map lock_need o ≡ first_unheld grants s xs → (o ≡ None → ⊥) → option_map lock_need o ≡ first_unheld grants s (xs ++ ys)
  found_first o xs ys e h = let r = some_lock o (first_unheld grants s xs) e h in e ∙ (r.1 ∙ sym (unheld_first xs ys r.0 r.1))

-- ---- what a test tells
pub not_none : {A : Type 0} (o : Option A) → is_some o ≡ true → o ≡ None → ⊥
not_none None h e = cc
not_none (Some x) h e = cc

pub is_none_of : {A : Type 0} (o : Option A) → is_some o ≡ false → o ≡ None
is_none_of None h = refl
is_none_of (Some x) h = absurd (cc)
