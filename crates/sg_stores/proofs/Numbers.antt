-- What the comparison of two numbers tells.
use Rattle.std.specs.Prelude.{nat_lt}
use Rattle.std.proofs.Common.{◌≡◌, ℕ, ◌+◌, ◌≤◌, ◌<◌, Bool, true, false, cond, List, [], ◌∷◌, refl, sym, ◌∙◌, arith, eqb, leb, ltb, eqb-true}
use Rattle.std.specs.declared.cmp.Ordering.TheVariants.{Less, Equal, Greater}
use Rattle.std.specs.Ordering.{nat_cmp, is_le, is_lt}
use Rattle.std.specs.List.{AllByRecursion}

pub is_le-nat_cmp : (x y : ℕ) → is_le (nat_cmp x y) ≡ leb x y
is_le-nat_cmp x y = by_lt (nat_lt x y) refl
  where
    by_eq : (t : Bool) → eqb x y ≡ t → nat_lt x y ≡ false → is_le (cond t Equal Greater) ≡ leb x y
    by_eq true e f = grind arith
    by_eq false e f = grind arith

    by_lt : (b : Bool) → nat_lt x y ≡ b → is_le (cond b Less (cond (eqb x y) Equal Greater)) ≡ leb x y
    by_lt true e = grind arith
    by_lt false e = by_eq (eqb x y) refl e

pub nat_equal : (x y : ℕ) → nat_cmp x y ≡ Equal → x ≡ y
nat_equal x y e = by_lt (nat_lt x y) refl e
  where
    by_eq : (t : Bool) → eqb x y ≡ t → cond t Equal Greater ≡ Equal → x ≡ y
    by_eq true h f = eqb-true x y h
    by_eq false h f = absurd (cc)

    by_lt : (b : Bool) → nat_lt x y ≡ b → cond b Less (cond (eqb x y) Equal Greater) ≡ Equal → x ≡ y
    by_lt true h f = absurd (cc)
    by_lt false h f = by_eq (eqb x y) refl f

pub nat_at_most : (x y : ℕ) → is_le (nat_cmp x y) ≡ true → x ≤ y
nat_at_most x y h = let e : leb x y ≡ true = sym (is_le-nat_cmp x y) ∙ h in grind arith

pub nat_above : (x y : ℕ) → is_le (nat_cmp x y) ≡ false → y < x
nat_above x y h = let e : leb x y ≡ false = sym (is_le-nat_cmp x y) ∙ h in grind arith

pub not_at_most : (x y : ℕ) → y < x → is_le (nat_cmp x y) ≡ false
not_at_most x y h = let e : leb x y ≡ false = grind arith in is_le-nat_cmp x y ∙ e

pub is_lt-nat_cmp : (x y : ℕ) → is_lt (nat_cmp x y) ≡ ltb x y
is_lt-nat_cmp x y = by_lt (nat_lt x y) refl
  where
    by_eq : (t : Bool) → nat_lt x y ≡ false → is_lt (cond t Equal Greater) ≡ ltb x y
    by_eq true f = grind arith
    by_eq false f = grind arith

    by_lt : (b : Bool) → nat_lt x y ≡ b → is_lt (cond b Less (cond (eqb x y) Equal Greater)) ≡ ltb x y
    by_lt true e = grind arith
    by_lt false e = by_eq (eqb x y) e

pub less_is : (a b : ℕ) → nat_cmp a b ≡ Less → a < b
less_is a b h = by_less (nat_lt a b) refl h
  where
    by_equal : (t : Bool) → cond t Equal Greater ≡ Less → a < b
    by_equal true e = absurd (cc)
    by_equal false e = absurd (cc)

    by_less : (t : Bool) → nat_lt a b ≡ t → cond t Less (cond (eqb a b) Equal Greater) ≡ Less → a < b
    by_less true e f = grind arith
    by_less false e f = by_equal _ f

-- ---- lists of numbers
pub above_all : (k : ℕ) (ks : List ℕ) → AllByRecursion (λ x. nat_cmp k x ≡ Less) ks → AllByRecursion (λ x. k + 1 ≤ x) ks
above_all k [] all = tt
above_all k (x ∷ ks) all = (let lt = less_is k x all.0 in omega (arith, lt), above_all k ks all.1)

pub from_zero : (ks : List ℕ) → AllByRecursion (λ x. 0 ≤ x) ks
from_zero [] = tt
from_zero (k ∷ ks) = (omega arith, from_zero ks)
