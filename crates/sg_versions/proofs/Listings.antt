-- Keys listed under their writers, after a write and after its end.
use Rattle.std.specs.Prelude.{not, nat_lt}
use Rattle.std.proofs.Common.{◌≡◌, ℕ, Bool, true, false, cond, ◌||◌, ◌&&◌, List, Option, Some, None, refl, sym, ap, ◌∙◌, eqb, arith}
use Rattle.std.specs.declared.cmp.Ordering.{Ordering}
use Rattle.std.specs.declared.cmp.Ordering.TheVariants.{Less, Equal, Greater}
use Rattle.std.specs.Ordering.{is_eq, nat_cmp, ordering_then}
use Rattle.std.specs.Cmp.{IsTotalOrder}
use Rattle.sg_groups.specs.Groups.{pair_cmp, has_pair}
use Rattle.sg_versions.specs.Versions.{is_writer}
use Rattle.sg_versions.specs.Writers.{session_cmp}
use Rattle.sg_versions.proofs.Orders.{flipped}

is_eq-then : (r t : Ordering) → is_eq (ordering_then r t) ≡ (is_eq r && is_eq t)
is_eq-then Less t = refl
is_eq-then Equal t = refl
is_eq-then Greater t = refl

is_eq-nat_cmp : (x y : ℕ) → is_eq (nat_cmp x y) ≡ eqb x y
is_eq-nat_cmp x y = by_tests (nat_lt x y) refl
  where
    by_tests : (b : Bool) → nat_lt x y ≡ b → is_eq (cond b Less (cond (eqb x y) Equal Greater)) ≡ eqb x y
    by_tests true e = grind arith
    by_tests false e = last (eqb x y)
      where
        last : (t : Bool) → is_eq (cond t Equal Greater) ≡ t
        last true = refl
        last false = refl

is_eq-session : (r s : ℕ) → is_eq (session_cmp r s) ≡ eqb r s
is_eq-session r s = is_eq-nat_cmp r s

and_true : (b : Bool) → (b && true) ≡ b
and_true true = refl
and_true false = refl

and_false : (b : Bool) → (b && false) ≡ false
and_false true = refl
and_false false = refl

not_and : (b : Bool) → (not b && b) ≡ false
not_and true = refl
not_and false = refl

or_false : (b : Bool) → (b || false) ≡ b
or_false true = refl
or_false false = refl

module _ {K : Type 0} (cmp : K → K → Ordering) (total : IsTotalOrder cmp) (s : ℕ) (k : K) where
  pair_is : (a : ℕ) (b : K) (t : Bool) → is_eq (cmp k b) ≡ t → is_eq (pair_cmp session_cmp cmp (a, b) (s, k)) ≡ (eqb a s && t)
  pair_is a b t e = is_eq-then (session_cmp a s) (cmp b k) ∙ ap (λ x. x && is_eq (cmp b k)) (is_eq-session a s) ∙ ap (λ x. eqb a s && x) (sym (flipped cmp total b k) ∙ e)

  module _ (old new : List (ℕ × K)) (was is : K → Option ℕ) (listed : (a : ℕ) (b : K) → has_pair session_cmp cmp old a b ≡ is_writer a (was b)) (alike : (b : K) → is_eq (cmp k b) ≡ true → was b ≡ was k) where
    more_by : (a : ℕ) (b : K) (t : Bool) → is_eq (cmp k b) ≡ t → was k ≡ None → (is_eq (pair_cmp session_cmp cmp (a, b) (s, k)) || has_pair session_cmp cmp old a b) ≡ is_writer a (cond t (Some s) (was b))
    more_by a b true e none =
        let same : was b ≡ None = alike b e ∙ none in
        rw (pair_is a b true e) (ap (λ x. (eqb a s && true) || x) (listed a b ∙ ap (is_writer a) same) ∙ or_false (eqb a s && true) ∙ and_true (eqb a s))
    more_by a b false e none = rw (pair_is a b false e) (ap (λ x. x || has_pair session_cmp cmp old a b) (and_false (eqb a s)) ∙ listed a b)

    -- the key has a writer, and had none
    pub listed_more : was k ≡ None → ((b : K) → is b ≡ cond (is_eq (cmp k b)) (Some s) (was b))
        → ((a : ℕ) (b : K) → has_pair session_cmp cmp new a b ≡ (is_eq (pair_cmp session_cmp cmp (a, b) (s, k)) || has_pair session_cmp cmp old a b))
        → (a : ℕ) (b : K) → has_pair session_cmp cmp new a b ≡ is_writer a (is b)
    listed_more none now more a b = more a b ∙ more_by a b _ refl none ∙ ap (is_writer a) (sym (now b))

    same_by : (b : K) (t : Bool) → is_eq (cmp k b) ≡ t → was b ≡ cond t (was k) (was b)
    same_by b true e = alike b e
    same_by b false e = refl

    -- the key has the writer that it had
    pub listed_same : ((b : K) → is b ≡ cond (is_eq (cmp k b)) (was k) (was b)) → (a : ℕ) (b : K) → has_pair session_cmp cmp old a b ≡ is_writer a (is b)
    listed_same now a b = listed a b ∙ ap (is_writer a) (same_by b _ refl ∙ sym (now b))

    less_by : (a : ℕ) (b : K) (t : Bool) → is_eq (cmp k b) ≡ t → was k ≡ Some s → (not (is_eq (pair_cmp session_cmp cmp (a, b) (s, k))) && has_pair session_cmp cmp old a b) ≡ is_writer a (cond t None (was b))
    less_by a b true e own =
        let same : was b ≡ Some s = alike b e ∙ own in
        rw (pair_is a b true e) (ap (λ x. not (eqb a s && true) && x) (listed a b ∙ ap (is_writer a) same) ∙ ap (λ x. not x && eqb a s) (and_true (eqb a s)) ∙ not_and (eqb a s))
    less_by a b false e own = rw (pair_is a b false e) (ap (λ x. not x && has_pair session_cmp cmp old a b) (and_false (eqb a s)) ∙ listed a b)

    -- the key has no writer, and this session was
    pub listed_less : was k ≡ Some s → ((b : K) → is b ≡ cond (is_eq (cmp k b)) None (was b))
        → ((a : ℕ) (b : K) → has_pair session_cmp cmp new a b ≡ (not (is_eq (pair_cmp session_cmp cmp (a, b) (s, k))) && has_pair session_cmp cmp old a b))
        → (a : ℕ) (b : K) → has_pair session_cmp cmp new a b ≡ is_writer a (is b)
    listed_less own now less a b = less a b ∙ less_by a b _ refl own ∙ ap (is_writer a) (sym (now b))
