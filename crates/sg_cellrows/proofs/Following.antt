-- The first of rising pairs whose key passes a test, and those before it.
use Rattle.std.specs.Prelude.{filter}
use Rattle.std.proofs.Common.{◌≡◌, ◌≤◌, ◌<◌, Bool, true, false, List, [], ◌∷◌, length, Some, None, refl, sym, ap, ◌∙◌, subst, arith}
use mathlib.Core.Bool.{true≢false}
use Rattle.std.specs.declared.cmp.Ordering.{Ordering}
use Rattle.std.specs.declared.cmp.Ordering.TheVariants.{Less, Equal, Greater}
use Rattle.std.specs.Ordering.{is_eq}
use Rattle.std.specs.Cmp.{IsTotalOrder}
use Rattle.std.specs.List.Sorted.{IsStrictlySortedBy}
use Rattle.std.specs.Map.{keys_of, lookup, lookup_entry}
use Rattle.std.specs.BTreeMap.{is_at}
use Rattle.std.proofs.lemmas.Cmp.{tied_itself}
use Rattle.std.proofs.lemmas.Map.{lookup-none}
use Rattle.std.proofs.lemmas.Map.Entries.{none_below_head}
use Rattle.std.proofs.lemmas.Map.Keys.{sorted_tail}

equal_from : (r : Ordering) → is_eq r ≡ true → r ≡ Equal
equal_from Less e = absurd (true≢false (sym e))
equal_from Equal e = refl
equal_from Greater e = absurd (true≢false (sym e))

-- keys that are alike pass alike
abbrev pub Respects : {K : Type 0} → (K → K → Ordering) → (K → Bool) → Type 0
Respects {K} cmp test = (x y : K) → cmp x y ≡ Equal → test x ≡ test y

module _ {K : Type 0} (cmp : K → K → Ordering) (test : K → Bool) (respects : Respects cmp test) where
  apart_by : (q x : K) (b : Bool) → is_eq (cmp q x) ≡ b → test q ≡ true → test x ≡ false → is_eq (cmp q x) ≡ false
  apart_by q x true e p f = absurd (true≢false (sym p ∙ respects q x (equal_from _ e) ∙ f))
  apart_by q x false e p f = e

  -- a key that passes isn't one that doesn't
  apart : (q x : K) → test q ≡ true → test x ≡ false → is_eq (cmp q x) ≡ false
  apart q x p f = apart_by q x _ refl p f

excluded : {K : Type 0} (test later : K → Bool) (within : (k : K) → later k ≡ true → test k ≡ true) (k : K) (b : Bool) → later k ≡ b → test k ≡ false → later k ≡ false
excluded test later within k true e f = absurd (true≢false (sym (within k e) ∙ f))
excluded test later within k false e f = e

module _ {K X : Type 0} (cmp : K → K → Ordering) (total : IsTotalOrder cmp) (test : K → Bool) (respects : Respects cmp test) where
  passes_by : (r : K × X) (rows : List (K × X)) (e : K × X) (b : Bool) → test r.0 ≡ b → (lookup_entry test rows ≡ Some e → test e.0 ≡ true) → lookup_entry test (r ∷ rows) ≡ Some e → test e.0 ≡ true
  passes_by r rows e true h rest found = let f = rw h at found in let same : r ≡ e = cc in subst (λ (x : K × X). test x.0 ≡ true) same h
  passes_by r rows e false h rest found = rest (rw h at found)

  pub passes : (rows : List (K × X)) (e : K × X) → lookup_entry test rows ≡ Some e → test e.0 ≡ true
  passes [] e found = absurd (cc)
  passes (r ∷ rows) e found = passes_by r rows e _ refl (passes rows e) found

  first_here : (r : K × X) (rows : List (K × X)) → lookup (is_at (cmp r.0)) (r ∷ rows) ≡ Some r.1
  first_here r rows = let itself : is_eq (cmp r.0 r.0) ≡ true = ap is_eq (tied_itself total r.0) in rw itself refl

  value_by : (r : K × X) (rows : List (K × X)) (e : K × X) (b : Bool) → test r.0 ≡ b → test e.0 ≡ true → (lookup_entry test rows ≡ Some e → lookup (is_at (cmp e.0)) rows ≡ Some e.1) → lookup_entry test (r ∷ rows) ≡ Some e → lookup (is_at (cmp e.0)) (r ∷ rows) ≡ Some e.1
  value_by r rows e true h p rest found = let f = rw h at found in let same : r ≡ e = cc in subst (λ (x : K × X). lookup (is_at (cmp x.0)) (r ∷ rows) ≡ Some x.1) same (first_here r rows)
  value_by r rows e false h p rest found = let other = apart cmp test respects e.0 r.0 p h in rw other (rest (rw h at found))

  -- it has its value
  pub value_is : (rows : List (K × X)) (e : K × X) → lookup_entry test rows ≡ Some e → lookup (is_at (cmp e.0)) rows ≡ Some e.1
  value_is [] e found = absurd (cc)
  value_is (r ∷ rows) e found = value_by r rows e _ refl (passes (r ∷ rows) e found) (value_is rows e) found

  before_by : (q : K) (r : K × X) (rows : List (K × X)) (e : K × X) (b : Bool) → test r.0 ≡ b → test q ≡ true → cmp q e.0 ≡ Less → IsStrictlySortedBy cmp (keys_of (r ∷ rows))
      → (lookup_entry test rows ≡ Some e → lookup (is_at (cmp q)) rows ≡ None) → lookup_entry test (r ∷ rows) ≡ Some e → lookup (is_at (cmp q)) (r ∷ rows) ≡ None
  before_by q r rows e true h p below rising rest found =
      let f = rw h at found in let same : r ≡ e = cc in
      lookup-none (is_at (cmp q)) (r ∷ rows) (none_below_head total q r rows rising (subst (λ (x : K × X). cmp q x.0 ≡ Less) (sym same) below))
  before_by q r rows e false h p below rising rest found = let other = apart cmp test respects q r.0 p h in rw other (rest (rw h at found))

  -- no key that passes comes before it
  pub none_before : (q : K) (rows : List (K × X)) (e : K × X) → test q ≡ true → cmp q e.0 ≡ Less → IsStrictlySortedBy cmp (keys_of rows) → lookup_entry test rows ≡ Some e → lookup (is_at (cmp q)) rows ≡ None
  none_before q [] e p below rising found = refl
  none_before q (r ∷ rows) e p below rising found = before_by q r rows e _ refl p below rising (none_before q rows e p below (sorted_tail cmp r.0 (keys_of rows) rising)) found

  none_by : (q : K) (r : K × X) (rows : List (K × X)) (b : Bool) → test r.0 ≡ b → test q ≡ true → (lookup_entry test rows ≡ None → lookup (is_at (cmp q)) rows ≡ None) → lookup_entry test (r ∷ rows) ≡ None → lookup (is_at (cmp q)) (r ∷ rows) ≡ None
  none_by q r rows true h p rest found = absurd (let f = rw h at found in cc)
  none_by q r rows false h p rest found = let other = apart cmp test respects q r.0 p h in rw other (rest (rw h at found))

  -- and where there is none, no key that passes is there
  pub none_there : (q : K) (rows : List (K × X)) → test q ≡ true → lookup_entry test rows ≡ None → lookup (is_at (cmp q)) rows ≡ None
  none_there q [] p found = refl
  none_there q (r ∷ rows) p found = none_by q r rows _ refl p (none_there q rows p) found

-- ---- how many pass
module _ {K X : Type 0} (test later : K → Bool) (within : (k : K) → later k ≡ true → test k ≡ true) where
  most_by : (r : K × X) (rows : List (K × X)) (b c : Bool) → later r.0 ≡ b → test r.0 ≡ c → length (filter (λ x. later x.0) rows) ≤ length (filter (λ x. test x.0) rows) → length (filter (λ x. later x.0) (r ∷ rows)) ≤ length (filter (λ x. test x.0) (r ∷ rows))
  most_by r rows true true h k rest = rw (h, k) (omega (arith, rest))
  most_by r rows true false h k rest = absurd (true≢false (sym (within r.0 h) ∙ k))
  most_by r rows false true h k rest = rw (h, k) (omega (arith, rest))
  most_by r rows false false h k rest = rw (h, k) rest

  most : (rows : List (K × X)) → length (filter (λ x. later x.0) rows) ≤ length (filter (λ x. test x.0) rows)
  most [] = omega arith
  most (r ∷ rows) = most_by r rows _ _ refl refl (most rows)

  fewer_by : (r : K × X) (rows : List (K × X)) (e : K × X) (b : Bool) → test r.0 ≡ b → later e.0 ≡ false
      → (lookup_entry test rows ≡ Some e → length (filter (λ x. later x.0) rows) < length (filter (λ x. test x.0) rows))
      → lookup_entry test (r ∷ rows) ≡ Some e → length (filter (λ x. later x.0) (r ∷ rows)) < length (filter (λ x. test x.0) (r ∷ rows))
  fewer_by r rows e true h past rest found =
      let f = rw h at found in let same : r ≡ e = cc in
      let out : later r.0 ≡ false = ap (λ (x : K × X). later x.0) same ∙ past in
      rw (h, out) (let le = most rows in omega (arith, le))
  fewer_by r rows e false h past rest found = let out = excluded test later within r.0 _ refl h in rw (h, out) (rest (rw h at found))

  -- past the first that passes there are fewer
  pub fewer_past : (rows : List (K × X)) (e : K × X) → later e.0 ≡ false → lookup_entry test rows ≡ Some e → length (filter (λ x. later x.0) rows) < length (filter (λ x. test x.0) rows)
  fewer_past [] e past found = absurd (cc)
  fewer_past (r ∷ rows) e past found = fewer_by r rows e _ refl past (fewer_past rows e past) found
