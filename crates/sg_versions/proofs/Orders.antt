-- Keys under one order: what is alike, and what is looked up after a change.
use Rattle.std.proofs.Common.{◌≡◌, Bool, true, false, cond, List, [], ◌∷◌, Option, Some, None, refl, sym, ap, ◌∙◌}
use mathlib.Core.Bool.{true≢false}
use Rattle.std.specs.declared.cmp.Ordering.{Ordering}
use Rattle.std.specs.declared.cmp.Ordering.TheVariants.{Less, Equal, Greater}
use Rattle.std.specs.Ordering.{is_eq, eq_by_cmp}
use Rattle.std.specs.Cmp.{IsTotalOrder}
use Rattle.std.specs.Map.{keys_of, lookup, remove_entry, set_value}
use Rattle.std.specs.Option.{IsSome}
use Rattle.std.specs.BTreeMap.{insert_entry, is_at}
use Rattle.std.specs.List.Sorted.{IsStrictlySortedBy}
use Rattle.std.proofs.lemmas.Cmp.{alike_right, eq_by_cmp_equiv, tied_back}
use Rattle.std.proofs.lemmas.Map.Keys.{IsDistinct-from_sorted}
use Rattle.std.proofs.lemmas.Map.{lookup-remove_entry, lookup-set_value}

pub equal_from : (r : Ordering) → is_eq r ≡ true → r ≡ Equal
equal_from Less e = absurd (true≢false (sym e))
equal_from Equal e = refl
equal_from Greater e = absurd (true≢false (sym e))

module _ {K : Type 0} (cmp : K → K → Ordering) (total : IsTotalOrder cmp) where
  flipped_by : (q k : K) (r t : Ordering) → cmp q k ≡ r → cmp k q ≡ t → is_eq t ≡ is_eq r
  flipped_by q k Equal t e f = ap is_eq (sym f ∙ tied_back total q k e)
  flipped_by q k Less Equal e f = ap is_eq (sym (tied_back total k q f) ∙ e)
  flipped_by q k Less Less e f = refl
  flipped_by q k Less Greater e f = refl
  flipped_by q k Greater Equal e f = ap is_eq (sym (tied_back total k q f) ∙ e)
  flipped_by q k Greater Less e f = refl
  flipped_by q k Greater Greater e f = refl

  pub flipped : (q k : K) → is_eq (cmp k q) ≡ is_eq (cmp q k)
  flipped q k = flipped_by q k _ _ refl refl

  one : (k x y : K) → is_at (cmp k) x ≡ true → is_at (cmp k) y ≡ eq_by_cmp cmp x y
  one k x y t = ap is_eq (total.congr k x y (equal_from _ t))

  module _ {X : Type 0} where
    -- a key that is alike finds the same
    pub lookup_alike : (k q : K) (es : List (K × X)) → is_eq (cmp k q) ≡ true → lookup (is_at (cmp q)) es ≡ lookup (is_at (cmp k)) es
    lookup_alike k q [] e = refl
    lookup_alike k q (x ∷ es) e =
        let same : is_eq (cmp q x.0) ≡ is_eq (cmp k x.0) = ap is_eq (sym (total.congr k q x.0 (equal_from _ e))) in
        rw same (ap (λ t. cond (is_eq (cmp k x.0)) (Some x.1) t) (lookup_alike k q es e))

    pub lookup_set : (k q : K) (w : X) (es : List (K × X)) → IsSome (lookup (is_at (cmp k)) es) → lookup (is_at (cmp q)) (set_value (is_at (cmp k)) es w) ≡ cond (is_eq (cmp k q)) (Some w) (lookup (is_at (cmp q)) es)
    lookup_set k q w es found = lookup-set_value (eq_by_cmp_equiv total) (is_at (cmp k)) (one k) q w es found

    pub lookup_removed : (k q : K) (es : List (K × X)) → IsStrictlySortedBy cmp (keys_of es) → lookup (is_at (cmp q)) (remove_entry (is_at (cmp k)) es) ≡ cond (is_eq (cmp k q)) None (lookup (is_at (cmp q)) es)
    lookup_removed k q es rising = lookup-remove_entry (eq_by_cmp_equiv total) (is_at (cmp k)) (one k) q es (IsDistinct-from_sorted cmp (keys_of es) rising)

    here_or : (a b : Bool) (v u : X) (o : Option X) → a ≡ b → cond a (Some v) o ≡ cond b (Some v) (cond a (Some u) o)
    here_or true b v u o e = rw (← e) refl
    here_or false b v u o e = rw (← e) refl

    past_by : (q k : K) (v u : X) (x : K) (o : Option X) (t : Bool) → is_eq (cmp q x) ≡ t → cmp k x ≡ Greater → cond t (Some u) (cond (is_eq (cmp k q)) (Some v) o) ≡ cond (is_eq (cmp k q)) (Some v) (cond t (Some u) o)
    past_by q k v u x o true e above =
        let other : is_eq (cmp k q) ≡ false = ap is_eq (alike_right total q x k (equal_from _ e) ∙ above) in
        rw other refl
    past_by q k v u x o false e above = refl

    inserted_by : (k q : K) (v : X) (x : K × X) (es : List (K × X)) (r : Ordering) → cmp k x.0 ≡ r
        → lookup (is_at (cmp q)) (insert_entry cmp es k v) ≡ cond (is_eq (cmp k q)) (Some v) (lookup (is_at (cmp q)) es)
        → lookup (is_at (cmp q)) (insert_entry cmp (x ∷ es) k v) ≡ cond (is_eq (cmp k q)) (Some v) (lookup (is_at (cmp q)) (x ∷ es))
    inserted_by k q v x es Less e rest = rw e (ap (λ t. cond t (Some v) (lookup (is_at (cmp q)) (x ∷ es))) (sym (flipped q k)))
    inserted_by k q v x es Equal e rest =
        let same : is_eq (cmp q x.0) ≡ is_eq (cmp k q) = ap is_eq (sym (alike_right total k x.0 q e)) ∙ sym (flipped q k) in
        rw e (here_or (is_eq (cmp q x.0)) (is_eq (cmp k q)) v x.1 (lookup (is_at (cmp q)) es) same)
    inserted_by k q v x es Greater e rest =
        rw e (ap (λ t. cond (is_eq (cmp q x.0)) (Some x.1) t) rest ∙ past_by q k v x.1 x.0 (lookup (is_at (cmp q)) es) _ refl e)

    pub lookup_inserted : (k q : K) (v : X) (es : List (K × X)) → lookup (is_at (cmp q)) (insert_entry cmp es k v) ≡ cond (is_eq (cmp k q)) (Some v) (lookup (is_at (cmp q)) es)
    lookup_inserted k q v [] = ap (λ t. cond t (Some v) None) (sym (flipped q k))
    lookup_inserted k q v (x ∷ es) = inserted_by k q v x es _ refl (lookup_inserted k q v es)
