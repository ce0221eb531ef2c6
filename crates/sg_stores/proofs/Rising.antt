-- Keys still rise as rows come, are written and end.
use Rattle.std.proofs.Common.{◌≡◌, ℕ, Bool, true, false, cond, List, [], ◌∷◌, Option, Some, None, refl, sym, ap, ◌∙◌, subst}
use Rattle.std.specs.declared.cmp.Ordering.{Ordering}
use Rattle.std.specs.declared.cmp.Ordering.TheVariants.{Less, Equal, Greater}
use Rattle.std.specs.Ordering.{ordering_reverse}
use Rattle.std.specs.Cmp.{IsTotalOrder}
use Rattle.std.specs.List.{AllByRecursion}
use Rattle.std.specs.List.Sorted.{IsStrictlySortedBy}
use Rattle.std.specs.Map.{keys_of, lookup}
use Rattle.std.specs.BTreeMap.{insert_entry}
use Rattle.std.proofs.lemmas.Map.{keys-set_value}
use Rattle.sg_versions.specs.declared.version.Version.{Version}
use Rattle.sg_versions.specs.declared.version.WritesEnd.{WritesEnd}
use Rattle.sg_versions.specs.Versions.{is_emptied, ended_of, settled, change_by, change_at}
use Rattle.sg_versions.proofs.Settling.{settled_cons}

module _ {K : Type 0} (cmp : K → K → Ordering) (total : IsTotalOrder cmp) where
  all_behind : (k first : K) (keys : List K) → cmp k first ≡ Less → AllByRecursion (λ x. cmp first x ≡ Less) keys → AllByRecursion (λ x. cmp k x ≡ Less) keys
  all_behind k first [] lt all = tt
  all_behind k first (x ∷ keys) lt all = (total.trans k first x lt all.0, all_behind k first keys lt all.1)

module _ {K X : Type 0} (cmp : K → K → Ordering) (total : IsTotalOrder cmp) where
  -- ---- a key comes
  more_by : (P : K → Type 0) (k : K) (v : X) (r : K × X) (rows : List (K × X)) (o : Ordering) → cmp k r.0 ≡ o → P k → AllByRecursion P (keys_of (r ∷ rows)) → AllByRecursion P (keys_of (insert_entry cmp rows k v)) → AllByRecursion P (keys_of (insert_entry cmp (r ∷ rows) k v))
  more_by P k v r rows Less e here all rest = rw e (here, all)
  more_by P k v r rows Equal e here all rest = rw e all
  more_by P k v r rows Greater e here all rest = rw e (all.0, rest)

  all_more : (P : K → Type 0) (k : K) (v : X) (rows : List (K × X)) → P k → AllByRecursion P (keys_of rows) → AllByRecursion P (keys_of (insert_entry cmp rows k v))
  all_more P k v [] here all = (here, tt)
  all_more P k v (r ∷ rows) here all = more_by P k v r rows _ refl here all (all_more P k v rows here all.1)

  rising_by : (k : K) (v : X) (r : K × X) (rows : List (K × X)) (o : Ordering) → cmp k r.0 ≡ o → IsStrictlySortedBy cmp (keys_of (r ∷ rows)) → IsStrictlySortedBy cmp (keys_of (insert_entry cmp rows k v)) → IsStrictlySortedBy cmp (keys_of (insert_entry cmp (r ∷ rows) k v))
  unfolding IsStrictlySortedBy
  rising_by k v r rows Less e rising rest = rw e ((e, all_behind cmp total k r.0 (keys_of rows) e rising.0), rising)
  rising_by k v r rows Equal e rising rest = rw e rising
  rising_by k v r rows Greater e rising rest =
      let below : cmp r.0 k ≡ Less = total.antisymm r.0 k ∙ ap ordering_reverse e in
      rw e (all_more (λ x. cmp r.0 x ≡ Less) k v rows below rising.0, rest)

  pub rising_inserted : (k : K) (v : X) (rows : List (K × X)) → IsStrictlySortedBy cmp (keys_of rows) → IsStrictlySortedBy cmp (keys_of (insert_entry cmp rows k v))
  unfolding IsStrictlySortedBy
  rising_inserted k v [] rising = (tt, tt)
  rising_inserted k v (r ∷ rows) rising = rising_by k v r rows _ refl rising (rising_inserted k v rows rising.1)

-- ---- a key is written
module _ {K V : Type 0} where
  changed_by : (test : K → Bool) (f : Version V → Version V) (rows : List (K × Version V)) (o : Option (Version V)) → keys_of (change_by test f rows o) ≡ keys_of rows
  changed_by test f rows None = refl
  changed_by test f rows (Some v) = keys-set_value test rows (f v)

  pub keys_changed : (test : K → Bool) (f : Version V → Version V) (rows : List (K × Version V)) → keys_of (change_at test f rows) ≡ keys_of rows
  keys_changed test f rows = changed_by test f rows (lookup test rows)

module _ {K V : Type 0} (cmp : K → K → Ordering) where
  pub rising_changed : (test : K → Bool) (f : Version V → Version V) (rows : List (K × Version V)) → IsStrictlySortedBy cmp (keys_of rows) → IsStrictlySortedBy cmp (keys_of (change_at test f rows))
  rising_changed test f rows rising = subst (IsStrictlySortedBy cmp) (sym (keys_changed test f rows)) rising

  -- ---- a session's writes end
  module _ (e : WritesEnd) (s : ℕ) where
    all_by : (P : K → Type 0) (r : K × Version V) (left : List (K × Version V)) (b : Bool) → P r.0 → AllByRecursion P (keys_of left) → AllByRecursion P (keys_of (cond b left ((r.0, ended_of e s r.1) ∷ left)))
    all_by P r left true here rest = rest
    all_by P r left false here rest = (here, rest)

    all_settled : (P : K → Type 0) (rows : List (K × Version V)) → AllByRecursion P (keys_of rows) → AllByRecursion P (keys_of (settled e s rows))
    all_settled P [] all = tt
    all_settled P (r ∷ rows) all =
        subst (λ (t : List (K × Version V)). AllByRecursion P (keys_of t)) (sym (settled_cons e s r rows)) (all_by P r (settled e s rows) (is_emptied e s r.1) all.0 (all_settled P rows all.1))

    left_by : (r : K × Version V) (left : List (K × Version V)) (b : Bool) → AllByRecursion (λ x. cmp r.0 x ≡ Less) (keys_of left) → IsStrictlySortedBy cmp (keys_of left) → IsStrictlySortedBy cmp (keys_of (cond b left ((r.0, ended_of e s r.1) ∷ left)))
    unfolding IsStrictlySortedBy
    left_by r left true below rest = rest
    left_by r left false below rest = (below, rest)

    pub rising_settled : (rows : List (K × Version V)) → IsStrictlySortedBy cmp (keys_of rows) → IsStrictlySortedBy cmp (keys_of (settled e s rows))
    unfolding IsStrictlySortedBy
    rising_settled [] rising = tt
    rising_settled (r ∷ rows) rising =
        subst (λ (t : List (K × Version V)). IsStrictlySortedBy cmp (keys_of t)) (sym (settled_cons e s r rows))
        (left_by r (settled e s rows) (is_emptied e s r.1) (all_settled (λ x. cmp r.0 x ≡ Less) rows rising.0) (rising_settled rows rising.1))
