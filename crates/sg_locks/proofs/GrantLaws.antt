-- What pairs in groups say of the grants.
use Rattle.std.specs.Prelude.{find, filter, nat_lt}
use Rattle.std.proofs.Common.{◌≡◌, ℕ, Bool, true, false, cond, ◌||◌, ◌&&◌, List, [], ◌∷◌, Option, Some, None, refl, sym, ap, ◌∙◌, arith, eqb, subst}
use mathlib.Core.Bool.{true≢false}
use Rattle.std.specs.declared.cmp.Ordering.{Ordering}
use Rattle.std.specs.declared.cmp.Ordering.TheVariants.{Less, Equal, Greater}
use Rattle.std.specs.Ordering.{is_lt, is_eq, ordering_then, nat_cmp}
use Rattle.std.specs.Cmp.{IsTotalOrder}
use Rattle.std.specs.List.{AllByRecursion}
use Rattle.std.specs.List.Sorted.{IsStrictlySortedBy}
use Rattle.std.proofs.lemmas.Cmp.{tied_itself}
use Rattle.sg_groups.specs.Groups.{pair_cmp, HasRisingPairs, has_pair, items_of, is_item_above, items_above}

-- ---- tests
pub is_eq-then : (r t : Ordering) → is_eq (ordering_then r t) ≡ (is_eq r && is_eq t)
is_eq-then Less t = refl
is_eq-then Equal t = refl
is_eq-then Greater t = refl

pub is_eq-nat_cmp : (x y : ℕ) → is_eq (nat_cmp x y) ≡ eqb x y
is_eq-nat_cmp x y = by_tests (nat_lt x y) refl
  where
    by_tests : (b : Bool) → nat_lt x y ≡ b → is_eq (cond b Less (cond (eqb x y) Equal Greater)) ≡ eqb x y
    by_tests true e = grind arith
    by_tests false e = last (eqb x y)
      where
        last : (t : Bool) → is_eq (cond t Equal Greater) ≡ t
        last true = refl
        last false = refl

pub and_first : (a b c d : Bool) → b ≡ d → (a && (b && c)) ≡ (d && (a && c))
and_first true b c d e = rw e refl
and_first false true c d e = rw (← e) refl
and_first false false c d e = rw (← e) refl

pub and_none : (b : Bool) → (b && false) ≡ false
and_none true = refl
and_none false = refl

-- ---- items of a group
module _ {B : Type 0} (by_item : B → B → Ordering) where
  -- all are above none
  pub items_above-None : (items : List B) → items_above by_item None items ≡ items
  items_above-None [] = refl
  items_above-None (b ∷ items) = ap (λ t. b ∷ t) (items_above-None items)

  found_holds_by : (P : B → Type 0) (test : B → Bool) (b : B) (items : List B) (c : B) (t : Bool) → test b ≡ t → P b → (find test items ≡ Some c → P c) → find test (b ∷ items) ≡ Some c → P c
  found_holds_by P test b items c true h here later e = let f = rw h at e in let same : b ≡ c = cc in subst P same here
  found_holds_by P test b items c false h here later e = later (rw h at e)

  found_holds : (P : B → Type 0) (test : B → Bool) (items : List B) (c : B) → AllByRecursion P items → find test items ≡ Some c → P c
  found_holds P test [] c all e = absurd (cc)
  found_holds P test (b ∷ items) c all e = found_holds_by P test b items c _ refl all.0 (found_holds P test items c all.1) e

  none_passes_by : (test : B → Bool) (b : B) (items : List B) (t : Bool) → test b ≡ t → (find test items ≡ None → filter test items ≡ []) → find test (b ∷ items) ≡ None → filter test (b ∷ items) ≡ []
  none_passes_by test b items true h later e = absurd (let f = rw h at e in cc)
  none_passes_by test b items false h later e = rw h (later (rw h at e))

  pub none_passes : (test : B → Bool) (items : List B) → find test items ≡ None → filter test items ≡ []
  none_passes test [] e = refl
  none_passes test (b ∷ items) e = none_passes_by test b items _ refl (none_passes test items) e

  -- no items are left where none is found
  pub nothing_found : (items : List B) → find (is_item_above by_item None) items ≡ None → items ≡ []
  nothing_found items e = sym (items_above-None items) ∙ none_passes (is_item_above by_item None) items e

  module _ (total : IsTotalOrder by_item) where
    above_more : (o : Option B) (c d : B) → is_item_above by_item o c ≡ true → by_item c d ≡ Less → is_item_above by_item o d ≡ true
    above_more None c d h below = refl
    above_more (Some b) c d h below = by_order (by_item b c) refl
      where
        by_order : (r : Ordering) → by_item b c ≡ r → is_lt (by_item b d) ≡ true
        by_order Less e = ap is_lt (total.trans b c d e below)
        by_order Equal e = absurd (true≢false (sym h ∙ ap is_lt e))
        by_order Greater e = absurd (true≢false (sym h ∙ ap is_lt e))

    all_above : (o : Option B) (c : B) (items : List B) → is_item_above by_item o c ≡ true → AllByRecursion (λ d. by_item c d ≡ Less) items → items_above by_item o items ≡ items
    all_above o c [] h all = refl
    all_above o c (d ∷ items) h all = let here = above_more o c d h all.0 in rw here (ap (λ t. d ∷ t) (all_above o c items h all.1))

    all_past : (c : B) (items : List B) → AllByRecursion (λ d. by_item c d ≡ Less) items → items_above by_item (Some c) items ≡ items
    all_past c [] all = refl
    all_past c (d ∷ items) all = let here = all.0 in rw here (ap (λ t. d ∷ t) (all_past c items all.1))

    not_below : (b c : B) → by_item b c ≡ Less → is_item_above by_item (Some c) b ≡ false
    not_below b c e = by_order (by_item c b) refl
      where
        by_order : (r : Ordering) → by_item c b ≡ r → is_lt (by_item c b) ≡ false
        by_order Less f = absurd (true≢false (sym (ap is_lt (total.trans b c b e f)) ∙ ap is_lt (tied_itself total b)))
        by_order Equal f = ap is_lt f
        by_order Greater f = ap is_lt f

    first_here : (o : Option B) (b c : B) (items : List B) → AllByRecursion (λ d. by_item b d ≡ Less) items → b ≡ c → is_item_above by_item o b ≡ true → b ∷ items_above by_item o items ≡ c ∷ items_above by_item (Some c) (b ∷ items)
    first_here o b c items rising same h =
        let itself = ap is_lt (tied_itself total b) in
        subst (λ (x : B). b ∷ items_above by_item o items ≡ x ∷ items_above by_item (Some x) (b ∷ items)) same
        (rw itself (ap (λ t. b ∷ t) (all_above o b items h rising ∙ sym (all_past b items rising))))

    found_first_by : (o : Option B) (b : B) (items : List B) (c : B) (t : Bool) → is_item_above by_item o b ≡ t → AllByRecursion (λ d. by_item b d ≡ Less) items
        → (find (is_item_above by_item o) items ≡ Some c → items_above by_item o items ≡ c ∷ items_above by_item (Some c) items)
        → find (is_item_above by_item o) (b ∷ items) ≡ Some c → items_above by_item o (b ∷ items) ≡ c ∷ items_above by_item (Some c) (b ∷ items)
    found_first_by o b items c true h rising later e = let f = rw h at e in let same : b ≡ c = cc in rw h (first_here o b c items rising same h)
    found_first_by o b items c false h rising later e =
        let f = rw h at e in
        let not_above = not_below b c (found_holds (λ d. by_item b d ≡ Less) (is_item_above by_item o) items c rising f) in
        rw (h, not_above) (later f)

    -- the first item that is found, and those above it
    pub found_first : (o : Option B) (items : List B) (c : B) → IsStrictlySortedBy by_item items → find (is_item_above by_item o) items ≡ Some c → items_above by_item o items ≡ c ∷ items_above by_item (Some c) items
    unfolding IsStrictlySortedBy
    found_first o [] c rising e = absurd (cc)
    found_first o (b ∷ items) c rising e = found_first_by o b items c _ refl rising.0 (found_first o items c rising.1) e

-- the items of a group rise
module _ {A B : Type 0} (by_group : A → A → Ordering) (by_item : B → B → Ordering) (ga : IsTotalOrder by_group) (a : A) where
  item_less : (x y : A) (b d : B) → is_eq (by_group a x) ≡ true → is_eq (by_group a y) ≡ true → ordering_then (by_group x y) (by_item b d) ≡ Less → by_item b d ≡ Less
  item_less x y b d h k e = by_order (by_group a x) refl
    where
      by_order : (r : Ordering) → by_group a x ≡ r → by_item b d ≡ Less
      by_order Less f = absurd (true≢false (sym h ∙ ap is_eq f))
      by_order Greater f = absurd (true≢false (sym h ∙ ap is_eq f))
      by_order Equal f = tied (by_group x y) refl (ap is_eq (sym (ga.congr a x y f)) ∙ k)
        where
          tied : (r : Ordering) → by_group x y ≡ r → is_eq (by_group x y) ≡ true → by_item b d ≡ Less
          tied Less i t = absurd (true≢false (sym t ∙ ap is_eq i))
          tied Greater i t = absurd (true≢false (sym t ∙ ap is_eq i))
          tied Equal i t = rw i at e

  items_less_by : (p q : A × B) (ps : List (A × B)) (t : Bool) → is_eq (by_group a q.0) ≡ t → (is_eq (by_group a q.0) ≡ true → by_item p.1 q.1 ≡ Less) → AllByRecursion (λ d. by_item p.1 d ≡ Less) (items_of by_group a ps) → AllByRecursion (λ d. by_item p.1 d ≡ Less) (items_of by_group a (q ∷ ps))
  items_less_by p q ps true k here rest = rw k (here k, rest)
  items_less_by p q ps false k here rest = rw k rest

  items_less : (p : A × B) (ps : List (A × B)) → is_eq (by_group a p.0) ≡ true → AllByRecursion (λ q. pair_cmp by_group by_item p q ≡ Less) ps → AllByRecursion (λ d. by_item p.1 d ≡ Less) (items_of by_group a ps)
  items_less p [] h all = tt
  items_less p (q ∷ ps) h all = items_less_by p q ps _ refl (λ k. item_less p.0 q.0 p.1 q.1 h k all.0) (items_less p ps h all.1)

  items_rise_by : (p : A × B) (ps : List (A × B)) (t : Bool) → is_eq (by_group a p.0) ≡ t → (is_eq (by_group a p.0) ≡ true → AllByRecursion (λ d. by_item p.1 d ≡ Less) (items_of by_group a ps)) → IsStrictlySortedBy by_item (items_of by_group a ps) → IsStrictlySortedBy by_item (items_of by_group a (p ∷ ps))
  unfolding IsStrictlySortedBy
  items_rise_by p ps true k here rest = rw k (here k, rest)
  items_rise_by p ps false k here rest = rw k rest

  pub items_rise : (ps : List (A × B)) → HasRisingPairs by_group by_item ps → IsStrictlySortedBy by_item (items_of by_group a ps)
  unfolding IsStrictlySortedBy
  items_rise [] rising = tt
  items_rise (p ∷ ps) rising = items_rise_by p ps _ refl (λ k. items_less p ps k rising.0) (items_rise ps rising.1)

  module _ (gb : IsTotalOrder by_item) (test : B → Bool) (c : B) where
    or_true : (b : Bool) → (b || true) ≡ true
    or_true true = refl
    or_true false = refl

    found_first_there : (p : A × B) (ps : List (A × B)) → is_eq (by_group a p.0) ≡ true → p.1 ≡ c → has_pair by_group by_item (p ∷ ps) a c ≡ true
    found_first_there p ps k same =
        let first : is_eq (pair_cmp by_group by_item (a, c) p) ≡ true = is_eq-then (by_group a p.0) (by_item c p.1) ∙ rw k (subst (λ (x : B). is_eq (by_item c x) ≡ true) (sym same) (ap is_eq (tied_itself gb c))) in
        rw first refl

    found_later : (p : A × B) (ps : List (A × B)) → has_pair by_group by_item ps a c ≡ true → has_pair by_group by_item (p ∷ ps) a c ≡ true
    found_later p ps there = rw there (or_true (is_eq (pair_cmp by_group by_item (a, c) p)))

    found_item : (p : A × B) (ps : List (A × B)) (t : Bool) → test p.1 ≡ t → is_eq (by_group a p.0) ≡ true → (find test (items_of by_group a ps) ≡ Some c → has_pair by_group by_item ps a c ≡ true) → find test (p.1 ∷ items_of by_group a ps) ≡ Some c → has_pair by_group by_item (p ∷ ps) a c ≡ true
    found_item p ps true h k later e = let f = rw h at e in let same : p.1 ≡ c = cc in found_first_there p ps k same
    found_item p ps false h k later e = found_later p ps (later (rw h at e))

    found_there_by : (p : A × B) (ps : List (A × B)) (t : Bool) → is_eq (by_group a p.0) ≡ t → (find test (items_of by_group a ps) ≡ Some c → has_pair by_group by_item ps a c ≡ true) → find test (items_of by_group a (p ∷ ps)) ≡ Some c → has_pair by_group by_item (p ∷ ps) a c ≡ true
    found_there_by p ps true k later e = found_item p ps _ refl k later (rw k at e)
    found_there_by p ps false k later e = found_later p ps (later (rw k at e))

    -- an item that is found is there
    pub found_there : (ps : List (A × B)) → find test (items_of by_group a ps) ≡ Some c → has_pair by_group by_item ps a c ≡ true
    found_there [] e = absurd (cc)
    found_there (p ∷ ps) e = found_there_by p ps _ refl (found_there ps) e
