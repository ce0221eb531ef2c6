-- What the first item of a group says of the group's pairs.
use Rattle.std.specs.Prelude.{find, slice_get, IfSome, IfNone}
use Rattle.std.proofs.Common.{◌≡◌, Bool, true, false, ◌||◌, ◌&&◌, List, [], ◌∷◌, Option, Some, None, refl, sym, ap, ◌∙◌, subst}
use Rattle.std.specs.declared.cmp.Ordering.{Ordering}
use Rattle.std.specs.declared.cmp.Ordering.TheVariants.{Less, Equal, Greater}
use Rattle.std.specs.Ordering.{is_eq, ordering_then}
use Rattle.std.specs.Cmp.{IsTotalOrder}
use Rattle.std.proofs.lemmas.Cmp.{tied_itself}
use Rattle.sg_groups.specs.Groups.{pair_cmp, has_pair, items_of, is_item_above}

is_eq-then : (r t : Ordering) → is_eq (ordering_then r t) ≡ (is_eq r && is_eq t)
is_eq-then Less t = refl
is_eq-then Equal t = refl
is_eq-then Greater t = refl

or_true : (b : Bool) → (b || true) ≡ true
or_true true = refl
or_true false = refl

module _ {A B : Type 0} (by_group : A → A → Ordering) (by_item : B → B → Ordering) (a : A) where
  module _ (gb : IsTotalOrder by_item) (test : B → Bool) (c : B) where
    found_first_there : (p : A × B) (ps : List (A × B)) → is_eq (by_group a p.0) ≡ true → p.1 ≡ c → has_pair by_group by_item (p ∷ ps) a c ≡ true
    found_first_there p ps k same =
        let first : is_eq (pair_cmp by_group by_item (a, c) p) ≡ true = is_eq-then (by_group a p.0) (by_item c p.1) ∙ rw k (subst (λ (x : B). is_eq (by_item c x) ≡ true) (sym same) (ap is_eq (tied_itself gb c))) in
        rw first refl

    found_later : (p : A × B) (ps : List (A × B)) → has_pair by_group by_item ps a c ≡ true → has_pair by_group by_item (p ∷ ps) a c ≡ true
    found_later p ps there = rw there (or_true (is_eq (pair_cmp by_group by_item (a, c) p)))

    found_item : (p : A × B) (ps : List (A × B)) (t : Bool) → test p.1 ≡ t → is_eq (by_group a p.0) ≡ true → (find test (items_of by_group a ps) ≡ Some c → has_pair by_group by_item ps a c ≡ true) → find test (p.1 ∷ items_of by_group a ps) ≡ Some c → has_pair by_group by_item (p ∷ ps) a c ≡ true
    found_item p ps true h k later e = let f = rw h at e in let same : p.1 ≡ c = cc in found_first_there p ps k same
    found_item p ps false h k later e = found_later p ps (later (rw h at e))

    found_there_by : (p : A × B) (ps : List (A × B)) (t : Bool) → is_eq (by_group a p.0) ≡ t → (find test (items_of by_group a ps) ≡ Some c → has_pair by_group by_item ps a c ≡ true) → find test (items_of by_group a (p ∷ ps)) ≡ Some c → has_pair by_group by_item (p ∷ ps) a c ≡ true
    found_there_by p ps true k later e = found_item p ps _ refl k later (rw k at e)
    found_there_by p ps false k later e = found_later p ps (later (rw k at e))

    -- an item that is found is there
    pub found_there : (ps : List (A × B)) → find test (items_of by_group a ps) ≡ Some c → has_pair by_group by_item ps a c ≡ true
    found_there [] e = absurd (cc)
    found_there (p ∷ ps) e = found_there_by p ps _ refl (found_there ps) e

  none_by : (b : B) (p : A × B) (ps : List (A × B)) (t : Bool) → is_eq (by_group a p.0) ≡ t → (find (is_item_above by_item None) (items_of by_group a ps) ≡ None → has_pair by_group by_item ps a b ≡ false) → find (is_item_above by_item None) (items_of by_group a (p ∷ ps)) ≡ None → has_pair by_group by_item (p ∷ ps) a b ≡ false
  none_by b p ps true k later e = absurd (let f = rw k at e in cc)
  none_by b p ps false k later e =
      let other : is_eq (pair_cmp by_group by_item (a, b) p) ≡ false = is_eq-then (by_group a p.0) (by_item b p.1) ∙ rw k refl in
      rw other (later (rw k at e))

  -- a group without a first item has none
  pub nothing_there : (b : B) (ps : List (A × B)) → find (is_item_above by_item None) (items_of by_group a ps) ≡ None → has_pair by_group by_item ps a b ≡ false
  nothing_there b [] e = refl
  nothing_there b (p ∷ ps) e = none_by b p ps _ refl (nothing_there b ps) e

  -- the first item, if there is one, is there
  pub first_there : IsTotalOrder by_item → (ps : List (A × B)) (r : Option B) → r ≡ find (is_item_above by_item None) (items_of by_group a ps) → IfSome r (λ c. has_pair by_group by_item ps a c ≡ true)
  first_there gb ps None e = tt
  first_there gb ps (Some c) e = found_there gb (is_item_above by_item None) c ps (sym e)

  -- and where there is none, the group has none
  pub first_none : (ps : List (A × B)) (r : Option B) → r ≡ find (is_item_above by_item None) (items_of by_group a ps) → IfNone r ((b : B) → has_pair by_group by_item ps a b ≡ false)
  first_none ps None e = λ b. nothing_there b ps (sym e)
  first_none ps (Some c) e = tt

-- the first of the items above none is the first of them
pub first_of_all : {B : Type 0} (by_item : B → B → Ordering) (items : List B) → find (is_item_above by_item None) items ≡ slice_get items 0
first_of_all by_item [] = refl
first_of_all by_item (b ∷ items) = refl
