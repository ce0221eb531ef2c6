-- Pairs of a group and an item, in the order of the groups and, within one, of its items.
use Rattle.std.specs.Prelude.{ℕ, Bool, List, [], ◌∷◌, cond, filter, Some, None, refl}
use Rattle.std.specs.declared.cmp.Ordering.{Ordering}
use Rattle.std.specs.declared.option.Option.{Option}
use Rattle.std.specs.Ordering.{is_eq, is_lt, ordering_then}
use Rattle.std.specs.Option.{option_cmp}
use Rattle.std.specs.List.{list_any}
use Rattle.std.specs.List.Sorted.{IsStrictlySortedBy}
use Rattle.std.specs.Map.{keys_of}
use Rattle.std.specs.Coded.{Coded, code_by, coded×, coded_ℕ, coded_list}

-- the pairs, and how many new ones fit without further memory
pub record Grouped (A B : Type 0) : Type 0 where
  pub pairs : List (A × B)
  pub spare : ℕ

abbrev pub grouped_code : {A B : Type 0} → Coded A → Coded B → Coded (Grouped A B)
grouped_code {A} {B} group item =
    code_by (List (A × B) × ℕ) (coded× (coded_list (coded× group item)) coded_ℕ) (λ s. (s.pairs, s.spare)) (λ p. record { pairs = p.0; spare = p.1 }) (λ _. refl)

-- a pair's item, if it is no mark of where its group begins
abbrev pub with_item : {A B : Type 0} → A → Option B → List (A × B) → List (A × B)
with_item a None ps = ps
with_item a (Some b) ps = (a, b) ∷ ps

-- the pairs of the entries, without the marks
abbrev pub pairs_of : {A B U : Type 0} → List ((A × Option B) × U) → List (A × B)
pairs_of [] = []
pairs_of (e ∷ es) = with_item e.0.0 e.0.1 (pairs_of es)

module _ {A B : Type 0} (by_group : A → A → Ordering) (by_item : B → B → Ordering) where
  -- by the group, and then by the item
  abbrev pub pair_cmp : A × B → A × B → Ordering
  pair_cmp x y = ordering_then (by_group x.0 y.0) (by_item x.1 y.1)

  -- the same with marks, which stand first in their group
  abbrev pub entry_cmp : A × Option B → A × Option B → Ordering
  entry_cmp x y = ordering_then (by_group x.0 y.0) (option_cmp by_item x.1 y.1)

  -- each entry is below those after it
  abbrev pub HasRisingEntries : {U : Type 0} → List ((A × Option B) × U) → Type 0
  HasRisingEntries es = IsStrictlySortedBy entry_cmp (keys_of es)

  -- each pair is below those after it
  abbrev pub HasRisingPairs : List (A × B) → Type 0
  HasRisingPairs pairs = IsStrictlySortedBy pair_cmp pairs

  -- the pair is there
  abbrev pub has_pair : List (A × B) → A → B → Bool
  has_pair pairs a b = list_any (λ p. is_eq (pair_cmp (a, b) p)) pairs

-- the items of a group, rising
abbrev pub items_of : {A B : Type 0} → (A → A → Ordering) → A → List (A × B) → List B
items_of by_group a [] = []
items_of by_group a (p ∷ ps) = cond (is_eq (by_group a p.0)) (p.1 ∷ items_of by_group a ps) (items_of by_group a ps)

-- the item is above the other, if there is one
abbrev pub is_item_above : {B : Type 0} → (B → B → Ordering) → Option B → B → Bool
is_item_above by_item other b = is_lt (option_cmp by_item other (Some b))

-- the items above one, and all where there is none
abbrev pub items_above : {B : Type 0} → (B → B → Ordering) → Option B → List B → List B
items_above by_item other items = filter (is_item_above by_item other) items

-- the entry's item, if it is of this group
abbrev pub item_in : {A B : Type 0} → (A → A → Ordering) → A → A × Option B → Option B
item_in by_group a e = cond (is_eq (by_group a e.0)) e.1 None
