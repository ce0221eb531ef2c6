-- What the entries of a store say of the pairs in groups.
use Rattle.std.specs.Prelude.{not, find}
use Rattle.std.proofs.Common.{◌≡◌, ◌+◌, Bool, true, false, cond, ◌||◌, ◌&&◌, List, [], ◌∷◌, length, Option, Some, None, refl, sym, ap, ◌∙◌, arith, Bor}
use mathlib.Core.Bool.{true≢false}
use Rattle.std.specs.declared.cmp.Ordering.{Ordering}
use Rattle.std.specs.declared.cmp.Ordering.TheVariants.{Less, Equal, Greater}
use Rattle.std.specs.Ordering.{is_lt, is_eq, ordering_then, eq_by_cmp}
use Rattle.std.specs.Option.{option_cmp, option_copied, is_some}
use Rattle.std.specs.Cmp.{IsTotalOrder, on_total, then_total}
use Rattle.std.specs.Cmp.Lexicographic.{options_total}
use Rattle.std.specs.List.{AllByRecursion, list_any}
use Rattle.std.specs.List.Sorted.{IsStrictlySortedBy}
use Rattle.std.proofs.lemmas.Cmp.{alike_right, eq_by_cmp_equiv, tied_back}
use Rattle.std.proofs.lemmas.Map.Keys.{sorted_head, sorted_tail, IsDistinct-from_sorted}
use Rattle.std.proofs.lemmas.Map.{lookup-remove_entry}
use Rattle.std.proofs.lemmas.Map.Made.{is_some-lookup}
use Rattle.std.specs.Map.{keys_of, lookup, lookup_entry, remove_entry}
use Rattle.std.specs.BTreeMap.{insert_entry, is_at}
use Rattle.sg_groups.specs.Groups.{pairs_of, with_item, pair_cmp, entry_cmp, HasRisingEntries, HasRisingPairs, has_pair, items_of, is_item_above, item_in}

pub is_some-copied : {X : Type 0} (r : Option (Bor X)) → is_some (option_copied r) ≡ is_some r
is_some-copied None = refl
is_some-copied (Some x) = refl

or_swap : (a b c : Bool) → (a || (b || c)) ≡ (b || (a || c))
or_swap true true c = refl
or_swap true false c = refl
or_swap false b c = refl

or_same : (a b c : Bool) → a ≡ b → (b || c) ≡ (a || (b || c))
or_same true b c e = rw (← e) refl
or_same false b c e = refl

-- ---- keys with an order
-- a key is one of the keys
abbrev pub has_key : {K : Type 0} → (K → K → Ordering) → List K → K → Bool
has_key cmp ks q = list_any (λ x. is_eq (cmp q x)) ks

module _ {K : Type 0} (cmp : K → K → Ordering) (total : IsTotalOrder cmp) where
  any_insert_by : {V : Type 0} (q k : K) (v : V) (e : K × V) (es : List (K × V)) (r : Ordering) → cmp k e.0 ≡ r
      → has_key cmp (keys_of (insert_entry cmp es k v)) q ≡ (is_eq (cmp q k) || has_key cmp (keys_of es) q)
      → has_key cmp (keys_of (insert_entry cmp (e ∷ es) k v)) q ≡ (is_eq (cmp q k) || has_key cmp (keys_of (e ∷ es)) q)
  any_insert_by q k v e es Less h rest = rw h refl
  any_insert_by q k v e es Equal h rest = rw h (or_same (is_eq (cmp q k)) (is_eq (cmp q e.0)) (has_key cmp (keys_of es) q) (ap is_eq (alike_right total k e.0 q h)))
  any_insert_by q k v e es Greater h rest = rw h (ap (λ t. is_eq (cmp q e.0) || t) rest ∙ or_swap (is_eq (cmp q e.0)) (is_eq (cmp q k)) (has_key cmp (keys_of es) q))

  -- a key is there after an insertion where it is that key or was there
  pub has_key-insert_entry : {V : Type 0} (q k : K) (v : V) (es : List (K × V)) → has_key cmp (keys_of (insert_entry cmp es k v)) q ≡ (is_eq (cmp q k) || has_key cmp (keys_of es) q)
  has_key-insert_entry q k v [] = refl
  has_key-insert_entry q k v (e ∷ es) = any_insert_by q k v e es _ refl (has_key-insert_entry q k v es)

  unless : {V : Type 0} (b c : Bool) (o : Option V) → b ≡ c → is_some (cond b None o) ≡ (not c && is_some o)
  unless true c o e = rw (← e) refl
  unless false c o e = rw (← e) refl

  flipped : (q k : K) (r t : Ordering) → cmp q k ≡ r → cmp k q ≡ t → is_eq t ≡ is_eq r
  flipped q k Equal t e f = ap is_eq (sym f ∙ tied_back total q k e)
  flipped q k Less Equal e f = ap is_eq (sym (tied_back total k q f) ∙ e)
  flipped q k Less Less e f = refl
  flipped q k Less Greater e f = refl
  flipped q k Greater Equal e f = ap is_eq (sym (tied_back total k q f) ∙ e)
  flipped q k Greater Less e f = refl
  flipped q k Greater Greater e f = refl

  alike : (k x y : K) (r : Ordering) → cmp k x ≡ r → is_eq (cmp k x) ≡ true → is_eq (cmp k y) ≡ eq_by_cmp cmp x y
  alike k x y Equal e t = ap is_eq (total.congr k x y e)
  alike k x y Less e t = absurd (true≢false (sym t ∙ ap is_eq e))
  alike k x y Greater e t = absurd (true≢false (sym t ∙ ap is_eq e))

  -- and after a removal where it is another and was there
  pub has_key-remove_entry : {V : Type 0} (q k : K) (es : List (K × V)) → IsStrictlySortedBy cmp (keys_of es)
      → has_key cmp (keys_of (remove_entry (is_at (cmp k)) es)) q ≡ (not (is_eq (cmp q k)) && has_key cmp (keys_of es) q)
  has_key-remove_entry q k es rising =
      sym (is_some-lookup (λ x. is_eq (cmp q x)) (remove_entry (is_at (cmp k)) es))
      ∙ ap is_some (lookup-remove_entry (eq_by_cmp_equiv total) (is_at (cmp k)) (λ x y t. alike k x y _ refl t) q es (IsDistinct-from_sorted cmp (keys_of es) rising))
      ∙ unless (is_eq (cmp k q)) (is_eq (cmp q k)) (lookup (λ x. is_eq (cmp q x)) es) (flipped q k _ _ refl refl)
      ∙ ap (λ b. not (is_eq (cmp q k)) && b) (is_some-lookup (λ x. is_eq (cmp q x)) es)

module _ {A B : Type 0} (by_group : A → A → Ordering) (by_item : B → B → Ordering) where
  pub entry_total : IsTotalOrder by_group → IsTotalOrder by_item → IsTotalOrder (entry_cmp by_group by_item)
  entry_total ga gb = then_total (on_total (λ (t : A × Option B). t.0) ga) (on_total (λ (t : A × Option B). t.1) (options_total gb))

  then_greater : (r : Ordering) → is_eq (ordering_then r Greater) ≡ false
  then_greater Less = refl
  then_greater Equal = refl
  then_greater Greater = refl

  has_pair_by : (a x : A) (b : B) (o : Option B) (ps : List (A × B)) (rest : Bool) → rest ≡ has_pair by_group by_item ps a b
      → (is_eq (entry_cmp by_group by_item (a, Some b) (x, o)) || rest) ≡ has_pair by_group by_item (with_item x o ps) a b
  has_pair_by a x b None ps rest e = rw (then_greater (by_group a x)) e
  has_pair_by a x b (Some c) ps rest e = ap (λ t. is_eq (ordering_then (by_group a x) (by_item b c)) || t) e

  -- a pair is there where its entry is
  pub has_pair_is : {U : Type 0} (a : A) (b : B) (es : List ((A × Option B) × U)) → has_key (entry_cmp by_group by_item) (keys_of es) (a, Some b) ≡ has_pair by_group by_item (pairs_of es) a b
  has_pair_is a b [] = refl
  has_pair_is a b (e ∷ es) = has_pair_by a e.0.0 b e.0.1 (pairs_of es) _ (has_pair_is a b es)

  above_by : (p : A × B) (x : A) (o : Option B) (ps : List (A × B)) → entry_cmp by_group by_item (p.0, Some p.1) (x, o) ≡ Less → AllByRecursion (λ q. pair_cmp by_group by_item p q ≡ Less) ps → AllByRecursion (λ q. pair_cmp by_group by_item p q ≡ Less) (with_item x o ps)
  above_by p x None ps h rest = rest
  above_by p x (Some c) ps h rest = (h, rest)

  above_all : {U : Type 0} (p : A × B) (es : List ((A × Option B) × U)) → AllByRecursion (λ k. entry_cmp by_group by_item (p.0, Some p.1) k ≡ Less) (keys_of es) → AllByRecursion (λ q. pair_cmp by_group by_item p q ≡ Less) (pairs_of es)
  above_all p [] all = tt
  above_all p (e ∷ es) all = above_by p e.0.0 e.0.1 (pairs_of es) all.0 (above_all p es all.1)

  rising_by : {U : Type 0} (x : A) (o : Option B) (es : List ((A × Option B) × U)) → AllByRecursion (λ k. entry_cmp by_group by_item (x, o) k ≡ Less) (keys_of es) → HasRisingPairs by_group by_item (pairs_of es) → HasRisingPairs by_group by_item (with_item x o (pairs_of es))
  unfolding IsStrictlySortedBy
  rising_by x None es all rest = rest
  rising_by x (Some c) es all rest = (above_all (x, c) es all, rest)

  -- the pairs rise where the entries do
  pub rising_pairs : {U : Type 0} (es : List ((A × Option B) × U)) → IsStrictlySortedBy (entry_cmp by_group by_item) (keys_of es) → HasRisingPairs by_group by_item (pairs_of es)
  unfolding IsStrictlySortedBy
  rising_pairs [] rising = tt
  rising_pairs (e ∷ es) rising = rising_by e.0.0 e.0.1 es rising.0 (rising_pairs es rising.1)

  shorter_by : (a x : A) (b : B) (o : Option B) (ps qs : List (A × B)) (t : Bool) → is_eq (entry_cmp by_group by_item (a, Some b) (x, o)) ≡ t
      → has_pair by_group by_item (with_item x o ps) a b ≡ true
      → (has_pair by_group by_item ps a b ≡ true → length qs + 1 ≡ length ps)
      → (t ≡ true → length ps + 1 ≡ length (with_item x o ps)) × (t ≡ false → length (with_item x o qs) + 1 ≡ length (with_item x o ps))
  shorter_by a x b None ps qs t e has rest = (λ f. absurd (true≢false (sym f ∙ sym e ∙ then_greater (by_group a x))), λ f. rest has)
  shorter_by a x b (Some c) ps qs t e has rest = (λ f. omega arith, λ f. let g : is_eq (ordering_then (by_group a x) (by_item b c)) ≡ false = e ∙ f in let more = rw g at has in let l : length qs + 1 ≡ length ps = rest more in omega arith)

  shorter_cases : {U : Type 0} (a : A) (b : B) (e : (A × Option B) × U) (es : List ((A × Option B) × U)) (t : Bool) → is_eq (entry_cmp by_group by_item (a, Some b) e.0) ≡ t
      → (t ≡ true → length (pairs_of es) + 1 ≡ length (pairs_of (e ∷ es))) × (t ≡ false → length (pairs_of (e ∷ remove_entry (is_at (entry_cmp by_group by_item (a, Some b))) es)) + 1 ≡ length (pairs_of (e ∷ es)))
      → length (pairs_of (remove_entry (is_at (entry_cmp by_group by_item (a, Some b))) (e ∷ es))) + 1 ≡ length (pairs_of (e ∷ es))
  shorter_cases a b e es true h both = rw h (both.0 refl)
  shorter_cases a b e es false h both = rw h (both.1 refl)

  -- without a pair that is there, they are one less
  pub length-removed : {U : Type 0} (a : A) (b : B) (es : List ((A × Option B) × U)) → has_pair by_group by_item (pairs_of es) a b ≡ true → length (pairs_of (remove_entry (is_at (entry_cmp by_group by_item (a, Some b))) es)) + 1 ≡ length (pairs_of es)
  length-removed a b [] has = absurd (true≢false (sym has))
  length-removed a b (e ∷ es) has =
      shorter_cases a b e es _ refl (shorter_by a e.0.0 b e.0.1 (pairs_of es) (pairs_of (remove_entry (is_at (entry_cmp by_group by_item (a, Some b))) es)) _ refl has (length-removed a b es))

-- no entries rise
pub rising_empty : {A B U : Type 0} (by_group : A → A → Ordering) (by_item : B → B → Ordering) (es : List ((A × Option B) × U)) → es ≡ [] → HasRisingEntries by_group by_item es
unfolding IsStrictlySortedBy
rising_empty by_group by_item es e = rw e tt

-- ---- the next item of a group
-- the item of the entry that is found
abbrev pub item_found : {A B U : Type 0} → (A → A → Ordering) → A → Option ((A × Option B) × U) → Option B
item_found by_group a None = None
item_found by_group a (Some e) = item_in by_group a e.0

module _ {A B : Type 0} (by_group : A → A → Ordering) (by_item : B → B → Ordering) (ga : IsTotalOrder by_group) (a : A) where
  past_by : (x y : A) (o : Option B) (rest : List (A × B)) (r t : Ordering) → by_group a x ≡ Less → by_group x y ≡ r → ordering_then r t ≡ Less → items_of by_group a rest ≡ [] → items_of by_group a (with_item y o rest) ≡ []
  past_by x y None rest r t below h e none = none
  past_by x y (Some c) rest Less t below h e none = let far : by_group a y ≡ Less = ga.trans a x y below h in rw far none
  past_by x y (Some c) rest Equal t below h e none = let far : by_group a y ≡ Less = sym (alike_right ga x y a h) ∙ below in rw far none
  past_by x y (Some c) rest Greater t below h e none = absurd (true≢false (sym (ap is_lt e)))

  -- behind a later group no item is of this one
  past_all : {U : Type 0} (x : A) (o : Option B) (es : List ((A × Option B) × U)) → by_group a x ≡ Less → AllByRecursion (λ k. entry_cmp by_group by_item (x, o) k ≡ Less) (keys_of es) → items_of by_group a (pairs_of es) ≡ []
  past_all x o [] below all = refl
  past_all x o (e ∷ es) below all = past_by x e.0.0 e.0.1 (pairs_of es) _ _ below refl all.0 (past_all x o es below all.1)

  module _ (o : Option B) where
    -- the item found among the entries
    abbrev sought : {U : Type 0} → List ((A × Option B) × U) → Option B
    sought es = item_found by_group a (lookup_entry (λ k. is_lt (entry_cmp by_group by_item (a, o) k)) es)

    abbrev wanted : List (A × B) → Option B
    wanted ps = find (is_item_above by_item o) (items_of by_group a ps)

    next_less : {U : Type 0} (e : (A × Option B) × U) (es : List ((A × Option B) × U)) → by_group a e.0.0 ≡ Less → (x : A) (c : Option B) → by_group a x ≡ Less → items_of by_group a (pairs_of es) ≡ [] → sought (e ∷ es) ≡ wanted (with_item x c (pairs_of es))
    next_less e es h x None below none = simp (h, none) refl
    next_less e es h x (Some b) below none = simp (h, below, none) refl

    next_greater : {U : Type 0} (e : (A × Option B) × U) (es : List ((A × Option B) × U)) → by_group a e.0.0 ≡ Greater → (x : A) (c : Option B) → by_group a x ≡ Greater → sought es ≡ wanted (pairs_of es) → sought (e ∷ es) ≡ wanted (with_item x c (pairs_of es))
    next_greater e es h x None over rest = rw h rest
    next_greater e es h x (Some b) over rest = rw (h, over) rest

    no_mark : (o : Option B) → is_lt (option_cmp by_item o None) ≡ false
    no_mark None = refl
    no_mark (Some b) = refl

    -- an entry of the group itself
    next_equal : {U : Type 0} (x : A) (c : Option B) (u : U) (es : List ((A × Option B) × U)) → by_group a x ≡ Equal → sought es ≡ wanted (pairs_of es) → sought (((x, c), u) ∷ es) ≡ wanted (with_item x c (pairs_of es))
    next_equal x None u es h rest = rw (h, no_mark o) rest
    next_equal x (Some b) u es h rest = rw h (by_above _ refl)
      where
        by_above : (t : Bool) → is_item_above by_item o b ≡ t → item_found by_group a (cond (is_item_above by_item o b) (Some ((x, Some b), u)) (lookup_entry (λ k. is_lt (entry_cmp by_group by_item (a, o) k)) es)) ≡ cond (is_item_above by_item o b) (Some b) (wanted (pairs_of es))
        by_above true e = rw (e, h) refl
        by_above false e = rw e rest

    next_by : {U : Type 0} (e : (A × Option B) × U) (es : List ((A × Option B) × U)) (r : Ordering) → by_group a e.0.0 ≡ r → AllByRecursion (λ k. entry_cmp by_group by_item e.0 k ≡ Less) (keys_of es) → sought es ≡ wanted (pairs_of es) → sought (e ∷ es) ≡ wanted (pairs_of (e ∷ es))
    next_by e es Less h all rest = next_less e es h e.0.0 e.0.1 h (past_all e.0.0 e.0.1 es h all)
    next_by e es Equal h all rest = next_equal e.0.0 e.0.1 e.1 es h rest
    next_by e es Greater h all rest = next_greater e es h e.0.0 e.0.1 h rest

    -- the entry after the place is of the group where the group has an item above it, and that is the first
    pub next_is : {U : Type 0} (es : List ((A × Option B) × U)) → IsStrictlySortedBy (entry_cmp by_group by_item) (keys_of es) → sought es ≡ wanted (pairs_of es)
    next_is [] rising = refl
    next_is (e ∷ es) rising = next_by e es _ refl (sorted_head (entry_cmp by_group by_item) e.0 (keys_of es) rising) (next_is es (sorted_tail (entry_cmp by_group by_item) e.0 (keys_of es) rising))
