-- The rows above a key, one after another.
use Rattle.std.specs.Prelude.{filter, slice_get, nat_lt}
use Rattle.std.proofs.Common.{◌≡◌, ℕ, Bool, true, false, List, [], ◌∷◌, Option, Some, None, refl, sym, ap, ◌∙◌, subst, arith}
use mathlib.Core.Bool.{true≢false}
use Rattle.std.specs.declared.cmp.Ordering.{Ordering}
use Rattle.std.specs.declared.cmp.Ordering.TheVariants.{Less, Equal, Greater}
use Rattle.std.specs.Ordering.{nat_cmp, is_lt, is_le}
use Rattle.std.specs.List.{AllByRecursion}
use Rattle.std.specs.List.Sorted.{IsStrictlySortedBy}
use Rattle.std.specs.Map.{keys_of, lookup_entry}
use Rattle.std.specs.Cmp.{nat_cmp_total}
use Rattle.std.proofs.lemmas.Cmp.{tied_itself}
use Rattle.sg_pages.specs.Stored.{first_from, first_past}
use Rattle.sg_rows.specs.Table.{TableRow, rows_past}

-- the first that passes is the first of those that do
found_first : (test : ℕ → Bool) (r : TableRow) (rows : List TableRow) (b : Bool) → test r.0 ≡ b → lookup_entry test rows ≡ slice_get (filter (λ (x : TableRow). test x.0) rows) 0 → lookup_entry test (r ∷ rows) ≡ slice_get (filter (λ (x : TableRow). test x.0) (r ∷ rows)) 0
found_first test r rows true h rest = rw h refl
found_first test r rows false h rest = rw h rest

entry_is_first : (test : ℕ → Bool) (rows : List TableRow) → lookup_entry test rows ≡ slice_get (filter (λ (x : TableRow). test x.0) rows) 0
entry_is_first test [] = refl
entry_is_first test (r ∷ rows) = found_first test r rows _ refl (entry_is_first test rows)

pub past_is_first : (k : ℕ) (rows : List TableRow) → first_past nat_cmp k rows ≡ slice_get (rows_past (Some k) rows) 0
past_is_first k rows = entry_is_first (λ x. is_lt (nat_cmp k x)) rows

least : (k : ℕ) → is_le (nat_cmp 0 k) ≡ true
least k = by_tests (nat_lt 0 k) refl
  where
    by_tests : (b : Bool) → nat_lt 0 k ≡ b → is_le (nat_cmp 0 k) ≡ true
    by_tests true e = rw e refl
    by_tests false e = let none : k ≡ 0 = grind arith in rw none refl

-- no key is below 0
pub from_zero : (rows : List TableRow) → first_from nat_cmp 0 rows ≡ slice_get rows 0
from_zero [] = refl
from_zero (r ∷ rows) = rw (least r.0) refl

all_past : (k : ℕ) (rows : List TableRow) → AllByRecursion (λ x. nat_cmp k x ≡ Less) (keys_of rows) → rows_past (Some k) rows ≡ rows
all_past k [] all = refl
all_past k (r ∷ rows) all = let here = all.0 in rw here (ap (λ t. r ∷ t) (all_past k rows all.1))

above_trans : (k m : ℕ) (rows : List TableRow) → nat_cmp k m ≡ Less → AllByRecursion (λ x. nat_cmp m x ≡ Less) (keys_of rows) → AllByRecursion (λ x. nat_cmp k x ≡ Less) (keys_of rows)
above_trans k m [] h all = tt
above_trans k m (r ∷ rows) h all = (nat_cmp_total.trans k m r.0 h all.0, above_trans k m rows h all.1)

not_itself : (k : ℕ) → is_lt (nat_cmp k k) ≡ false
not_itself k = ap is_lt (tied_itself nat_cmp_total k)

not_back_by : (k m : ℕ) (o : Ordering) → nat_cmp m k ≡ o → nat_cmp k m ≡ Less → is_lt (nat_cmp m k) ≡ false
not_back_by k m Less h e = absurd (true≢false (sym (ap is_lt (nat_cmp_total.trans k m k e h)) ∙ not_itself k))
not_back_by k m Equal h e = ap is_lt h
not_back_by k m Greater h e = ap is_lt h

lt_less : (o : Ordering) → is_lt o ≡ true → o ≡ Less
lt_less Less e = refl
lt_less Equal e = absurd (true≢false (sym e))
lt_less Greater e = absurd (true≢false (sym e))

held_by : (P : ℕ → Type 0) (k : ℕ) (x : TableRow) (rows : List TableRow) (r : TableRow) (b : Bool) → is_lt (nat_cmp k x.0) ≡ b → P x.0 → (slice_get (rows_past (Some k) rows) 0 ≡ Some r → P r.0) → slice_get (rows_past (Some k) (x ∷ rows)) 0 ≡ Some r → P r.0
held_by P k x rows r true h here rest e = let f = rw h at e in let same : x ≡ r = cc in subst (λ (t : TableRow). P t.0) same here
held_by P k x rows r false h here rest e = rest (rw h at e)

-- what holds of all keys holds of the first past one
held : (P : ℕ → Type 0) (k : ℕ) (rows : List TableRow) (r : TableRow) → AllByRecursion P (keys_of rows) → slice_get (rows_past (Some k) rows) 0 ≡ Some r → P r.0
held P k [] r all e = absurd (cc)
held P k (x ∷ rows) r all e = held_by P k x rows r _ refl all.0 (held P k rows r all.1) e

first_here : (x : TableRow) (rows : List TableRow) → AllByRecursion (λ y. nat_cmp x.0 y ≡ Less) (keys_of rows) → rows_past (Some x.0) (x ∷ rows) ≡ rows
first_here x rows all = let itself = not_itself x.0 in rw itself (all_past x.0 rows all)

next_by : (k : ℕ) (x : TableRow) (rows : List TableRow) (r : TableRow) (b : Bool) → is_lt (nat_cmp k x.0) ≡ b → AllByRecursion (λ y. nat_cmp x.0 y ≡ Less) (keys_of rows)
    → (slice_get (rows_past (Some k) rows) 0 ≡ Some r → rows_past (Some k) rows ≡ r ∷ rows_past (Some r.0) rows)
    → slice_get (rows_past (Some k) (x ∷ rows)) 0 ≡ Some r → rows_past (Some k) (x ∷ rows) ≡ r ∷ rows_past (Some r.0) (x ∷ rows)
next_by k x rows r true h above rest e =
    let f = rw h at e in let same : x ≡ r = cc in
    let here : x ∷ rows_past (Some k) rows ≡ x ∷ rows_past (Some x.0) (x ∷ rows) = ap (λ t. x ∷ t) (all_past k rows (above_trans k x.0 rows (lt_less _ h) above) ∙ sym (first_here x rows above)) in
    rw h (subst (λ (t : TableRow). x ∷ rows_past (Some k) rows ≡ t ∷ rows_past (Some t.0) (x ∷ rows)) same here)
next_by k x rows r false h above rest e =
    let f = rw h at e in
    let back : is_lt (nat_cmp r.0 x.0) ≡ false = not_back_by x.0 r.0 _ refl (held (λ y. nat_cmp x.0 y ≡ Less) k rows r above f) in
    rw (h, back) (rest f)

next_past : (k : ℕ) (rows : List TableRow) (r : TableRow) → IsStrictlySortedBy nat_cmp (keys_of rows) → slice_get (rows_past (Some k) rows) 0 ≡ Some r → rows_past (Some k) rows ≡ r ∷ rows_past (Some r.0) rows
unfolding IsStrictlySortedBy
next_past k [] r rising e = absurd (cc)
next_past k (x ∷ rows) r rising e = next_by k x rows r _ refl rising.0 (next_past k rows r rising.1) e

-- behind the first row past a key come those past its own
pub next_is : (last : Option ℕ) (rows : List TableRow) (r : TableRow) → IsStrictlySortedBy nat_cmp (keys_of rows) → slice_get (rows_past last rows) 0 ≡ Some r → rows_past last rows ≡ r ∷ rows_past (Some r.0) rows
unfolding IsStrictlySortedBy
next_is None [] r rising e = absurd (cc)
next_is None (x ∷ rows) r rising e = let same : x ≡ r = cc in subst (λ (t : TableRow). x ∷ rows ≡ t ∷ rows_past (Some t.0) (x ∷ rows)) same (ap (λ t. x ∷ t) (sym (first_here x rows rising.0)))
next_is (Some k) rows r rising e = next_past k rows r rising e
